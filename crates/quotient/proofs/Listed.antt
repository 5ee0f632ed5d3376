-- A sum over a class as the sum of a list.
use Rattle.std.proofs.Common.{◌≡◌, ℕ, zero, suc, ◌+◌, List, [], ◌∷◌, Bool, cond, eqb, sym, refl, ap, ◌∙◌, inl, inr, add-one, arith}
use Rattle.std.proofs.lemmas.Bool.{cond-true, cond-false, eq-eqb, ne_eqb, cases_eq}
use Rattle.std.proofs.lemmas.List.FromFn.{filter_of_map_range_with_len_more}
use Rattle.std.proofs.lemmas.List.Sums.{sum_by-append, sum_by_push}
use Rattle.std.proofs.lemmas.Fn.{fold_over}
use Rattle.std.proofs.lemmas.Iterator.{YieldsList-from_range}
use Rattle.std.proofs.lemmas.Iterator.Consumers.{YieldsList-from_filter}
use Rattle.std.proofs.iter.Yields.{nat_range_steps}
use Rattle.std.specs.declared.ops.Range.{Range}
use Rattle.std.specs.declared.iter.Filter.{Filter}
use Rattle.std.specs.Iterator.{FoldsItems}
use Rattle.std.specs.Iterator.Adapters.{filter_steps, filter_source, filter_callee}
use Rattle.std.specs.Fn.{CalledAt}
use denote.Param.Members.{Mut, Called}
use denote.Ref.{Bor}
use Rattle.std.specs.List.{sum_by, filter, range_with_len}
use mathlib.Core.List.{map-id}
use Rattle.quotient.specs.Quotient.{capped, sum_of_class}
use Rattle.quotient.proofs.ByClass.{class_none, class_in, class_out}

pub class_listed :
    (cls : ℕ → ℕ) (a n : ℕ) (f : ℕ → ℕ) → sum_by f (filter (λ s. eqb (cls s) a) (range_with_len 0 n)) ≡ sum_of_class cls a n f
class_listed cls a zero f = sym (class_none cls a f)
class_listed cls a (suc n) f =
    let members : ℕ → List ℕ = λ k. filter (λ s. eqb (cls s) a) (range_with_len 0 k) in
    let last : List ℕ = cond (eqb (cls n) a) (n ∷ []) [] in
    let more : sum_by f (members (n + 1)) ≡ sum_of_class cls a (n + 1) f =
    ap (sum_by f) (simp map-id at (filter_of_map_range_with_len_more (λ s. eqb (cls s) a) (λ s. s) 0 n n (omega arith)))
    ∙ sum_by-append f (members n) last
    ∙ elim (cases_eq (cls n) a) [
      | inl e ↦ omega (
        arith,
        class_listed cls a n f,
        class_in cls a n f e,
        ap (sum_by f) (cond-true (eqb (cls n) a) (n ∷ []) [] (eq-eqb (cls n) a e)),
      )
      | inr e ↦ omega (
        arith,
        class_listed cls a n f,
        class_out cls a n f e,
        ap (sum_by f) (cond-false (eqb (cls n) a) (n ∷ []) [] (ne_eqb (cls n) a e)),
      )
    ] in
    rw add-one at more

-- what a fold gives that adds up f over the members of a class, where each sum stops at the limit
module _ {F P : Type 0} {g : Mut F (ℕ × (ℕ × Unit {0})) ℕ} {p : Mut P (Bor ℕ × Unit {0}) Bool} {s : Filter (Range ℕ) P} {t : F} where
  pub sum_from_fold :
      (cls : ℕ → ℕ) (a n r : ℕ) (f : ℕ → ℕ) → FoldsItems (filter_steps nat_range_steps p) g s t 0 r
      → filter_source s ≡ record { start = 0; end = n }
      → ((x : ℕ) (b : Bool) (q : P) → CalledAt p (filter_callee s) x b q → (q ≡ filter_callee s) × (b ≡ eqb (cls x) a))
      → ((total x sum : ℕ) (q : F) → Called g t (total, (x, tt)) sum q → (sum ≡ capped (total + f x)) × (q ≡ t))
      → r ≡ capped (sum_of_class cls a n f)
  sum_from_fold cls a n r f ran source has add =
      fold_over (filter_steps nat_range_steps p) (λ x. x) g (λ xs total. total ≡ capped (sum_by f xs)) t
      (λ xs total x sum q j k. let e = add total x sum q k in (omega (arith, sum_by_push f xs x, e.0), e.1)) s
      (filter (λ x. eqb (cls x) a) (range_with_len 0 n)) 0 r
      (YieldsList-from_filter p (λ x. eqb (cls x) a) (YieldsList-from_range 0 n n source (omega arith)) refl has).runs (omega arith) ran
      ∙ ap capped (class_listed cls a n f)
