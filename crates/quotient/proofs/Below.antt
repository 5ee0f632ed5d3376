-- What `all` and `any` find over the numbers below n, and `all` over these beside the items of a list.
use Rattle.std.proofs.Common.{◌≡◌, ℕ, ◌<◌, Bool, true, false, Decides, MatchBool, List, length, get_or, subst, refl, ap, ◌∙◌, arith}
use Rattle.std.proofs.lemmas.Bool.{false≢true}
use Rattle.std.proofs.lemmas.Iterator.{cases_from_all, cases_from_any, YieldsList-from_range}
use Rattle.std.proofs.lemmas.Slice.Zip.{length-zip, get_or-zip}
use Rattle.std.proofs.lemmas.List.FromFn.{length-range_with_len, get_or-range_with_len}
use Rattle.std.proofs.iter.Yields.{nat_range_steps}
use Rattle.std.specs.declared.ops.Range.{Range}
use Rattle.std.specs.Iterator.{ChecksAll, ChecksAny}
use Rattle.std.specs.List.{HoldsAt, AllWithin, range_with_len, zip}
use denote.Param.Members.{Mut, Called}

everywhere :
    (P : ℕ → Type 0) (n : ℕ) → AllWithin P (range_with_len 0 n) 0 (length (range_with_len 0 n)) → (x : ℕ) → x < n → P x
everywhere P n h x l =
    let e : get_or (range_with_len 0 n) x 0 ≡ x = omega (arith, get_or-range_with_len 0 n x 0 l) in
    subst P e (h x 0 (omega arith) (omega (arith, length-range_with_len 0 n)))

somewhere :
    (P : ℕ → Type 0) (n : ℕ) → (k : ℕ) × (k < length (range_with_len 0 n)) × HoldsAt P (range_with_len 0 n) k → (x : ℕ) × (x < n) × P x
somewhere P n h =
    let l : h.0 < n = omega (arith, h.1, length-range_with_len 0 n) in
    let e : get_or (range_with_len 0 n) h.0 0 ≡ h.0 = omega (arith, get_or-range_with_len 0 n h.0 0 l) in
    (h.0, l, subst P e (h.2 0))

module _ {F : Type 0} {g : Mut F (ℕ × Unit {0}) Bool} {f : F} {u : Range ℕ} (n : ℕ) (r : Bool) where
  pub all_below :
      (P : ℕ → Type 0) → ChecksAll nat_range_steps g (record { start = 0; end = n }) f r u
      → ((x : ℕ) (q : F) → Called g f (x, tt) true q → (q ≡ f) × P x) → ((x : ℕ) (q : F) → Called g f (x, tt) false q → P x → ⊥)
      → Decides r ((x : ℕ) → x < n → P x)
  all_below P ran h k = at r (cases_from_all u f r P (λ x. P x → ⊥) ran (YieldsList-from_range 0 n n refl (omega arith)) h k)
    where
      at : (b : Bool)
          → MatchBool b (AllWithin P (range_with_len 0 n) 0 (length (range_with_len 0 n)))
          ((k : ℕ) × (k < length (range_with_len 0 n)) × HoldsAt (λ x. P x → ⊥) (range_with_len 0 n) k)
          → Decides b ((x : ℕ) → x < n → P x)
      at true h = (λ e. everywhere P n h, λ p. refl)
      at false h = (
        λ e. absurd (false≢true e),
        λ p. let w : (x : ℕ) × (x < n) × (P x → ⊥) = somewhere (λ x. P x → ⊥) n h in absurd (w.2 (p w.0 w.1)),
      )

  pub any_below :
      (Yes No : ℕ → Type 0) → ChecksAny nat_range_steps g (record { start = 0; end = n }) f r u
      → ((x : ℕ) (q : F) → Called g f (x, tt) true q → Yes x) → ((x : ℕ) (q : F) → Called g f (x, tt) false q → (q ≡ f) × No x)
      → MatchBool r ((x : ℕ) × (x < n) × Yes x) ((x : ℕ) → x < n → No x)
  any_below Yes No ran h k = at r (cases_from_any u f r Yes No ran (YieldsList-from_range 0 n n refl (omega arith)) h k)
    where
      at : (b : Bool)
          → MatchBool b ((k : ℕ) × (k < length (range_with_len 0 n)) × HoldsAt Yes (range_with_len 0 n) k)
          (AllWithin No (range_with_len 0 n) 0 (length (range_with_len 0 n)))
          → MatchBool b ((x : ℕ) × (x < n) × Yes x) ((x : ℕ) → x < n → No x)
      at true h = somewhere Yes n h
      at false h = everywhere No n h

-- the same over those numbers beside the items of a list
pub all_numbered :
    (P : ℕ → ℕ → Type 0) (n : ℕ) (xs : List ℕ) (r : Bool) → n ≡ length xs
    → MatchBool r (AllWithin (λ x. P x.0 x.1) (zip (range_with_len 0 n) xs) 0 (length (zip (range_with_len 0 n) xs)))
    ((k : ℕ) × (k < length (zip (range_with_len 0 n) xs)) × HoldsAt (λ x. P x.0 x.1 → ⊥) (zip (range_with_len 0 n) xs) k)
    → Decides r ((k : ℕ) → k < length xs → P k (get_or xs k 0))
all_numbered P n xs r e = at r
  where
    numbers : List ℕ
    numbers = range_with_len 0 n

    pairs : List (ℕ × ℕ)
    pairs = zip numbers xs

    place : (k : ℕ) → k < length xs → get_or pairs k (0, 0) ≡ (k, get_or xs k 0)
    place k l =
        let number : get_or numbers k 0 ≡ k = omega (arith, get_or-range_with_len 0 n k 0 (omega arith)) in
        get_or-zip numbers xs k (0, 0) (omega (arith, length-range_with_len 0 n)) l ∙ ap (λ x. (x, get_or xs k 0)) number

    long : length pairs ≡ length xs
    long = omega (arith, length-zip numbers xs, length-range_with_len 0 n)

    at : (b : Bool)
        → MatchBool b (AllWithin (λ x. P x.0 x.1) pairs 0 (length pairs))
        ((k : ℕ) × (k < length pairs) × HoldsAt (λ x. P x.0 x.1 → ⊥) pairs k)
        → Decides b ((k : ℕ) → k < length xs → P k (get_or xs k 0))
    at true h = (
      λ e k l. subst (λ x. P x.0 x.1) (place k l) (h k (0, 0) (omega arith) (omega (arith, long))),
      λ p. refl,
    )
    at false h = (
      λ e. absurd (false≢true e),
      λ p.
          let l : h.0 < length xs = omega (arith, h.1, long) in
          absurd (subst (λ x. P x.0 x.1 → ⊥) (place h.0 l) (h.2 (0, 0)) (p h.0 l)),
    )
