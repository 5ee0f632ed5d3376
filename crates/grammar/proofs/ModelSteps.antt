-- What a model file has next: a choice of the present state, or the next state, or the end.
use Rattle.std.proofs.Common.{◌≡◌, ℕ, suc, ◌-◌, Bool, true, false, leb, List, [], ◌∷◌, Some, sym, refl, ap, ◌∙◌, subst, arith}
use Rattle.std.proofs.lemmas.Bool.Decides.{nat_tests}
use Rattle.std.proofs.lemmas.Bool.{false≢true}
use Rattle.std.specs.Bool.{then_some}
use Rattle.records.specs.declared.content.Branch.{Branch}
use Rattle.records.specs.declared.content.Mark.TheVariants.{St, Ch, Zz}
use Rattle.records.specs.Content.{Content, st, ch, zz, mark_of, same_mark}
use Rattle.grammar.specs.declared.place.Place.TheVariants.{States}
use Rattle.grammar.specs.ModelFile.{branches_ok}
use Rattle.grammar.specs.Place.{wanted}
use Rattle.grammar.proofs.Lawful.{Lawful, lawful_more, behind-fits, none_after}
use Rattle.grammar.proofs.Marks.{form}

-- the mark that is next
pub wants_choice : (s k : ℕ) → wanted s (suc k) ≡ Ch
wants_choice s k = grind (arith, nat_tests)

pub wants_state : (s : ℕ) → wanted (suc s) 0 ≡ St
wants_state s = grind (arith, nat_tests)

-- a value that a test lets through
pub then_some-is : {X : Type 0} (b : Bool) (x y : X) → then_some b x ≡ Some y → (b ≡ true) × (y ≡ x)
then_some-is true x y e = (refl, cc)
then_some-is false x y e = absurd (cc)

-- one choice more
less_one : (k : ℕ) → suc k - 1 ≡ k
less_one k = omega arith

pub choice_next : (n s k : ℕ) (es : List Branch) (rest : List Content) → branches_ok n 0 es ≡ true → Lawful (States n s k) rest → Lawful (States n s (suc k)) (ch es ∷ rest)
choice_next n s k es rest b h =
    lawful_more (States n s (suc k)) (States n s k) (ch es) rest (ap (same_mark Ch) (wants_choice s k)) (rw (b, less_one k) refl) h

pub choice_only : (n s k : ℕ) (rs : List Content) → Lawful (States n s (suc k)) rs → (es : List Branch) × (rest : List Content) × (rs ≡ ch es ∷ rest) × (branches_ok n 0 es ≡ true) × Lawful (States n s k) rest
choice_only n s k [] h = absurd (false≢true h)
choice_only n s k (r ∷ rest) h =
    let f = form r Ch (ap (same_mark (mark_of r)) (sym (wants_choice s k)) ∙ h.0) in
    let g = subst (λ x. Lawful (States n s (suc k)) (x ∷ rest)) f.1 h in
    let t = then_some-is (branches_ok n 0 f.0) _ _ (behind-fits (States n s (suc k)) (ch f.0) g.1) in
    (f.0, rest, ap (λ x. x ∷ rest) f.1, t.0, subst (λ x. Lawful x rest) (t.1 ∙ ap (States n s) (less_one k)) g.2)

-- one state more
pub state_next : (n s g k : ℕ) (rest : List Content) → leb g 1 ≡ true → Lawful (States n s k) rest → Lawful (States n (suc s) 0) (st g k ∷ rest)
state_next n s g k rest b h =
    lawful_more (States n (suc s) 0) (States n s k) (st g k) rest (ap (same_mark St) (wants_state s)) (rw (b, less_one s) refl) h

pub state_only : (n s : ℕ) (rs : List Content) → Lawful (States n (suc s) 0) rs → (g : ℕ) × (k : ℕ) × (rest : List Content) × (rs ≡ st g k ∷ rest) × (leb g 1 ≡ true) × Lawful (States n s k) rest
state_only n s [] h = absurd (false≢true h)
state_only n s (r ∷ rest) h =
    let f = form r St (ap (same_mark (mark_of r)) (sym (wants_state s)) ∙ h.0) in
    let g = subst (λ x. Lawful (States n (suc s) 0) (x ∷ rest)) f.2 h in
    let t = then_some-is (leb f.0 1) _ _ (behind-fits (States n (suc s) 0) (st f.0 f.1) g.1) in
    (f.0, f.1, rest, ap (λ x. x ∷ rest) f.2, t.0, subst (λ x. Lawful x rest) (t.1 ∙ ap (λ x. States n x f.1) (less_one s)) g.2)

-- the end
pub end_only : (n : ℕ) (rs : List Content) → Lawful (States n 0 0) rs → rs ≡ zz ∷ []
end_only n [] h = absurd (false≢true h)
end_only n (r ∷ rest) h =
    let f = form r Zz h.0 in
    let g = subst (λ x. Lawful (States n 0 0) (x ∷ rest)) f h in
    ap (λ x. x ∷ rest) f ∙ ap (λ x. zz ∷ x) (none_after rest g.2)
