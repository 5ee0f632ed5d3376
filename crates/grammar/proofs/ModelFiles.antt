-- What is lawful from the start of a model file on is a model file, and the other way round.
use Rattle.std.proofs.Common.{◌≡◌, ℕ, zero, suc, List, [], ◌∷◌, ◌++◌, map, length, sym, refl, ap, ◌∙◌, subst, append_assoc}
use Rattle.std.specs.List.{flat_map}
use Rattle.std.proofs.lemmas.Bool.{false≢true, leb-true, le-leb}
use Rattle.records.specs.declared.content.Branch.{Branch}
use Rattle.records.specs.declared.content.Mark.TheVariants.{Md}
use Rattle.records.specs.Content.{Content, md, st, ch, zz}
use Rattle.grammar.specs.declared.place.Place.TheVariants.{ModelDue, States}
use Rattle.grammar.specs.ModelFile.{ModelFile, State, state_records, ChoicesOk, StatesOk}
use Rattle.grammar.proofs.Lawful.{Lawful}
use Rattle.grammar.proofs.Marks.{form}
use Rattle.grammar.proofs.ModelSteps.{choice_next, choice_only, state_next, state_only, end_only}

-- the choices of a state
choices_lawful : (n s : ℕ) (cs : List (List Branch)) (rest : List Content) → ChoicesOk n cs → Lawful (States n s 0) rest → Lawful (States n s (length cs)) (map ch cs ++ rest)
choices_lawful n s [] rest o h = h
choices_lawful n s (c ∷ cs) rest o h = choice_next n s (length cs) c (map ch cs ++ rest) o.0 (choices_lawful n s cs rest o.1 h)

abbrev Choices : ℕ → ℕ → ℕ → List Content → Type 0
Choices n s k rs = (cs : List (List Branch)) × (rest : List Content) × (rs ≡ map ch cs ++ rest) × (length cs ≡ k) × ChoicesOk n cs × Lawful (States n s 0) rest

lawful_choices : (n s k : ℕ) (rs : List Content) → Lawful (States n s k) rs → Choices n s k rs
lawful_choices n s zero rs h = ([], rs, refl, refl, tt, h)
lawful_choices n s (suc k) rs h =
    let f = choice_only n s k rs h in
    let m = lawful_choices n s k f.1 f.4 in
    (f.0 ∷ m.0, m.1, f.2 ∙ ap (λ x. ch f.0 ∷ x) m.2, ap suc m.3, (f.3, m.4), m.5)

-- the records of a state before others
state_before : (s : State) (ss : List State) → flat_map state_records (s ∷ ss) ++ zz ∷ [] ≡ st s.goal (length s.choices) ∷ (map ch s.choices ++ (flat_map state_records ss ++ zz ∷ []))
state_before s ss = append_assoc (state_records s) (flat_map state_records ss) (zz ∷ [])

-- the states and the end
states_lawful : (n : ℕ) (ss : List State) → StatesOk n ss → Lawful (States n (length ss) 0) (flat_map state_records ss ++ zz ∷ [])
states_lawful n [] o = (refl, refl, refl)
states_lawful n (s ∷ ss) o =
    subst (Lawful (States n (suc (length ss)) 0)) (sym (state_before s ss))
    (state_next n (length ss) s.goal (length s.choices) (map ch s.choices ++ (flat_map state_records ss ++ zz ∷ [])) (le-leb s.goal 1 o.0)
    (choices_lawful n (length ss) s.choices (flat_map state_records ss ++ zz ∷ []) o.1 (states_lawful n ss o.2)))

abbrev StatesOf : ℕ → ℕ → List Content → Type 0
StatesOf n s rs = (ss : List State) × (rs ≡ flat_map state_records ss ++ zz ∷ []) × (length ss ≡ s) × StatesOk n ss

lawful_states : (n s : ℕ) (rs : List Content) → Lawful (States n s 0) rs → StatesOf n s rs
lawful_states n zero rs h = ([], end_only n rs h, refl, tt)
lawful_states n (suc s) rs h =
    let f = state_only n s rs h in
    let c = lawful_choices n s f.1 f.2 f.5 in
    let m = lawful_states n s c.1 c.5 in
    let x : State = record { goal = f.0; choices = c.0 } in (
      x ∷ m.0,
      f.3 ∙ ap (λ t. st f.0 f.1 ∷ t) (c.2 ∙ ap (λ t. map ch c.0 ++ t) m.1) ∙ ap (λ k. st f.0 k ∷ (map ch c.0 ++ (flat_map state_records m.0 ++ zz ∷ []))) (sym c.3) ∙ sym (state_before x m.0),
      ap suc m.2,
      (leb-true f.0 1 f.4, c.4, m.3),
    )

-- the size before them
pub model_file_lawful : (rs : List Content) → ModelFile rs → Lawful ModelDue rs
model_file_lawful rs m = subst (Lawful ModelDue) (sym m.shape) (refl, refl, states_lawful (length m.states) m.states m.ranges)

pub lawful_model_file : (rs : List Content) → Lawful ModelDue rs → ModelFile rs
lawful_model_file [] h = absurd (false≢true h)
lawful_model_file (r ∷ rs) h =
    let f = form r Md h.0 in
    let g = subst (λ x. Lawful ModelDue (x ∷ rs)) f.2 h in
    let m = lawful_states f.0 f.0 rs g.2 in
    record {
      denominator = f.1;
      states = m.0;
      shape = ap (λ x. x ∷ rs) f.2 ∙ ap (λ x. md f.0 f.1 ∷ x) m.1 ∙ ap (λ n. md n f.1 ∷ (flat_map state_records m.0 ++ zz ∷ [])) (sym m.2);
      ranges = subst (λ n. StatesOk n m.0) (sym m.2) m.3;
    }
