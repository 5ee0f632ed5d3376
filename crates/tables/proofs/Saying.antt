-- The rows of a file's states hold the model that the file says.
use Rattle.std.proofs.Common.{◌≡◌, ℕ, zero, suc, ◌+◌, true, cond, eqb, ltb, List, [], ◌∷◌, ◌++◌, length, get_or, take, drop, sym, refl, ap, ◌∙◌, inl, inr, append_assoc, arith}
use Rattle.std.proofs.lemmas.List.{length-append, get_or_past, get_or-take, get_or-drop, take_at, drop_at, length-take}
use Rattle.std.proofs.lemmas.Bool.{cases_lt, lt-ltb, le-ltb, cond-true, cond-false}
use Rattle.std.specs.Prelude.{unwrap_or}
use Rattle.records.specs.declared.content.Branch.{Branch}
use Rattle.grammar.specs.ModelFile.{State, branches_ok, ChoicesOk, StatesOk}
use Rattle.tables.specs.Said.{no_state, said}
use Rattle.tables.specs.Rows.{all_choices, all_branches, state_rows, choice_rows, rows_of}
use Rattle.tables.specs.Halves.{found}
use Rattle.tables.specs.Tabled.{state_at, choice_at, own_choices, own_branches, tabled}
use Rattle.tables.specs.Held.{Held}
use Rattle.tables.specs.Alike.{Alike, TellsFile}
use Rattle.tables.proofs.Halves.{found_among, among_past}

-- one part of a list of parts one after the other
part_here : {X : Type 0} (before part behind : List X) → take (length part) (drop (length before) (before ++ (part ++ behind))) ≡ part
part_here before part behind =
    ap (take (length part)) (drop_at before (part ++ behind) (length before) refl) ∙ take_at part behind (length part) refl

-- the rows answer for each state and choice by its place in the file
goal_rows : (first : ℕ) (ss : List State) (s : ℕ) → (state_at (state_rows first ss) s).goal ≡ eqb (get_or ss s no_state).goal 1
goal_rows first [] s = refl
goal_rows first (x ∷ ss) zero = refl
goal_rows first (x ∷ ss) (suc s) = goal_rows (first + length x.choices) ss s

choices_rows : (first : ℕ) (ss : List State) (s : ℕ) → (state_at (state_rows first ss) s).choices ≡ length (get_or ss s no_state).choices
choices_rows first [] s = refl
choices_rows first (x ∷ ss) zero = refl
choices_rows first (x ∷ ss) (suc s) = choices_rows (first + length x.choices) ss s

pub length-state_rows : (first : ℕ) (ss : List State) → length (state_rows first ss) ≡ length ss
length-state_rows first [] = refl
length-state_rows first (x ∷ ss) = ap suc (length-state_rows (first + length x.choices) ss)

-- what a state's row points to among all choices are its own, and so with a choice's among all branches
own_of_state :
    (before : List (List Branch)) (ss : List State) (s : ℕ)
    → let row = state_at (state_rows (length before) ss) s in
    take row.choices (drop row.first (before ++ all_choices ss)) ≡ (get_or ss s no_state).choices
own_of_state before [] s = refl
own_of_state before (x ∷ ss) zero = part_here before x.choices (all_choices ss)
own_of_state before (x ∷ ss) (suc s) =
    rw (← length-append before x.choices, ← append_assoc before x.choices (all_choices ss)) (own_of_state (before ++ x.choices) ss s)

own_of_choice :
    (before : List Branch) (cs : List (List Branch)) (i : ℕ)
    → own_branches (before ++ all_branches cs) (choice_at (choice_rows (length before) cs) i) ≡ get_or cs i []
own_of_choice before [] i = refl
own_of_choice before (c ∷ cs) zero = part_here before c (all_branches cs)
own_of_choice before (c ∷ cs) (suc i) =
    rw (← length-append before c, ← append_assoc before c (all_branches cs)) (own_of_choice (before ++ c) cs i)

-- the branches of a choice, by way of the rows
branches_rows :
    (ss : List State) (s c : ℕ)
    → own_branches (all_branches (all_choices ss)) (choice_at (own_choices (choice_rows 0 (all_choices ss)) (state_at (state_rows 0 ss) s)) c)
    ≡ get_or (get_or ss s no_state).choices c []
branches_rows ss s c =
    let all = all_choices ss in
    let row = state_at (state_rows 0 ss) s in
    let own = own_of_state [] ss s in
    elim (cases_lt c row.choices) [
      | inl l ↦
          ap (own_branches (all_branches all)) (get_or-take row.choices (drop row.first (choice_rows 0 all)) c _ l ∙ get_or-drop row.first (choice_rows 0 all) c _)
          ∙ own_of_choice [] all (row.first + c)
          ∙ sym (ap (λ (cs : List (List Branch)). get_or cs c []) (sym own) ∙ get_or-take row.choices (drop row.first all) c [] l ∙ get_or-drop row.first all c [])
      | inr l ↦
          ap (own_branches (all_branches all)) (get_or_past (own_choices (choice_rows 0 all) row) c _ (omega (arith, length-take row.choices (drop row.first (choice_rows 0 all)))))
          ∙ sym (get_or_past (get_or ss s no_state).choices c [] (omega (arith, choices_rows 0 ss s)))
    ]

-- in a file the targets of each choice ascend, and are states
choice_ok : (n : ℕ) (cs : List (List Branch)) → ChoicesOk n cs → (c : ℕ) → branches_ok n 0 (get_or cs c []) ≡ true
choice_ok n [] ok c = refl
choice_ok n (x ∷ cs) ok zero = ok.0
choice_ok n (x ∷ cs) ok (suc c) = choice_ok n cs ok.1 c

state_ok : (n : ℕ) (ss : List State) → StatesOk n ss → (s : ℕ) → ChoicesOk n (get_or ss s no_state).choices
state_ok n [] ok s = tt
state_ok n (x ∷ ss) ok zero = ok.1
state_ok n (x ∷ ss) ok (suc s) = state_ok n ss ok.2 s

weight_rows : (d : ℕ) (ss : List State) → StatesOk (length ss) ss → (s c t : ℕ) → (tabled (rows_of d ss)).weight s c t ≡ (said d ss).weight s c t
weight_rows d ss ok s c t =
    let n = length (state_rows 0 ss) in
    let own = get_or (get_or ss s no_state).choices c [] in
    let fine = choice_ok (length ss) (get_or ss s no_state).choices (state_ok (length ss) ss ok s) c in
    ap (λ (bs : List Branch). cond (ltb t n) (unwrap_or (found bs t) 0) 0) (branches_rows ss s c)
    ∙ elim (cases_lt t n) [
      | inl l ↦ cond-true (ltb t n) (unwrap_or (found own t) 0) 0 (lt-ltb t n l) ∙ found_among (length ss) 0 t own fine
      | inr l ↦ cond-false (ltb t n) (unwrap_or (found own t) 0) 0 (le-ltb t n l) ∙ sym (among_past (length ss) 0 t own fine (omega (arith, length-state_rows 0 ss)))
    ]

pub rows_say : (d : ℕ) (ss : List State) → StatesOk (length ss) ss → Alike (tabled (rows_of d ss)) (said d ss)
rows_say d ss ok =
    record {
      states = length-state_rows 0 ss;
      denominator = refl;
      goal = goal_rows 0 ss;
      choices = choices_rows 0 ss;
      weight = weight_rows d ss ok;
    }

pub rows_tell : (h : Held) → TellsFile h
rows_tell h d ss ok e = rw e (rows_say d ss ok)
