-- The rows that records give.
use Rattle.std.proofs.Common.{◌≡◌, ℕ, ◌+◌, List, [], ◌∷◌, ◌++◌, map, length, sym, refl, ap, ◌∙◌, append_assoc, add-zero, arith}
use Rattle.std.specs.List.{flat_map}
use Rattle.std.proofs.lemmas.List.{append-nil, length-append, length_push}
use Rattle.records.specs.declared.content.Branch.{Branch}
use Rattle.records.specs.Content.{Content, ch, zz}
use Rattle.grammar.specs.ModelFile.{State, state_records, file_records}
use Rattle.tables.specs.declared.rows.ChoiceRow.{ChoiceRow}
use Rattle.tables.specs.Held.{Held}
use Rattle.tables.specs.Rows.{all_choices, all_branches, state_rows, choice_rows, rows_of}
use Rattle.filling.specs.Giving.{Gift, head, state, choice, nothing, given, none, add, adds}
use Rattle.filling.specs.Fills.{filled_by}
use Rattle.filling.specs.Counted.{tally}

pub tally_add : (h : Held) (g : Gift) → tally (filled_by h) g ≡ filled_by (add h g)
tally_add h (head d) = refl
tally_add h (state g k) = simp length_push
tally_add h (choice bs) = simp (length_push, length-append)
tally_add h nothing = refl

-- records after records
pub adds-append : (h : Held) (rs ts : List Content) → adds h (rs ++ ts) ≡ adds (adds h rs) ts
adds-append h [] ts = refl
adds-append h (r ∷ rs) ts = adds-append (add h (given r)) rs ts

-- the rows of choices after choices
length-choice_rows : (first : ℕ) (cs : List (List Branch)) → length (choice_rows first cs) ≡ length cs
length-choice_rows first [] = refl
length-choice_rows first (c ∷ cs) = rw (length-choice_rows (first + length c) cs) refl

all_branches-append : (cs ds : List (List Branch)) → all_branches (cs ++ ds) ≡ all_branches cs ++ all_branches ds
all_branches-append [] ds = refl
all_branches-append (c ∷ cs) ds = rw (all_branches-append cs ds) (sym (append_assoc c (all_branches cs) (all_branches ds)))

choice_rows-append :
    (first : ℕ) (cs ds : List (List Branch))
    → choice_rows first (cs ++ ds) ≡ choice_rows first cs ++ choice_rows (first + length (all_branches cs)) ds
choice_rows-append first [] ds = rw add-zero refl
choice_rows-append first (c ∷ cs) ds =
    let past : first + length (c ++ all_branches cs) ≡ first + length c + length (all_branches cs) = omega (arith, length-append c (all_branches cs)) in
    ap (λ (rows : List ChoiceRow). record { first = first; branches = length c } ∷ rows) (rw past (choice_rows-append (first + length c) cs ds))

-- the records of choices, and of states, behind others
abbrev with_choices : Held → List (List Branch) → Held
with_choices h cs =
    record {
      denominator = h.denominator;
      states = h.states;
      choices = h.choices ++ choice_rows (length h.branches) cs;
      branches = h.branches ++ all_branches cs;
    }

choices_add : (h : Held) (cs : List (List Branch)) → adds h (map ch cs) ≡ with_choices h cs
choices_add h [] = simp append-nil
choices_add h (c ∷ cs) = choices_add (add h (choice c)) cs ∙ simp (append_assoc, length-append)

abbrev with_states : Held → List State → Held
with_states h ss =
    record {
      denominator = h.denominator;
      states = h.states ++ state_rows (length h.choices) ss;
      choices = h.choices ++ choice_rows (length h.branches) (all_choices ss);
      branches = h.branches ++ all_branches (all_choices ss);
    }

states_add : (h : Held) (ss : List State) → adds h (flat_map state_records ss) ≡ with_states h ss
states_add h [] = simp append-nil
states_add h (s ∷ ss) =
    let row = add h (state s.goal (length s.choices)) in
    let own = with_choices row s.choices in
    adds-append row (map ch s.choices) (flat_map state_records ss)
    ∙ ap (λ (g : Held). adds g (flat_map state_records ss)) (choices_add row s.choices)
    ∙ states_add own ss
    ∙ simp (append_assoc, length-append, length-choice_rows, choice_rows-append, all_branches-append)

-- the records of a file give its rows
pub file_adds : (d : ℕ) (ss : List State) → adds none (file_records d ss) ≡ rows_of d ss
file_adds d ss =
    adds-append (add none (head d)) (flat_map state_records ss) (zz ∷ []) ∙ states_add (add none (head d)) ss
