-- The rows that the states of a file give.
use Rattle.std.specs.Prelude.{ℕ, ◌+◌, List, [], ◌∷◌, length, ◌==◌}
use Rattle.std.specs.List.{flat_map}
use Rattle.records.specs.declared.content.Branch.{Branch}
use Rattle.grammar.specs.ModelFile.{State}
use Rattle.tables.specs.declared.rows.StateRow.{StateRow}
use Rattle.tables.specs.declared.rows.ChoiceRow.{ChoiceRow}
use Rattle.tables.specs.Held.{Held}

-- the choices of all states, one after the other
abbrev pub all_choices : List State → List (List Branch)
all_choices ss = flat_map (λ (s : State). s.choices) ss

-- the branches of choices, one after the other
abbrev pub all_branches : List (List Branch) → List Branch
all_branches cs = flat_map (λ (c : List Branch). c) cs

-- a row for each state; `first` choices come before its own
abbrev pub state_rows : ℕ → List State → List StateRow
state_rows first [] = []
state_rows first (s ∷ ss) =
    record { goal = s.goal == 1; first = first; choices = length s.choices } ∷ state_rows (first + length s.choices) ss

-- a row for each choice; `first` branches come before its own
abbrev pub choice_rows : ℕ → List (List Branch) → List ChoiceRow
choice_rows first [] = []
choice_rows first (c ∷ cs) = record { first = first; branches = length c } ∷ choice_rows (first + length c) cs

-- what a table holds that was filled from a file
abbrev pub rows_of : ℕ → List State → Held
rows_of denominator ss =
    record {
      denominator = denominator;
      states = state_rows 0 ss;
      choices = choice_rows 0 (all_choices ss);
      branches = all_branches (all_choices ss);
    }
