-- The model that rows hold, whatever rows they are.
use Rattle.std.specs.Prelude.{ℕ, false, cond, List, length, take, drop, nat_lt, slice_index_or, unwrap_or}
use Rattle.mdp.specs.Model.{Model}
use Rattle.records.specs.declared.content.Branch.{Branch}
use Rattle.tables.specs.declared.rows.StateRow.{StateRow}
use Rattle.tables.specs.declared.rows.ChoiceRow.{ChoiceRow}
use Rattle.tables.specs.Held.{Held}
use Rattle.tables.specs.Halves.{found}

-- past the last row stands one with nothing
abbrev pub state_at : List StateRow → ℕ → StateRow
state_at ss s = slice_index_or ss s (record { goal = false; first = 0; choices = 0 })

abbrev pub choice_at : List ChoiceRow → ℕ → ChoiceRow
choice_at cs c = slice_index_or cs c (record { first = 0; branches = 0 })

-- the rows that belong to a state, and to a choice
abbrev pub own_choices : List ChoiceRow → StateRow → List ChoiceRow
own_choices cs s = take s.choices (drop s.first cs)

abbrev pub own_branches : List Branch → ChoiceRow → List Branch
own_branches bs c = take c.branches (drop c.first bs)

-- the branches of choice c of state s; none where there is no such choice
abbrev pub branches_of : Held → ℕ → ℕ → List Branch
branches_of h s c = own_branches h.branches (choice_at (own_choices h.choices (state_at h.states s)) c)

-- Only states of the model are targets.
abbrev pub tabled : Held → Model
tabled h =
    record {
      states = length h.states;
      denominator = h.denominator;
      goal = λ s. (state_at h.states s).goal;
      choices = λ s. (state_at h.states s).choices;
      weight = λ s c t.
          cond (nat_lt t (length h.states)) (unwrap_or (found (branches_of h s c) t) 0) 0;
    }
