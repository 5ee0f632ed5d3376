-- The rows that the records of a file give, one record after the other.
use Rattle.std.specs.Prelude.{ℕ, List, [], ◌∷◌, ◌++◌, length, ◌==◌}
use Rattle.records.specs.declared.content.Branch.{Branch}
use Rattle.records.specs.Content.{Content, md, st, ch, hd, ce, fl, pc, pm, rw', wf, zz}
use Rattle.tables.specs.Held.{Held}

-- what a record gives to a table
pub data Gift : Type 0 where
  head : (denominator : ℕ) → Gift
  state : (goal choices : ℕ) → Gift
  choice : (branches : List Branch) → Gift
  nothing : Gift

abbrev pub given : Content → Gift
given (md n d) = head d
given (st g k) = state g k
given (ch bs) = choice bs
given (hd k s) = nothing
given (ce s c) = nothing
given (fl s c) = nothing
given (pc s c) = nothing
given (pm s c m) = nothing
given (rw' s r) = nothing
given (wf s h c m ps) = nothing
given zz = nothing

abbrev pub none : Held
none = record { denominator = 0; states = []; choices = []; branches = [] }

-- one record more: a state's choices and a choice's branches are those that follow
abbrev pub add : Held → Gift → Held
add h (head d) = record { denominator = d; states = h.states; choices = h.choices; branches = h.branches }
add h (state g k) =
    record {
      denominator = h.denominator;
      states = h.states ++ record { goal = g == 1; first = length h.choices; choices = k } ∷ [];
      choices = h.choices;
      branches = h.branches;
    }
add h (choice bs) =
    record {
      denominator = h.denominator;
      states = h.states;
      choices = h.choices ++ record { first = length h.branches; branches = length bs } ∷ [];
      branches = h.branches ++ bs;
    }
add h nothing = h

abbrev pub adds : Held → List Content → Held
adds h [] = h
adds h (r ∷ rs) = adds (add h (given r)) rs
