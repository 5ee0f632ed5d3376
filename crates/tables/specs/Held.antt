-- What a table holds.
use Rattle.std.specs.Prelude.{ℕ, List, take}
use Rattle.records.specs.declared.content.Branch.{Branch}
use Rattle.tables.specs.declared.rows.StateRow.{StateRow}
use Rattle.tables.specs.declared.rows.ChoiceRow.{ChoiceRow}
use Rattle.tables.specs.declared.rows.Filled.{Filled}
use Rattle.tables.specs.declared.table.Table.{Table}

pub record Held : Type 0 where
  pub denominator : ℕ
  pub states : List StateRow
  pub choices : List ChoiceRow
  pub branches : List Branch

-- what this table holds
abbrev pub held_by : Table → Held
held_by x = record { denominator = x.denominator; states = x.states.now; choices = x.choices.now; branches = x.branches.now }

-- the filled rows of each part
abbrev pub front : Filled → List StateRow → List ChoiceRow → List Branch → Held
front f ss cs bs =
    record {
      denominator = f.denominator;
      states = take f.states ss;
      choices = take f.choices cs;
      branches = take f.branches bs;
    }
