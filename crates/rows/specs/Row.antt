-- What a row of a table says.
use Rattle.std.specs.Prelude.{◌≡◌, ℕ, ◌^◌, Some, None, Option}
use Rattle.decimals.specs.Decimal.{NotAbove, NotBelow}
use Rattle.mdp.specs.Model.{Model}
use Rattle.mdp.specs.Values.{most_of, least_of}
use Rattle.rows.specs.declared.row.Row.{Row}

-- the exact values of state 0 for k steps; the low decimal is not above the least chance, the high one not below the largest, and none is nearer
pub record ExactRow (m : Model) (k : ℕ) (x : Row) : Type 0 where
  pub least : x.values.least ≡ least_of m k 0
  pub largest : x.values.largest ≡ most_of m k 0
  pub whole : x.values.whole ≡ m.denominator ^ k
  pub low : NotAbove (least_of m k 0) (m.denominator ^ k) x.low.millionths
  pub high : NotBelow (most_of m k 0) (m.denominator ^ k) x.high.millionths

-- there is such a row
abbrev pub Exact : Model → ℕ → Option Row → Type 0
Exact m k (Some x) = ExactRow m k x
Exact m k None = ⊥
