-- The rows of one record, put into the tables.
use Rattle.std.specs.Prelude.{◌≡◌, ℕ, ◌+◌, List, ◌++◌, length, take, drop}
use Rattle.tables.specs.declared.rows.Filled.{Filled}
use Rattle.tables.specs.Held.{Held}
use Rattle.filling.specs.Giving.{Gift, add}
use Rattle.filling.specs.Fills.{Tables, fronted_by, filled_by}

-- a list with another laid over it from k on
abbrev pub laid : {X : Type 0} → List X → ℕ → List X → List X
laid xs k ys = take k xs ++ (ys ++ drop (k + length ys) xs)

-- Where the tables held the rows that are counted, they hold those of the record too.
abbrev pub Placed : Filled → Gift → Tables → Tables → Type 0
Placed k g was is = (h : Held) (old : Tables) → k ≡ filled_by h → was ≡ fronted_by h old → is ≡ fronted_by (add h g) old
