-- What a filling leaves.
use Rattle.std.specs.Prelude.{◌≡◌, ℕ, ◌≤◌, List, ◌++◌, length, drop, Ok, Err, Result}
use Rattle.records.specs.declared.content.Branch.{Branch}
use Rattle.grammar.specs.File.{Reads}
use Rattle.grammar.specs.ModelFile.{State, StatesOk, file_records, ModelFile}
use Rattle.reader.specs.Exact.{FirstFault}
use Rattle.reader.specs.Faults.{number_of, place_of}
use Rattle.tables.specs.declared.rows.StateRow.{StateRow}
use Rattle.tables.specs.declared.rows.ChoiceRow.{ChoiceRow}
use Rattle.tables.specs.declared.rows.Filled.{Filled}
use Rattle.tables.specs.Held.{Held, front}
use Rattle.tables.specs.Rows.{rows_of}
use Rattle.tables.specs.Said.{said}
use Rattle.tables.specs.Tabled.{tabled}
use Rattle.tables.specs.Alike.{Alike}
use Rattle.filling.specs.declared.filling.Tables as lent
use Rattle.filling.specs.declared.fault.FillFault.{FillFault}
use Rattle.filling.specs.declared.fault.FillFault.TheVariants.{Reading, NoRoom}

-- The bytes are a model file, and nothing more.
pub record FileOf (xs : List ℕ) : Type 0 where
  pub denominator : ℕ
  pub states : List State
  pub reads : Reads ModelFile xs 0 (length xs) (file_records denominator states)
  pub ranges : StatesOk (length states) states

-- the rows of a file
abbrev pub rows_in : (xs : List ℕ) → FileOf xs → Held
rows_in xs file = rows_of file.denominator file.states

-- what the three tables of the caller hold
pub record Tables : Type 0 where
  pub states : List StateRow
  pub choices : List ChoiceRow
  pub branches : List Branch

abbrev pub tables : List StateRow → List ChoiceRow → List Branch → Tables
tables ss cs bs = record { states = ss; choices = cs; branches = bs }

-- what the tables hold that a caller lent
abbrev pub held_in : lent.Tables → Tables
held_in t = tables t.states.now t.choices.now t.branches.now

-- They are still the caller's slices, so that what they hold is what the caller finds there.
pub record AreSameLoans (old new : lent.Tables) : Type 0 where
  pub states : new.states.ghost_name ≡ old.states.ghost_name
  pub choices : new.choices.ghost_name ≡ old.choices.ghost_name
  pub branches : new.branches.ghost_name ≡ old.branches.ghost_name

-- a table with rows at its front, and behind them what it held
abbrev pub fronted : {X : Type 0} → List X → List X → List X
fronted rows old = rows ++ drop (length rows) old

abbrev pub fronted_by : Held → Tables → Tables
fronted_by h t = tables (fronted h.states t.states) (fronted h.choices t.choices) (fronted h.branches t.branches)

-- how much is filled
abbrev pub filled_by : Held → Filled
filled_by h =
    record { states = length h.states; denominator = h.denominator; choices = length h.choices; branches = length h.branches }

-- the tables have room for so many rows
pub record RoomFor (k : Filled) (t : Tables) : Type 0 where
  pub states : k.states ≤ length t.states
  pub choices : k.choices ≤ length t.choices
  pub branches : k.branches ≤ length t.branches

-- the tables have room for the rows h
abbrev pub Room : Held → Tables → Type 0
Room h t = RoomFor (filled_by h) t

-- The tables hold the file's rows, and past them what they held; the filled rows answer as the file says.
pub record Filling (xs : List ℕ) (old new : Tables) (f : Filled) : Type 0 where
  pub file : FileOf xs
  pub room : Room (rows_in xs file) old
  pub counts : f ≡ filled_by (rows_in xs file)
  pub rows : new ≡ fronted_by (rows_in xs file) old
  pub model : Alike (tabled (front f new.states new.choices new.branches)) (said file.denominator file.states)

-- The bytes are a model file, and some table has no room for its rows.
abbrev pub TooSmall : List ℕ → Tables → Type 0
TooSmall xs t = (file : FileOf xs) × (Room (rows_in xs file) t → ⊥)

-- Of tables that were `old` and are `new`. A refusal leaves them as they were.
abbrev pub Fills : List ℕ → Tables → Tables → Result Filled FillFault → Type 0
Fills xs old new (Ok f) = Filling xs old new f
Fills xs old new (Err (Reading fault)) = FirstFault ModelFile xs (number_of fault) (place_of fault) × (new ≡ old)
Fills xs old new (Err NoRoom) = TooSmall xs old × (new ≡ old)
