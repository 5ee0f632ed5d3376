-- Two models that answer alike.
use Rattle.std.specs.Prelude.{◌≡◌, ℕ, List, length}
use Rattle.mdp.specs.Model.{Model}
use Rattle.grammar.specs.ModelFile.{State, StatesOk}
use Rattle.tables.specs.Held.{Held}
use Rattle.tables.specs.Said.{said}
use Rattle.tables.specs.Rows.{rows_of}
use Rattle.tables.specs.Tabled.{tabled}

pub record Alike (m k : Model) : Type 0 where
  pub states : m.states ≡ k.states
  pub denominator : m.denominator ≡ k.denominator
  pub goal : (s : ℕ) → m.goal s ≡ k.goal s
  pub choices : (s : ℕ) → m.choices s ≡ k.choices s
  pub weight : (s c t : ℕ) → m.weight s c t ≡ k.weight s c t

-- Where these are the rows of a file, the model that they hold is the one that the file says.
abbrev pub TellsFile : Held → Type 0
TellsFile h = (denominator : ℕ) (states : List State) → StatesOk (length states) states → h ≡ rows_of denominator states → Alike (tabled h) (said denominator states)
