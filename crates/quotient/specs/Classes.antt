-- When a list divides the states of a model into classes. State s is of class cls s, and the classes are numbered from 0.
use Rattle.std.specs.Prelude.{◌≡◌, ℕ, ◌<◌, ◌≤◌, List, length, Option, Some, IfSome}
use Rattle.mdp.specs.Model.{Model}
use Rattle.mdp.specs.Values.{entry}

-- class a is the class of some state below n
pub record Occurs (cls : ℕ → ℕ) (n a : ℕ) : Type 0 where
  pub state : ℕ
  pub within : state < n
  pub named : cls state ≡ a

-- the classmates of s below n are goals if and only if s is
abbrev pub Agrees : Model → (ℕ → ℕ) → ℕ → ℕ → Type 0
Agrees m cls n s = (t : ℕ) → t < n → cls s ≡ cls t → m.goal s ≡ m.goal t

-- a list of this length divides the states into exactly count classes, and classmates agree on the goal mark
pub record Lawful (m : Model) (cls : ℕ → ℕ) (listed count : ℕ) : Type 0 where
  pub some_states : 1 ≤ m.states
  pub few_states : m.states ≤ 256
  pub whole : listed ≡ m.states
  pub within : (s : ℕ) → s < m.states → cls s < count
  pub occur : (a : ℕ) → a < count → Occurs cls m.states a
  pub agree : (s : ℕ) → s < m.states → Agrees m cls m.states s

-- count is the number of classes of a lawful list, and None of any other
pub record Counts (m : Model) (list : List ℕ) (count : Option ℕ) : Type 0 where
  pub every : (k : ℕ) → Lawful m (entry list) (length list) k → count ≡ Some k
  pub holds : IfSome count (Lawful m (entry list) (length list))
