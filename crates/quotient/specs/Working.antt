-- What the private functions answer on the way.
use Rattle.std.specs.Prelude.{◌≡◌, ℕ, ◌+◌, ◌<◌, ◌≤◌, List, length, Some, None, Option}
use Rattle.mdp.specs.Model.{Model}
use Rattle.mdp.specs.Values.{entry}
use Rattle.quotient.specs.Classes.{Occurs, Agrees}
use Rattle.quotient.specs.Quotient.{capped, sum_of_class, before}
use Rattle.quotient.specs.declared.layer.Choice.{Choice}

-- there are 1 to 256 states, and the list names a class for each
abbrev pub Fits : Model → List ℕ → Type 0
Fits m list = (1 ≤ m.states) × (m.states ≤ 256) × (length list ≡ m.states)

-- every class that the list names is below k
abbrev pub ClassesBelow : List ℕ → ℕ → Type 0
ClassesBelow list k = (s : ℕ) → s < length list → entry list s < k

-- r is the smallest number above the classes that the list names
abbrev pub OneAbove : List ℕ → ℕ → Type 0
OneAbove list r = ClassesBelow list r × ((k : ℕ) → ClassesBelow list k → r ≤ k)

-- the list names class a for some state
abbrev pub IsNamed : List ℕ → ℕ → Type 0
IsNamed list a = Occurs (entry list) (length list) a

-- the classmates of s in the list are goals if and only if s is
abbrev pub IsAgreed : Model → List ℕ → ℕ → Type 0
IsAgreed m list s = Agrees m (entry list) (length list) s

-- r is the sum over the states of class a below n of what `gives` relates to each, where that is a function f
abbrev pub IsClassSum : (ℕ → ℕ → Type 0) → (ℕ → ℕ) → ℕ → ℕ → ℕ → Type 0
IsClassSum gives cls a n r = (f : ℕ → ℕ) → ((s x : ℕ) → gives s x → x ≡ f s) → r ≡ capped (sum_of_class cls a n f)

-- choice c of class a is this choice of a state
pub record Owns (m : Model) (cls : ℕ → ℕ) (a c : ℕ) (choice : Choice) : Type 0 where
  pub state : choice.state < m.states
  pub member : cls choice.state ≡ a
  pub place : before m cls a choice.state + choice.number ≡ c
  pub number : choice.number < m.choices choice.state

-- the choice of a state that is choice c of class a; None where the class has no such choice
abbrev pub Owner : Model → (ℕ → ℕ) → ℕ → ℕ → Option Choice → Type 0
Owner m cls a c None = before m cls a m.states ≤ c
Owner m cls a c (Some choice) = Owns m cls a c choice
