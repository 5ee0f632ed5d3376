-- What the quotient layer means: states of one class become one state, which has the choices of them all.
use Rattle.std.specs.Prelude.{◌≡◌, ℕ, zero, suc, ◌+◌, ◌-◌, ◌^◌, ◌<◌, min, Bool, false, cond, ◌&&◌, ◌||◌, List, Option, None, Some, IsSome, IfSome, ◌==◌, nat_le, nat_lt}
use Rattle.std.specs.Option.{option_map}
use Rattle.mdp.specs.Model.{Model}
use Rattle.mdp.specs.Sums.{sum}
use Rattle.mdp.specs.Sound.{Sound}
use Rattle.mdp.specs.Values.{entry}
use Rattle.quotient.specs.Classes.{Counts}
use Rattle.quotient.specs.declared.classes.Classes.{Classes}

-- the class of each state, 0 past the 256th
abbrev pub class_of : Classes → ℕ → ℕ
class_of classes = entry classes.of_state

-- Sums of weights and of choices stop at 4,294,967,295.
abbrev pub capped : ℕ → ℕ
capped x = min x (2 ^ 32 - 1)

-- the sum of f over the states of class a below n
unfoldable pub sum_of_class : (ℕ → ℕ) → ℕ → ℕ → (ℕ → ℕ) → ℕ
sum_of_class cls a n f = sum n (λ u. cond (cls u == a) (f u) 0)

-- how many choices the states of class a below s have
abbrev pub before : Model → (ℕ → ℕ) → ℕ → ℕ → ℕ
before m cls a s = sum_of_class cls a s m.choices

-- what choice d of state s gives to the states of class b below t
abbrev pub into_to : Model → (ℕ → ℕ) → ℕ → ℕ → ℕ → ℕ → ℕ
into_to m cls s d b t = sum_of_class cls b t (m.weight s d)

-- what choice d of state s gives to class b, at most 4,294,967,295
unfoldable pub into : Model → (ℕ → ℕ) → ℕ → ℕ → ℕ → ℕ
into m cls s d b = capped (into_to m cls s d b m.states)

-- some state of class a below n is a goal
unfoldable pub goal_to : Model → (ℕ → ℕ) → ℕ → ℕ → Bool
goal_to m cls a zero = false
goal_to m cls a (suc n) = goal_to m cls a n || (cls n == a && m.goal n)

-- some state of class a is a goal
abbrev pub goal_of : Model → (ℕ → ℕ) → ℕ → Bool
goal_of m cls a = goal_to m cls a m.states

-- The choices of a class are those of its states, lowest state first. Choice c of class a is one of state s:
abbrev pub owns : Model → (ℕ → ℕ) → ℕ → ℕ → ℕ → Bool
owns m cls a c s = cls s == a && (nat_le (before m cls a s) c && nat_lt c (before m cls a s + m.choices s))

-- how many choices class a has, at most 4,294,967,295
unfoldable pub choices_of : Model → (ℕ → ℕ) → ℕ → ℕ
choices_of m cls a = capped (before m cls a m.states)

-- what choice c of class a gives to class b: one state has the choice, and gives this
unfoldable pub weight_of : Model → (ℕ → ℕ) → ℕ → ℕ → ℕ → ℕ
weight_of m cls a c b = sum m.states (λ s. cond (owns m cls a c s) (into m cls s (c - before m cls a s) b) 0)

-- the same, and 0 where class a has no choice c
abbrev pub weight_between : Model → (ℕ → ℕ) → ℕ → ℕ → ℕ → ℕ
weight_between m cls a c b = cond (nat_lt c (choices_of m cls a)) (weight_of m cls a c b) 0

-- the model of the classes
abbrev pub quotient : Model → (ℕ → ℕ) → ℕ → Model
quotient m cls count =
    record {
      states = count;
      denominator = m.denominator;
      goal = λ a. nat_lt a count && goal_of m cls a;
      choices = λ a. cond (nat_lt a count) (choices_of m cls a) 0;
      weight = λ a c b. cond (nat_lt a count && nat_lt b count) (weight_between m cls a c b) 0;
    }

-- what the layer answers for: the model of the classes, and without classes one that answers 0 or no
abbrev pub layer : Model → Option Classes → Model
layer m None =
    record { states = 0; denominator = 0; goal = λ a. false; choices = λ a. 0; weight = λ a c b. 0 }
layer m (Some classes) = quotient m (class_of classes) classes.count

-- A state and its class are alike: choice d of state s is choice before m cls (cls s) s + d of its class, and gives each class what the
-- states of that class are given.
pub record Matched (m : Model) (cls : ℕ → ℕ) (count : ℕ) : Type 0 where
  pub denominators : (quotient m cls count).denominator ≡ m.denominator
  pub within : (s : ℕ) → s < m.states → cls s < count
  pub goals : (s : ℕ) → s < m.states → (quotient m cls count).goal (cls s) ≡ m.goal s
  pub numbered :
      (s d : ℕ) → s < m.states → d < m.choices s
      → before m cls (cls s) s + d < (quotient m cls count).choices (cls s)
  pub gives :
      (s d b : ℕ) → s < m.states → d < m.choices s
      → (quotient m cls count).weight (cls s) (before m cls (cls s) s + d) b ≡ into_to m cls s d b m.states

-- What a list becomes: the classes that it names, where it is lawful. A quotient of a sound model by a lawful list is sound.
pub record Divided (m : Model) (list : List ℕ) (classes : Option Classes) : Type 0 where
  pub same : IfSome classes (λ k. (s : ℕ) → class_of k s ≡ entry list s)
  pub lawful : Counts m list (option_map (λ k. k.count) classes)
  pub sound : Sound m → IsSome classes → Sound (layer m classes)
  pub matched : Sound m → IfSome classes (λ k. Matched m (class_of k) k.count)
