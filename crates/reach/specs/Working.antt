-- What the private functions answer on the way to exact values.
use Rattle.std.specs.Prelude.{◌≡◌, ℕ, ◌-◌, ◌^◌, min, cond, List, Ok, Err, Result}
use Rattle.mdp.specs.declared.extreme.Extreme.{Extreme}
use Rattle.reach.specs.declared.reach.Reach.{Reach}
use Rattle.reach.specs.declared.reach.TooFar.{TooFar}
use Rattle.mdp.specs.Model.{Model}
use Rattle.mdp.specs.Sums.{best}
use Rattle.mdp.specs.Sound.{Sound}
use Rattle.mdp.specs.Values.{entry, expect, most_of, least_of}
use Rattle.reach.specs.Reach.{OutOfRange, InRange, Reaches}

-- the list has 1 at goals and 0 elsewhere: the values for no steps, as shares of 1
pub record Marks (m : Model) (xs : List ℕ) : Type 0 where
  pub whole : 1 ≡ m.denominator ^ 0
  pub least : Sound m → (s : ℕ) → entry xs s ≡ least_of m 0 s
  pub largest : Sound m → (s : ℕ) → entry xs s ≡ most_of m 0 s

-- one step from the values v, kept within 64 bits; for a sound model that cuts nothing off
abbrev pub next_value : Extreme → Model → ℕ → (ℕ → ℕ) → ℕ → ℕ
next_value e m power v s = cond (m.goal s) power (min (best e (m.choices s) (expect m v s)) (2 ^ 64 - 1))

-- the values of all states for n steps, or too far
abbrev pub Reached : Model → ℕ → Result Reach TooFar → Type 0
Reached m n (Ok v) = InRange n (m.denominator ^ n) × (v.power ≡ m.denominator ^ n) × (Sound m → Reaches m n v)
Reached m n (Err _) = OutOfRange n (m.denominator ^ n)
