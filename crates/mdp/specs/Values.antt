-- The exact values: chances of reaching a goal within k steps, as whole numbers over the k-th power of the denominator.
use Rattle.std.specs.Prelude.{ℕ, zero, suc, ◌+◌, ◌*◌, ◌^◌, ◌≤◌, cond, List, slice_index}
use Rattle.mdp.specs.declared.extreme.Extreme.{Extreme}
use Rattle.mdp.specs.declared.extreme.Extreme.TheVariants.{Min, Max}
use Rattle.mdp.specs.Model.{Model}
use Rattle.mdp.specs.Sums.{sum, best}
use Rattle.mdp.specs.Sound.{Sound}

-- the number at place t of a list, 0 past its end
abbrev pub entry : List ℕ → ℕ → ℕ
entry xs t = slice_index xs t

-- the sum of weight × value over the targets below n of choice c of s
unfoldable pub expect_to : Model → (ℕ → ℕ) → ℕ → ℕ → ℕ → ℕ
expect_to m v s c n = sum n (λ t. m.weight s c t * v t)

-- the same over all targets
abbrev pub expect : Model → (ℕ → ℕ) → ℕ → ℕ → ℕ
expect m v s c = expect_to m v s c m.states

-- A goal is reached at once and stays reached. Elsewhere one step is made, by the choice that is best for the extreme.
unfoldable pub value_of : Extreme → Model → ℕ → ℕ → ℕ
value_of e m zero s = cond (m.goal s) 1 0
value_of e m (suc k) s = cond (m.goal s) (m.denominator ^ suc k) (best e (m.choices s) (expect m (value_of e m k) s))

-- M(k, s): the largest chance of reaching a goal from s within k steps is this, divided by denominator ^ k
abbrev pub most_of : Model → ℕ → ℕ → ℕ
most_of m k s = value_of Max m k s

-- L(k, s): the least chance is this, divided by denominator ^ k
abbrev pub least_of : Model → ℕ → ℕ → ℕ
least_of m k s = value_of Min m k s

-- The laws of the exact values.
pub record ValueLaws (m : Model) (k s : ℕ) : Type 0 where
  pub ordered : least_of m k s ≤ most_of m k s
  pub whole : Sound m → most_of m k s ≤ m.denominator ^ k
  -- with one step more no chance falls: neither value does, as a share of its power of the denominator
  pub least_grows : m.denominator * least_of m k s ≤ least_of m (k + 1) s
  pub most_grows : m.denominator * most_of m k s ≤ most_of m (k + 1) s
