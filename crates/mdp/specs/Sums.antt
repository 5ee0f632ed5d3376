-- Sums and extremes over the numbers below n.
use Rattle.std.specs.Prelude.{ℕ, zero, suc, ◌+◌, min, max}
use Rattle.mdp.specs.declared.extreme.Extreme.{Extreme}
use Rattle.mdp.specs.declared.extreme.Extreme.TheVariants.{Min, Max}

-- f 0 + .. + f (n - 1)
unfoldable pub sum : ℕ → (ℕ → ℕ) → ℕ
sum zero f = 0
sum (suc n) f = sum n f + f n

-- the smaller or the larger of two numbers
abbrev pub better : Extreme → ℕ → ℕ → ℕ
better Min x y = min x y
better Max x y = max x y

-- the least or the largest of f 0 .. f (n - 1); 0 where there is none
unfoldable pub best : Extreme → ℕ → (ℕ → ℕ) → ℕ
best e zero f = 0
best e (suc zero) f = f 0
best e (suc (suc n)) f = better e (best e (suc n) f) (f (suc n))
