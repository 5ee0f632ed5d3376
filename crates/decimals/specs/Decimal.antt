-- Which decimal of six places stands for part ÷ whole, when it may only be too small or only too large, and how it is written.
use Rattle.std.specs.Prelude.{◌≡◌, ℕ, ◌+◌, ◌*◌, ◌/◌, ◌%◌, ◌<◌, ◌≤◌, ◌⊎◌, List, ◌++◌, codes, decimal}
use Rattle.decimals.specs.declared.Rounding.{Rounding}
use Rattle.decimals.specs.declared.Rounding.TheVariants.{Down, Up}

-- there is no whole, or the part is larger
abbrev pub NoShare : ℕ → ℕ → Type 0
NoShare part whole = (whole ≡ 0) ⊎ (whole < part)

-- the part is a share of the whole, and this the largest number of millionths that is not above it
pub record NotAbove (part whole millionths : ℕ) : Type 0 where
  pub share : part ≤ whole
  pub safe : millionths * whole ≤ part * 1000000
  pub next : part * 1000000 < (millionths + 1) * whole

-- the part is a share of the whole, and this the least number of millionths that is not below it
pub record NotBelow (part whole millionths : ℕ) : Type 0 where
  pub share : part ≤ whole
  pub safe : part * 1000000 ≤ millionths * whole
  pub next : millionths * whole < part * 1000000 + whole

-- the decimal that a rounding of the share takes
abbrev pub Nearest : Rounding → ℕ → ℕ → ℕ → Type 0
Nearest Down part whole millionths = NotAbove part whole millionths
Nearest Up part whole millionths = NotBelow part whole millionths

-- the whole ones, a point, and the six places
abbrev pub written : ℕ → List ℕ
written n =
    decimal (n / 1000000)
    ++ (codes "." ++ (decimal (n / 100000 % 10) ++ (decimal (n / 10000 % 10) ++ (decimal (n / 1000 % 10)
    ++ (decimal (n / 100 % 10) ++ (decimal (n / 10 % 10) ++ decimal (n % 10)))))))
