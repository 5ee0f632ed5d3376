-- A list of zeros.
use Rattle.std.proofs.Common.{◌≡◌, ℕ, zero, suc, get_or, replicate, refl}

-- it is 0 at every place, also past its end
pub zeros_everywhere : (n k : ℕ) → get_or {A = ℕ} (replicate n 0) k 0 ≡ 0
zeros_everywhere zero k = refl
zeros_everywhere (suc n) zero = refl
zeros_everywhere (suc n) (suc k) = zeros_everywhere n k
