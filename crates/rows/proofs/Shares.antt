-- The values of a sound model are shares of their whole.
use Rattle.std.proofs.Common.{◌≡◌, ℕ, ◌^◌, ◌≤◌, inl, inr, arith}
use native.Mathlib.Nat.{one-le-pow}
use Rattle.decimals.specs.Decimal.{NoShare}
use Rattle.mdp.specs.declared.extreme.Extreme.{Extreme}
use Rattle.mdp.specs.Model.{Model, Bounded}
use Rattle.mdp.specs.Sound.{Sound}
use Rattle.mdp.specs.Values.{value_of}
use Rattle.mdp.proofs.Values.{value_whole}

pub values_are_shares :
    (e : Extreme) (m : Model) (k part whole : ℕ) → Bounded m → Sound m → part ≡ value_of e m k 0 → whole ≡ m.denominator ^ k
    → NoShare part whole → ⊥
values_are_shares e m k part whole b sound p w (inl none) =
    let some : 1 ≤ m.denominator ^ k = one-le-pow k m.denominator sound.some_denominator in
    omega arith
values_are_shares e m k part whole b sound p w (inr more) = omega (arith, value_whole e m b sound k 0)
