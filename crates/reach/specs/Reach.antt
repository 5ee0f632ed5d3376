-- What a call for exact values answers, and when it is refused.
use Rattle.std.specs.Prelude.{◌≡◌, ℕ, ◌+◌, ◌*◌, ◌^◌, ◌<◌, ◌≤◌, ◌⊎◌, List, Ok, Err, codes, Result}
use Rattle.refusals.specs.Refusal.{refusal_words}
use Rattle.refusals.specs.declared.finder.Finder.TheVariants.{ExactValues}
use Rattle.reach.specs.declared.reach.Reach.{Reach}
use Rattle.reach.specs.declared.reach.TooFar.{TooFar}
use Rattle.reach.specs.declared.reach.Values.{Values}
use Rattle.mdp.specs.Model.{Model}
use Rattle.mdp.specs.Sound.{Sound}
use Rattle.mdp.specs.Values.{entry, most_of, least_of}

-- the number of the refusal; its place is 0
abbrev pub far_number : TooFar → ℕ
far_number _ = 18

abbrev pub far_place : TooFar → ℕ
far_place _ = 0

abbrev pub far_why : TooFar → List ℕ
far_why _ = codes "more than 1000 steps, or a power of the denominator above 2^62"

abbrev pub far_words : TooFar → List ℕ
far_words x = refusal_words (far_number x) (far_place x) (far_why x) ExactValues

-- more steps than 1,000, or a power of the denominator above 2 ^ 62
abbrev pub OutOfRange : ℕ → ℕ → Type 0
OutOfRange steps power = (1000 < steps) ⊎ (2 ^ 62 < power)

-- neither
abbrev pub InRange : ℕ → ℕ → Type 0
InRange steps power = (steps ≤ 1000) × (power ≤ 2 ^ 62)

-- v holds the values of every state for k steps
pub record Reaches (m : Model) (k : ℕ) (v : Reach) : Type 0 where
  pub steps : v.steps ≡ k
  pub power : v.power ≡ m.denominator ^ k
  pub least : (s : ℕ) → entry v.least s ≡ least_of m k s
  pub largest : (s : ℕ) → entry v.largest s ≡ most_of m k s

-- v holds the values for no steps
pub record Begun (m : Model) (v : Reach) : Type 0 where
  pub steps : v.steps ≡ 0
  pub power : v.power ≡ 1
  pub values : Sound m → Reaches m 0 v

-- one step more, from old to new
pub record Advanced (m : Model) (old new : Reach) : Type 0 where
  pub range : InRange new.steps new.power
  pub steps : new.steps ≡ old.steps + 1
  pub power : new.power ≡ old.power * m.denominator
  pub values : (k : ℕ) → Sound m → Reaches m k old → Reaches m (k + 1) new

-- the answer to a call for one step more, and what the call leaves
abbrev pub Stepped : Model → Reach → Result Unit TooFar → Reach → Type 0
Stepped m old (Ok _) new = Advanced m old new
Stepped m old (Err _) new = OutOfRange (old.steps + 1) (old.power * m.denominator) × (new ≡ old)

-- the answer to: what are the values of s for n steps? The values, or too far.
abbrev pub Answered : Model → ℕ → ℕ → Result Values TooFar → Type 0
Answered m s n (Ok v) =
    InRange n (m.denominator ^ n) × (v.whole ≡ m.denominator ^ n) × (Sound m → (v.least ≡ least_of m n s) × (v.largest ≡ most_of m n s))
Answered m s n (Err _) = OutOfRange n (m.denominator ^ n)
