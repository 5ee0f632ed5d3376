-- What an inspection answers: the model is sound, or which fault it has and at which state.
use Rattle.std.specs.Prelude.{◌≡◌, ℕ, ◌+◌, ◌<◌, ◌⊎◌, Some, None, Ok, Err, Option, Result}
use Rattle.inspection.specs.declared.fault.Fault.{Fault}
use Rattle.inspection.specs.declared.fault.Fault.TheVariants.{Limits, Choices, Weights}
use Rattle.inspection.specs.declared.fault.Unsound.{Unsound}
use Rattle.mdp.specs.Model.{Model}
use Rattle.mdp.specs.Sums.{sum}
use Rattle.mdp.specs.Sound.{Sound}

-- the number of a fault, and its place: the state, or 0 where the fault is the whole model's
abbrev pub number_of : Fault → ℕ
number_of Limits = 6
number_of (Choices s) = 7
number_of (Weights s) = 8

abbrev pub place_of : Fault → ℕ
place_of Limits = 0
place_of (Choices s) = s
place_of (Weights s) = s

-- no number below n has the property
abbrev pub Never : (ℕ → Type 0) → ℕ → Type 0
Never P n = (k : ℕ) → k < n → P k → ⊥

-- the lowest number below n that has the property, or None where there is none
abbrev pub Lowest : (ℕ → Type 0) → ℕ → Option ℕ → Type 0
Lowest P n None = Never P n
Lowest P n (Some p) = (p < n) × P p × Never P p

-- the number of states or the denominator is out of its limits
abbrev pub OutOfLimits : Model → Type 0
OutOfLimits m = (m.states < 1) ⊎ ((256 < m.states) ⊎ ((m.denominator < 1) ⊎ (65535 < m.denominator)))

-- state s has no choice, or with its choices there are more than 4,096
abbrev pub MissesChoices : Model → ℕ → Type 0
MissesChoices m s = (m.choices s ≡ 0) ⊎ (4096 < sum (s + 1) m.choices)

-- the weights of choice c of state s add up to the denominator
abbrev pub IsFull : Model → ℕ → ℕ → Type 0
IsFull m s c = sum m.states (m.weight s c) ≡ m.denominator

-- some choice of s has weights that do not
abbrev pub MissesWeights : Model → ℕ → Type 0
MissesWeights m s = (c : ℕ) × (c < m.choices s) × (IsFull m s c → ⊥)

-- the fault of the smallest number that the model has anywhere, at the lowest state that has it; none where the model is sound
abbrev pub FirstFault : Model → Result Unit Fault → Type 0
FirstFault m (Ok _) = Sound m
FirstFault m (Err Limits) = OutOfLimits m
FirstFault m (Err (Choices s)) = (OutOfLimits m → ⊥) × Lowest (MissesChoices m) m.states (Some s)
FirstFault m (Err (Weights s)) = (OutOfLimits m → ⊥) × Never (MissesChoices m) m.states × Lowest (MissesWeights m) m.states (Some s)

-- the answer for a source of this letter that means m
abbrev pub Inspected : Model → ℕ → Result Unit Unsound → Type 0
Inspected m letter (Ok _) = Sound m
Inspected m letter (Err u) = (u.letter ≡ letter) × (Sound m → ⊥) × FirstFault m (Err u.fault)
