-- What a model is: a Markov decision process with whole-number weights. Nothing is assumed of it; Sound.antt says which models are sound.
use Rattle.std.specs.Prelude.{◌≡◌, ℕ, ◌≤◌, Bool, false}

-- States, the choices of each state and the targets are numbered from 0.
pub record Model : Type 0 where
  pub states : ℕ
  -- a chance is a weight divided by this
  pub denominator : ℕ
  pub goal : ℕ → Bool
  -- how many choices a state has
  pub choices : ℕ → ℕ
  -- what choice c of state s gives to state t: weight s c t
  pub weight : ℕ → ℕ → ℕ → ℕ

-- Past its states, choices and targets a model has no goal, no choices and no weight.
pub record Bounded (m : Model) : Type 0 where
  pub goals : (s : ℕ) → m.states ≤ s → m.goal s ≡ false
  pub rows : (s : ℕ) → m.states ≤ s → m.choices s ≡ 0
  pub past : (s c t : ℕ) → m.choices s ≤ c → m.weight s c t ≡ 0
  pub targets : (s c t : ℕ) → m.states ≤ t → m.weight s c t ≡ 0
