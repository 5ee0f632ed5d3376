-- What the sink layer means: a state without choices gets one that stays put.
use Rattle.std.specs.Prelude.{◌≡◌, ℕ, ◌<◌, ◌≤◌, max, Bool, cond, ◌&&◌, ◌==◌, nat_lt}
use Rattle.mdp.specs.Model.{Model}
use Rattle.mdp.specs.Sums.{sum}

-- a state of the model without choices
abbrev pub stuck : Model → ℕ → Bool
stuck m s = m.choices s == 0 && nat_lt s m.states

-- the model with one choice of full weight to itself at each stuck state
abbrev pub sinked : Model → Model
sinked m =
    record {
      states = m.states;
      denominator = m.denominator;
      goal = m.goal;
      choices = λ s. cond (stuck m s) 1 (m.choices s);
      weight = λ s c t. cond (stuck m s) (cond (c == 0 && t == s) m.denominator 0) (m.weight s c t);
    }

-- what a model needs to be sound under the sink layer: everything that soundness asks, but for the choice at each state
pub record SoundOnceSinked (m : Model) : Type 0 where
  pub some_states : 1 ≤ m.states
  pub few_states : m.states ≤ 256
  pub some_denominator : 1 ≤ m.denominator
  pub few_denominator : m.denominator ≤ 65535
  pub few_choices : sum m.states (λ s. max 1 (m.choices s)) ≤ 4096
  pub full : (s c : ℕ) → s < m.states → c < m.choices s → sum m.states (m.weight s c) ≡ m.denominator
