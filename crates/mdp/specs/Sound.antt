-- Which models are sound: those within the limits whose choices each give away exactly the denominator.
use Rattle.std.specs.Prelude.{◌≡◌, ℕ, ◌<◌, ◌≤◌}
use Rattle.mdp.specs.Model.{Model}
use Rattle.mdp.specs.Sums.{sum}

pub record Sound (m : Model) : Type 0 where
  pub some_states : 1 ≤ m.states
  pub few_states : m.states ≤ 256
  pub some_denominator : 1 ≤ m.denominator
  pub few_denominator : m.denominator ≤ 65535
  pub some_choice : (s : ℕ) → s < m.states → 1 ≤ m.choices s
  pub few_choices : sum m.states m.choices ≤ 4096
  pub full : (s c : ℕ) → s < m.states → c < m.choices s → sum m.states (m.weight s c) ≡ m.denominator
