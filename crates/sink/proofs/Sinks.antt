-- The sink layer makes every state move.
use Rattle.std.proofs.Common.{◌≡◌, ℕ, ◌<◌, max, true, false, cond, ◌&&◌, eqb, ◌∙◌, inl, inr, arith}
use Rattle.std.proofs.lemmas.Bool.{cases_Bool, cond-true, cond-false}
use Rattle.std.proofs.lemmas.Bool.Decides.{nat_tests}
use Rattle.mdp.specs.Model.{Model}
use Rattle.mdp.specs.Sums.{sum}
use Rattle.mdp.specs.Sound.{Sound}
use Rattle.mdp.proofs.Sums.{sum_same, sum_only}
use Rattle.sink.specs.Sink.{stuck, sinked, SoundOnceSinked}

-- a state of the model has at least one choice now, and no more than it had otherwise
choices_sinked : (m : Model) (s : ℕ) → s < m.states → (sinked m).choices s ≡ max 1 (m.choices s)
choices_sinked m s l = grind (arith, nat_tests)

-- the one choice of a stuck state gives the denominator to the state itself
full_stuck : (m : Model) (s c : ℕ) → s < m.states → stuck m s ≡ true → c < 1 → sum m.states ((sinked m).weight s c) ≡ m.denominator
full_stuck m s c l e r =
    sum_only m.states s ((sinked m).weight s c) l (λ t g ne. grind (arith, nat_tests)) ∙ grind (arith, nat_tests)

full_moving :
    (m : Model) (s c : ℕ) → stuck m s ≡ false → sum m.states (m.weight s c) ≡ m.denominator
    → sum m.states ((sinked m).weight s c) ≡ m.denominator
full_moving m s c e h =
    sum_same m.states ((sinked m).weight s c) (m.weight s c)
    (λ t g. cond-false (stuck m s) (cond (eqb c 0 && eqb t s) m.denominator 0) (m.weight s c t) e)
    ∙ h

pub sinked_sound : (m : Model) → SoundOnceSinked m → Sound (sinked m)
sinked_sound m h =
    record {
      some_states = h.some_states;
      few_states = h.few_states;
      some_denominator = h.some_denominator;
      few_denominator = h.few_denominator;
      some_choice = λ s l. omega (arith, choices_sinked m s l);
      few_choices = omega (arith, sum_same m.states (sinked m).choices (λ s. max 1 (m.choices s)) (choices_sinked m), h.few_choices);
      full = λ s c l r. elim (cases_Bool (stuck m s)) [
        | inl e ↦ full_stuck m s c l e (omega (arith, cond-true (stuck m s) 1 (m.choices s) e))
        | inr e ↦ full_moving m s c e (h.full s c l (omega (arith, cond-false (stuck m s) 1 (m.choices s) e)))
      ];
    }
