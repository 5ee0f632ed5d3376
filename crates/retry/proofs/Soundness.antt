-- A lawful sheet is sound under the sink layer.
use Rattle.std.specs.Prelude.{◌≡◌, ℕ, ◌+◌, ◌*◌, ◌<◌, ◌≤◌, max, true, false, cond, List, [], ◌∷◌, ◌==◌, IsTrue, refl}
use Rattle.std.proofs.Common.{sym, ◌∙◌, ap, arith}
use Rattle.std.proofs.lemmas.Bool.{cond-true}
use Rattle.std.proofs.lemmas.Bool.Decides.{nat_tests}
use Rattle.mdp.specs.Sums.{sum}
use Rattle.mdp.proofs.Sums.{sum_le, sum_same, sum_const, sum_zero, sum_add, sum_one}
use Rattle.sink.specs.Sink.{SoundOnceSinked}
use Rattle.retry.specs.declared.stage.Stage.{Stage}
use Rattle.retry.specs.declared.stage.Stage.TheVariants.{Sending, Done, GaveUp, CountedTwice}
use Rattle.retry.specs.declared.numbers.Numbers.{Numbers}
use Rattle.retry.specs.Numbers.{first_end, is_lawful}
use Rattle.retry.specs.Sheet.{number_of, stage_of, Proper, choices_at, Gift, gifts, given, states_of, retried}
use Rattle.retry.specs.Bounded.{number_of-below, stage_of-proper, AllProper, gifts-proper}

-- what lawful numbers keep to
pub record Limits (x : Numbers) : Type 0 where
  pub some_events : 1 ≤ x.events
  pub few_events : x.events ≤ 255
  pub few_resends : x.resends ≤ 255
  pub some_denominator : 1 ≤ x.denominator
  pub few_denominator : x.denominator ≤ 65535
  pub lost : x.request + x.receipt ≤ x.denominator
  pub few_states : first_end x + 3 ≤ 256

pub limits_from : (x : Numbers) → IsTrue (is_lawful x) → Limits x
limits_from x h = record {
  some_events = grind (arith, nat_tests);
  few_events = grind (arith, nat_tests);
  few_resends = grind (arith, nat_tests);
  some_denominator = grind (arith, nat_tests);
  few_denominator = grind (arith, nat_tests);
  lost = grind (arith, nat_tests);
  few_states = grind (arith, nat_tests);
}

abbrev total : List Gift → ℕ
total [] = 0
total (g ∷ gs) = g.weight + total gs

sum-given : (x : Numbers) (gs : List Gift) → AllProper x gs → sum (first_end x + 3) (given x gs) ≡ total gs
sum-given x [] h = sum_zero (first_end x + 3) (given x []) (λ t l. refl)
sum-given x (g ∷ gs) h =
    let k = number_of x g.target in
    let one = sum_one (first_end x + 3) k g.weight (number_of-below x g.target h.0) in
    omega (arith, sum_add (first_end x + 3) (λ t. cond (k == t) g.weight 0) (given x gs), one, sum-given x gs h.1)

-- each of a stage's choices gives away the denominator
total-gifts :
    (x : Numbers) (p : Stage) (c : ℕ) → x.request + x.receipt ≤ x.denominator → c < choices_at p
    → total (gifts x p c) ≡ x.denominator
total-gifts x (Sending i j true) c h l = grind (arith, nat_tests)
total-gifts x (Sending i j false) c h l = grind (arith, nat_tests)
total-gifts x Done c h l = omega arith
total-gifts x GaveUp c h l = omega arith
total-gifts x CountedTwice c h l = omega arith

-- each choice of a stage of the sheet gives the denominator to the sheet's states, where no more is lost than there is
pub stage_given_full :
    (x : Numbers) (p : Stage) (c : ℕ) → x.request + x.receipt ≤ x.denominator → Proper x p → c < choices_at p
    → sum (first_end x + 3) (given x (gifts x p c)) ≡ x.denominator
stage_given_full x p c k h l = sum-given x (gifts x p c) (gifts-proper x p c h) ∙ total-gifts x p c k l

states_lawful : (x : Numbers) → IsTrue (is_lawful x) → states_of x ≡ first_end x + 3
states_lawful x h = cond-true (is_lawful x) (first_end x + 3) 0 h

weight_inside : (x : Numbers) (s c t : ℕ) → s < states_of x → (retried x).weight s c t ≡ given x (gifts x (stage_of x s) c) t
weight_inside x s c t l = grind (arith, nat_tests)

choices_inside : (x : Numbers) (s : ℕ) → s < states_of x → (retried x).choices s ≡ choices_at (stage_of x s)
choices_inside x s l = grind (arith, nat_tests)

-- what the stage of a state gives is the model's weight
pub weight_given :
    (x : Numbers) (s c t : ℕ) (p : Stage) (r : ℕ) → s < states_of x → p ≡ stage_of x s → r ≡ given x (gifts x p c) t
    → r ≡ (retried x).weight s c t
weight_given x s c t p r l e h = h ∙ ap (λ q. given x (gifts x q c) t) e ∙ sym (weight_inside x s c t l)

choices-two : (p : Stage) → choices_at p ≤ 2
choices-two (Sending i j true) = omega arith
choices-two (Sending i j false) = omega arith
choices-two Done = omega arith
choices-two GaveUp = omega arith
choices-two CountedTwice = omega arith

full :
    (x : Numbers) (s c : ℕ) → IsTrue (is_lawful x) → s < states_of x → c < (retried x).choices s
    → sum (states_of x) ((retried x).weight s c) ≡ x.denominator
full x s c h l k =
    let p = stage_of x s in
    sum_same (states_of x) ((retried x).weight s c) (given x (gifts x p c)) (λ t g. weight_inside x s c t l)
    ∙ ap (λ n. sum n (given x (gifts x p c))) (states_lawful x h)
    ∙ stage_given_full x p c (limits_from x h).lost (stage_of-proper x s) (omega (arith, choices_inside x s l, k))

few_choices : (x : Numbers) → sum (states_of x) (λ s. max 1 ((retried x).choices s)) ≤ states_of x * 2
few_choices x =
    let each = sum_le (states_of x) (λ s. max 1 ((retried x).choices s)) (λ s. 2) (λ s l. grind (arith, nat_tests, choices-two)) in
    omega (arith, each, sum_const (states_of x) 2)

pub sound_once_sinked : (x : Numbers) → IsTrue (is_lawful x) → SoundOnceSinked (retried x)
sound_once_sinked x h =
    let few : states_of x ≤ 256 = grind (arith, nat_tests) in
    record {
      some_states = grind (arith, nat_tests);
      few_states = few;
      some_denominator = grind (arith, nat_tests);
      few_denominator = grind (arith, nat_tests);
      few_choices = omega (arith, few_choices x);
      full = λ s c l k. full x s c h l k ∙ sym (cond-true (is_lawful x) x.denominator 0 h);
    }
