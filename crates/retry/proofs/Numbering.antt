-- The numbering of the stages is one to one.
use Rattle.std.specs.Prelude.{◌≡◌, ℕ, ◌+◌, ◌/◌, ◌%◌, ◌<◌, Bool, true, false, ◌==◌}
use Rattle.std.proofs.Common.{arith}
use Rattle.std.proofs.lemmas.Bool.Decides.{nat_tests}
use Rattle.std.proofs.lemmas.Nat.{div-mul-add, mod-mul-add, mul-add-lt}
use Rattle.retry.specs.declared.stage.Stage.{Stage}
use Rattle.retry.specs.declared.stage.Stage.TheVariants.{Sending, Done, GaveUp, CountedTwice}
use Rattle.retry.specs.declared.numbers.Numbers.{Numbers}
use Rattle.retry.specs.Numbers.{first_end}
use Rattle.retry.specs.Sheet.{number_of, stage_of, Proper, Numbered}
use Rattle.retry.specs.Bounded.{number_of-below, stage_of-proper}

number_of-stage_of : (x : Numbers) (s : ℕ) → s < first_end x + 3 → number_of x (stage_of x s) ≡ s
number_of-stage_of x s l = grind (arith, nat_tests)

-- the stage of a number below the first end
abbrev pub sending_of : Numbers → ℕ → Stage
sending_of x s = Sending (s / 2 / (x.resends + 1)) (s / 2 % (x.resends + 1)) (s % 2 == 1)

-- the sheet has that stage, and its number is the one that it was made of
pub sending_forth : (x : Numbers) (s : ℕ) → s < first_end x → Proper x (sending_of x s) × (number_of x (sending_of x s) ≡ s)
sending_forth x s l =
    let proper = stage_of-proper x s in
    let back = number_of-stage_of x s (omega arith) in
    grind (arith, nat_tests, proper, back)

stage_of-sending :
    (x : Numbers) (i j : ℕ) (f : Bool) → i < x.events → j < x.resends + 1
    → stage_of x (number_of x (Sending i j f)) ≡ Sending i j f
stage_of-sending x i j true h k =
    let n = x.resends + 1 in grind (arith, nat_tests, div-mul-add i n j k, mod-mul-add i n j k, mul-add-lt i n j x.events h k)
stage_of-sending x i j false h k =
    let n = x.resends + 1 in grind (arith, nat_tests, div-mul-add i n j k, mod-mul-add i n j k, mul-add-lt i n j x.events h k)

stage_of-number_of : (x : Numbers) (p : Stage) → Proper x p → stage_of x (number_of x p) ≡ p
stage_of-number_of x (Sending i j f) h = stage_of-sending x i j f h.0 (omega arith)
stage_of-number_of x Done h = grind (arith, nat_tests)
stage_of-number_of x GaveUp h = grind (arith, nat_tests)
stage_of-number_of x CountedTwice h = grind (arith, nat_tests)

pub numbered : (x : Numbers) → Numbered x
numbered x = record {
  stage = λ s l. (stage_of-proper x s, number_of-stage_of x s l);
  number = λ p h. (number_of-below x p h, stage_of-number_of x p h);
}
