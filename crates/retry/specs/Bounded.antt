-- A sheet gives nothing outside itself. An impl can cite lemmas of specs/ alone; nobody has to read these to believe a contract.
use Rattle.std.specs.Prelude.{◌≡◌, ℕ, ◌+◌, ◌<◌, ◌≤◌, Bool, true, false, List, [], ◌∷◌, refl}
use Rattle.std.proofs.Common.{ap, arith}
use Rattle.std.proofs.lemmas.Bool.Decides.{nat_tests}
use Rattle.std.proofs.lemmas.Nat.{mul-add-lt, rows}
use Rattle.mdp.specs.Model.{Bounded}
use Rattle.retry.specs.declared.stage.Stage.{Stage}
use Rattle.retry.specs.declared.stage.Stage.TheVariants.{Sending, Done, GaveUp, CountedTwice}
use Rattle.retry.specs.declared.numbers.Numbers.{Numbers}
use Rattle.retry.specs.Numbers.{first_end}
use Rattle.retry.specs.Sheet.{number_of, stage_of, Proper, again, next, choices_at, Gift, gifts, given, retried}

pub stage_of-proper : (x : Numbers) (s : ℕ) → Proper x (stage_of x s)
stage_of-proper x s = grind (arith, nat_tests, rows)

pub again-proper : (x : Numbers) (i j : ℕ) (f : Bool) → i < x.events → Proper x (again x i j f)
again-proper x i j f h = grind (arith, nat_tests)

pub next-proper : (x : Numbers) (i : ℕ) → Proper x (next x i)
next-proper x i = grind (arith, nat_tests)

-- the stages in which an event is being sent are numbered below the first end
sending_below : (x : Numbers) (i j : ℕ) (f : Bool) → i < x.events → j ≤ x.resends → number_of x (Sending i j f) < first_end x
sending_below x i j true h k = omega (arith, mul-add-lt i (x.resends + 1) j x.events h (omega arith))
sending_below x i j false h k = omega (arith, mul-add-lt i (x.resends + 1) j x.events h (omega arith))

pub number_of-below : (x : Numbers) (p : Stage) → Proper x p → number_of x p < first_end x + 3
number_of-below x (Sending i j f) h = omega (arith, sending_below x i j f h.0 h.1)
number_of-below x Done h = omega arith
number_of-below x GaveUp h = omega arith
number_of-below x CountedTwice h = omega arith

-- every gift goes to a stage that the sheet has
abbrev pub AllProper : Numbers → List Gift → Type 0
AllProper x [] = Unit {0}
AllProper x (g ∷ gs) = Proper x g.target × AllProper x gs

pub gifts-proper : (x : Numbers) (p : Stage) (c : ℕ) → Proper x p → AllProper x (gifts x p c)
gifts-proper x (Sending i j true) c h = grind (arith, nat_tests, again-proper, next-proper)
gifts-proper x (Sending i j false) c h = grind (arith, nat_tests, again-proper, next-proper)
gifts-proper x Done c h = tt
gifts-proper x GaveUp c h = tt
gifts-proper x CountedTwice c h = tt

-- such gifts go to the states of the sheet alone
given_past : (x : Numbers) (gs : List Gift) (t : ℕ) → AllProper x gs → first_end x + 3 ≤ t → given x gs t ≡ 0
given_past x [] t h l = refl
given_past x (g ∷ gs) t h l = grind (arith, nat_tests, number_of-below x g.target h.0, given_past x gs t h.1 l)

-- a stage of the sheet gives to its states alone
pub stage_given_past : (x : Numbers) (p : Stage) (c t : ℕ) → Proper x p → first_end x + 3 ≤ t → given x (gifts x p c) t ≡ 0
stage_given_past x p c t h l = given_past x (gifts x p c) t (gifts-proper x p c h) l

-- past its choices a stage has no gifts
gifts_past : (x : Numbers) (p : Stage) (c : ℕ) → choices_at p ≤ c → gifts x p c ≡ []
gifts_past x (Sending i j true) c l = grind (arith, nat_tests)
gifts_past x (Sending i j false) c l = grind (arith, nat_tests)
gifts_past x Done c l = refl
gifts_past x GaveUp c l = refl
gifts_past x CountedTwice c l = refl

-- past its choices a stage gives nothing
pub stage_given_none : (x : Numbers) (p : Stage) (c t : ℕ) → choices_at p ≤ c → given x (gifts x p c) t ≡ 0
stage_given_none x p c t l = ap (λ gs. given x gs t) (gifts_past x p c l)

pub bounded : (x : Numbers) → Bounded (retried x)
bounded x =
    record {
      goals = λ s l. grind (arith, nat_tests);
      rows = λ s l. grind (arith, nat_tests);
      past = λ s c t l. grind (arith, nat_tests, stage_given_none);
      targets = λ s c t l. grind (arith, nat_tests, stage_given_past, stage_of-proper);
    }
