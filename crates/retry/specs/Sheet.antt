-- What a retry sheet means.
use Rattle.std.specs.Prelude.{◌≡◌, ℕ, ◌+◌, ◌-◌, ◌*◌, ◌/◌, ◌%◌, ◌<◌, ◌≤◌, Bool, true, false, if◌then◌else◌, ◌&&◌, List, [], ◌∷◌, ◌==◌, nat_lt}
use Rattle.mdp.specs.Model.{Model}
use Rattle.retry.specs.declared.stage.Stage.{Stage}
use Rattle.retry.specs.declared.stage.Stage.TheVariants.{Sending, Done, GaveUp, CountedTwice}
use Rattle.retry.specs.declared.numbers.Numbers.{Numbers}
use Rattle.retry.specs.Numbers.{first_end, is_lawful}

-- event by event, and resend by resend; for each of them first not applied, then applied
abbrev pub number_of : Numbers → Stage → ℕ
number_of x (Sending event resends applied) = (event * (x.resends + 1) + resends) * 2 + (if applied then 1 else 0)
number_of x Done = first_end x
number_of x GaveUp = first_end x + 1
number_of x CountedTwice = first_end x + 2

-- the stage that a number below first_end x + 3 stands for; Numbered says that this undoes number_of
abbrev pub stage_of : Numbers → ℕ → Stage
stage_of x s =
    if nat_lt s (first_end x) then Sending (s / 2 / (x.resends + 1)) (s / 2 % (x.resends + 1)) (s % 2 == 1)
    else (if s == first_end x then Done
    else (if s == first_end x + 1 then GaveUp else CountedTwice))

-- the stages that a sheet has
abbrev pub Proper : Numbers → Stage → Type 0
Proper x (Sending event resends applied) = (event < x.events) × (resends ≤ x.resends)
Proper x Done = Unit {0}
Proper x GaveUp = Unit {0}
Proper x CountedTwice = Unit {0}

-- the numbering is one to one
pub record Numbered (x : Numbers) : Type 0 where
  pub stage : (s : ℕ) → s < first_end x + 3 → Proper x (stage_of x s) × (number_of x (stage_of x s) ≡ s)
  pub number : (p : Stage) → Proper x p → (number_of x p < first_end x + 3) × (stage_of x (number_of x p) ≡ p)

-- one resend more, or gave up after the last
abbrev pub again : Numbers → ℕ → ℕ → Bool → Stage
again x event resends applied = if nat_lt resends x.resends then Sending event (resends + 1) applied else GaveUp

-- the next event, or done after the last
abbrev pub next : Numbers → ℕ → Stage
next x event = if nat_lt (event + 1) x.events then Sending (event + 1) 0 false else Done

-- a server that has applied an event may remember it or have forgotten it
abbrev pub choices_at : Stage → ℕ
choices_at (Sending event resends applied) = if applied then 2 else 1
choices_at Done = 0
choices_at GaveUp = 0
choices_at CountedTwice = 0

-- a part of a choice's weight, and the stage that it goes to
pub record Gift : Type 0 where
  pub weight : ℕ
  pub target : Stage

abbrev pub gift : ℕ → Stage → Gift
gift w p = record { weight = w; target = p }

-- the weight of a request and a receipt that both arrive
abbrev pub heard : Numbers → ℕ
heard x = x.denominator - x.request - x.receipt

-- the server has not applied the event: the request is lost, or the receipt is, or neither
abbrev pub unapplied : Numbers → ℕ → ℕ → List Gift
unapplied x event resends =
    gift x.request (again x event resends false) ∷ gift x.receipt (again x event resends true) ∷ gift (heard x) (next x event) ∷ []

-- it has, and remembers it: something is lost, or nothing
abbrev pub remembered : Numbers → ℕ → ℕ → List Gift
remembered x event resends = gift (x.request + x.receipt) (again x event resends true) ∷ gift (heard x) (next x event) ∷ []

-- it has, and forgot it: the request is lost, or it is applied again
abbrev pub forgotten : Numbers → ℕ → ℕ → List Gift
forgotten x event resends = gift x.request (again x event resends true) ∷ gift (x.denominator - x.request) CountedTwice ∷ []

-- what choice c gives away
abbrev pub gifts : Numbers → Stage → ℕ → List Gift
gifts x (Sending event resends false) c = if c == 0 then unapplied x event resends else []
gifts x (Sending event resends true) c = if c == 0 then remembered x event resends else (if c == 1 then forgotten x event resends else [])
gifts x Done c = []
gifts x GaveUp c = []
gifts x CountedTwice c = []

-- what state t is given
abbrev pub given : Numbers → List Gift → ℕ → ℕ
given x [] t = 0
given x (g ∷ gs) t = (if number_of x g.target == t then g.weight else 0) + given x gs t

-- unlawful numbers give no states
abbrev pub states_of : Numbers → ℕ
states_of x = if is_lawful x then first_end x + 3 else 0

abbrev pub retried : Numbers → Model
retried x =
    record {
      states = states_of x;
      denominator = if is_lawful x then x.denominator else 0;
      goal = λ s. is_lawful x && s == number_of x CountedTwice;
      choices = λ s. if nat_lt s (states_of x) then choices_at (stage_of x s) else 0;
      weight = λ s c t. if nat_lt s (states_of x) then given x (gifts x (stage_of x s) c) t else 0;
    }
