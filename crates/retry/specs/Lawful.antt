-- What a sheet keeps: its numbers as lawful ones, or as they are.
use Rattle.std.specs.Prelude.{◌≡◌, Bool, true, false, Result, Ok, Err, IsTrue, IsFalse, refl}
use Rattle.std.specs.Result.{ForErr}
use Rattle.std.proofs.Common.{ap}
use mathlib.Core.Bool.{Bool-set}
use Rattle.retry.specs.declared.numbers.Numbers.{Numbers}
use Rattle.retry.specs.declared.lawful.Lawful.{Lawful}
use Rattle.retry.specs.Numbers.{is_lawful}

abbrev pub numbers_in : Result Lawful Numbers → Numbers
numbers_in (Ok x) = x.numbers
numbers_in (Err n) = n

abbrev judged : (n : Numbers) (b : Bool) → is_lawful n ≡ b → Result Lawful Numbers
judged n true e = Ok (record { numbers = n; lawful = e })
judged n false e = Err n

-- what Rust's function of this name returns
abbrev pub try_from : Numbers → Result Lawful Numbers
try_from n = judged n (is_lawful n) refl

judged-lawful :
    (n : Numbers) (b : Bool) (e : is_lawful n ≡ b) (h : IsTrue (is_lawful n))
    → judged n b e ≡ Ok (record { numbers = n; lawful = h })
judged-lawful n true e h = ap (λ w. Ok (record { numbers = n; lawful = w })) (Bool-set _ _ e h)
judged-lawful n false e h = absurd (cc)

judged-unlawful : (n : Numbers) (b : Bool) (e : is_lawful n ≡ b) → IsFalse (is_lawful n) → judged n b e ≡ Err n
judged-unlawful n true e h = absurd (cc)
judged-unlawful n false e h = refl

pub try_from-numbers_in : (r : Result Lawful Numbers) → ForErr r (λ n. IsFalse (is_lawful n)) → try_from (numbers_in r) ≡ r
try_from-numbers_in (Ok x) h = judged-lawful x.numbers (is_lawful x.numbers) refl x.lawful
try_from-numbers_in (Err n) h = judged-unlawful n (is_lawful n) refl (h n refl)
