-- Sheet A, an example.
use Rattle.retry.specs.declared.numbers.Numbers.{Numbers}

-- one event and one resend; of ten sendings one loses the request, and two lose the receipt
abbrev pub numbers_a : Numbers
numbers_a = record { events = 1; resends = 1; denominator = 10; request = 1; receipt = 2 }
