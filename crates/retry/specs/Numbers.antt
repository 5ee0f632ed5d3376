-- Which numbers make a lawful retry sheet.
use Rattle.std.specs.Prelude.{ℕ, ◌+◌, ◌*◌, Bool, ◌&&◌, nat_le}
use Rattle.retry.specs.declared.numbers.Numbers.{Numbers}

-- the states in which an event is being sent come first; the three ends follow
abbrev pub first_end : Numbers → ℕ
first_end x = 2 * x.events * (x.resends + 1)

-- some events and a denominator; no number too large; no more weight lost than there is; and no more than 256 states, with the three ends
abbrev pub is_lawful : Numbers → Bool
is_lawful x =
    nat_le 1 x.events
    && nat_le x.events 255
    && nat_le x.resends 255
    && nat_le 1 x.denominator
    && nat_le x.denominator 65535
    && nat_le (x.request + x.receipt) x.denominator
    && nat_le (first_end x + 3) 256
