-- The reading of a unit, record by record.
use Rattle.std.specs.Prelude.{ℕ, zero, suc, ◌+◌, ◌-◌, cond, List, [], ◌∷◌, length, Ok, Err, Result, nat_lt}
use Rattle.records.specs.declared.content.Mark.{Mark}
use Rattle.records.specs.declared.decoding.NoMark.{NoMark}
use Rattle.records.specs.declared.decoding.NoMark.TheVariants.{Cut, Unknown}
use Rattle.records.specs.Content.{Content}
use Rattle.records.specs.Decode.{size, decoded}
use Rattle.records.specs.Held.{mark_at}
use Rattle.grammar.specs.declared.place.Place.{Place}
use Rattle.reader.specs.Exact.{stopped, fault, Reading, read, prefixed}
use Rattle.grammar.specs.Place.{allowed, fits, after, over}

-- one record: what it says and where it ends, or a number and a place
pub data Outcome : Type 0 where
  got : (r : Content) (next : ℕ) → Outcome
  refused : (number place : ℕ) → Outcome

abbrev pub at_mark : Place → List ℕ → ℕ → Result Mark NoMark → Outcome
at_mark p xs at (Err Cut) = refused 1 at
at_mark p xs at (Err Unknown) = refused 2 at
at_mark p xs at (Ok m) =
    cond (allowed p m)
    (cond (nat_lt (length xs) (at + size m xs at)) (refused 1 at)
    (cond (fits p (decoded m xs at)) (got (decoded m xs at) (at + size m xs at)) (refused 3 at)))
    (refused 2 at)

-- the record at `at`, where the reading has come to the place p
abbrev pub record_at : Place → List ℕ → ℕ → Outcome
record_at p xs at = at_mark p xs at (mark_at xs at)

abbrev pub next_of : Place → (Place → ℕ → Reading) → Outcome → Reading
next_of p rest (refused n o) = read [] (fault n o)
next_of p rest (got r next) = prefixed (r ∷ []) (rest (after p r) next)

-- at most n more records, from the offset `at` on
abbrev pub read_from : List ℕ → ℕ → Place → ℕ → Reading
read_from xs zero p at = cond (over p) (read [] (stopped at)) (read [] (fault 1 at))
read_from xs (suc n) p at = cond (over p) (read [] (stopped at)) (next_of p (read_from xs n) (record_at p xs at))

abbrev pub reading : Place → List ℕ → ℕ → Reading
reading p xs at = read_from xs (length xs - at) p at
