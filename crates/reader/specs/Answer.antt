-- What the reader's answers say.
use Rattle.std.specs.Prelude.{◌≡◌, ℕ, ◌<◌, ◌≤◌, true, ◌⊎◌, List, [], ◌∷◌, length, Some, None, Ok, Err, Option, Result}
use Rattle.records.specs.declared.content.Record.{Record}
use Rattle.records.specs.Content.{Content}
use Rattle.records.specs.Held.{content, whole}
use Rattle.grammar.specs.Place.{after}
use Rattle.reader.specs.declared.fault.ReadFault.{ReadFault}
use Rattle.reader.specs.declared.reading.Reader.{Reader}
use Rattle.grammar.specs.File.{Reads}
use Rattle.reader.specs.Exact.{stopped, fault, Reading, read, records_of, FirstFault, prefixed}
use Rattle.reader.specs.Faults.{number_of, place_of}
use Rattle.reader.specs.Reading.{Outcome, got, refused, reading}

-- What is still to be read, and how it ends.
abbrev pub rest_of : Reader → Reading
rest_of r = reading r.place r.bytes.now r.at

-- The next record with its offset, none behind ZZ, or the fault. Only a record moves the reader.
abbrev pub Next : Reader → Reader → Result (Option (ℕ × Record)) ReadFault → Type 0
Next r s (Ok (Some x)) = (rest_of r ≡ prefixed (content x.1 ∷ []) (rest_of s)) × (x.0 ≡ r.at) × (whole x.1 ≡ true) × (s.bytes ≡ r.bytes)
Next r s (Ok None) = (rest_of r ≡ read [] (stopped r.at)) × (s ≡ r)
Next r s (Err f) = (rest_of r ≡ read [] (fault (number_of f) (place_of f))) × (s ≡ r)

-- The next record, or none where no record is left before the end or a fault.
abbrev pub NextRecord : Reader → Reader → Option Record → Type 0
NextRecord r s (Some item) = (rest_of r ≡ prefixed (content item ∷ []) (rest_of s)) × (whole item ≡ true) × (s.bytes ≡ r.bytes)
NextRecord r s None = (records_of (rest_of r) ≡ []) × (s ≡ r)

-- A unit was read to its end, which is at the offset `behind`; or the fault.
abbrev pub ReadOn : Reader → Result ℕ ReadFault → Type 0
ReadOn r (Ok behind) = (rs : List Content) × (rest_of r ≡ read rs (stopped behind))
ReadOn r (Err f) = (rs : List Content) × (rest_of r ≡ read rs (fault (number_of f) (place_of f)))

-- A unit was read to its end, which is the end of the bytes; or its fault, or 4 at the byte that follows.
abbrev pub Alone : Reader → Result (Unit {0}) ReadFault → Type 0
Alone r (Ok u) = (rs : List Content) × (behind : ℕ) × (rest_of r ≡ read rs (stopped behind)) × (length r.bytes.now ≤ behind)
Alone r (Err f) =
    ((rs : List Content) × (rest_of r ≡ read rs (fault (number_of f) (place_of f))))
    ⊎ ((number_of f ≡ 4) × ((rs : List Content) × (rest_of r ≡ read rs (stopped (place_of f)))) × (place_of f < length r.bytes.now))

-- The bytes are a file of some records and nothing more, or the first fault is named.
abbrev pub ReadsWhole : (List Content → Type 0) → List ℕ → Result (Unit {0}) ReadFault → Type 0
ReadsWhole W xs (Ok u) = (rs : List Content) × Reads W xs 0 (length xs) rs
ReadsWhole W xs (Err f) = FirstFault W xs (number_of f) (place_of f)

-- and that is the only right answer
pub record Sole (W : List Content → Type 0) (xs : List ℕ) (a : Result (Unit {0}) ReadFault) : Type 0 where
  pub right : ReadsWhole W xs a
  pub only : (other : Result (Unit {0}) ReadFault) → ReadsWhole W xs other → other ≡ a

-- The rest is for the functions that these calls are made of.

-- the record that stands at a reader, and the reader behind it
abbrev pub outcome : Result (Record × Reader) ReadFault → Outcome
outcome (Ok x) = got (content x.0) x.1.at
outcome (Err f) = refused (number_of f) (place_of f)

abbrev pub Behind : Reader → Result (Record × Reader) ReadFault → Type 0
Behind r (Ok x) = (x.1.place ≡ after r.place (content x.0)) × (x.1.bytes ≡ r.bytes) × (whole x.0 ≡ true)
Behind r (Err f) = Unit {0}
