-- What the writer's answers say.
use Rattle.std.specs.Prelude.{◌≡◌, ℕ, ◌+◌, ◌<◌, Bool, true, false, List, [], ◌∷◌, ◌++◌, length}
use Rattle.records.specs.declared.content.Record.{Record}
use Rattle.records.specs.Content.{Content, mark_of}
use Rattle.records.specs.Encode.{encode}
use Rattle.records.specs.Held.{content, whole}
use Rattle.grammar.specs.HandIn.{HandIn}
use Rattle.grammar.specs.File.{Reads, GoesOn, Allowed}
use Rattle.grammar.specs.declared.place.Place.TheVariants.{HandInDue}
use Rattle.reader.specs.Exact.{read, stopped}
use Rattle.reader.specs.Reading.{reading}
use Rattle.writer.specs.declared.fault.WriteFault.{WriteFault}
use Rattle.writer.specs.declared.fault.WriteFault.TheVariants.{BadMark, BadField, NoRoom}
use Rattle.writer.specs.Draft.{Draft, Written, OfWritten}

-- The record is taken: some hand-in goes on with it, and it is written behind the others.
pub record Takes (d : Draft) (item : Record) (e : Draft) : Type 0 where
  pub entries : whole item ≡ true
  pub next : OfWritten d (λ rs. GoesOn HandIn rs (content item))
  pub written : (old : List ℕ) (rs : List Content) → Written old d rs → Written old e (rs ++ content item ∷ [])

-- 2: no hand-in goes on with a record of this mark.
pub record RefusesMark (d : Draft) (item : Record) (at : ℕ) : Type 0 where
  pub place : at ≡ d.len
  pub none : OfWritten d (λ rs. Allowed HandIn rs (mark_of (content item)) → ⊥)

-- 3: some hand-in goes on with a record of this mark, but none with this record, or its entries are not whole.
pub record RefusesField (d : Draft) (item : Record) (at : ℕ) : Type 0 where
  pub place : at ≡ d.len
  pub mark : OfWritten d (λ rs. Allowed HandIn rs (mark_of (content item)))
  pub none : whole item ≡ true → OfWritten d (λ rs. GoesOn HandIn rs (content item) → ⊥)

-- 5: some hand-in goes on with this record, but the buffer ends before it would.
pub record LacksRoom (d : Draft) (item : Record) : Type 0 where
  pub entries : whole item ≡ true
  pub next : OfWritten d (λ rs. GoesOn HandIn rs (content item))
  pub short : length d.bytes < d.len + length (encode (content item))

-- why a record is refused, by its fault
abbrev pub Refuses : Draft → Record → WriteFault → Type 0
Refuses d item (BadMark at) = RefusesMark d item at
Refuses d item (BadField at) = RefusesField d item at
Refuses d item NoRoom = LacksRoom d item

-- What is written is a hand-in of just these records, and a reader of the buffer finds them again and stops behind them.
pub record ReadsBack (d : Draft) (rs : List Content) : Type 0 where
  pub file : Reads HandIn d.bytes 0 d.len rs
  pub again : reading HandInDue d.bytes 0 ≡ read rs (stopped d.len)

-- Whether the draft is complete: it reads back, or its records are no hand-in yet.
abbrev pub Complete : Draft → Bool → Type 0
Complete d true = OfWritten d (ReadsBack d)
Complete d false = OfWritten d (λ rs. HandIn rs → ⊥)
