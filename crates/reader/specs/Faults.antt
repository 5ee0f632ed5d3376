-- The number of a reading fault, and its place: the offset of the record, for 4 of the byte.
use Rattle.std.specs.Prelude.{ℕ}
use Rattle.records.specs.declared.decoding.NoMark.{NoMark}
use Rattle.records.specs.declared.decoding.NoMark.TheVariants.{Cut, Unknown}
use Rattle.reader.specs.declared.fault.ReadFault.{ReadFault}
use Rattle.reader.specs.declared.fault.ReadFault.TheVariants.{Ends, BadMark, BadField, Surplus}

abbrev pub number_of : ReadFault → ℕ
number_of (Ends at) = 1
number_of (BadMark at) = 2
number_of (BadField at) = 3
number_of (Surplus at) = 4

abbrev pub place_of : ReadFault → ℕ
place_of (Ends at) = at
place_of (BadMark at) = at
place_of (BadField at) = at
place_of (Surplus at) = at

-- the fault of a record at the offset, by why it has no mark
abbrev pub fault_of_mark : NoMark → ℕ → ReadFault
fault_of_mark Cut at = Ends at
fault_of_mark Unknown at = BadMark at
