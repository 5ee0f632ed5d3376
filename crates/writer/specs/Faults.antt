-- The number of a writing fault, and its place: the offset at which the record would begin, and 0 where the buffer is too small.
use Rattle.std.specs.Prelude.{ℕ}
use Rattle.grammar.specs.declared.step.Misfit as misfit
use Rattle.grammar.specs.declared.step.Misfit.{Misfit}
use Rattle.writer.specs.declared.fault.WriteFault.{WriteFault}
use Rattle.writer.specs.declared.fault.WriteFault.TheVariants.{BadMark, BadField, NoRoom}

-- the fault of a record that does not fit at the offset
abbrev pub fault_of : Misfit → ℕ → WriteFault
fault_of misfit.TheVariants.BadMark at = BadMark at
fault_of misfit.TheVariants.BadField at = BadField at

abbrev pub number_of : WriteFault → ℕ
number_of (BadMark at) = 2
number_of (BadField at) = 3
number_of NoRoom = 5

abbrev pub place_of : WriteFault → ℕ
place_of (BadMark at) = at
place_of (BadField at) = at
place_of NoRoom = 0
