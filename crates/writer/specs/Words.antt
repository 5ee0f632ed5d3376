-- A writing fault in words.
use Rattle.std.specs.Prelude.{ℕ, List, codes}
use Rattle.refusals.specs.Refusal as refusal
use Rattle.refusals.specs.declared.finder.Finder.TheVariants.{Writer}
use Rattle.writer.specs.declared.fault.WriteFault.{WriteFault}
use Rattle.writer.specs.declared.fault.WriteFault.TheVariants.{BadMark, BadField, NoRoom}
use Rattle.writer.specs.Faults.{number_of, place_of}

abbrev pub fault_words : WriteFault → List ℕ
fault_words (BadMark at) = codes "no hand-in has a record of this mark there"
fault_words (BadField at) = codes "no hand-in has this record there: a field is out of its range, or the order does not ascend"
fault_words NoRoom = codes "the buffer is too small"

abbrev pub refusal_words : WriteFault → List ℕ
refusal_words f = refusal.refusal_words (number_of f) (place_of f) (fault_words f) Writer
