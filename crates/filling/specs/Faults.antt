-- The number of a filling's fault, its place, and its words.
use Rattle.std.specs.Prelude.{ℕ, List, codes}
use Rattle.reader.specs.Faults as reading
use Rattle.reader.specs.Words as words
use Rattle.refusals.specs.Refusal as refusal
use Rattle.refusals.specs.declared.finder.Finder.{Finder}
use Rattle.refusals.specs.declared.finder.Finder.TheVariants.{Reader, Table}
use Rattle.filling.specs.declared.fault.FillFault.{FillFault}
use Rattle.filling.specs.declared.fault.FillFault.TheVariants.{Reading, NoRoom}

abbrev pub number_of : FillFault → ℕ
number_of (Reading f) = reading.number_of f
number_of NoRoom = 5

-- too small a table has no place in the bytes
abbrev pub place_of : FillFault → ℕ
place_of (Reading f) = reading.place_of f
place_of NoRoom = 0

abbrev pub fault_words : FillFault → List ℕ
fault_words (Reading f) = words.fault_words f
fault_words NoRoom = codes "a table is too small"

-- what the bytes are refused by, the reader refuses
abbrev pub finder_of : FillFault → Finder
finder_of (Reading f) = Reader
finder_of NoRoom = Table

abbrev pub refusal_words : FillFault → List ℕ
refusal_words f = refusal.refusal_words (number_of f) (place_of f) (fault_words f) (finder_of f)
