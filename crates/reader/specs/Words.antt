-- A reading fault in words.
use Rattle.std.specs.Prelude.{ℕ, List, codes}
use Rattle.refusals.specs.Refusal as refusal
use Rattle.refusals.specs.declared.finder.Finder.TheVariants.{Reader}
use Rattle.reader.specs.declared.fault.ReadFault.{ReadFault}
use Rattle.reader.specs.declared.fault.ReadFault.TheVariants.{Ends, BadMark, BadField, Surplus}
use Rattle.reader.specs.Faults.{number_of, place_of}

abbrev pub fault_words : ReadFault → List ℕ
fault_words (Ends at) = codes "the bytes end before the record is complete"
fault_words (BadMark at) = codes "the mark is unknown or not allowed there"
fault_words (BadField at) = codes "a field is out of its range, or the order does not ascend"
fault_words (Surplus at) = codes "there are bytes after ZZ"

abbrev pub refusal_words : ReadFault → List ℕ
refusal_words f = refusal.refusal_words (number_of f) (place_of f) (fault_words f) Reader
