-- The refusal of an unsound source in words.
use Rattle.std.specs.Prelude.{ℕ, List, codes}
use Rattle.refusals.specs.Refusal.{refusal_words}
use Rattle.refusals.specs.declared.finder.Finder.TheVariants.{Opening}
use Rattle.inspection.specs.declared.fault.Fault.{Fault}
use Rattle.inspection.specs.declared.fault.Fault.TheVariants.{Limits, Choices, Weights}
use Rattle.inspection.specs.declared.fault.Unsound.{Unsound}
use Rattle.inspection.specs.Inspection.{number_of, place_of}

abbrev pub fault_words : Fault → List ℕ
fault_words Limits = codes "the number of states is not 1 to 256, or the denominator not 1 to 65535"
fault_words (Choices s) = codes "the state has no choice, or with its choices there are more than 4096"
fault_words (Weights s) = codes "the weights of a choice of the state do not add up to the denominator"

abbrev pub unsound_words : Unsound → List ℕ
unsound_words u = refusal_words (number_of u.fault) (place_of u.fault) (fault_words u.fault) (Opening u.letter)
