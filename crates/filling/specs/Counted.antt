-- How many rows there are.
use Rattle.std.specs.Prelude.{◌≡◌, ℕ, ◌+◌, ◌^◌, ◌<◌, List, length, Ok, Err, Result}
use Rattle.grammar.specs.ModelFile.{ModelFile}
use Rattle.reader.specs.declared.fault.ReadFault.{ReadFault}
use Rattle.reader.specs.Exact.{FirstFault}
use Rattle.reader.specs.Faults.{number_of, place_of}
use Rattle.tables.specs.declared.rows.Filled.{Filled}
use Rattle.filling.specs.Giving.{Gift, head, state, choice, nothing}
use Rattle.filling.specs.Fills.{FileOf, rows_in, filled_by}

-- the counts with a record more
abbrev pub tally : Filled → Gift → Filled
tally k (head d) = record { states = k.states; denominator = d; choices = k.choices; branches = k.branches }
tally k (state g n) = record { states = k.states + 1; denominator = k.denominator; choices = k.choices; branches = k.branches }
tally k (choice bs) =
    record { states = k.states; denominator = k.denominator; choices = k.choices + 1; branches = k.branches + length bs }
tally k nothing = k

abbrev pub CountsFit : Filled → Type 0
CountsFit k = (k.states < 2 ^ 16) × (k.choices < 2 ^ 64) × (k.branches < 2 ^ 64)

-- the counts of a file's rows, or the first fault
abbrev pub Counted : List ℕ → Result Filled ReadFault → Type 0
Counted xs (Ok k) = (file : FileOf xs) × (k ≡ filled_by (rows_in xs file))
Counted xs (Err f) = FirstFault ModelFile xs (number_of f) (place_of f)
