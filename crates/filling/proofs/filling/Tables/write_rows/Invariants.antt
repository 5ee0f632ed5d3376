use Rattle.std.proofs.Common.{◌≡◌, length}
use Rattle.reader.specs.Exact.{records_of}
use Rattle.reader.specs.Answer.{rest_of}
use Rattle.filling.specs.Fills.{held_in, AreSameLoans, fronted_by}
use Rattle.filling.specs.Giving.{none, adds}
use Rattle.filling.proofs.Readings.{SoFar}
use Rattle.filling.proofs.filling.Tables.write_rows.Given as goal

abbrev pub invariant-loop-item : goal.invariant-loop-item
invariant-loop-item l =
    (so : SoFar (rest_of l.initial.reader) (rest_of l.reader) l.filled) × (held_in l.self ≡ fronted_by (adds none so.records) (held_in l.initial.self))
    × AreSameLoans l.initial.self l.self

abbrev pub decreases-loop-item : goal.decreases-loop-item
decreases-loop-item l = length (records_of (rest_of l.reader))
