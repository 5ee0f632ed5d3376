use Rattle.std.proofs.Common.{length}
use Rattle.reader.specs.Exact.{records_of}
use Rattle.reader.specs.Answer.{rest_of}
use Rattle.filling.proofs.Readings.{SoFar}
use Rattle.filling.proofs.counting.count.Given as goal

abbrev pub invariant-loop-item : goal.invariant-loop-item
invariant-loop-item l = SoFar (rest_of l.initial.reader) (rest_of l.reader) l.counts

abbrev pub decreases-loop-item : goal.decreases-loop-item
decreases-loop-item l = length (records_of (rest_of l.reader))
