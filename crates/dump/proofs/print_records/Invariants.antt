use Rattle.std.proofs.Common.{length}
use Rattle.reader.specs.Exact.{records_of}
use Rattle.reader.specs.Answer.{rest_of}
use Rattle.dump.proofs.print_records.Given as goal

abbrev pub decreases-loop-offset : goal.decreases-loop-offset
decreases-loop-offset g l = length (records_of (rest_of l.reader))
