use Rattle.std.proofs.Common.{◌≡◌, List, length}
use Rattle.records.specs.Content.{Content}
use Rattle.reader.specs.Exact.{records_of, prefixed}
use Rattle.reader.specs.Answer.{rest_of}
use Rattle.reader.proofs.reading.Reader.finish.Given as goal

abbrev pub invariant-loop : goal.invariant-loop
invariant-loop l = (ds : List Content) × (rest_of l.initial.self ≡ prefixed ds (rest_of l.self))

abbrev pub decreases-loop : goal.decreases-loop
decreases-loop l = length (records_of (rest_of l.self))
