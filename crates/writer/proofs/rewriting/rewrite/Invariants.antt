use Rattle.std.proofs.Common.{◌≡◌, length}
use Rattle.reader.specs.Exact.{records_of}
use Rattle.reader.specs.Answer.{rest_of}
use Rattle.writer.specs.Draft.{draft_of}
use Rattle.writer.proofs.Copies.{Copying}
use Rattle.writer.proofs.rewriting.rewrite.Given as goal

abbrev pub invariant-loop-item : goal.invariant-loop-item
invariant-loop-item l =
    Copying (rest_of l.initial.reader) l.fn.buffer (rest_of l.reader) (draft_of l.writer)
    × (l.writer.buffer.ghost_name ≡ l.initial.writer.buffer.ghost_name)

abbrev pub decreases-loop-item : goal.decreases-loop-item
decreases-loop-item l = length (records_of (rest_of l.reader))
