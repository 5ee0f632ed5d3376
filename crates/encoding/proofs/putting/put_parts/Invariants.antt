use Rattle.std.proofs.Common.{take}
use Rattle.encoding.specs.Placed.{joined}
use Rattle.encoding.proofs.Joining.{Filled}
use Rattle.encoding.proofs.putting.put_parts.Given as goal

abbrev pub invariant-loop-part : goal.invariant-loop-part
invariant-loop-part l = Filled l.room l.at (joined (take l.part-index l.parts))
