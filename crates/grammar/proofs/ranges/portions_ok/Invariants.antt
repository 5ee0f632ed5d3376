use Rattle.std.proofs.Common.{◌≡◌}
use Rattle.records.specs.Held.{portions}
use Rattle.grammar.specs.HandIn.{portions_ok}
use Rattle.grammar.proofs.OneByOne.{portions_left}
use Rattle.grammar.proofs.ranges.portions_ok.Given as goal

abbrev pub invariant-loop-portion : goal.invariant-loop-portion
invariant-loop-portion l = portions_ok (portions l.entries) ≡ portions_left l.last l.portion-iterator
