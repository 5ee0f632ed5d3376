use Rattle.std.proofs.Common.{◌≡◌}
use Rattle.records.specs.Held.{branches}
use Rattle.grammar.specs.ModelFile.{branches_ok}
use Rattle.grammar.proofs.ranges.branches_ok.Given as goal

abbrev pub invariant-loop-branch : goal.invariant-loop-branch
invariant-loop-branch l = branches_ok l.n 0 (branches l.entries) ≡ branches_ok l.n l.least l.branch-iterator
