use Rattle.std.proofs.Common.{◌≡◌, ◌+◌}
use Rattle.quotient.specs.Quotient.{class_of, before}
use Rattle.quotient.proofs.layer.Class.owner.Given as goal

abbrev pub invariant-loop-s : goal.invariant-loop-s
invariant-loop-s g l =
    before (g.S.Source.meaning l.self.below.now) (class_of l.self.classes.now) l.self.number l.s + l.rest ≡ l.c
