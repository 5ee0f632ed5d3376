use Rattle.std.proofs.Common.{◌≡◌, ◌*◌, ◌^◌, ◌≤◌}
use Rattle.mdp.specs.Values.{entry, expect_to}
use Rattle.mdp.proofs.worth.sum_to.Given as goal

abbrev pub invariant-loop-t : goal.invariant-loop-t
invariant-loop-t g l =
    (l.total ≤ l.t * 2 ^ 96)
    × (l.total ≡ expect_to (g.S.Source.meaning l.source) (entry l.values) l.s l.c l.t)
