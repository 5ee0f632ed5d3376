use Rattle.std.proofs.Common.{◌≡◌, ◌≤◌}
use Rattle.mdp.specs.Sums.{sum}
use Rattle.inspection.specs.Inspection.{Never, MissesChoices}
use Rattle.inspection.proofs.inspecting.lowest_missing_choices.Given as goal

abbrev pub invariant-loop-s : goal.invariant-loop-s
invariant-loop-s g l =
    (l.total ≤ 4096)
    × (l.total ≡ sum l.s (g.S.Source.meaning l.source).choices)
    × Never (MissesChoices (g.S.Source.meaning l.source)) l.s
