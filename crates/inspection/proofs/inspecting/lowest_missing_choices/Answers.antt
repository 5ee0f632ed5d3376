use Rattle.std.proofs.Common.{rules}
use Rattle.mdp.proofs.Sums.{sum_none, sum_more}
use Rattle.inspection.proofs.inspecting.lowest_missing_choices.Goals as goal

pub loop-s-init : goal.loop-s-init
loop-s-init g c = search (rules, sum_none)

pub returns-then-k-eq0 : goal.returns-then-k-eq0
returns-then-k-eq0 g c = search (rules, sum_more)

pub loop-s-preserved : goal.loop-s-preserved
loop-s-preserved g c = search (rules, sum_more)
