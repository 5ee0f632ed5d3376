use Rattle.std.proofs.Common.{◌∙◌, replicate}
use lib.ListN.{get_or-replicate}
use Rattle.mdp.proofs.Expect.{expect_ones}
use Rattle.inspection.proofs.Soundness.{few_states}
use Rattle.inspection.proofs.inspecting.Limited.total_weight.Goals as goal

pub returns : goal.returns
returns g c =
    let m = g.S.Source.meaning c.args.self.now.source.now in
    c.weighted_sum.ensures
    ∙ expect_ones m (replicate 256 1) c.args.s c.args.c (few_states m c.args.self.now.within) (λ k l. get_or-replicate 256 k 1 0 l)
