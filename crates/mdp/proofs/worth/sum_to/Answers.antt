use Rattle.std.proofs.Common.{get_or, ◌∙◌, arith, rules}
use Rattle.mdp.proofs.Expect.{expect_none, expect_more, expect_listed, product_fits}
use Rattle.mdp.proofs.worth.sum_to.Goals as goal

pub loop-t-init : goal.loop-t-init
loop-t-init g c = search (rules, expect_none)

pub overflow_add-total : goal.overflow_add-total
overflow_add-total g c = let p = product_fits c.weight.result (get_or c.args.values.now c.loop-t.t 0) (omega arith) (omega arith) in search rules

pub loop-t-preserved : goal.loop-t-preserved
loop-t-preserved g c =
    let p = product_fits c.weight.result (get_or c.args.values.now c.loop-t.t 0) (omega arith) (omega arith) in
    search (rules, expect_more)

pub returns : goal.returns
returns g c =
    c.loop-t.invariant.1
    ∙ expect_listed (g.S.Source.meaning c.args.source.now) c.args.values.now c.args.s c.args.c c.loop-t.t (omega arith)
