use Rattle.std.proofs.Common.{rules, tests}
use Rattle.quotient.specs.Working.{IsNamed}
use Rattle.quotient.proofs.Below.{all_below}
use Rattle.quotient.proofs.classes.Listed.all_occur.Goals as goal

pub returns : goal.returns
returns g c =
    all_below c.args.count c.all.result (IsNamed c.args.self.now.list.now) c.all.ensures.ran
    (λ x q k. search (rules, tests)) (λ x q k. search (rules, tests))
