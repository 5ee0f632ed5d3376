use Rattle.std.proofs.Common.{◌∙◌, ap, rules, tests}
use Rattle.quotient.specs.Quotient.{class_of, capped, sum_of_class}
use Rattle.quotient.proofs.Listed.{sum_from_fold}
use Rattle.quotient.proofs.layer.Class.sum.Goals as goal

pub returns : goal.returns
returns g c = λ f h.
    let cls = class_of c.args.self.now.classes.now in
    let a = c.args.self.now.number in
    sum_from_fold cls a c.states.result c.fold.result f c.fold.ensures.ran c.filter.ensures.source (λ x b q k. search (rules, tests)) (λ total x sum q k. search (rules, h))
    ∙ ap (λ n. capped (sum_of_class cls a n f)) c.states.ensures
