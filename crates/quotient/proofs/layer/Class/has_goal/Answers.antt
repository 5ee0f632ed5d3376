use Rattle.std.proofs.Common.{◌≡◌, true, false, rules, tests}
use Rattle.quotient.specs.Quotient.{class_of}
use Rattle.quotient.proofs.Below.{any_below}
use Rattle.quotient.proofs.ByClass.{goal_found}
use Rattle.quotient.proofs.layer.Class.has_goal.Goals as goal

pub returns : goal.returns
returns g c =
    let m = g.S.Source.meaning c.args.self.now.below.now in
    let cls = class_of c.args.self.now.classes.now in
    let a = c.args.self.now.number in
    goal_found m cls a c.states.result c.any.result c.states.ensures
    (any_below _ c.any.result (λ t. (cls t ≡ a) × (m.goal t ≡ true)) (λ t. cls t ≡ a → m.goal t ≡ false) c.any.ensures.ran
    (λ x q k. search (rules, tests)) (λ x q k. search (rules, tests)))
