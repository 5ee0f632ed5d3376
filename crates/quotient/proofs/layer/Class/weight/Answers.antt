use Rattle.std.proofs.Common.{arith, rules}
use Rattle.std.proofs.lemmas.Bool.Decides.{nat_tests}
use Rattle.std.proofs.lemmas.Grind.{common_steps}
use Rattle.quotient.specs.Quotient.{class_of}
use Rattle.quotient.proofs.Quotients.{weight_there}
use Rattle.quotient.proofs.layer.Class.weight.Goals as goal

pub returns-in-Some : goal.returns-in-Some
returns-in-Some g c =
    let m = g.S.Source.meaning c.args.self.now.below.now in
    let cls = class_of c.args.self.now.classes.now in
    let t = weight_there m cls c.args.self.now.number c.args.c c.args.to.now.number c.in-Some.choice c.in-Some.ensures (search rules) in
    grind (arith, common_steps, nat_tests)
