use Rattle.std.proofs.Common.{length}
use Rattle.mdp.specs.Values.{entry}
use Rattle.quotient.specs.Classes.{Lawful}
use Rattle.quotient.proofs.Lawfulness.{lawful_copy}
use Rattle.quotient.proofs.Quotients.{quotient_sound, quotient_matched}
use Rattle.quotient.proofs.classes.Listed.classes.Goals as goal

pub returns : goal.returns
returns g c =
    let m = g.S.Source.meaning c.args.self.now.below.now in
    let xs = c.args.self.now.list.now in
    let copy = c.copied-of_state.result in
    let count = c.in_ok-count.count in
    let lawful : Lawful m (entry copy) (length xs) count =
    lawful_copy m (entry xs) (entry copy) (length xs) count c.copied-of_state.ensures c.in_ok-count.ensures.holds in
    record {
      same = c.copied-of_state.ensures;
      lawful = c.in_ok-count.ensures;
      sound = λ h l. quotient_sound m (entry copy) (length xs) count h lawful;
      matched = λ h. quotient_matched m (entry copy) (length xs) count h lawful;
    }
