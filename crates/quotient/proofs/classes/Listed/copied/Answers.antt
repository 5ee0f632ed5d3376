use Rattle.mdp.proofs.Zeros.{zeros_everywhere}
use Rattle.quotient.proofs.Lawfulness.{padded}
use Rattle.quotient.proofs.classes.Listed.copied.Goals as goal

pub returns : goal.returns
returns g c = padded c.args.self.now.list.now c.copy_from_slice.new.self _ c.copy_from_slice.ensures.after (zeros_everywhere 256)
