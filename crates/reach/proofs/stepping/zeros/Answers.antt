use Rattle.mdp.proofs.Zeros.{zeros_everywhere}
use Rattle.reach.proofs.stepping.zeros.Goals as goal

pub returns : goal.returns
returns c = zeros_everywhere 256
