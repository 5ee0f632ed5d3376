-- The values of sheet A, by computation.
use Rattle.std.proofs.Common.{◌≡◌, refl}
use Rattle.mdp.specs.Sums.{sum, best}
use Rattle.mdp.specs.Values.{expect_to, value_of, most_of, least_of}
use Rattle.sink.specs.Sink.{sinked}
use Rattle.retry.specs.Sheet.{retried}
use Rattle.retry.specs.SheetA.{numbers_a}

pub most_of_a : most_of (sinked (retried numbers_a)) 2 0 ≡ 18
unfolding value_of expect_to sum best
most_of_a = refl

pub least_of_a : least_of (sinked (retried numbers_a)) 2 0 ≡ 0
unfolding value_of expect_to sum best
least_of_a = refl
