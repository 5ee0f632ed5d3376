use Rattle.std.proofs.Common.{arith}
use Rattle.std.proofs.lemmas.Bool.Decides.{nat_tests}
use Rattle.retry.proofs.lawful.Lawful.number_of.Goals as goal

pub overflow_add-result : goal.overflow_add-result
overflow_add-result g = grind (arith, nat_tests)
