use Rattle.std.proofs.Common.{◌≡◌, ℕ, ◌<◌, ◌≤◌, length, get_or}
use Rattle.mdp.specs.Values.{entry}
use Rattle.reach.specs.Working.{next_value}
use Rattle.reach.proofs.stepping.next_values.Given as goal

abbrev pub invariant-loop-s : goal.invariant-loop-s
invariant-loop-s g l =
    (length l.next ≡ 256)
    × ((k : ℕ) → k < l.s → get_or l.next k 0 ≡ next_value l.extreme (g.S.Source.meaning l.source) l.power (entry l.values) k)
    × ((k : ℕ) → l.s ≤ k → get_or l.next k 0 ≡ 0)
