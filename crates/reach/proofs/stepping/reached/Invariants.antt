use Rattle.std.proofs.Common.{◌≡◌, ◌^◌}
use Rattle.mdp.specs.Sound.{Sound}
use Rattle.reach.specs.Reach.{Reaches}
use Rattle.reach.proofs.stepping.reached.Given as goal

abbrev pub invariant-loop-k : goal.invariant-loop-k
invariant-loop-k g l =
    (l.reach.steps ≡ l._k)
    × (l.reach.power ≡ (g.S.Source.meaning l.source).denominator ^ l._k)
    × (Sound (g.S.Source.meaning l.source) → Reaches (g.S.Source.meaning l.source) l._k l.reach)
