use Rattle.std.proofs.Common.{sym, ◌∙◌, inl, inr, arith}
use Rattle.std.proofs.lemmas.Bool.{cases_lt}
use Rattle.mdp.specs.Values.{entry}
use Rattle.reach.proofs.OneStep.{next_outside}
use Rattle.reach.proofs.stepping.next_values.Goals as goal

pub returns : goal.returns
returns g c = λ s l.
    elim (cases_lt s c.loop-s.s) [
      | inl r ↦ c.loop-s.invariant.1 s r
      | inr r ↦
          c.loop-s.invariant.2 s r
          ∙ sym (next_outside c.args.extreme (g.S.Source.meaning c.args.source.now) (g.met.S.Source.bounded c.args.source.now)
          c.args.power (entry c.args.values.now) s (omega arith))
    ]
