use Rattle.std.proofs.Common.{◌≡◌, ◌+◌, ◌*◌, ◌∙◌, refl, ap, arith, rules}
use Rattle.mdp.specs.declared.extreme.Extreme.TheVariants.{Min, Max}
use Rattle.mdp.specs.Values.{entry}
use Rattle.reach.proofs.OneStep.{next_values, power_more}
use Rattle.reach.proofs.reach.Reach.step.Goals as goal

pub returns : goal.returns
returns g c =
    let m = g.S.Source.meaning c.args.source.now in
    let b = g.met.S.Source.bounded c.args.source.now in
    let old = c.args.self.now in
    let power : c.in_ok-power.power ≡ old.power * c.denominator.result = search rules in
    record {
      range = (omega arith, omega (arith, power));
      steps = refl;
      power = power ∙ ap (λ d. old.power * d) c.denominator.ensures;
      values = λ k sound held.
          let whole = power ∙ power_more m.denominator k old.power c.denominator.result held.power c.denominator.ensures in
          record {
            steps = ap (λ i. i + 1) held.steps;
            power = whole;
            least = next_values Min m b sound c.next_values-least.result (omega arith) (entry old.least) k c.in_ok-power.power held.least whole (omega arith) c.next_values-least.ensures;
            largest = next_values Max m b sound c.next_values-largest.result (omega arith) (entry old.largest) k c.in_ok-power.power held.largest whole (omega arith) c.next_values-largest.ensures;
          };
    }
