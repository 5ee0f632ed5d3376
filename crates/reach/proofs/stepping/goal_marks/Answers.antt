use Rattle.std.proofs.Common.{sym, arith}
use native.Mathlib.Nat.{pow-zero}
use Rattle.mdp.specs.declared.extreme.Extreme.TheVariants.{Min, Max}
use Rattle.reach.proofs.OneStep.{first_values, marks_below}
use Rattle.reach.proofs.stepping.goal_marks.Goals as goal

pub returns : goal.returns
returns g c =
    let m = g.S.Source.meaning c.args.source.now in
    let b = g.met.S.Source.bounded c.args.source.now in
    let xs = c.loop-s.marks in
    let marks = marks_below m b xs c.loop-s.s (omega arith) c.loop-s.invariant.1 c.loop-s.invariant.2 in
    record {
      whole = sym (pow-zero m.denominator);
      least = λ sound. first_values Min m b sound xs c.loop-s.invariant.0 marks;
      largest = λ sound. first_values Max m b sound xs c.loop-s.invariant.0 marks;
    }
