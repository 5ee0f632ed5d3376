use Rattle.std.proofs.Common.{◌≡◌, ◌+◌, ◌^◌, sym, refl, ap, ◌∙◌, subst, inl, arith}
use native.Mathlib.Nat.{pow-zero}
use Rattle.std.proofs.lemmas.Result.{err_from_is_err_and}
use Rattle.mdp.specs.Sound.{Sound}
use Rattle.reach.specs.Reach.{OutOfRange, Reaches}
use Rattle.reach.proofs.OneStep.{power_more, out_of_range_later}
use Rattle.mdp.proofs.Values.{value_laws}
use Rattle.reach.proofs.stepping.reached.Goals as goal

pub returns-then-n-gt1000 : goal.returns-then-n-gt1000
returns-then-n-gt1000 g c =
    record {
      values = inl c.if-n-gt1000.true;
      laws = value_laws (g.S.Source.meaning c.args.source.now) (g.met.S.Source.bounded c.args.source.now) c.args.n;
    }

pub loop-k-init : goal.loop-k-init
loop-k-init g c =
    let m = g.S.Source.meaning c.args.source.now in
    (c.start-reach.ensures.steps, c.start-reach.ensures.power ∙ sym (pow-zero m.denominator), c.start-reach.ensures.values)

pub returns-in_err-step : goal.returns-in_err-step
returns-in_err-step g c =
    let m = g.S.Source.meaning c.args.source.now in
    let p = err_from_is_err_and c.from_residual.result c.from_residual.ensures.1 in
    let k = c.loop-k._k in
    let far = c.in_err-step.ensures.0 in
    let whole = power_more m.denominator k c.loop-k.reach.power m.denominator c.loop-k.invariant.1 refl in
    rw p.1 (record {
      values = out_of_range_later m.denominator k c.args.n (omega arith) (omega arith)
          (subst (λ i. OutOfRange (i + 1) (m.denominator ^ (k + 1))) c.loop-k.invariant.0 (subst (λ x. OutOfRange (c.loop-k.reach.steps + 1) x) whole far));
      laws = value_laws m (g.met.S.Source.bounded c.args.source.now) c.args.n;
    })

pub loop-k-preserved : goal.loop-k-preserved
loop-k-preserved g c =
    let m = g.S.Source.meaning c.args.source.now in
    let k = c.loop-k._k in
    let next = c.in_ok-step.ensures in (
      next.steps ∙ ap (λ i. i + 1) c.loop-k.invariant.0,
      next.power ∙ power_more m.denominator k c.loop-k.reach.power m.denominator c.loop-k.invariant.1 refl,
      λ sound. next.values k sound (c.loop-k.invariant.2 sound),
    )

pub returns : goal.returns
returns g c =
    let m = g.S.Source.meaning c.args.source.now in
    let n = c.args.n in
    let all : c.loop-k._k ≡ n = omega arith in
    let whole : c.loop-k.reach.power ≡ m.denominator ^ n = c.loop-k.invariant.1 ∙ ap (λ i. m.denominator ^ i) all in
    let held : Sound m → Reaches m n c.loop-k.reach = λ sound. subst (λ i. Reaches m i c.loop-k.reach) all (c.loop-k.invariant.2 sound) in
    record {
      values = ((omega arith, omega (arith, whole, c.loop-k.reach.small)), whole, held);
      laws = value_laws m (g.met.S.Source.bounded c.args.source.now) n;
    }
