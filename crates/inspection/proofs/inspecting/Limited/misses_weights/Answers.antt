use native.Mathlib.Nat.{sub-zero}
use Rattle.std.proofs.Common.{ℕ, rules, tests, refl}
use Rattle.std.proofs.lemmas.Iterator.{YieldsList-from_range, cases_from_any}
use Rattle.inspection.specs.Inspection.{IsFull}
use Rattle.inspection.proofs.Soundness.{decides_from}
use Rattle.inspection.proofs.inspecting.Limited.misses_weights.Goals as goal

pub returns : goal.returns
returns g c =
    let m = g.S.Source.meaning c.args.self.now.source.now in
    let misses : ℕ → Type 0 = λ i. IsFull m c.args.s i → ⊥ in
    let n = c.choices.result in
    decides_from misses n (m.choices c.args.s) c.any.result c.choices.ensures
    (cases_from_any _ _ c.any.result misses (λ i. misses i → ⊥) c.any.ensures.ran (YieldsList-from_range 0 n n refl (sub-zero n))
    (λ x q k. search (rules, tests))
    (λ x q k. search (rules, tests)))
