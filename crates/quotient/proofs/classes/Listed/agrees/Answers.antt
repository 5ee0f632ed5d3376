use native.Mathlib.Nat.{sub-zero}
use Rattle.std.proofs.Common.{ℕ, ◌≡◌, ◌∙◌, sym, rules, tests}
use Rattle.std.proofs.lemmas.Iterator.{cases_from_all, YieldsList-from_range, YieldsList-from_slice, YieldsList-from_zip}
use Rattle.mdp.specs.Values.{entry}
use Rattle.quotient.proofs.Below.{all_numbered}
use Rattle.quotient.proofs.classes.Listed.agrees.Goals as goal

pub returns : goal.returns
returns g c =
    let m = g.S.Source.meaning c.args.self.now.below.now in
    let xs = c.args.self.now.list.now in
    let n = c.states.result in
    let same : ℕ → ℕ → Type 0 = λ t named. entry xs c.args.s ≡ named → m.goal c.args.s ≡ m.goal t in
    all_numbered same n xs c.all.result (c.states.ensures ∙ sym c.args.self.now.fits.2)
    (cases_from_all c.all.new.self _ c.all.result (λ x. same x.0 x.1) (λ x. same x.0 x.1 → ⊥) c.all.ensures.ran
    (YieldsList-from_zip (YieldsList-from_range 0 n n c.zip.ensures.first (sub-zero n)) (YieldsList-from_slice xs c.zip.ensures.second.0))
    (λ x q k. search (rules, tests)) (λ x q k. search (rules, tests)))
