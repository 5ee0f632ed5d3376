use Rattle.std.proofs.Common.{◌≡◌, Some, subst, rules}
use Rattle.inspection.specs.Inspection.{OutOfLimits, Never, Lowest, MissesWeights}
use Rattle.inspection.proofs.Soundness.{sound_from}
use Rattle.inspection.proofs.inspecting.first_fault.Goals as goal

pub returns-in-Some-lowest_missing_weights : goal.returns-in-Some-lowest_missing_weights
returns-in-Some-lowest_missing_weights g c =
    let same : c.in_ok-limited.limited.source.now ≡ c.args.source.now = search (rules) in (
      subst (λ x. OutOfLimits (g.S.Source.meaning x) → ⊥) same c.in_ok-limited.limited.within,
      c.in_default.ensures,
      subst (λ x. Lowest (MissesWeights (g.S.Source.meaning x)) (g.S.Source.meaning x).states (Some c.in-Some-lowest_missing_weights.s)) same c.in-Some-lowest_missing_weights.ensures,
    )

pub returns : goal.returns
returns g c =
    let m = g.S.Source.meaning c.args.source.now in
    let same : c.in_ok-limited.limited.source.now ≡ c.args.source.now = search (rules) in
    sound_from m (subst (λ x. OutOfLimits (g.S.Source.meaning x) → ⊥) same c.in_ok-limited.limited.within) c.in_default.ensures
    (subst (λ x. Never (MissesWeights (g.S.Source.meaning x)) (g.S.Source.meaning x).states) same c.in_default-lowest_missing_weights.ensures)
