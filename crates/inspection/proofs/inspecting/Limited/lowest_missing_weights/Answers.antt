use Rattle.std.proofs.Common.{rules, tests}
use Rattle.std.proofs.lemmas.Iterator.{first_from_Range}
use Rattle.inspection.specs.Inspection.{MissesWeights}
use Rattle.inspection.proofs.Soundness.{lowest_from}
use Rattle.inspection.proofs.inspecting.Limited.lowest_missing_weights.Goals as goal

pub returns : goal.returns
returns g c =
    let m = g.S.Source.meaning c.args.self.now.source.now in
    lowest_from (MissesWeights m) c.states.result m.states c.find.result c.states.ensures
    (first_from_Range _ _ _ c.find.result (MissesWeights m) (λ s. MissesWeights m s → ⊥) c.find.ensures.ran
    (λ x q k. search (rules, tests))
    (λ x q k. search (rules, tests)))
