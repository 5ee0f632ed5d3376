use Rattle.std.proofs.Common.{◌∙◌}
use Rattle.mdp.specs.declared.extreme.Extreme.TheVariants.{Min, Max}
use Rattle.rows.proofs.Shares.{values_are_shares}
use Rattle.rows.proofs.row.Row.of.Goals as goal

pub returns-in_err-low : goal.returns-in_err-low
returns-in_err-low c =
    rw c.from_residual.ensures
    (λ m k b sound held. values_are_shares Min m k c.at-values.result.least c.at-values.result.whole b sound
    (c.at-values.ensures.least ∙ held.least 0) (c.at-values.ensures.whole ∙ held.power)
    c.in_err-low.ensures)

pub returns-in_err-high : goal.returns-in_err-high
returns-in_err-high c =
    rw c.from_residual-in_err-high.ensures
    (λ m k b sound held. values_are_shares Max m k c.at-values.result.largest c.at-values.result.whole b sound
    (c.at-values.ensures.largest ∙ held.largest 0) (c.at-values.ensures.whole ∙ held.power)
    c.in_err-high.ensures)
