use Rattle.std.proofs.Common.{ℕ, ◌<◌, Decides, length, sym, ◌∙◌}
use Rattle.std.proofs.lemmas.Bool.{false≢true}
use Rattle.std.proofs.lemmas.Bool.Decides.{not_from_Decides}
use Rattle.quotient.specs.Working.{IsNamed, IsAgreed}
use Rattle.quotient.proofs.Lawfulness.{counted}
use Rattle.quotient.proofs.classes.Listed.count.Goals as goal
use Rattle.quotient.proofs.classes.Listed.count.Goals.{then-all_occur, else-all_occur}

pub returns : goal.returns
returns g c =
    let m = g.S.Source.meaning c.args.self.now.below.now in
    let xs = c.args.self.now.list.now in
    let r = c.one_above-count.result in
    let both : Decides c.if-all_occur.then_some (((a : ℕ) → a < r → IsNamed xs a) × ((s : ℕ) → s < length xs → IsAgreed m xs s)) =
    elim c.if-all_occur.branch [
      | then-all_occur w ↦ (
        λ e. (c.all_occur.ensures.0 w.if-all_occur.true, w.all_agree.ensures.0 (sym w.then_some-is ∙ e)),
        λ p. w.then_some-is ∙ w.all_agree.ensures.1 p.1,
      )
      | else-all_occur w ↦ (
        λ e. absurd (false≢true (sym w.if-all_occur.false ∙ sym w.then_some-is ∙ e)),
        λ p. absurd (not_from_Decides _ c.all_occur.ensures w.if-all_occur.false p.0),
      )
    ] in
    rw c.then_some.ensures (counted m xs r c.if-all_occur.then_some c.args.self.now.fits c.one_above-count.ensures both)
