use Rattle.std.proofs.Common.{◌≡◌, ◌-◌, subst, arith}
use Rattle.records.specs.Held.{Decodes}
use Rattle.records.proofs.Standing.{decoded_stands}
use Rattle.records.proofs.decoding.decode.Goals as goal

pub returns-clause-exact : goal.returns-clause-exact
returns-clause-exact c =
    let xs = c.args.bytes.now in
    let m = c.args.mark in
    let found = c.record.result in
    let fields = c.in_ok-behind_mark.field-0 in
    let behind = c.in_ok-behind_mark.ensures.fields in
    let here : fields.at - 2 ≡ c.args.at = omega (arith, behind.1) in
    let read = subst (λ ys. Decodes ys (fields.at - 2) m found) behind.0 c.record.ensures in
    decoded_stands xs (λ j. (c.type_inv.bytes j).fits) c.args.at m found (subst (λ at. Decodes xs at m found) here read)
