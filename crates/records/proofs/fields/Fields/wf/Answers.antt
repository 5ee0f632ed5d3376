use Rattle.std.proofs.Common.{◌≡◌, ◌+◌, ◌-◌, ◌*◌, ◌<◌, ◌≤◌, length, take, drop, arith}
use Rattle.std.proofs.lemmas.Grind.{common_steps}
use Rattle.records.specs.Decode.{be2, portion_from}
use Rattle.records.proofs.EntryLists.{entries_read, portion_inside}
use Rattle.records.proofs.fields.Fields.wf.Goals as goal

pub returns : goal.returns
returns c =
    let xs = c.args.self.bytes.now in
    let at = c.args.self.at in
    let i = at + 9 in
    let k = be2 xs (at + 7) in
    let es = c.in_ok-entries.field-0.now in
    let e : es ≡ take (5 * k) (drop i xs) = grind (arith, common_steps) in
    let h : i + 5 * k ≤ length xs = grind (arith, common_steps) in
    let small : k < 65536 = grind (arith, common_steps) in
    let read = entries_read 5 portion_from portion_inside k xs es i (omega arith) small e h in
    let p2 : at - 2 + 2 ≡ at = omega arith in
    let p4 : at - 2 + 4 ≡ at + 2 = omega arith in
    let p5 : at - 2 + 5 ≡ at + 3 = omega arith in
    let p7 : at - 2 + 7 ≡ at + 5 = omega arith in
    let p9 : at - 2 + 9 ≡ at + 7 = omega arith in
    let p11 : at - 2 + 11 ≡ at + 9 = omega arith in
    rw (p2, p4, p5, p7, p9, p11) (grind (arith, common_steps, read.0, read.1))
