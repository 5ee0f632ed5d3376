use Rattle.std.proofs.Common.{◌≡◌, ◌+◌, ◌-◌, ◌*◌, ◌<◌, ◌≤◌, length, take, drop, arith}
use Rattle.std.proofs.lemmas.Grind.{common_steps}
use Rattle.records.specs.Decode.{be2, branch_from}
use Rattle.records.proofs.EntryLists.{entries_read, branch_inside}
use Rattle.records.proofs.fields.Fields.ch.Goals as goal

pub returns : goal.returns
returns c =
    let xs = c.args.self.bytes.now in
    let at = c.args.self.at in
    let i = at + 2 in
    let k = be2 xs at in
    let es = c.in_ok-entries.entries.now in
    let e : es ≡ take (4 * k) (drop i xs) = grind (arith, common_steps) in
    let h : i + 4 * k ≤ length xs = grind (arith, common_steps) in
    let small : k < 65536 = grind (arith, common_steps) in
    let read = entries_read 4 branch_from branch_inside k xs es i (omega arith) small e h in
    let p2 : at - 2 + 2 ≡ at = omega arith in
    let p4 : at - 2 + 4 ≡ at + 2 = omega arith in
    rw (p2, p4) (grind (arith, common_steps, read.0, read.1))
