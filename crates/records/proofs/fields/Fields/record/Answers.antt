use Rattle.std.proofs.Common.{◌≡◌, ◌+◌, ◌-◌, arith}
use Rattle.std.proofs.lemmas.Grind.{common_steps}
use Rattle.records.proofs.fields.Fields.record.Goals as goal
use Rattle.records.proofs.fields.Fields.record.Goals.{in-Md+in_ok-u16-in-Md+in_ok-u16-in-Md-2, in-St+in_ok-u8-in-St+in_ok-u16-in-St, in-Hd+in_ok-u8-in-Hd+in_ok-u8-in-Hd-2, in-Ce+in_ok-u16-in-Ce+in_ok-u32-in-Ce, in-Fl+in_ok-u16-in-Fl+in_ok-u32-in-Fl, in-Pc+in_ok-u16-in-Pc+in_ok-u8-in-Pc, in-Pm+in_ok-u16-in-Pm+in_ok-u16-in-Pm-2+in_ok-u16-in-Pm-3, in-Rw+in_ok-u16-in-Rw+in_ok-u64-in-Rw, in-Zz}

pub returns : goal.returns
returns c =
    let at = c.args.self.at in
    let p2 : at - 2 + 2 ≡ at = omega arith in
    let p3 : at - 2 + 3 ≡ at + 1 = omega arith in
    let p4 : at - 2 + 4 ≡ at + 2 = omega arith in
    let p6 : at - 2 + 6 ≡ at + 4 = omega arith in
    elim c.match-mark.branch [
      | in-Md+in_ok-u16-in-Md+in_ok-u16-in-Md-2 w ↦ grind (arith, common_steps, p2, p3, p4, p6)
      | in-St+in_ok-u8-in-St+in_ok-u16-in-St w ↦ grind (arith, common_steps, p2, p3, p4, p6)
      | in-Hd+in_ok-u8-in-Hd+in_ok-u8-in-Hd-2 w ↦ grind (arith, common_steps, p2, p3, p4, p6)
      | in-Ce+in_ok-u16-in-Ce+in_ok-u32-in-Ce w ↦ grind (arith, common_steps, p2, p3, p4, p6)
      | in-Fl+in_ok-u16-in-Fl+in_ok-u32-in-Fl w ↦ grind (arith, common_steps, p2, p3, p4, p6)
      | in-Pc+in_ok-u16-in-Pc+in_ok-u8-in-Pc w ↦ grind (arith, common_steps, p2, p3, p4, p6)
      | in-Pm+in_ok-u16-in-Pm+in_ok-u16-in-Pm-2+in_ok-u16-in-Pm-3 w ↦ grind (arith, common_steps, p2, p3, p4, p6)
      | in-Rw+in_ok-u16-in-Rw+in_ok-u64-in-Rw w ↦ grind (arith, common_steps, p2, p3, p4, p6)
      | in-Zz w ↦ grind (arith, common_steps, p2, p3, p4, p6)
    ]
