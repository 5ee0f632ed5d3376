use Rattle.std.proofs.Common.{refl}
use Rattle.std.proofs.lemmas.Bool.Decides.{not_from_Decides}
use Rattle.filling.specs.Fills.{held_in}
use Rattle.filling.proofs.Leaving.{too_small, room_for_rows}
use Rattle.filling.proofs.filling.Tables.fill.Goals as goal

pub returns-then-not-has_room-clause-value : goal.returns-then-not-has_room-clause-value
returns-then-not-has_room-clause-value c =
    let counted = c.in_ok-counts.ensures in
    let full = not_from_Decides c.has_room.result c.has_room.ensures c.if-not-has_room.true in
    (too_small c.args.bytes.now counted.0 c.in_ok-counts.counts counted.1 (held_in c.args.self.now) full, refl)

pub write_rows-requires : goal.write_rows-requires
write_rows-requires c =
    let counted = c.in_ok-counts.ensures in
    (counted.0, room_for_rows c.args.bytes.now counted.0 c.in_ok-counts.counts counted.1 (held_in c.args.self.now) (c.if-not-has_room.ensures.0 refl))
