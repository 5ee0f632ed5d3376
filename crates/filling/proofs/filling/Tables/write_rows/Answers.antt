use Rattle.std.proofs.Common.{[], ◌∷◌, refl, sym, ap, ◌∙◌, subst, arith, rules}
use Rattle.records.specs.Held.{content}
use Rattle.reader.specs.Answer.{rest_of}
use Rattle.tables.specs.Held.{Held}
use Rattle.filling.specs.Giving.{given, none, adds}
use Rattle.filling.specs.Fills.{held_in, RoomFor, Room, fronted_by, filled_by}
use Rattle.filling.specs.Counted.{tally}
use Rattle.filling.proofs.Giving.{adds-append}
use Rattle.filling.proofs.Readings.{none_yet, all_come, so_far_next, next_fits, next_room, file_rows}
use Rattle.filling.proofs.Leaving.{leaves, fronted_room, same_trans}
use Rattle.filling.proofs.filling.Tables.write_rows.Goals as goal

pub loop-item-init : goal.loop-item-init
loop-item-init c = (none_yet (rest_of c.model_file-reader.result) c.default-filled.result (search rules), refl, record { states = refl; choices = refl; branches = refl })

pub put-requires : goal.put-requires
put-requires c =
    let all = rest_of c.model_file-reader.result in
    let old = held_in c.args.self.now in
    let same = file_rows c.args.bytes.now all c.model_file-reader.ensures.exact c.requires.0 in
    let so = c.loop-item.invariant.0 in
    let row = given (content c.in-Some.item) in
    let room = next_room all (rest_of c.loop-item.reader) c.loop-item.filled so (content c.in-Some.item) (rest_of c.next_record.new.self) c.in-Some.ensures.0
    old (subst (λ (h : Held). Room h old) (sym same) c.requires.1) in
    subst (RoomFor (tally c.loop-item.filled row)) (sym c.loop-item.invariant.1) (fronted_room (adds none so.records) (tally c.loop-item.filled row) old room)

pub tally-filled-requires : goal.tally-filled-requires
tally-filled-requires c =
    let all = rest_of c.model_file-reader.result in
    next_fits all (rest_of c.loop-item.reader) c.loop-item.filled c.loop-item.invariant.0 (content c.in-Some.item) (rest_of c.next_record.new.self) c.in-Some.ensures.0
    c.args.bytes.now c.model_file-reader.ensures.exact.holds (omega arith)

pub loop-item-preserved : goal.loop-item-preserved
loop-item-preserved c =
    let all = rest_of c.model_file-reader.result in
    let so = c.loop-item.invariant.0 in
    let r = content c.in-Some.item in
    let old = held_in c.args.self.now in
    let next = so_far_next all (rest_of c.loop-item.reader) c.loop-item.filled so r (rest_of c.next_record.new.self) c.in-Some.ensures.0 in
    rw c.tally-filled.ensures (
      next,
      c.put.ensures.rows (adds none so.records) old so.counts c.loop-item.invariant.1 ∙ ap (λ (h : Held). fronted_by h old) (sym (adds-append none so.records (r ∷ []))),
      same_trans c.args.self.now c.loop-item.self c.put.new.self c.loop-item.invariant.2 c.put.ensures.named,
    )

pub returns-clause-value : goal.returns-clause-value
returns-clause-value c =
    let all = rest_of c.model_file-reader.result in
    let so = c.loop-item.invariant.0 in
    let file = c.requires.0 in
    let old = held_in c.args.self.now in
    let same = ap (adds none) (all_come all (rest_of c.loop-item.reader) c.loop-item.filled so c.in_default.ensures.0) ∙ file_rows c.args.bytes.now all c.model_file-reader.ensures.exact file in
    leaves c.args.bytes.now file c.loop-item.filled (so.counts ∙ ap filled_by same) old (held_in c.loop-item.self) c.requires.1
    (c.loop-item.invariant.1 ∙ ap (λ (h : Held). fronted_by h old) same)
