use Rattle.std.proofs.Common.{arith}
use Rattle.std.proofs.lemmas.Result.{err_from_is_err_and}
use Rattle.records.specs.Held.{content}
use Rattle.reader.specs.Answer.{rest_of}
use Rattle.reader.proofs.Steps.{next_some}
use Rattle.filling.proofs.Readings.{next_none, so_far_next, next_fits, ends_at_fault, ends_with_file}
use Rattle.filling.proofs.counting.count.Goals as goal

pub returns-in_err-item : goal.returns-in_err-item
returns-in_err-item c =
    let p = err_from_is_err_and c.from_residual.result c.from_residual.ensures.1 in
    let all = rest_of c.model_file-reader.result in
    rw (p.1, p.2)
    (ends_at_fault c.args.bytes.now all c.model_file-reader.ensures.exact (rest_of c.loop-item.reader) c.loop-item.counts c.loop-item.invariant _ _ c.in_err-item.ensures.0)

pub tally-counts-requires : goal.tally-counts-requires
tally-counts-requires c =
    let all = rest_of c.model_file-reader.result in
    let step = next_some c.loop-item.reader c.next.new.self c.in_ok-item.field-0 (c.in-Some.field-0-0, c.in-Some.item) c.in-Some.is c.in_ok-item.ensures in
    next_fits all (rest_of c.loop-item.reader) c.loop-item.counts c.loop-item.invariant (content c.in-Some.item) (rest_of c.next.new.self) step
    c.args.bytes.now c.model_file-reader.ensures.exact.holds (omega arith)

pub loop-item-preserved : goal.loop-item-preserved
loop-item-preserved c =
    let all = rest_of c.model_file-reader.result in
    let step = next_some c.loop-item.reader c.next.new.self c.in_ok-item.field-0 (c.in-Some.field-0-0, c.in-Some.item) c.in-Some.is c.in_ok-item.ensures in
    rw c.tally-counts.ensures
    (so_far_next all (rest_of c.loop-item.reader) c.loop-item.counts c.loop-item.invariant (content c.in-Some.item) (rest_of c.next.new.self) step)

pub returns : goal.returns
returns c =
    let all = rest_of c.model_file-reader.result in
    let reader = c.next.new.self in
    let end = next_none c.loop-item.reader reader c.in_ok-item.field-0 c.in_default.is c.in_ok-item.ensures in
    ends_with_file c.args.bytes.now all c.model_file-reader.ensures.exact (rest_of c.loop-item.reader) c.loop-item.counts c.loop-item.invariant
    reader.at end (omega arith)
