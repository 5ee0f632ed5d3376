use Rattle.std.proofs.Common.{arith}
use Rattle.std.proofs.lemmas.List.{take_all}
use Rattle.encoding.proofs.Joining.{filled_whole, filled_more, joined_more, joined_fits}
use Rattle.encoding.proofs.putting.put_parts.Goals as goal

pub slice_bounds-copy_from_slice-end : goal.slice_bounds-copy_from_slice-end
slice_bounds-copy_from_slice-end c =
    omega (arith, joined_fits c.args.parts.now c.loop-part.part-index c.loop-part-test.true)

pub loop-part-preserved : goal.loop-part-preserved
loop-part-preserved c =
    let parts = c.args.parts.now in
    let i = c.loop-part.part-index in
    let fits = joined_fits parts i c.loop-part-test.true in
    rw (joined_more parts i c.loop-part-test.true) (filled_more c.loop-part.room c.loop-part.at _ _ _ c.loop-part.invariant c.copy_from_slice.ensures.after (omega arith))

pub returns : goal.returns
returns c =
    let all = take_all c.loop-part.part-index c.args.parts.now c.loop-part-test.false in
    filled_whole c.loop-part.room c.loop-part.at _ (rw all at c.loop-part.invariant) (omega arith)
