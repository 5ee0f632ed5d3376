use Rattle.std.proofs.Common.{◌≡◌, ◌∙◌, arith, rules}
use Rattle.writer.specs.Draft.{draft_of}
use Rattle.writer.specs.Rewriting.{rewritten}
use Rattle.writer.proofs.Copies.{reads, copying_more, copied, not_refused}
use Rattle.writer.proofs.rewriting.rewrite.Goals as goal

pub loop-item-preserved : goal.loop-item-preserved
loop-item-preserved c = (
  copying_more _ _ _ (draft_of c.loop-item.writer) c.loop-item.invariant.0 c.in-Some.item _ _ c.in-Some.ensures.0 c.in_ok-put.ensures.ok,
  c.put.ensures.named ∙ c.loop-item.invariant.1,
)

pub returns-in_err-put : goal.returns-in_err-put
returns-in_err-put c =
    let x = c.in-Some.ensures in
    let h = reads c.args.bytes.now c.in_ok-behind.behind _ _ c.hand_in-reader.ensures.exact c.in_ok-behind.ensures.1 in
    absurd (not_refused _ c.args.buffer.now _ (draft_of c.loop-item.writer) c.loop-item.invariant.0 c.args.bytes.now c.in_ok-behind.behind _ h c.hand_in-reader.ensures.exact
    c.in-Some.item _ x.0 x.1 (omega arith) _ c.in_err-put.ensures.err)

pub returns-clause-copied : goal.returns-clause-copied
returns-clause-copied c =
    let h = reads c.args.bytes.now c.in_ok-behind.behind _ _ c.hand_in-reader.ensures.exact c.in_ok-behind.ensures.1 in
    let k = c.loop-item.invariant.1 ∙ c.new-writer.ensures.named in
    let all : c.loop-item.writer.buffer.now ≡ rewritten c.in_ok-behind.behind c.args.bytes.now c.args.buffer.now =
    copied _ c.args.buffer.now _ (draft_of c.loop-item.writer) c.loop-item.invariant.0 c.args.bytes.now c.in_ok-behind.behind _ h c.hand_in-reader.ensures.exact c.in_default.ensures.0 in
    search rules
