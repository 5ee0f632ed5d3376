use Rattle.std.proofs.Common.{[], ◌∷◌, ap, ◌∙◌, rules}
use Rattle.reader.specs.Exact.{prefixed}
use Rattle.reader.specs.Answer.{rest_of}
use Rattle.reader.proofs.Steps.{prefixed_twice, next_more}
use Rattle.reader.proofs.reading.Reader.finish.Goals as goal

pub loop-preserved : goal.loop-preserved
loop-preserved c =
    let v = c.loop.invariant in
    let n = next_more c.loop.self c.next.new.self c.in_ok-next.field-0 (search rules) c.in_ok-next.ensures in
    (_, v.1 ∙ ap (prefixed v.0) n.1 ∙ prefixed_twice v.0 (n.0 ∷ []) (rest_of c.next.new.self))
