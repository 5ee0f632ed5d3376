use Rattle.std.proofs.Common.{refl, rules}
use Rattle.std.proofs.lemmas.Result.{err_from_is_err_and}
use Rattle.reader.proofs.Steps.{read_refused}
use Rattle.reader.proofs.reading.Reader.next.Goals as goal

pub returns-in_err-item : goal.returns-in_err-item
returns-in_err-item c =
    let r = c.args.self.now in
    let p = err_from_is_err_and c.from_residual.result c.from_residual.ensures.1 in
    rw (p.1, p.2) (read_refused r.place r.bytes.now r.at _ _ (search rules) c.in_err-item.ensures.value, refl)
