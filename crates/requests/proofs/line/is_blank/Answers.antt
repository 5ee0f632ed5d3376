use Rattle.std.proofs.Common.{◌≡◌, length, ap, tests, arith}
use Rattle.requests.specs.Line.{unblanked}
use Rattle.requests.proofs.Numbers.{only_blanks}
use Rattle.requests.proofs.line.is_blank.Goals as goal

pub returns : goal.returns
returns c =
    let left : length c.skip_blanks.result.now ≡ length (unblanked c.args.text.now) = ap length c.skip_blanks.ensures in
    let none = only_blanks c.args.text.now in
    grind (arith, tests, left, none)
