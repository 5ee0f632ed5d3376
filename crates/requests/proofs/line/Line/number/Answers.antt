use Rattle.std.proofs.Common.{◌≡◌, rules}
use Rattle.requests.specs.Line.{digits}
use Rattle.requests.proofs.Numbers.{digits_utf8, digits_parsed}
use Rattle.requests.proofs.line.Line.number.Goals as goal

pub returns-in_err-digits : goal.returns-in_err-digits
returns-in_err-digits c =
    let text = rw (← c.split_digits.ensures.digits) at (digits_utf8 c.args.self.now.rest.now) in
    search (rules, text)

pub returns-in_err-n : goal.returns-in_err-n
returns-in_err-n c =
    let same : c.in_ok-digits.digits.now ≡ digits c.args.self.now.rest.now = search (rules, c.split_digits.ensures.digits) in
    let read = digits_parsed c.args.self.now.rest.now _ c.parse.result same c.parse.ensures.value.0 in
    search (rules, read)

pub returns : goal.returns
returns c =
    let same : c.in_ok-digits.digits.now ≡ digits c.args.self.now.rest.now = search (rules, c.split_digits.ensures.digits) in
    let read = digits_parsed c.args.self.now.rest.now _ c.parse.result same c.parse.ensures.value.0 in
    search (rules, read)
