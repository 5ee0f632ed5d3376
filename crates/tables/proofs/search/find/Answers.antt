use Rattle.std.proofs.Common.{◌+◌, ◌-◌, ◌/◌, length, Less, Equal, Greater, sym, ◌∙◌, arith}
use Rattle.std.proofs.lemmas.List.{take_rest, length-drop, length-take-le}
use Rattle.tables.specs.Halves.{no_branch}
use Rattle.tables.proofs.Halves.{halved_none, halved_step}
use Rattle.tables.proofs.search.find.Goals as goal

pub returns-in-Equal : goal.returns-in-Equal
returns-in-Equal c =
    let fuel = c.loop-middle.invariant.1 in
    let it = c.in-Some.ensures.lookup in
    let order = rw c.from.ensures at c.in-Equal.ensures in
    sym (fuel.2 ∙ halved_step fuel.0 c.args.target c.loop-middle.rest.now c.in-Some.middle.now Equal fuel.1 (omega (arith, it.3.0)) (it.4 (omega arith) no_branch) order)

pub loop-middle-preserved-in-Less : goal.loop-middle-preserved-in-Less
loop-middle-preserved-in-Less c =
    let rest = c.loop-middle.rest.now in
    let fuel = c.loop-middle.invariant.1 in
    let it = c.in-Some.ensures.lookup in
    let order = rw c.from.ensures at c.in-Less.ensures in
    let step = halved_step fuel.0 c.args.target rest c.in-Some.middle.now Less fuel.1 (omega (arith, it.3.0)) (it.4 (omega arith) no_branch) order in
    let past = length rest / 2 + 1 in
    let size = length-drop past rest in
    rw (take_rest rest past) (omega arith, (fuel.0 - 1, omega (arith, fuel.1, it.3.0), fuel.2 ∙ step))

pub loop-middle-preserved : goal.loop-middle-preserved
loop-middle-preserved c =
    let rest = c.loop-middle.rest.now in
    let fuel = c.loop-middle.invariant.1 in
    let it = c.in-Some.ensures.lookup in
    let order = rw c.from.ensures at c.in-Greater.ensures in
    let step = halved_step fuel.0 c.args.target rest c.in-Some.middle.now Greater fuel.1 (omega (arith, it.3.0)) (it.4 (omega arith) no_branch) order in
    let size = length-take-le (length rest / 2) rest (omega (arith, it.3.0)) in
    (omega arith, (fuel.0 - 1, omega (arith, fuel.1, it.3.0), fuel.2 ∙ step))

pub returns : goal.returns
returns c =
    let fuel = c.loop-middle.invariant.1 in
    sym (fuel.2 ∙ halved_none fuel.0 c.args.target c.loop-middle.rest.now (omega (arith, c.in_default.ensures.lookup.3)))
