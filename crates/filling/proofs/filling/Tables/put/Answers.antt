use Rattle.std.proofs.Common.{rules}
use Rattle.filling.specs.Fills.{held_in}
use Rattle.filling.proofs.Puts.{state_placed, choice_placed}
use Rattle.filling.proofs.filling.Tables.put.Goals as goal

pub returns-in-St-clause-rows : goal.returns-in-St-clause-rows
returns-in-St-clause-rows c =
    rw c.from.ensures (state_placed c.args.filled c.args.item (held_in c.args.self.now) c.requires c.in-St.goal c.in-St.choices c.in-St.is)

pub returns-in-Ch-clause-rows : goal.returns-in-Ch-clause-rows
returns-in-Ch-clause-rows c =
    choice_placed c.args.filled c.args.item (held_in c.args.self.now) c.requires c.in-Ch.entries c.len.result c.put_branches.new.table c.in-Ch.is (search rules) c.put_branches.ensures
