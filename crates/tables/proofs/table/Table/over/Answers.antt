use Rattle.tables.proofs.Saying.{rows_tell}
use Rattle.tables.proofs.table.Table.over.Goals as goal

pub returns-clause-file : goal.returns-clause-file
returns-clause-file c =
    rows_tell (record {
      denominator = c.args.filled.denominator;
      states = c.part.result.now;
      choices = c.part-2.result.now;
      branches = c.part-3.result.now;
    })
