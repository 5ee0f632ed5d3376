use Rattle.reader.proofs.WholeFiles.{exactly_file}
use Rattle.reader.proofs.reading.Reader.of.Goals as goal

pub returns-clause-exact : goal.returns-clause-exact
returns-clause-exact c = rw c.start.ensures (exactly_file c.args.format c.args.bytes.now (λ j. (c.type_inv.bytes j).fits) c.args.at)
