use Rattle.reader.specs.Format.{IsFile}
use Rattle.reader.proofs.WholeFiles.{sole}
use Rattle.reader.proofs.reading.read_whole.Goals as goal

pub returns : goal.returns
returns c =
    sole (IsFile c.args.format) c.of.result c.args.bytes.now c.of.ensures.bytes c.of.ensures.exact c.finish_all.result c.finish_all.ensures
