use Rattle.sink.proofs.Sinks.{sinked_sound}
use Rattle.sink.proofs.Sink.is_sound_once_sinked.Goals as goal

pub returns : goal.returns
returns g c = sinked_sound (g.S.Source.meaning c.args.self.now.below)
