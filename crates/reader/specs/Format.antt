-- What a file may be: a hand-in or a model file.
use Rattle.std.specs.Prelude.{List}
use Rattle.records.specs.Content.{Content}
use Rattle.grammar.specs.HandIn as hand_in
use Rattle.grammar.specs.ModelFile as model_file
use Rattle.grammar.specs.declared.place.Place.{Place}
use Rattle.grammar.specs.declared.place.Place.TheVariants.{HandInDue, ModelDue}
use Rattle.reader.specs.declared.format.Format.{Format}
use Rattle.reader.specs.declared.format.Format.TheVariants.{HandIn, ModelFile}

-- the records are a file of that format
abbrev pub IsFile : Format → List Content → Type 0
IsFile HandIn = hand_in.HandIn
IsFile ModelFile = model_file.ModelFile

-- where its reading starts
abbrev pub start_of : Format → Place
start_of HandIn = HandInDue
start_of ModelFile = ModelDue
