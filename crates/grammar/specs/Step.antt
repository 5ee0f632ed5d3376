-- What is answered to a record that is to follow at a place.
use Rattle.std.specs.Prelude.{Bool, cond, ◌&&◌, Ok, Err, Result}
use Rattle.records.specs.Content.{Content, mark_of}
use Rattle.grammar.specs.declared.place.Place.{Place}
use Rattle.grammar.specs.declared.step.Misfit.{Misfit}
use Rattle.grammar.specs.declared.step.Misfit.TheVariants.{BadMark, BadField}
use Rattle.grammar.specs.Place.{allowed, fits, after}

-- the place behind the record, where its mark is allowed and its fields and its order are right; `whole` says that its entries are
abbrev pub step : Place → Bool → Content → Result Place Misfit
step p whole r = cond (allowed p (mark_of r)) (cond (whole && fits p r) (Ok (after p r)) (Err BadField)) (Err BadMark)
