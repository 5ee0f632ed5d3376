-- What a step's answer says of the tests behind it.
use Rattle.std.proofs.Common.{◌≡◌, Bool, true, false, cond, Ok, Err, Result, refl}
use Rattle.grammar.specs.declared.place.Place.{Place}
use Rattle.grammar.specs.declared.step.Misfit.{Misfit}
use Rattle.grammar.specs.declared.step.Misfit.TheVariants.{BadMark, BadField}

-- a and b are the tests, of the mark and of the rest
abbrev answer : Bool → Bool → Place → Result Place Misfit
answer a b q = cond a (cond b (Ok q) (Err BadField)) (Err BadMark)

pub ok_passes : (a b : Bool) (q s : Place) → Ok s ≡ answer a b q → (a ≡ true) × (b ≡ true) × (s ≡ q)
ok_passes true true q s e = (refl, refl, cc)
ok_passes true false q s e = absurd (cc)
ok_passes false b q s e = absurd (cc)

pub bad_mark_fails : (a b : Bool) (q : Place) → Err BadMark ≡ answer a b q → a ≡ false
bad_mark_fails true true q e = absurd (cc)
bad_mark_fails true false q e = absurd (cc)
bad_mark_fails false b q e = refl

pub bad_field_fails : (a b : Bool) (q : Place) → Err BadField ≡ answer a b q → (a ≡ true) × (b ≡ false)
bad_field_fails true true q e = absurd (cc)
bad_field_fails true false q e = (refl, refl)
bad_field_fails false b q e = absurd (cc)
