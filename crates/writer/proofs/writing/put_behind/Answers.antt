use Rattle.std.proofs.Common.{◌≡◌, ℕ, Ok, Err, Result, refl, sym, ◌∙◌, rules}
use Rattle.std.specs.Result.{MatchResult, IsErrAnd}
use Rattle.std.proofs.lemmas.Result.{err_from_is_err_and}
use Rattle.grammar.specs.declared.place.Place.{Place}
use Rattle.grammar.specs.declared.step.Misfit.{Misfit}
use Rattle.writer.specs.declared.fault.WriteFault.{WriteFault}
use Rattle.writer.specs.declared.fault.WriteFault.TheVariants.{NoRoom}
use Rattle.writer.specs.Draft.{draft}
use Rattle.writer.specs.Faults.{fault_of}
use Rattle.writer.proofs.Puts.{takes, lacks_room, refuses}
use Rattle.writer.proofs.writing.put_behind.Goals as goal

-- what `map_err` says of what it was called on
record Refused (s : Result Place Misfit) (Q : Misfit → WriteFault → Type 0) (f : WriteFault) : Type 0 where
  misfit : Misfit
  is : s ≡ Err misfit
  by : Q misfit f

module _ (m : Result Place WriteFault) (Q : Misfit → WriteFault → Type 0) where
  passed : (s : Result Place Misfit) (q : Place) → m ≡ Ok q → MatchResult s (λ x. m ≡ Ok x) (λ e. IsErrAnd m (Q e)) → s ≡ Ok q
  passed (Ok x) q e h = cc
  passed (Err x) q e h = let p = err_from_is_err_and m h in cc (p.1)

  refused : (s : Result Place Misfit) (f : WriteFault) → m ≡ Err f → MatchResult s (λ x. m ≡ Ok x) (λ e. IsErrAnd m (Q e)) → Refused s Q f
  refused (Ok x) f e h = absurd (cc)
  refused (Err x) f e h = let p = err_from_is_err_and m h in let y : p.0 ≡ f = cc (p.1) in record { misfit = x; is = refl; by = rw y at (p.2) }

no_room : (f : WriteFault) → ◌≡◌ {A = Result ℕ WriteFault} (Err f) (Err NoRoom) → f ≡ NoRoom
no_room f e = cc

pub returns-in_err-place-clause-err : goal.returns-in_err-place-clause-err
returns-in_err-place-clause-err c =
    let d = draft c.args.buffer.now c.args.written in
    let p = err_from_is_err_and c.from_residual.result c.from_residual.ensures.1 in
    let r = refused _ _ c.step.result _ c.in_err-place.was c.map_err.ensures.cases in
    let e : c.in_err-place.field-0.0 ≡ fault_of r.misfit d.len = search rules in
    rw (p.1, p.2) (refuses d c.args.item r.misfit _ (sym r.is ∙ c.step.ensures) e)

pub returns-in_err-len-clause-err : goal.returns-in_err-len-clause-err
returns-in_err-len-clause-err c =
    let d = draft c.args.buffer.now c.args.written in
    let p = err_from_is_err_and c.from_residual-in_err-len.result c.from_residual-in_err-len.ensures.1 in
    let s = passed _ _ c.step.result _ c.in_ok-place.was c.map_err.ensures.cases in
    let f = no_room _ (rw c.in_err-len.ensures.ok_part at c.in_err-len.ensures.value) in
    rw (p.1, p.2, f) (lacks_room d c.args.item _ c.in_ok-place.place (sym s ∙ c.step.ensures) (rw c.in_err-len.ensures.ok_part at c.encode.ensures))

pub returns-clause-ok : goal.returns-clause-ok
returns-clause-ok c =
    let d = draft c.args.buffer.now c.args.written in
    let s = passed _ _ c.step.result _ c.in_ok-place.was c.map_err.ensures.cases in
    takes d c.args.item _ c.in_ok-len.len c.in_ok-place.place (sym s ∙ c.step.ensures) (rw c.in_ok-len.ensures.ok_part at c.encode.ensures)
