use native.Mathlib.Nat.{sub-zero}
use Rattle.std.proofs.Common.{◌≡◌, ◌∙◌, List, [], ◌∷◌, map, Option, Some, None, sym, refl, rules}
use mathlib.Core.List.{map-id}
use denote.Param.Members.{Mut}
use Rattle.std.specs.Iterator.{ReducesItems, ActsAsOnTwo}
use Rattle.std.specs.List.{fold, reduce, range_with_len}
use Rattle.std.proofs.lemmas.Fn.{fold_same}
use Rattle.std.proofs.lemmas.Grind.{fold-append}
use Rattle.std.proofs.lemmas.Iterator.{YieldsList, YieldsList-from_range, YieldsList-from_map, items_from_drains}
use Rattle.mdp.specs.Sums.{better}
use Rattle.mdp.proofs.Bests.{best_reduced}
use Rattle.mdp.proofs.extreme.Extreme.best.Goals as goal

-- what `reduce` gives where each call of the closure gives what h does
reduced_by :
    {S A F : Type 0} {steps : S → Option A → S → Type 0} {s : S} {all : List A} (g : Mut F (A × (A × Unit {0})) A) (h : A → A → A) (f : F) (r : Option A)
    → ReducesItems steps g s f r → YieldsList steps (λ x. x) s all → ActsAsOnTwo g f h → r ≡ reduce h all
reduced_by {steps = steps} {s = s} {all = all} g h f None none road acts =
    let e : [] ≡ all = items_from_drains {steps = steps} {s = s} [] (none.1.0, none.1.1, λ _. (none.0, none.1.2)) road in
    rw (sym e) refl
reduced_by {steps = steps} {s = s} {all = all} g h f (Some y) turns road acts =
    let x = turns.0 in
    let xs = turns.1 in
    let drained = turns.3 in
    let e : x ∷ xs ≡ all =
    sym (map-id (x ∷ xs))
    ∙ items_from_drains {steps = steps} {s = s} (x ∷ xs) (drained.1.0, drained.1.1, λ _. (drained.0, drained.1.2)) road in
    let same : y ≡ fold h x xs =
    fold_same g (λ zs b. b ≡ fold h x zs) f
    (λ zs a z b q is call. ((acts a z b q call).1 ∙ rw (is, fold-append h x zs (z ∷ [])) refl, (acts a z b q call).0))
    xs x y turns.2 refl turns.4 in
    rw (sym e, same) refl

-- `map` calls the closure as one that may change: a `Fn` stays as it is, and gives what its calls give
pub returns : goal.returns
returns g c = λ f offers.
    let n = c.args.n in
    let stays = g.met.F.Fn.1.step_stays in
    let gives = g.met.F.FnMut.1.post_iff in
    let e : c.reduce.result ≡ reduce (better c.args.self) (map f (range_with_len 0 n)) =
    reduced_by _ (better c.args.self) _ c.reduce.result c.reduce.ensures.ran
    (YieldsList-from_map _ f (YieldsList-from_range 0 n n c.map.ensures.source (sub-zero n)) c.map.ensures.closure
    (λ x r q k. (stays _ (x, tt) r q k, offers x r ((gives _ (x, tt) r).1 (q, k)))))
    (λ x y r q k. search rules) in
    rw (c.unwrap_or.ensures, e) (best_reduced c.args.self n f)
