-- The model that rows hold has no weight outside.
use Rattle.std.specs.Prelude.{◌≡◌, ℕ, Bool, true, false, cond, length, drop, nat_lt, unwrap_or, refl}
use Rattle.std.proofs.Common.{ap, ◌∙◌, arith}
use Rattle.std.proofs.lemmas.List.{get_or_past, length-take}
use Rattle.std.proofs.lemmas.Bool.{le-ltb, cond-false}
use Rattle.mdp.specs.Model.{Bounded}
use Rattle.tables.specs.declared.rows.StateRow.{StateRow}
use Rattle.tables.specs.declared.rows.ChoiceRow.{ChoiceRow}
use Rattle.tables.specs.Held.{Held}
use Rattle.tables.specs.Halves.{found}
use Rattle.tables.specs.Tabled.{state_at, own_choices, own_branches, tabled}

cond_none : (b : Bool) → ◌≡◌ {A = ℕ} (cond b 0 0) 0
cond_none true = refl
cond_none false = refl

pub bounded : (h : Held) → Bounded (tabled h)
bounded h =
    record {
      goals = λ s l. ap (λ (x : StateRow). x.goal) (get_or_past h.states s _ l);
      rows = λ s l. ap (λ (x : StateRow). x.choices) (get_or_past h.states s _ l);
      past = λ s c t l.
          let own = own_choices h.choices (state_at h.states s) in
          let few = length-take (state_at h.states s).choices (drop (state_at h.states s).first h.choices) in
          ap (λ (x : ChoiceRow). cond (nat_lt t (length h.states)) (unwrap_or (found (own_branches h.branches x) t) 0) 0) (get_or_past own c _ (omega arith))
          ∙ cond_none (nat_lt t (length h.states));
      targets = λ s c t l. cond-false (nat_lt t (length h.states)) _ 0 (le-ltb t (length h.states) l);
    }
