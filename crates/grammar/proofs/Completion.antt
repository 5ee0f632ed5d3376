-- Every place can be completed, and every mark that it allows has a record that fits.
use Rattle.std.proofs.Common.{◌≡◌, ℕ, zero, suc, ◌+◌, true, ◌&&◌, leb, is_some, List, [], ◌∷◌, sym, refl, ◌∙◌, arith}
use Rattle.std.proofs.lemmas.Bool.Decides.{nat_tests}
use Rattle.std.proofs.lemmas.Bool.{false≢true, and_parts}
use Rattle.std.specs.Bool.{then_some}
use Rattle.std.specs.Option.{option_and_then}
use Rattle.records.specs.declared.content.Mark.{Mark}
use Rattle.records.specs.declared.content.Mark.TheVariants.{Md, Hd, Ce, Fl, Pc, Pm, Rw, Wf, Zz}
use Rattle.records.specs.Content.{Content, md, st, ch, hd, ce, fl, pc, pm, rw', wf, zz, mark_of}
use Rattle.grammar.specs.declared.kind.Kind.{Kind}
use Rattle.grammar.specs.Kind.{number_of}
use Rattle.grammar.specs.declared.order.Key.{Key}
use Rattle.grammar.specs.declared.place.Place.{Place}
use Rattle.grammar.specs.declared.place.Place.TheVariants.{HandInDue, ModelDue, Within, States, Done}
use Rattle.grammar.specs.HandIn.{block, precedes}
use Rattle.grammar.specs.Place.{allowed, fits, wanted}
use Rattle.grammar.proofs.Lawful.{Lawful}
use Rattle.grammar.proofs.Marks.{same_mark-true}
use Rattle.grammar.proofs.ModelSteps.{wants_choice, wants_state, choice_next, state_next}

-- in a model file: a CH without branches for each choice that is to come, an ST without choices for each state, and the end
states_complete : (n states choices : ℕ) → (rest : List Content) × Lawful (States n states choices) rest
states_complete n zero zero = (zz ∷ [], (refl, refl, refl))
states_complete n (suc s) zero = let c = states_complete n s zero in (st 0 0 ∷ c.0, state_next n s 0 0 c.0 refl c.1)
states_complete n s (suc k) = let c = states_complete n s k in (ch [] ∷ c.0, choice_next n s k [] c.0 refl c.1)

pub completes : (p : Place) → (rest : List Content) × Lawful p rest
completes HandInDue = (hd 5 0 ∷ zz ∷ [], (refl, refl, (refl, refl, refl)))
completes ModelDue = (md 0 0 ∷ zz ∷ [], (refl, refl, (refl, refl, refl)))
completes (Within kind last) = (zz ∷ [], (refl, refl, refl))
completes (States n states choices) = states_complete n states choices
completes Done = ([], refl)

-- within a hand-in: a record of the state after the last one
module _ (kind : Kind) (last : Key) where
  abbrev next_key : ℕ → Key
  next_key b = record { block = b; state = last.state + 1; high = 0; choice = 0 }

  next_state : (b : ℕ) → (leb 1 b && leb last.block b) ≡ true → is_some (option_and_then (λ k. then_some (precedes last k && true) (Within kind k)) (then_some (leb 1 b) (next_key b))) ≡ true
  next_state b e = let p : precedes last (next_key b) ≡ true = grind (arith, nat_tests) in rw ((and_parts (leb 1 b) _ e).0, p) refl

  within_record : (m : Mark) → allowed (Within kind last) m ≡ true → (r : Content) × (mark_of r ≡ m) × (fits (Within kind last) r ≡ true)
  within_record Ce a = (ce (last.state + 1) 0, refl, next_state (block (number_of kind) Ce) a)
  within_record Fl a = (fl (last.state + 1) 0, refl, next_state (block (number_of kind) Fl) a)
  within_record Pc a = (pc (last.state + 1) 0, refl, next_state (block (number_of kind) Pc) a)
  within_record Pm a = (pm (last.state + 1) 0 0, refl, next_state (block (number_of kind) Pm) a)
  within_record Rw a = (rw' (last.state + 1) 0, refl, next_state (block (number_of kind) Rw) a)
  within_record Wf a = (wf (last.state + 1) 0 0 0 [], refl, next_state (block (number_of kind) Wf) a)
  within_record Zz a = (zz, refl, refl)
  within_record m a = absurd (false≢true a)

-- in a model file: the mark that is next
states_record : (n states choices : ℕ) (m : Mark) → m ≡ wanted states choices → (r : Content) × (mark_of r ≡ m) × (fits (States n states choices) r ≡ true)
states_record n zero zero m e = (zz, sym e, refl)
states_record n (suc s) zero m e = (st 0 0, sym (e ∙ wants_state s), refl)
states_record n s (suc k) m e = (ch [], sym (e ∙ wants_choice s k), refl)

-- a record of each mark that is allowed
pub some_record : (p : Place) (m : Mark) → allowed p m ≡ true → (r : Content) × (mark_of r ≡ m) × (fits p r ≡ true)
some_record HandInDue m a = (hd 5 0, sym (same_mark-true m Hd a), refl)
some_record ModelDue m a = (md 0 0, sym (same_mark-true m Md a), refl)
some_record (Within kind last) m a = within_record kind last m a
some_record (States n states choices) m a = states_record n states choices m (same_mark-true m (wanted states choices) a)
some_record Done m a = absurd (false≢true a)
