-- Which number of classes makes a list lawful, and that no other does.
use Rattle.std.proofs.Common.{◌≡◌, ℕ, ◌-◌, ◌<◌, ◌≤◌, Bool, true, false, Decides, List, ◌++◌, length, get_or, drop, Some, None, sym, refl, ap, ◌∙◌, inl, inr, arith}
use Rattle.std.proofs.lemmas.List.{get_or_append_left, get_or-append_right, get_or-drop, get_or_past}
use Rattle.std.proofs.lemmas.Bool.{cases_lt, false≢true}
use Rattle.std.specs.Bool.{then_some}
use Rattle.mdp.specs.Model.{Model}
use Rattle.mdp.specs.Values.{entry}
use Rattle.quotient.specs.Classes.{Occurs, Lawful, Counts}
use Rattle.quotient.specs.Working.{Fits, OneAbove, IsNamed, IsAgreed}

occurs_below : (cls : ℕ → ℕ) (n k a : ℕ) → n ≡ k → Occurs cls n a → Occurs cls k a
occurs_below cls n k a e o = record { state = o.state; within = omega (arith, o.within); named = o.named }

-- a lawful list has as many classes as its classes reach
same_count :
    (m : Model) (xs : List ℕ) (r k : ℕ) → OneAbove xs r → Lawful m (entry xs) (length xs) k → r ≡ k
same_count m xs r k h w =
    let up : r ≤ k = h.1 k (λ s l. w.within s (omega (arith, w.whole))) in
    elim (cases_lt r k) [
      | inl l ↦
          let o = w.occur r l in
          absurd (omega (arith, o.named, w.whole, h.0 o.state (omega (arith, o.within, w.whole))))
      | inr l ↦ omega arith
    ]

-- a list whose classes all occur and whose classmates agree is lawful, and no other
pub counted :
    (m : Model) (xs : List ℕ) (r : ℕ) (b : Bool) → Fits m xs → OneAbove xs r
    → Decides b (((a : ℕ) → a < r → IsNamed xs a) × ((s : ℕ) → s < length xs → IsAgreed m xs s))
    → Counts m xs (then_some b r)
counted m xs r true fits h d =
    let p = d.0 refl in
    record {
      every = λ k w. ap Some (same_count m xs r k h w);
      holds =
          record {
            some_states = fits.0;
            few_states = fits.1;
            whole = fits.2;
            within = λ s l. h.0 s (omega (arith, fits.2));
            occur = λ a l. occurs_below (entry xs) (length xs) m.states a fits.2 (p.0 a l);
            agree = λ s l t k. p.1 s (omega (arith, fits.2)) t (omega (arith, fits.2));
          };
    }
counted m xs r false fits h d =
    record {
      every = λ k w.
          let same : r ≡ k = same_count m xs r k h w in
          absurd
          (false≢true
          (d.1 (
            λ a l. occurs_below (entry xs) m.states (length xs) a (sym fits.2) (w.occur a (omega arith)),
            λ s l t k. w.agree s (omega (arith, fits.2)) t (omega (arith, fits.2)),
          )));
      holds = tt;
    }

-- a list that does not fit is not lawful
pub unfit : (m : Model) (xs : List ℕ) → (Fits m xs → ⊥) → Counts m xs None
unfit m xs h = record { every = λ k w. absurd (h (w.some_states, w.few_states, w.whole)); holds = tt }

-- a list that is the same at every place is as lawful
pub lawful_copy :
    (m : Model) (cls copy : ℕ → ℕ) (listed count : ℕ) → ((k : ℕ) → copy k ≡ cls k) → Lawful m cls listed count
    → Lawful m copy listed count
lawful_copy m cls copy listed count same w =
    record {
      some_states = w.some_states;
      few_states = w.few_states;
      whole = w.whole;
      within = λ s l. omega (arith, same s, w.within s l);
      occur = λ a l. let p = w.occur a l in record { state = p.state; within = p.within; named = same p.state ∙ p.named };
      agree = λ s l t j e. w.agree s l t j (sym (same s) ∙ e ∙ same t);
    }

-- a list with zeros behind it is the same at every place
pub padded :
    (xs ys zs : List ℕ) → ys ≡ xs → ((k : ℕ) → get_or zs k 0 ≡ 0) → (k : ℕ) → get_or (ys ++ drop (length xs) zs) k 0 ≡ get_or xs k 0
padded xs ys zs e h k =
    rw e
    (elim (cases_lt k (length xs)) [
      | inl l ↦ get_or_append_left xs (drop (length xs) zs) 0 k l
      | inr l ↦
          get_or-append_right xs (drop (length xs) zs) (length xs) k 0 refl l
          ∙ get_or-drop (length xs) zs (k - length xs) 0
          ∙ h _
          ∙ sym (get_or_past xs k 0 l)
    ])
