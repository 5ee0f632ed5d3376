-- The exact values, step by step, and their laws.
use Rattle.std.proofs.Common.{◌≡◌, ℕ, zero, suc, ◌+◌, ◌*◌, ◌^◌, ◌<◌, ◌≤◌, true, false, sym, ◌∙◌, inl, inr, le_trans, le_of_eq, mul_comm, pow-suc, add-one, arith}
use native.Mathlib.Nat.{pow-zero, pow-succ'}
use Rattle.std.proofs.lemmas.Bool.{cond-true, cond-false, cases_Bool, cases_lt}
use Rattle.mdp.specs.declared.extreme.Extreme.{Extreme}
use Rattle.mdp.specs.declared.extreme.Extreme.TheVariants.{Min, Max}
use Rattle.mdp.specs.Model.{Model, Bounded}
use Rattle.mdp.specs.Sums.{best}
use Rattle.mdp.specs.Sound.{Sound}
use Rattle.mdp.specs.Values.{expect, value_of, most_of, least_of, ValueLaws}
use Rattle.mdp.proofs.Expect.{expect_le, expect_times, expect_whole}
use Rattle.mdp.proofs.Bests.{best_has, best_le, best_times, least_le_largest}

module _ (e : Extreme) (m : Model) (s : ℕ) where
  pub value_goal : (n : ℕ) → m.goal s ≡ true → value_of e m n s ≡ m.denominator ^ n
  unfolding value_of
  value_goal zero g = cond-true (m.goal s) 1 0 g ∙ sym (pow-zero m.denominator)
  value_goal (suc k) g = cond-true (m.goal s) (m.denominator ^ suc k) _ g

  pub value_start : m.goal s ≡ false → value_of e m 0 s ≡ 0
  unfolding value_of
  value_start g = cond-false (m.goal s) 1 0 g

  pub value_step : (k : ℕ) → m.goal s ≡ false → value_of e m (suc k) s ≡ best e (m.choices s) (expect m (value_of e m k) s)
  unfolding value_of
  value_step k g = cond-false (m.goal s) (m.denominator ^ suc k) _ g

-- only a state of the model has choices
moves_inside : (m : Model) → Bounded m → (s c : ℕ) → c < m.choices s → s < m.states
moves_inside m b s c r = elim (cases_lt s m.states) [ inl l ↦ l | inr l ↦ absurd (let z : m.choices s ≡ 0 = b.rows s l in let x : ⊥ = omega arith in x) ]

-- no value is above the power of the denominator
pub value_whole : (e : Extreme) (m : Model) → Bounded m → Sound m → (n s : ℕ) → value_of e m n s ≤ m.denominator ^ n
value_whole e m b sound zero s =
    elim (cases_Bool (m.goal s)) [ inl g ↦ le_of_eq (value_goal e m s 0 g) | inr g ↦ rw (value_start e m s g) (omega arith) ]
value_whole e m b sound (suc k) s =
    elim (cases_Bool (m.goal s)) [
      | inl g ↦ le_of_eq (value_goal e m s (suc k) g)
      | inr g ↦
          rw (value_step e m s k g)
          (best_has (λ x. x ≤ m.denominator ^ suc k) e (m.choices s) (expect m (value_of e m k) s) (omega arith)
          (λ c r.
          let here = expect_le m (value_of e m k) (λ t. m.denominator ^ k) s c (value_whole e m b sound k) in
          rw pow-succ' (omega (arith, here, expect_whole m sound s c (m.denominator ^ k) (moves_inside m b s c r) r))))
    ]

value_order : (m : Model) (n s : ℕ) → least_of m n s ≤ most_of m n s
value_order m zero s =
    elim (cases_Bool (m.goal s)) [
      | inl g ↦ le_of_eq (value_goal Min m s 0 g ∙ sym (value_goal Max m s 0 g))
      | inr g ↦ rw (value_start Min m s g) (omega arith)
    ]
value_order m (suc k) s =
    elim (cases_Bool (m.goal s)) [
      | inl g ↦ le_of_eq (value_goal Min m s (suc k) g ∙ sym (value_goal Max m s (suc k) g))
      | inr g ↦
          rw (value_step Min m s k g, value_step Max m s k g)
          (least_le_largest (m.choices s) (expect m (least_of m k) s) (expect m (most_of m k) s)
          (λ c r. expect_le m (least_of m k) (most_of m k) s c (value_order m k)))
    ]

-- one step more keeps at least the share
value_grows : (e : Extreme) (m : Model) (k s : ℕ) → value_of e m k s * m.denominator ≤ value_of e m (suc k) s
value_grows e m zero s =
    elim (cases_Bool (m.goal s)) [
      | inl g ↦ rw (value_goal e m s 0 g, value_goal e m s 1 g, pow-suc) (omega arith)
      | inr g ↦ rw (value_start e m s g) (omega arith)
    ]
value_grows e m (suc k) s =
    elim (cases_Bool (m.goal s)) [
      | inl g ↦ rw (value_goal e m s (suc k) g, value_goal e m s (suc (suc k)) g) (le_of_eq (sym (pow-suc m.denominator (suc k))))
      | inr g ↦
          rw (value_step e m s k g, value_step e m s (suc k) g)
          (le_trans
          (le_of_eq (sym (best_times e (m.choices s) (expect m (value_of e m k) s) m.denominator)))
          (best_le e (m.choices s) _ _ (λ c r.
          le_trans
          (le_of_eq (sym (expect_times m (value_of e m k) s c m.denominator)))
          (expect_le m (λ t. value_of e m k t * m.denominator) (value_of e m (suc k)) s c (value_grows e m k)))))
    ]

pub value_laws : (m : Model) → Bounded m → (k s : ℕ) → ValueLaws m k s
value_laws m b k s =
    record {
      ordered = value_order m k s;
      whole = λ sound. value_whole Max m b sound k s;
      least_grows = grows Min;
      most_grows = grows Max;
    }
  where
    grows : (e : Extreme) → m.denominator * value_of e m k s ≤ value_of e m (k + 1) s
    grows e = rw (add-one, mul_comm m.denominator (value_of e m k s)) (value_grows e m k s)
