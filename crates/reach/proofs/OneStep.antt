-- One step of the values, as it is worked out.
use Rattle.std.proofs.Common.{◌≡◌, ℕ, suc, ◌+◌, ◌*◌, ◌^◌, ◌<◌, ◌≤◌, min, cond, List, length, get_or, sym, refl, ap, ◌∙◌, subst, inl, inr, pow-suc, add-one, arith}
use native.Mathlib.Nat.{pow-le-pow_right}
use Rattle.std.proofs.lemmas.List.{get_or_past}
use Rattle.std.proofs.lemmas.Bool.{cond-true, cond-false, cases_Bool, cases_lt}
use Rattle.mdp.specs.declared.extreme.Extreme.{Extreme}
use Rattle.mdp.specs.Model.{Model, Bounded}
use Rattle.mdp.specs.Sound.{Sound}
use Rattle.mdp.specs.Values.{entry, expect, value_of}
use Rattle.reach.specs.Reach.{OutOfRange}
use Rattle.reach.specs.Working.{next_value}
use Rattle.mdp.proofs.Expect.{expect_same}
use Rattle.mdp.proofs.Bests.{best_none, best_same}
use Rattle.mdp.proofs.Values.{value_goal, value_step, value_whole}

-- outside the model a step gives 0
pub next_outside : (e : Extreme) (m : Model) → Bounded m → (power : ℕ) (v : ℕ → ℕ) (s : ℕ) → m.states ≤ s → next_value e m power v s ≡ 0
next_outside e m b power v s l =
    cond-false (m.goal s) power _ (b.goals s l)
    ∙ rw (b.rows s l, best_none e (expect m v s)) refl

-- for a sound model a step from the values of k steps gives those of one step more, while the power is in range
next_value_is :
    (e : Extreme) (m : Model) → Bounded m → Sound m → (v : ℕ → ℕ) (k s : ℕ) → ((t : ℕ) → v t ≡ value_of e m k t)
    → m.denominator ^ suc k ≤ 2 ^ 62
    → next_value e m (m.denominator ^ suc k) v s ≡ value_of e m (suc k) s
next_value_is e m b sound v k s h small =
    elim (cases_Bool (m.goal s)) [
      | inl g ↦ cond-true (m.goal s) (m.denominator ^ suc k) _ g ∙ sym (value_goal e m s (suc k) g)
      | inr g ↦
          let same = best_same e (m.choices s) (expect m v s) (expect m (value_of e m k) s) (λ c r. expect_same m v (value_of e m k) s c h) in
          let is = value_step e m s k g in
          let whole = value_whole e m b sound (suc k) s in
          cond-false (m.goal s) (m.denominator ^ suc k) _ g ∙ omega (arith, same, is, whole, small)
    ]

-- a list of 256 numbers that agrees with f below 256, where f is 0 from 256 on
agrees_everywhere :
    (xs : List ℕ) (f : ℕ → ℕ) → length xs ≡ 256 → ((s : ℕ) → s < 256 → get_or xs s 0 ≡ f s) → ((s : ℕ) → 256 ≤ s → f s ≡ 0)
    → (s : ℕ) → entry xs s ≡ f s
agrees_everywhere xs f long h past s =
    elim (cases_lt s 256) [ inl l ↦ h s l | inr l ↦ get_or_past xs s 0 (omega arith) ∙ sym (past s l) ]

-- the marks of the states that were gone through, and zeros past them
pub marks_below :
    (m : Model) → Bounded m → (xs : List ℕ) (n : ℕ) → n ≡ min m.states 256
    → ((s : ℕ) → s < n → get_or xs s 0 ≡ cond (m.goal s) 1 0) → ((s : ℕ) → n ≤ s → get_or xs s 0 ≡ 0)
    → (s : ℕ) → s < 256 → get_or xs s 0 ≡ cond (m.goal s) 1 0
marks_below m b xs n is marks zeros s l =
    elim (cases_lt s n) [
      | inl r ↦ marks s r
      | inr r ↦ zeros s r ∙ sym (cond-false (m.goal s) 1 0 (b.goals s (omega arith)))
    ]

module _ (e : Extreme) (m : Model) (b : Bounded m) (sound : Sound m) (xs : List ℕ) (long : length xs ≡ 256) where
  -- the values for no steps
  pub first_values : ((s : ℕ) → s < 256 → get_or xs s 0 ≡ cond (m.goal s) 1 0) → (s : ℕ) → entry xs s ≡ value_of e m 0 s
  unfolding value_of
  first_values h =
      agrees_everywhere xs (λ s. cond (m.goal s) 1 0) long h
      (λ s l. cond-false (m.goal s) 1 0 (b.goals s (omega (arith, sound.few_states))))

  -- the values for one step more than k
  pub next_values :
      (v : ℕ → ℕ) (k power : ℕ) → ((t : ℕ) → v t ≡ value_of e m k t) → power ≡ m.denominator ^ (k + 1) → power ≤ 2 ^ 62
      → ((s : ℕ) → s < 256 → get_or xs s 0 ≡ next_value e m power v s)
      → (s : ℕ) → entry xs s ≡ value_of e m (k + 1) s
  next_values v k power old is small h s =
      let whole : power ≡ m.denominator ^ suc k = is ∙ ap (λ i. m.denominator ^ i) (add-one k) in
      let near : m.denominator ^ suc k ≤ 2 ^ 62 = subst (λ p. p ≤ 2 ^ 62) whole small in
      agrees_everywhere xs (next_value e m power v) long h (λ t l. next_outside e m b power v t (omega (arith, sound.few_states))) s
      ∙ ap (λ p. next_value e m p v s) whole
      ∙ next_value_is e m b sound v k s old near
      ∙ ap (λ i. value_of e m i s) (sym (add-one k))

-- one more power of the denominator
pub power_more : (d k p x : ℕ) → p ≡ d ^ k → x ≡ d → p * x ≡ d ^ (k + 1)
power_more d k p x e f = rw (e, f, add-one, pow-suc) refl

-- what is out of range stays so with more steps
pub out_of_range_later : (d k n : ℕ) → k + 1 ≤ n → n ≤ 1000 → OutOfRange (k + 1) (d ^ (k + 1)) → OutOfRange n (d ^ n)
out_of_range_later d k n l near (inl far) = absurd (let z : ⊥ = omega arith in z)
out_of_range_later d k n l near (inr far) =
    elim (cases_lt 0 d) [
      | inl some ↦ inr (omega (arith, far, pow-le-pow_right {n = d} some l))
      | inr none ↦
          let zero-power : d ^ (k + 1) ≡ 0 = let z : d ≡ 0 = omega arith in rw (z, add-one, pow-suc) (omega arith) in
          absurd (let z : ⊥ = omega (arith, zero-power, far) in z)
    ]
