-- The least and the largest over the numbers below n.
use Rattle.std.proofs.Common.{◌≡◌, ℕ, zero, suc, ◌+◌, [], ◌∷◌, ◌++◌, map, ◌*◌, ◌<◌, ◌≤◌, ◌⊎◌, sym, refl, ap, ◌∙◌, subst, ap₂, inl, inr, le_of_lt, mul-le-mul_right, add-one, arith}
use Rattle.std.specs.List.{fold, reduce, range_with_len}
use Rattle.std.specs.Option.{unwrap_or}
use Rattle.std.proofs.lemmas.Grind.{fold-append}
use Rattle.std.proofs.lemmas.List.FromFn.{map-range_with_len_more}
use native.Mathlib.Nat.{max-eq_left, max-eq_right, min-eq_left, min-eq_right}
use Rattle.std.proofs.lemmas.Bool.{cases_lt}
use Rattle.mdp.specs.declared.extreme.Extreme.{Extreme}
use Rattle.mdp.specs.declared.extreme.Extreme.TheVariants.{Min, Max}
use Rattle.mdp.specs.Sums.{better, best}

-- of no numbers it is 0
pub best_none : (e : Extreme) (f : ℕ → ℕ) → best e 0 f ≡ 0
unfolding best
best_none e f = refl

better_is : (e : Extreme) (x y : ℕ) → (better e x y ≡ x) ⊎ (better e x y ≡ y)
better_is Min x y = elim (cases_lt x y) [ inl l ↦ inl (min-eq_left (le_of_lt l)) | inr l ↦ inr (min-eq_right l) ]
better_is Max x y = elim (cases_lt x y) [ inl l ↦ inr (max-eq_right (le_of_lt l)) | inr l ↦ inl (max-eq_left l) ]

better_le : (e : Extreme) (x y u v : ℕ) → x ≤ u → y ≤ v → better e x y ≤ better e u v
better_le Min x y u v h k = omega arith
better_le Max x y u v h k = omega arith

better_times : (e : Extreme) (x y a : ℕ) → better e (x * a) (y * a) ≡ better e x y * a
better_times Min x y a =
    elim (cases_lt x y) [
      | inl l ↦ let p : x ≤ y = omega arith in rw (min-eq_left p, min-eq_left (mul-le-mul_right a p)) refl
      | inr l ↦ rw (min-eq_right l, min-eq_right (mul-le-mul_right a l)) refl
    ]
better_times Max x y a =
    elim (cases_lt x y) [
      | inl l ↦ let p : x ≤ y = omega arith in rw (max-eq_right p, max-eq_right (mul-le-mul_right a p)) refl
      | inr l ↦ rw (max-eq_left l, max-eq_left (mul-le-mul_right a l)) refl
    ]

-- what holds of 0 and of each number holds of the best
pub best_has : (P : ℕ → Type 0) (e : Extreme) (n : ℕ) (f : ℕ → ℕ) → P 0 → ((c : ℕ) → c < n → P (f c)) → P (best e n f)
unfolding best
best_has P e zero f z h = z
best_has P e (suc zero) f z h = h 0 (omega arith)
best_has P e (suc (suc n)) f z h =
    elim (better_is e (best e (suc n) f) (f (suc n))) [
      | inl is ↦ subst P (sym is) (best_has P e (suc n) f z (λ c l. h c (omega arith)))
      | inr is ↦ subst P (sym is) (h (suc n) (omega arith))
    ]

pub best_le : (e : Extreme) (n : ℕ) (f g : ℕ → ℕ) → ((c : ℕ) → c < n → f c ≤ g c) → best e n f ≤ best e n g
unfolding best
best_le e zero f g h = omega arith
best_le e (suc zero) f g h = h 0 (omega arith)
best_le e (suc (suc n)) f g h =
    better_le e (best e (suc n) f) (f (suc n)) (best e (suc n) g) (g (suc n))
    (best_le e (suc n) f g (λ c l. h c (omega arith)))
    (h (suc n) (omega arith))

pub best_same : (e : Extreme) (n : ℕ) (f g : ℕ → ℕ) → ((c : ℕ) → c < n → f c ≡ g c) → best e n f ≡ best e n g
unfolding best
best_same e zero f g h = refl
best_same e (suc zero) f g h = h 0 (omega arith)
best_same e (suc (suc n)) f g h = ap₂ (better e) (best_same e (suc n) f g (λ c l. h c (omega arith))) (h (suc n) (omega arith))

pub best_times : (e : Extreme) (n : ℕ) (f : ℕ → ℕ) (a : ℕ) → best e n (λ c. f c * a) ≡ best e n f * a
unfolding best
best_times e zero f a = omega arith
best_times e (suc zero) f a = refl
best_times e (suc (suc n)) f a =
    ap (λ x. better e x (f (suc n) * a)) (best_times e (suc n) f a) ∙ better_times e (best e (suc n) f) (f (suc n)) a

-- the least of smaller numbers is no larger than the largest of larger ones
pub least_le_largest : (n : ℕ) (f g : ℕ → ℕ) → ((c : ℕ) → c < n → f c ≤ g c) → best Min n f ≤ best Max n g
unfolding best
least_le_largest zero f g h = omega arith
least_le_largest (suc zero) f g h = h 0 (omega arith)
least_le_largest (suc (suc n)) f g h =
    omega (arith, least_le_largest (suc n) f g (λ c l. h c (omega arith)), h (suc n) (omega arith))

-- the best over the numbers below n is what a reduction of the list of all offers gives
folded : (e : Extreme) (n : ℕ) (f : ℕ → ℕ) → fold (better e) (f 0) (map f (range_with_len 1 n)) ≡ best e (suc n) f
unfolding best
folded e zero f = refl
folded e (suc n) f =
    let last : map f (range_with_len 1 (n + 1)) ≡ map f (range_with_len 1 n) ++ f (suc n) ∷ [] = map-range_with_len_more f 1 n (suc n) (omega arith) in
    let long : map f (range_with_len 1 (suc n)) ≡ map f (range_with_len 1 n) ++ f (suc n) ∷ [] = rw add-one at last in
    rw (long, fold-append (better e) (f 0) (map f (range_with_len 1 n)) (f (suc n) ∷ []), folded e n f) refl

pub best_reduced : (e : Extreme) (n : ℕ) (f : ℕ → ℕ) → unwrap_or (reduce (better e) (map f (range_with_len 0 n))) 0 ≡ best e n f
best_reduced e zero f = sym (best_none e f)
best_reduced e (suc n) f = folded e n f
