-- Weighted sums over the targets of a choice.
use Rattle.std.proofs.Common.{◌≡◌, ℕ, ◌+◌, ◌*◌, ◌^◌, ◌<◌, ◌≤◌, min, List, length, sym, refl, ap, ◌∙◌, inl, inr, mul_assoc, mul-le-mul, mul-le-mul_left, mul-zero, mul-one, arith}
use Rattle.std.proofs.lemmas.List.{get_or_past}
use Rattle.std.proofs.lemmas.Bool.{cases_lt}
use Rattle.mdp.specs.Model.{Model}
use Rattle.mdp.specs.Sums.{sum}
use Rattle.mdp.specs.Sound.{Sound}
use Rattle.mdp.specs.Values.{entry, expect_to, expect}
use Rattle.mdp.proofs.Sums.{sum_none, sum_more, sum_past, sum_le, sum_same, sum_times}

-- the start and the step of a loop over the targets
pub expect_none : (m : Model) (v : ℕ → ℕ) (s c : ℕ) → expect_to m v s c 0 ≡ 0
unfolding expect_to
expect_none m v s c = sum_none _

pub expect_more : (m : Model) (v : ℕ → ℕ) (s c n : ℕ) → expect_to m v s c (n + 1) ≡ expect_to m v s c n + m.weight s c n * v n
unfolding expect_to
expect_more m v s c n = sum_more n _

-- values that are 0 from k on: the targets from k on count for nothing
expect_past : (m : Model) (v : ℕ → ℕ) (s c n k : ℕ) → k ≤ n → ((t : ℕ) → k ≤ t → v t ≡ 0) → expect_to m v s c n ≡ expect_to m v s c k
unfolding expect_to
expect_past m v s c n k l h = sum_past n k _ l (λ t g. ap (λ x. m.weight s c t * x) (h t g) ∙ mul-zero (m.weight s c t))

-- targets past the list of values count for nothing
pub expect_listed :
    (m : Model) (xs : List ℕ) (s c n : ℕ) → n ≡ min m.states (length xs)
    → expect_to m (entry xs) s c n ≡ expect m (entry xs) s c
expect_listed m xs s c n e =
    elim (cases_lt m.states (length xs)) [
      | inl l ↦ let same : n ≡ m.states = omega arith in rw same refl
      | inr l ↦
          let same : n ≡ length xs = omega arith in
          rw same (sym (expect_past m (entry xs) s c m.states (length xs) l (λ t g. get_or_past xs t 0 g)))
    ]

-- a weight of 32 bits times a value of 64 bits
pub product_fits : (w x : ℕ) → w < 2 ^ 32 → x < 2 ^ 64 → w * x ≤ 2 ^ 96
product_fits w x h k =
    let a : w ≤ 2 ^ 32 = omega arith in
    let b : x ≤ 2 ^ 64 = omega arith in
    mul-le-mul a b

pub expect_le : (m : Model) (v w : ℕ → ℕ) (s c : ℕ) → ((t : ℕ) → v t ≤ w t) → expect m v s c ≤ expect m w s c
unfolding expect_to
expect_le m v w s c h = sum_le m.states _ _ (λ t l. mul-le-mul_left (m.weight s c t) (h t))

pub expect_same : (m : Model) (v w : ℕ → ℕ) (s c : ℕ) → ((t : ℕ) → v t ≡ w t) → expect m v s c ≡ expect m w s c
unfolding expect_to
expect_same m v w s c h = sum_same m.states _ _ (λ t l. ap (λ x. m.weight s c t * x) (h t))

-- a common factor
pub expect_times : (m : Model) (v : ℕ → ℕ) (s c a : ℕ) → expect m (λ t. v t * a) s c ≡ expect m v s c * a
unfolding expect_to
expect_times m v s c a =
    sum_same m.states _ _ (λ t l. sym (mul_assoc (m.weight s c t) (v t) a)) ∙ sum_times m.states (λ t. m.weight s c t * v t) a

-- where every target has the value x, a full choice is worth x times the denominator
pub expect_whole :
    (m : Model) → Sound m → (s c x : ℕ) → s < m.states → c < m.choices s
    → expect m (λ t. x) s c ≡ m.denominator * x
unfolding expect_to
expect_whole m sound s c x l r = sum_times m.states (m.weight s c) x ∙ ap (λ z. z * x) (sound.full s c l r)

-- where every target has the value 1, a choice is worth the sum of its weights
pub expect_ones :
    (m : Model) (xs : List ℕ) (s c : ℕ) → m.states ≤ 256 → ((k : ℕ) → k < 256 → entry xs k ≡ 1)
    → expect m (entry xs) s c ≡ sum m.states (m.weight s c)
unfolding expect_to
expect_ones m xs s c few ones =
    sum_same m.states _ (m.weight s c) (λ t l. ap (λ x. m.weight s c t * x) (ones t (omega arith)) ∙ mul-one (m.weight s c t))
