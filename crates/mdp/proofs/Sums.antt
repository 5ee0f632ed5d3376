-- Sums over the numbers below n.
use Rattle.std.proofs.Common.{◌≡◌, ℕ, zero, suc, ◌+◌, ◌*◌, ◌<◌, ◌≤◌, cond, eqb, sym, refl, ap, ◌∙◌, inl, inr, add-one, arith}
use Rattle.std.proofs.lemmas.Bool.{eq-eqb, ne_eqb, cases_eq, cond-true, cond-false}
use Rattle.mdp.specs.Sums.{sum}

-- the start and the step of a loop that adds up
pub sum_none : (f : ℕ → ℕ) → sum 0 f ≡ 0
unfolding sum
sum_none f = refl

pub sum_more : (n : ℕ) (f : ℕ → ℕ) → sum (n + 1) f ≡ sum n f + f n
unfolding sum
sum_more n f = rw add-one refl

pub sum_le : (n : ℕ) (f g : ℕ → ℕ) → ((t : ℕ) → t < n → f t ≤ g t) → sum n f ≤ sum n g
unfolding sum
sum_le zero f g h = omega arith
sum_le (suc n) f g h = omega (arith, sum_le n f g (λ t l. h t (omega arith)), h n (omega arith))

pub sum_same : (n : ℕ) (f g : ℕ → ℕ) → ((t : ℕ) → t < n → f t ≡ g t) → sum n f ≡ sum n g
unfolding sum
sum_same zero f g h = refl
sum_same (suc n) f g h = omega (arith, sum_same n f g (λ t l. h t (omega arith)), h n (omega arith))

pub sum_zero : (n : ℕ) (f : ℕ → ℕ) → ((t : ℕ) → t < n → f t ≡ 0) → sum n f ≡ 0
unfolding sum
sum_zero zero f h = refl
sum_zero (suc n) f h = omega (arith, sum_zero n f (λ t l. h t (omega arith)), h n (omega arith))

pub sum_add : (n : ℕ) (f g : ℕ → ℕ) → sum n (λ t. f t + g t) ≡ sum n f + sum n g
unfolding sum
sum_add zero f g = refl
sum_add (suc n) f g = omega (arith, sum_add n f g)

pub sum_times : (n : ℕ) (f : ℕ → ℕ) (a : ℕ) → sum n (λ t. f t * a) ≡ sum n f * a
unfolding sum
sum_times zero f a = omega arith
sum_times (suc n) f a = omega (arith, sum_times n f a)

pub sum_swap : (n k : ℕ) (f : ℕ → ℕ → ℕ) → sum n (λ i. sum k (λ j. f i j)) ≡ sum k (λ j. sum n (λ i. f i j))
unfolding sum
sum_swap zero k f = sym (sum_zero k (λ j. 0) (λ t l. refl))
sum_swap (suc n) k f = ap (λ x. x + sum k (λ j. f n j)) (sum_swap n k f) ∙ sym (sum_add k (λ j. sum n (λ i. f i j)) (λ j. f n j))

-- no term is above the sum
pub le_sum : (n : ℕ) (f : ℕ → ℕ) (t : ℕ) → t < n → f t ≤ sum n f
unfolding sum
le_sum zero f t l = omega arith
le_sum (suc n) f t l = elim (cases_eq t n) [ inl e ↦ omega (arith, ap f e) | inr e ↦ omega (arith, le_sum n f t (omega arith)) ]

-- a longer sum is no smaller
pub sum_grows : (n k : ℕ) (f : ℕ → ℕ) → n ≤ k → sum n f ≤ sum k f
unfolding sum
sum_grows n zero f l = let e : n ≡ 0 = omega arith in rw e (omega arith)
sum_grows n (suc k) f l =
    elim (cases_eq n (suc k)) [ inl e ↦ rw e (omega arith) | inr e ↦ omega (arith, sum_grows n k f (omega arith)) ]

-- one term alone is not 0
pub sum_only : (n k : ℕ) (f : ℕ → ℕ) → k < n → ((t : ℕ) → t < n → (t ≡ k → ⊥) → f t ≡ 0) → sum n f ≡ f k
unfolding sum
sum_only zero k f l h = omega arith
sum_only (suc n) k f l h =
    elim (cases_eq k n) [
      | inl e ↦ omega (arith, sum_zero n f (λ t g. h t (omega arith) (λ q. omega arith)), ap f e)
      | inr e ↦ omega (arith, sum_only n k f (omega arith) (λ t g ne. h t (omega arith) ne), h n (omega arith) (λ q. omega arith))
    ]

-- the weight that stands at one place
pub sum_one : (n k x : ℕ) → k < n → sum n (λ t. cond (eqb k t) x 0) ≡ x
sum_one n k x l =
    sum_only n k (λ t. cond (eqb k t) x 0) l (λ t g ne. cond-false (eqb k t) x 0 (ne_eqb k t (λ e. ne (sym e))))
    ∙ cond-true (eqb k k) x 0 (eq-eqb k k refl)

-- terms past a place are 0
pub sum_past : (n k : ℕ) (f : ℕ → ℕ) → k ≤ n → ((t : ℕ) → k ≤ t → f t ≡ 0) → sum n f ≡ sum k f
unfolding sum
sum_past zero k f l h = let e : k ≡ 0 = omega arith in rw e refl
sum_past (suc n) k f l h =
    elim (cases_eq k (suc n)) [ inl e ↦ rw e refl | inr e ↦ omega (arith, sum_past n k f (omega arith) h, h n (omega arith)) ]

pub sum_const : (n a : ℕ) → sum n (λ t. a) ≡ n * a
unfolding sum
sum_const zero a = omega arith
sum_const (suc n) a = omega (arith, sum_const n a)
