-- Sums that are divided by classes.
use Rattle.std.proofs.Common.{◌≡◌, ℕ, zero, suc, ◌+◌, ◌<◌, ◌≤◌, Bool, true, false, MatchBool, cond, eqb, sym, refl, ◌∙◌, arith}
use Rattle.std.proofs.lemmas.Bool.{cond-false, ne_eqb, cases_eq}
use Rattle.std.proofs.lemmas.Bool.Decides.{nat_tests}
use Rattle.mdp.specs.Model.{Model}
use Rattle.mdp.specs.Sums.{sum}
use Rattle.mdp.proofs.Sums.{sum_none, sum_more, sum_same, sum_swap, sum_one, sum_const, sum_le, sum_zero, sum_grows}
use Rattle.quotient.specs.Classes.{Occurs}
use Rattle.quotient.specs.Quotient.{sum_of_class, goal_to, goal_of}

-- the start of a sum over a class, and one more state, by whether it is of the class
pub class_none : (cls : ℕ → ℕ) (a : ℕ) (f : ℕ → ℕ) → sum_of_class cls a 0 f ≡ 0
unfolding sum_of_class
class_none cls a f = sum_none _

pub class_in :
    (cls : ℕ → ℕ) (a n : ℕ) (f : ℕ → ℕ) → cls n ≡ a → sum_of_class cls a (n + 1) f ≡ sum_of_class cls a n f + f n
unfolding sum_of_class
class_in cls a n f e = grind (arith, nat_tests, sum_more n (λ u. cond (eqb (cls u) a) (f u) 0))

pub class_out :
    (cls : ℕ → ℕ) (a n : ℕ) (f : ℕ → ℕ) → (cls n ≡ a → ⊥) → sum_of_class cls a (n + 1) f ≡ sum_of_class cls a n f
unfolding sum_of_class
class_out cls a n f e = grind (arith, nat_tests, sum_more n (λ u. cond (eqb (cls u) a) (f u) 0))

pub ruleset class_steps = (class_none, class_in, class_out, nat_tests)

class_grows : (cls : ℕ → ℕ) (a n k : ℕ) (f : ℕ → ℕ) → n ≤ k → sum_of_class cls a n f ≤ sum_of_class cls a k f
unfolding sum_of_class
class_grows cls a n k f l = sum_grows n k _ l

-- what a class has by a state, and what the state has, are within what it has by a later state
pub class_later :
    (cls : ℕ → ℕ) (a s t : ℕ) (f : ℕ → ℕ) → cls s ≡ a → s < t → sum_of_class cls a s f + f s ≤ sum_of_class cls a t f
class_later cls a s t f e l = omega (arith, class_in cls a s f e, class_grows cls a (s + 1) t f (omega arith))

-- a class has no more than all states together
pub class_few : (cls : ℕ → ℕ) (a n : ℕ) (f : ℕ → ℕ) → sum_of_class cls a n f ≤ sum n f
unfolding sum_of_class
class_few cls a n f = sum_le n (λ u. cond (eqb (cls u) a) (f u) 0) f (λ t g. grind (arith, nat_tests))

-- a class without states has nothing
pub class_unused : (cls : ℕ → ℕ) (a n : ℕ) (f : ℕ → ℕ) → ((t : ℕ) → t < n → cls t ≡ a → ⊥) → sum_of_class cls a n f ≡ 0
unfolding sum_of_class
class_unused cls a n f h =
    sum_zero n (λ u. cond (eqb (cls u) a) (f u) 0) (λ t l. cond-false _ _ _ (ne_eqb (cls t) a (h t l)))

-- all classes together have what all states have
pub all_classes :
    (cls : ℕ → ℕ) (n k : ℕ) (f : ℕ → ℕ) → ((t : ℕ) → t < n → cls t < k) → sum k (λ a. sum_of_class cls a n f) ≡ sum n f
unfolding sum_of_class
all_classes cls n k f h =
    sum_swap k n (λ a t. cond (eqb (cls t) a) (f t) 0)
    ∙ sum_same n (λ t. sum k (λ a. cond (eqb (cls t) a) (f t) 0)) f (λ t l. sum_one k (cls t) (f t) (h t l))

-- there are no more classes than states
pub few_classes :
    (cls : ℕ → ℕ) (n k : ℕ) → ((t : ℕ) → t < n → cls t < k) → ((a : ℕ) → a < k → Occurs cls n a) → k ≤ n
few_classes cls n k h o =
    omega (
      arith,
      all_classes cls n k (λ t. 1) h,
      sum_const n 1,
      sum_const k 1,
      sum_le k (λ a. 1) (λ a. sum_of_class cls a n (λ t. 1))
          (λ a l. omega (arith, class_later cls a (o a l).state n (λ t. 1) (o a l).named (o a l).within)),
    )

-- some state of a class is a goal, or none is
pub goal_in :
    (m : Model) (cls : ℕ → ℕ) (a s n : ℕ) → s < n → cls s ≡ a → m.goal s ≡ true → goal_to m cls a n ≡ true
unfolding goal_to
goal_in m cls a s zero l e f = absurd (omega arith)
goal_in m cls a s (suc n) l e f = grind (arith, nat_tests, cases_eq s n, goal_in m cls a s n)

pub no_goal :
    (m : Model) (cls : ℕ → ℕ) (a n : ℕ) → ((t : ℕ) → t < n → cls t ≡ a → m.goal t ≡ false) → goal_to m cls a n ≡ false
unfolding goal_to
no_goal m cls a zero h = refl
no_goal m cls a (suc n) h =
    grind (arith, nat_tests, no_goal m cls a n (λ t l. h t (omega arith)), h n (omega arith), cases_eq (cls n) a)

pub goal_found :
    (m : Model) (cls : ℕ → ℕ) (a n : ℕ) (r : Bool) → n ≡ m.states
    → MatchBool r ((t : ℕ) × (t < n) × ((cls t ≡ a) × (m.goal t ≡ true))) ((t : ℕ) → t < n → cls t ≡ a → m.goal t ≡ false)
    → r ≡ goal_of m cls a
goal_found m cls a n true e h = sym (goal_in m cls a h.0 m.states (omega (arith, h.1)) h.2.0 h.2.1)
goal_found m cls a n false e h = sym (no_goal m cls a m.states (λ t l. h t (omega arith)))
