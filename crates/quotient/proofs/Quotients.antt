-- The quotient of a sound model by a lawful list is sound, and has every choice of every state.
use Rattle.std.proofs.Common.{◌≡◌, ℕ, zero, suc, ◌+◌, ◌-◌, ◌^◌, ◌<◌, ◌≤◌, true, false, cond, ltb, sym, refl, ap, ◌∙◌, inl, inr, add-one, arith}
use Rattle.std.proofs.lemmas.Bool.{cond-true, cond-false, lt-ltb, and_from, and_right, cases_eq, cases_lt, cases_Bool}
use Rattle.std.proofs.lemmas.Bool.Decides.{nat_tests}
use Rattle.mdp.specs.Model.{Model}
use Rattle.mdp.specs.Sums.{sum}
use Rattle.mdp.specs.Sound.{Sound}
use Rattle.mdp.proofs.Sums.{sum_same, sum_le, sum_only}
use Rattle.quotient.specs.Classes.{Lawful}
use Rattle.quotient.specs.Quotient.{Matched, before, into_to, into, owns, choices_of, weight_of, quotient}
use Rattle.quotient.specs.Working.{Owns}
use Rattle.quotient.specs.declared.layer.Choice.{Choice}
use Rattle.quotient.proofs.ByClass.{class_none, class_in, class_out, class_later, class_few, class_unused, all_classes, few_classes, goal_in, no_goal}

-- a choice that some state has is one of the class
owned : (m : Model) (cls : ℕ → ℕ) (a c : ℕ) (choice : Choice) → Owns m cls a c choice → c < before m cls a m.states
owned m cls a c choice w =
    omega (arith, w.place, w.number, class_later cls a choice.state m.states m.choices w.member w.state)

-- a choice that one state has is no other state's
one_owner :
    (m : Model) (cls : ℕ → ℕ) (a c : ℕ) (choice : Choice) (t : ℕ) → Owns m cls a c choice → (t ≡ choice.state → ⊥)
    → owns m cls a c t ≡ false
one_owner m cls a c choice t w ne =
    grind (
      arith,
      nat_tests,
      w.place,
      w.number,
      w.member,
      class_later cls a t choice.state m.choices,
      class_later cls a choice.state t m.choices,
      cases_lt t choice.state,
    )

-- the weights of a choice of a class are those of the state that has it
weight_of_owner :
    (m : Model) (cls : ℕ → ℕ) (a c b : ℕ) (choice : Choice) → Owns m cls a c choice
    → weight_of m cls a c b ≡ into m cls choice.state choice.number b
unfolding weight_of
weight_of_owner m cls a c b choice w =
    let s = choice.state in
    let same : c - before m cls a s ≡ choice.number = omega (arith, w.place) in
    let mine : owns m cls a c s ≡ true = grind (arith, nat_tests, w.place, w.number, w.member) in
    sum_only m.states s (λ t. cond (owns m cls a c t) (into m cls t (c - before m cls a t) b) 0) w.state
    (λ t g ne. cond-false _ _ _ (one_owner m cls a c choice t w ne))
    ∙ cond-true _ _ _ mine
    ∙ ap (λ x. into m cls s x b) same

-- each choice of a class is one of some state below n
some_owner :
    (m : Model) (cls : ℕ → ℕ) (a c n : ℕ) → n ≤ m.states → c < before m cls a n → (choice : Choice) × Owns m cls a c choice
some_owner m cls a c zero t l = absurd (omega (arith, class_none cls a m.choices))
some_owner m cls a c (suc n) t l =
    let more : c < before m cls a (n + 1) = rw add-one l in
    elim (cases_lt c (before m cls a n)) [
      | inl k ↦ some_owner m cls a c n (omega arith) k
      | inr k ↦ elim (cases_eq (cls n) a) [
        | inl e ↦ (
          record { state = n; number = c - before m cls a n },
          record {
            state = omega arith;
            member = e;
            place = omega arith;
            number = omega (arith, class_in cls a n m.choices e);
          },
        )
        | inr e ↦ absurd (omega (arith, class_out cls a n m.choices e))
      ]
    ]

-- where weights add up to a small number, none is cut off
into_whole :
    (m : Model) (cls : ℕ → ℕ) (s d b : ℕ) → Sound m → s < m.states → d < m.choices s
    → into m cls s d b ≡ into_to m cls s d b m.states
unfolding into
into_whole m cls s d b h l k =
    omega (arith, h.full s d l k, h.few_denominator, class_few cls b m.states (m.weight s d))

-- no choice of a class is cut off
choices_whole : (m : Model) (cls : ℕ → ℕ) (a : ℕ) → Sound m → choices_of m cls a ≡ before m cls a m.states
unfolding choices_of
choices_whole m cls a h = omega (arith, class_few cls a m.states m.choices, h.few_choices)

-- the weight of a choice of the quotient, by the choice of the state
gives_of_owner :
    (m : Model) (cls : ℕ → ℕ) (count a c b : ℕ) (choice : Choice) → Sound m → Owns m cls a c choice → a < count → b < count
    → (quotient m cls count).weight a c b ≡ into_to m cls choice.state choice.number b m.states
gives_of_owner m cls count a c b choice h w la lb =
    let less : c < choices_of m cls a = omega (arith, owned m cls a c choice w, choices_whole m cls a h) in
    let there : (quotient m cls count).weight a c b ≡ weight_of m cls a c b = grind (arith, nat_tests) in
    there ∙ weight_of_owner m cls a c b choice w ∙ into_whole m cls choice.state choice.number b h w.state w.number

full_quotient :
    (m : Model) (cls : ℕ → ℕ) (listed count a c : ℕ) → Sound m → Lawful m cls listed count → a < count
    → c < choices_of m cls a → sum count ((quotient m cls count).weight a c) ≡ m.denominator
full_quotient m cls listed count a c h k la r =
    let o = some_owner m cls a c m.states (omega arith) (omega (arith, choices_whole m cls a h)) in
    let s = o.0.state in
    let d = o.0.number in
    sum_same count ((quotient m cls count).weight a c) (λ b. into_to m cls s d b m.states)
    (λ b lb. gives_of_owner m cls count a c b o.0 h o.1 la lb)
    ∙ all_classes cls m.states count (m.weight s d) k.within
    ∙ h.full s d o.1.state o.1.number

-- A quotient of a sound model by a lawful list is sound.
pub quotient_sound :
    (m : Model) (cls : ℕ → ℕ) (listed count : ℕ) → Sound m → Lawful m cls listed count → Sound (quotient m cls count)
quotient_sound m cls listed count h k =
    record {
      some_states = omega (arith, k.some_states, k.within 0 (omega (arith, k.some_states)));
      few_states = omega (arith, few_classes cls m.states count k.within k.occur, k.few_states);
      some_denominator = h.some_denominator;
      few_denominator = h.few_denominator;
      some_choice = λ a la.
          let o = k.occur a la in
          omega (
            arith,
            here a la,
            choices_whole m cls a h,
            class_later cls a o.state m.states m.choices o.named o.within,
            h.some_choice o.state o.within,
          );
      few_choices =
          omega (
            arith,
            sum_le count (quotient m cls count).choices (λ a. before m cls a m.states) (λ a la. omega (arith, here a la, choices_whole m cls a h)),
            all_classes cls m.states count m.choices k.within,
            h.few_choices,
          );
      full = λ a c la r. full_quotient m cls listed count a c h k la (omega (arith, here a la));
    }
  where
    here : (a : ℕ) → a < count → (quotient m cls count).choices a ≡ choices_of m cls a
    here a la = grind (arith, nat_tests)

-- a class is a goal if and only if its states are
goal_of_class :
    (m : Model) (cls : ℕ → ℕ) (listed count s : ℕ) → Lawful m cls listed count → s < m.states
    → (quotient m cls count).goal (cls s) ≡ m.goal s
goal_of_class m cls listed count s k l =
    elim (cases_Bool (m.goal s)) [
      | inl e ↦ and_from _ _ (lt-ltb (cls s) count (k.within s l)) (goal_in m cls (cls s) s m.states l refl e) ∙ sym e
      | inr e ↦ and_right _ _ (no_goal m cls (cls s) m.states (λ t lt f. sym (k.agree s l t lt (sym f)) ∙ e)) ∙ sym e
    ]

-- past its classes a quotient has no targets
no_weight : (m : Model) (cls : ℕ → ℕ) (count a c b : ℕ) → count ≤ b → (quotient m cls count).weight a c b ≡ 0
no_weight m cls count a c b l = grind (arith, nat_tests)

-- A state and its class are alike.
pub quotient_matched :
    (m : Model) (cls : ℕ → ℕ) (listed count : ℕ) → Sound m → Lawful m cls listed count → Matched m cls count
quotient_matched m cls listed count h k =
    record {
      denominators = refl;
      within = k.within;
      goals = λ s l. goal_of_class m cls listed count s k l;
      numbered = λ s d l g.
          omega (
            arith,
            cond-true (ltb (cls s) count) (choices_of m cls (cls s)) 0 (lt-ltb (cls s) count (k.within s l)),
            owned m cls (cls s) (before m cls (cls s) s + d) (record { state = s; number = d }) (own s d l g),
            choices_whole m cls (cls s) h,
          );
      gives = λ s d b l g.
          elim (cases_lt b count) [
            | inl lb ↦
                gives_of_owner m cls count (cls s) (before m cls (cls s) s + d) b (record { state = s; number = d }) h (own s d l g)
                (k.within s l) lb
            | inr lb ↦
                no_weight m cls count (cls s) (before m cls (cls s) s + d) b lb
                ∙ sym (class_unused cls b m.states (m.weight s d) (λ t lt e. omega (arith, k.within t lt)))
          ];
    }
  where
    own :
        (s d : ℕ) → s < m.states → d < m.choices s
        → Owns m cls (cls s) (before m cls (cls s) s + d) (record { state = s; number = d })
    own s d l g = record { state = l; member = refl; place = refl; number = g }

-- the weight of a choice of a class, by the choice of the state
pub weight_there :
    (m : Model) (cls : ℕ → ℕ) (a c b : ℕ) (choice : Choice) → Owns m cls a c choice → c < 2 ^ 32 - 1
    → (weight_of m cls a c b ≡ into m cls choice.state choice.number b) × (c < choices_of m cls a)
unfolding choices_of
weight_there m cls a c b choice w l = (
  weight_of_owner m cls a c b choice w,
  omega (arith, owned m cls a c choice w),
)

-- a choice that no state has, or past the numbers that are counted, is none of the class
pub choices_past : (m : Model) (cls : ℕ → ℕ) (a c : ℕ) → before m cls a m.states ≤ c → choices_of m cls a ≤ c
unfolding choices_of
choices_past m cls a c l = omega arith

pub choices_fit : (m : Model) (cls : ℕ → ℕ) (a : ℕ) → choices_of m cls a ≤ 2 ^ 32 - 1
unfolding choices_of
choices_fit m cls a = omega arith

pub ruleset choices_steps = (choices_past, choices_fit)
