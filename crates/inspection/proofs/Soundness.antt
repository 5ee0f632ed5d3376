-- A model without a fault is sound, and one with a fault is not.
use Rattle.std.proofs.Common.{◌≡◌, ℕ, ◌+◌, ◌-◌, ◌<◌, ◌≤◌, Bool, true, false, Option, Some, None, Err, length, refl, sym, subst, ◌∙◌, zero-add, inl, inr, arith}
use Rattle.std.specs.Bool.{Decides, MatchBool}
use Rattle.std.specs.Option.{MatchOption}
use Rattle.std.specs.List.{range_with_len, HoldsAt, AllWithin}
use Rattle.std.proofs.lemmas.List.FromFn.{length-range_with_len, get_or-range_with_len}
use Rattle.std.proofs.lemmas.Bool.{cases_eq, cases_lt}
use Rattle.mdp.specs.Model.{Model}
use Rattle.mdp.specs.Sums.{sum}
use Rattle.mdp.specs.Sound.{Sound}
use Rattle.mdp.proofs.Sums.{sum_grows}
use Rattle.inspection.specs.declared.fault.Fault.{Fault}
use Rattle.inspection.specs.declared.fault.Fault.TheVariants.{Limits, Choices, Weights}
use Rattle.inspection.specs.Inspection.{OutOfLimits, Never, Lowest, MissesChoices, MissesWeights, FirstFault}

-- the one limit that sums of weights need
pub few_states : (m : Model) → (OutOfLimits m → ⊥) → m.states ≤ 256
few_states m within = elim (cases_lt 256 m.states) [ inl many ↦ absurd (within (inr (inl many))) | inr few ↦ few ]

pub sound_from : (m : Model) → (OutOfLimits m → ⊥) → Never (MissesChoices m) m.states → Never (MissesWeights m) m.states → Sound m
sound_from m within h k =
    record {
      some_states = elim (cases_lt m.states 1) [ inl none ↦ absurd (within (inl none)) | inr some ↦ some ];
      few_states = few_states m within;
      some_denominator = elim (cases_lt m.denominator 1) [ inl none ↦ absurd (within (inr (inr (inl none)))) | inr some ↦ some ];
      few_denominator = elim (cases_lt 65535 m.denominator) [ inl many ↦ absurd (within (inr (inr (inr many)))) | inr few ↦ few ];
      some_choice = λ s l. elim (cases_eq (m.choices s) 0) [ inl z ↦ absurd (h s l (inl z)) | inr z ↦ omega arith ];
      few_choices =
          let states : 0 < m.states = elim (cases_lt 0 m.states) [ inl some ↦ some | inr none ↦ absurd (within (inl (omega arith))) ] in
          let last : m.states - 1 + 1 ≡ m.states = omega arith in
          let few : 4096 < sum (m.states - 1 + 1) m.choices → ⊥ = λ x. h (m.states - 1) (omega arith) (inr x) in
          let all : 4096 < sum m.states m.choices → ⊥ = rw last at few in
          elim (cases_lt 4096 (sum m.states m.choices)) [ inl x ↦ absurd (all x) | inr x ↦ x ];
      full = λ s c l j. elim (cases_eq (sum m.states (m.weight s c)) m.denominator) [ inl z ↦ z | inr z ↦ absurd (k s l (c, j, z)) ];
    }

-- a sum of choices up to a state is no more than the sum of all
few_up_to : (m : Model) → Sound m → (s : ℕ) → s < m.states → sum (s + 1) m.choices ≤ 4096
few_up_to m sound s l = omega (arith, sum_grows (s + 1) m.states m.choices (omega arith), sound.few_choices)

pub faulty_not_sound : (m : Model) (f : Fault) → FirstFault m (Err f) → Sound m → ⊥
faulty_not_sound m Limits (inl a) sound = omega (arith, sound.some_states)
faulty_not_sound m Limits (inr (inl a)) sound = omega (arith, sound.few_states)
faulty_not_sound m Limits (inr (inr (inl a))) sound = omega (arith, sound.some_denominator)
faulty_not_sound m Limits (inr (inr (inr a))) sound = omega (arith, sound.few_denominator)
faulty_not_sound m (Choices s) h sound =
    elim h.1.1 [
      | inl none ↦ omega (arith, sound.some_choice s h.1.0)
      | inr many ↦ omega (arith, few_up_to m sound s h.1.0)
    ]
faulty_not_sound m (Weights s) h sound = let w = h.2.1 in w.2 (sound.full s w.0 h.2.0 w.1)

-- what a search through the numbers below n gives
pub lowest_from :
    (P : ℕ → Type 0) (n k : ℕ) (r : Option ℕ) → n ≡ k
    → MatchOption r ((i : ℕ) → 0 ≤ i → i < n → P i → ⊥) (λ i. (0 ≤ i) × (i < n) × P i × ((j : ℕ) → 0 ≤ j → j < i → P j → ⊥))
    → Lowest P k r
lowest_from P n k None e none = λ i l. none i (omega arith) (omega arith)
lowest_from P n k (Some i) e found = (omega (arith, found.1), found.2, λ j l. found.3 j (omega arith) l)

-- what a test of the numbers below n gives
pub decides_from :
    (P : ℕ → Type 0) (n k : ℕ) (r : Bool) → n ≡ k
    → MatchBool r ((i : ℕ) × (i < length (range_with_len 0 n)) × HoldsAt P (range_with_len 0 n) i)
    (AllWithin (λ i. P i → ⊥) (range_with_len 0 n) 0 (length (range_with_len 0 n)))
    → Decides r ((i : ℕ) × (i < k) × P i)
decides_from P n k true e (i, l, here) =
    let inside : i < n = omega (arith, l, length-range_with_len 0 n) in
    (λ yes. (i, omega arith, subst P (get_or-range_with_len 0 n i 0 inside ∙ zero-add i) (here 0)), λ some. refl)
decides_from P n k false e none = (
  λ yes. absurd (cc),
  λ some. absurd (none some.0 0 (omega arith) (omega (arith, some.1, length-range_with_len 0 n)) (subst P (sym (get_or-range_with_len 0 n some.0 0 (omega (arith, some.1)) ∙ zero-add some.0)) some.2)),
)
