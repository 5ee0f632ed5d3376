-- The search by halves: its steps, and that among ascending targets it finds what is there.
use Rattle.std.proofs.Common.{◌≡◌, ℕ, zero, suc, ◌+◌, ◌-◌, ◌/◌, ◌<◌, ◌≤◌, true, ltb, leb, List, [], ◌∷◌, ◌++◌, length, take, drop, Some, None, Ordering, Less, Equal, Greater, nat_cmp, sym, refl, ap, ◌∙◌, inl, inr, arith}
use Rattle.std.proofs.lemmas.List.{append-nil, length-take-le, length-drop, drop_more, take-append-drop}
use Rattle.std.proofs.lemmas.Bool.{cases_order, eq-eqb, ne_eqb, lt-ltb, le-ltb, le-leb, and_parts, leb-true, ltb-true}
use Rattle.std.specs.Ordering.{MatchOrdering}
use Rattle.std.proofs.lemmas.Cmp.{ranked}
use Rattle.std.specs.Cmp.{nat_cmp_is}
use Rattle.std.specs.Prelude.{Option, unwrap_or}
use Rattle.records.specs.declared.content.Branch.{Branch}
use Rattle.grammar.specs.ModelFile.{branches_ok}
use Rattle.tables.specs.Said.{weight_among}
use Rattle.tables.specs.Halves.{no_branch, middle, halved, found}

-- nothing is found among no branches
pub halved_none : (f t : ℕ) (bs : List Branch) → length bs ≡ 0 → halved f bs t ≡ None
halved_none zero t bs e = refl
halved_none (suc f) t [] e = refl
halved_none (suc f) t (b ∷ bs) e = absurd (omega arith)

-- a step of the search, by how the branch b in the middle stands to the target
pub halved_step :
    (f t : ℕ) (bs : List Branch) (b : Branch) (o : Ordering) → length bs ≤ f → 0 < length bs → b ≡ middle bs → o ≡ nat_cmp b.target t
    → MatchOrdering o (halved f bs t ≡ halved (f - 1) (drop (length bs / 2 + 1) bs) t) (halved f bs t ≡ Some b.weight)
    (halved f bs t ≡ halved (f - 1) (take (length bs / 2) bs) t)
halved_step zero t bs b o l p e h = absurd (omega arith)
halved_step (suc f) t [] b o l p e h = absurd (omega arith)
halved_step (suc f) t (x ∷ bs) b Less l p e h =
    let low : b.target < t = ranked b.target t Less h in
    let fuel : suc f - 1 ≡ f = omega arith in
    rw (fuel, ← e, ne_eqb b.target t (λ z. omega arith), lt-ltb b.target t low) refl
halved_step (suc f) t (x ∷ bs) b Equal l p e h = rw (← e, eq-eqb b.target t (ranked b.target t Equal h)) refl
halved_step (suc f) t (x ∷ bs) b Greater l p e h =
    let high : t < b.target = ranked b.target t Greater h in
    let fuel : suc f - 1 ≡ f = omega arith in
    rw (fuel, ← e, ne_eqb b.target t (λ z. omega arith), le-ltb b.target t (omega arith)) refl

-- what the ranges of branches say of the first
ok_parts :
    (n least : ℕ) (b : Branch) (bs : List Branch) → branches_ok n least (b ∷ bs) ≡ true
    → (least ≤ b.target) × (b.target < n) × (ltb 0 b.weight ≡ true) × (branches_ok n (b.target + 1) bs ≡ true)
ok_parts n least b bs ok =
    let low = and_parts (leb least b.target) _ ok in
    let high = and_parts (ltb b.target n) _ low.1 in
    let some = and_parts (ltb 0 b.weight) (branches_ok n (b.target + 1) bs) high.1 in
    (leb-true least b.target low.0, ltb-true b.target n high.0, some.0, some.1)

-- the first of the branches before one has a target from `least` on, and so has that one
ok_above :
    (n least : ℕ) (before : List Branch) (b : Branch) (behind : List Branch) → branches_ok n least (before ++ b ∷ behind) ≡ true
    → least ≤ b.target
ok_above n least [] b behind ok = (ok_parts n least b behind ok).0
ok_above n least (a ∷ before) b behind ok =
    let p = ok_parts n least a (before ++ b ∷ behind) ok in
    omega (arith, p.0, ok_above n (a.target + 1) before b behind p.3)

-- the branches before one have targets below its target, and those behind it targets above
ok_before :
    (n least : ℕ) (before : List Branch) (b : Branch) (behind : List Branch) → branches_ok n least (before ++ b ∷ behind) ≡ true
    → branches_ok b.target least before ≡ true
ok_before n least [] b behind ok = refl
ok_before n least (a ∷ before) b behind ok =
    let p = ok_parts n least a (before ++ b ∷ behind) ok in
    let below = ok_above n (a.target + 1) before b behind p.3 in
    rw (le-leb least a.target p.0, lt-ltb a.target b.target (omega arith), p.2) (ok_before n (a.target + 1) before b behind p.3)

ok_behind :
    (n least : ℕ) (before : List Branch) (b : Branch) (behind : List Branch) → branches_ok n least (before ++ b ∷ behind) ≡ true
    → branches_ok n (b.target + 1) behind ≡ true
ok_behind n least [] b behind ok = (ok_parts n least b behind ok).3
ok_behind n least (a ∷ before) b behind ok =
    ok_behind n (a.target + 1) before b behind (ok_parts n least a (before ++ b ∷ behind) ok).3

-- targets that are all below t are passed over
among_behind :
    (n least t : ℕ) (before behind : List Branch) → branches_ok n least before ≡ true → n ≤ t
    → weight_among (before ++ behind) t ≡ weight_among behind t
among_behind n least t [] behind ok l = refl
among_behind n least t (b ∷ before) behind ok l =
    let p = ok_parts n least b before ok in
    rw (ne_eqb b.target t (λ e. omega (arith, p.1))) (among_behind n (b.target + 1) t before behind p.3 l)

-- among targets that are all below t, or all above it, there is nothing
pub among_past : (n least t : ℕ) (bs : List Branch) → branches_ok n least bs ≡ true → n ≤ t → weight_among bs t ≡ 0
among_past n least t bs ok l = ap (λ (cs : List Branch). weight_among cs t) (sym (append-nil bs)) ∙ among_behind n least t bs [] ok l

among_above : (n least t : ℕ) (bs : List Branch) → branches_ok n least bs ≡ true → t < least → weight_among bs t ≡ 0
among_above n least t [] ok l = refl
among_above n least t (b ∷ bs) ok l =
    let p = ok_parts n least b bs ok in
    rw (ne_eqb b.target t (λ e. omega (arith, p.0))) (among_above n (b.target + 1) t bs p.3 (omega (arith, p.0)))

among_before : (t : ℕ) (before behind : List Branch) → weight_among behind t ≡ 0 → weight_among (before ++ behind) t ≡ weight_among before t
among_before t [] behind none = none
among_before t (b ∷ before) behind none = rw (among_before t before behind none) refl

-- one step of the search, among branches that are in order
module _ (n least t : ℕ) (before : List Branch) (b : Branch) (behind : List Branch) (ok : branches_ok n least (before ++ b ∷ behind) ≡ true) where
  found_here : b.target ≡ t → weight_among (before ++ b ∷ behind) t ≡ b.weight
  found_here e =
      among_behind b.target least t before (b ∷ behind) (ok_before n least before b behind ok) (omega arith)
      ∙ rw (eq-eqb b.target t e) refl

  found_behind : b.target < t → weight_among (before ++ b ∷ behind) t ≡ weight_among behind t
  found_behind l =
      among_behind b.target least t before (b ∷ behind) (ok_before n least before b behind ok) (omega arith)
      ∙ rw (ne_eqb b.target t (λ e. omega arith)) refl

  found_before : t < b.target → weight_among (before ++ b ∷ behind) t ≡ weight_among before t
  found_before l =
      among_before t before (b ∷ behind)
      (rw (ne_eqb b.target t (λ e. omega arith)) (among_above n (b.target + 1) t behind (ok_behind n least before b behind ok) (omega arith)))

-- a list in three parts: before the middle, the middle, and behind it
split : (bs : List Branch) → 0 < length bs → bs ≡ take (length bs / 2) bs ++ middle bs ∷ drop (length bs / 2 + 1) bs
split bs p =
    sym (take-append-drop (length bs / 2) bs) ∙ ap (λ (cs : List Branch). take (length bs / 2) bs ++ cs) (drop_more bs (length bs / 2) no_branch (omega arith))

halved_finds : (f n least t : ℕ) (bs : List Branch) → length bs ≤ f → branches_ok n least bs ≡ true → unwrap_or (halved f bs t) 0 ≡ weight_among bs t
halved_finds zero n least t [] l ok = refl
halved_finds zero n least t (b ∷ bs) l ok = absurd (omega arith)
halved_finds (suc f) n least t [] l ok = refl
halved_finds (suc f) n least t (b ∷ bs) l ok =
    let all = b ∷ bs in
    let half = length all / 2 in
    let before = take half all in
    let behind = drop (half + 1) all in
    let parts = split all (omega arith) in
    let fine : branches_ok n least (before ++ middle all ∷ behind) ≡ true = ap (branches_ok n least) (sym parts) ∙ ok in
    let whole = ap (λ (cs : List Branch). weight_among cs t) parts in
    let fuel : suc f - 1 ≡ f = omega arith in
    let weight = λ (o : Option ℕ). unwrap_or o 0 in
    let step = λ (o : Ordering) (h : o ≡ nat_cmp (middle all).target t). halved_step (suc f) t all (middle all) o l (omega arith) refl h in
    elim (cases_order (middle all).target t) [
      | inl e ↦ ap weight (step Equal (nat_cmp_is (middle all).target t Equal e)) ∙ sym (whole ∙ found_here n least t before (middle all) behind fine e)
      | inr (inl u) ↦
          ap weight (step Less (nat_cmp_is (middle all).target t Less u) ∙ ap (λ k. halved k behind t) fuel)
          ∙ halved_finds f n ((middle all).target + 1) t behind (omega (arith, length-drop (half + 1) all)) (ok_behind n least before (middle all) behind fine)
          ∙ sym (whole ∙ found_behind n least t before (middle all) behind fine u)
      | inr (inr u) ↦
          ap weight (step Greater (nat_cmp_is (middle all).target t Greater u) ∙ ap (λ k. halved k before t) fuel)
          ∙ halved_finds f (middle all).target least t before (omega (arith, length-take-le half all (omega arith))) (ok_before n least before (middle all) behind fine)
          ∙ sym (whole ∙ found_before n least t before (middle all) behind fine u)
    ]

-- among ascending targets the search by halves finds what is there
pub found_among : (n least t : ℕ) (bs : List Branch) → branches_ok n least bs ≡ true → unwrap_or (found bs t) 0 ≡ weight_among bs t
found_among n least t bs ok = halved_finds (length bs) n least t bs (omega arith) ok
