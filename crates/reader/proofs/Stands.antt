-- A record that stands in bytes, and what is read where it stands.
use Rattle.std.proofs.Common.{◌≡◌, ℕ, suc, ◌+◌, ◌-◌, ◌<◌, ◌≤◌, Bool, true, false, cond, ltb, List, ◌∷◌, length, get_or, drop, Some, None, Ok, Err, Option, sym, refl, ap, ◌∙◌, arith}
use Rattle.std.proofs.lemmas.Bool.{lt-ltb, le-ltb, ltb-true, ltb-false, cond-true, cond-false}
use Rattle.std.proofs.lemmas.List.{length-drop, get_or-drop, drop_more}
use Rattle.records.specs.declared.content.Mark.{Mark}
use Rattle.records.specs.declared.content.Mark.TheVariants.{Md}
use Rattle.records.specs.declared.decoding.NoMark.TheVariants.{Cut, Unknown}
use Rattle.records.specs.Encode.{first_letter, second_letter}
use Rattle.records.specs.Decode.{mark_spelled, size, decoded}
use Rattle.records.specs.Held.{known, mark_at}
use Rattle.records.proofs.Exactness.{mark_letters, decoded_fits}
use Rattle.records.proofs.Standing.{record_bytes}
use Rattle.reader.specs.Exact.{Marked, Begins}

-- the letters of a mark spell it
pub spelled : (m : Mark) → mark_spelled (first_letter m) (second_letter m) ≡ Some m
spelled Md = refl
spelled m = refl

-- a mark whose letters stand there is the mark there
pub marked_mark : (xs : List ℕ) (at : ℕ) (m : Mark) → Marked (drop at xs) m → mark_at xs at ≡ Ok m
marked_mark xs at m (zs, e) =
    let l : length xs - at ≡ suc (suc (length zs)) = sym (length-drop at xs) ∙ ap length e in
    let z : at + 0 ≡ at = omega arith in
    let a : get_or xs at 0 ≡ first_letter m = sym (ap (λ k. get_or xs k 0) z) ∙ sym (get_or-drop at xs 0 0) ∙ ap (λ ys. get_or ys 0 0) e in
    let b : get_or xs (at + 1) 0 ≡ second_letter m = sym (get_or-drop at xs 1 0) ∙ ap (λ ys. get_or ys 1 0) e in
    cond-false (ltb (length xs) (at + 2)) _ _ (le-ltb (length xs) (at + 2) (omega arith))
    ∙ ap known (ap (λ x. mark_spelled x (get_or xs (at + 1) 0)) a ∙ ap (mark_spelled (first_letter m)) b ∙ spelled m)

-- and the other way round
pub mark_marked : (xs : List ℕ) (at : ℕ) (m : Mark) → Ok m ≡ mark_at xs at → Marked (drop at xs) m
mark_marked xs at m e = by (ltb (length xs) (at + 2)) refl e
  where
    by : (b : Bool) → ltb (length xs) (at + 2) ≡ b → Ok m ≡ cond b (Err Cut) (known (mark_spelled (get_or xs at 0) (get_or xs (at + 1) 0))) → Marked (drop at xs) m
    by true h g = absurd (cc)
    by false h g =
        let s = mark_letters xs at m e in
        let l = ltb-false (length xs) (at + 2) h in
        (drop (at + 1 + 1) xs, drop_more xs at 0 (omega arith) ∙ ap (λ x. x ∷ drop (at + 1) xs) s.0 ∙ ap (λ ts. first_letter m ∷ ts) (drop_more xs (at + 1) 0 (omega arith) ∙ ap (λ x. x ∷ drop (at + 1 + 1) xs) s.1))

-- no mark: fewer than two bytes are left, or at least two that spell none
pub cut_short : (xs : List ℕ) (at : ℕ) → Err Cut ≡ mark_at xs at → length (drop at xs) < 2
cut_short xs at e = by (ltb (length xs) (at + 2)) refl e
  where
    not_cut : (o : Option Mark) → Err Cut ≡ known o → ⊥
    not_cut None g = cc
    not_cut (Some m) g = cc

    by : (b : Bool) → ltb (length xs) (at + 2) ≡ b → Err Cut ≡ cond b (Err Cut) (known (mark_spelled (get_or xs at 0) (get_or xs (at + 1) 0))) → length (drop at xs) < 2
    by true h g = let l = ltb-true (length xs) (at + 2) h in let d = length-drop at xs in omega arith
    by false h g = absurd (not_cut (mark_spelled (get_or xs at 0) (get_or xs (at + 1) 0)) g)

pub unknown_long : (xs : List ℕ) (at : ℕ) → Err Unknown ≡ mark_at xs at → 2 ≤ length (drop at xs)
unknown_long xs at e = by (ltb (length xs) (at + 2)) refl e
  where
    by : (b : Bool) → ltb (length xs) (at + 2) ≡ b → Err Unknown ≡ cond b (Err Cut) (known (mark_spelled (get_or xs at 0) (get_or xs (at + 1) 0))) → 2 ≤ length (drop at xs)
    by true h g = absurd (cc)
    by false h g = let l = ltb-false (length xs) (at + 2) h in let d = length-drop at xs in omega arith

pub long_mark : (xs : List ℕ) (at : ℕ) (m : Mark) → Ok m ≡ mark_at xs at → 2 ≤ length (drop at xs)
long_mark xs at m e = let k = mark_marked xs at m e in omega (arith, ap length k.1)

-- a mark that is not cut short is not
pub not_cut_short : (xs : List ℕ) (at : ℕ) → length (drop at xs) < 2 → mark_at xs at ≡ Err Cut
not_cut_short xs at h = let d = length-drop at xs in cond-true (ltb (length xs) (at + 2)) _ _ (lt-ltb (length xs) (at + 2) (omega arith))

-- a whole record of the mark that stands there
pub begins : (xs : List ℕ) → ((j : ℕ) → get_or xs j 0 < 256) → (at : ℕ) (m : Mark) → Ok m ≡ mark_at xs at → at + size m xs at ≤ length xs → Begins (drop at xs) (decoded m xs at)
begins xs f at m e h = (drop (at + size m xs at) xs, record_bytes xs f at m e h, decoded_fits xs f m at)
