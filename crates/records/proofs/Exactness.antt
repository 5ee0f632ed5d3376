-- What is decoded from bytes has just those bytes.
use Rattle.std.proofs.Common.{◌≡◌, ℕ, zero, suc, ◌+◌, ◌*◌, ◌<◌, ◌≤◌, Bool, true, false, cond, ◌&&◌, eqb, ltb, List, [], ◌∷◌, ◌++◌, length, get_or, drop, Some, None, Ok, Err, Option, sym, refl, ap, ◌∙◌, add-zero, add_assoc, arith}
use Rattle.std.specs.List.{flat_map}
use Rattle.std.proofs.lemmas.Bool.{and_parts, eqb-true}
use Rattle.std.proofs.lemmas.List.{drop_more}
use Rattle.records.specs.declared.content.Branch.{Branch}
use Rattle.records.specs.declared.content.Portion.{Portion}
use Rattle.records.specs.declared.content.Mark.{Mark}
use Rattle.records.specs.declared.content.Mark.TheVariants.{Md, St, Ch, Hd, Ce, Fl, Pc, Pm, Rw, Wf, Zz}
use Rattle.records.specs.declared.decoding.NoMark.TheVariants.{Cut}
use Rattle.records.specs.Content.{mark_of}
use Rattle.records.specs.Encode.{encode, Fits, two, four, eight, first_letter, second_letter, branch_bytes, portion_bytes, Each, BranchFits, PortionFits}
use Rattle.records.specs.Decode.{be2, be4, be8, entries_from, branch_from, branches_from, portion_from, portions_from, mark_spelled, size, decoded}
use Rattle.records.specs.Held.{known, mark_at}
use Rattle.records.proofs.Digits.{gets, front, two_at, four_at, eight_at, be2_below, be4_below}
use Rattle.records.proofs.EntryLists.{entries_again, length-branches, length-portions}

-- the letters of a mark that two bytes spell
abbrev pub Spells : ℕ → ℕ → Option Mark → Type 0
Spells a b None = Unit {0}
Spells a b (Some m) = (a ≡ first_letter m) × (b ≡ second_letter m)

spells_or : (a b : ℕ) (m : Mark) (o : Option Mark) → Spells a b o → Spells a b (cond (eqb a (first_letter m) && eqb b (second_letter m)) (Some m) o)
spells_or a b m o s = by (eqb a (first_letter m) && eqb b (second_letter m)) refl
  where
    by : (t : Bool) → (eqb a (first_letter m) && eqb b (second_letter m)) ≡ t → Spells a b (cond t (Some m) o)
    by true h = let w = and_parts (eqb a (first_letter m)) (eqb b (second_letter m)) h in (eqb-true a (first_letter m) w.0, eqb-true b (second_letter m) w.1)
    by false h = s

pub spells : (a b : ℕ) → Spells a b (mark_spelled a b)
spells a b =
    spells_or a b Md _ (spells_or a b St _ (spells_or a b Ch _ (spells_or a b Hd _ (spells_or a b Ce _ (spells_or a b Fl _
    (spells_or a b Pc _ (spells_or a b Pm _ (spells_or a b Rw _ (spells_or a b Wf _ (spells_or a b Zz _ tt))))))))))

known_spells : (a b : ℕ) (o : Option Mark) (m : Mark) → Spells a b o → Ok m ≡ known o → (a ≡ first_letter m) × (b ≡ second_letter m)
known_spells a b None m s e = let z : ◌≡◌ {A = ℕ} 0 1 = cc in absurd (omega arith)
known_spells a b (Some k) m s e = let z : k ≡ m = cc in (s.0 ∙ ap first_letter z, s.1 ∙ ap second_letter z)

-- a mark that stands there is spelled there
pub mark_letters : (xs : List ℕ) (at : ℕ) (m : Mark) → Ok m ≡ mark_at xs at → (get_or xs at 0 ≡ first_letter m) × (get_or xs (at + 1) 0 ≡ second_letter m)
mark_letters xs at m e = by (ltb (length xs) (at + 2)) e
  where
    by : (b : Bool) → Ok m ≡ cond b (Err Cut) (known (mark_spelled (get_or xs at 0) (get_or xs (at + 1) 0))) → (get_or xs at 0 ≡ first_letter m) × (get_or xs (at + 1) 0 ≡ second_letter m)
    by true g = let z : ◌≡◌ {A = ℕ} 0 1 = cc in absurd (omega arith)
    by false g = known_spells (get_or xs at 0) (get_or xs (at + 1) 0) (mark_spelled (get_or xs at 0) (get_or xs (at + 1) 0)) m (spells (get_or xs at 0) (get_or xs (at + 1) 0)) g

pub mark_decoded : (m : Mark) (xs : List ℕ) (at : ℕ) → mark_of (decoded m xs at) ≡ m
mark_decoded Md xs at = refl
mark_decoded St xs at = refl
mark_decoded Ch xs at = refl
mark_decoded Hd xs at = refl
mark_decoded Ce xs at = refl
mark_decoded Fl xs at = refl
mark_decoded Pc xs at = refl
mark_decoded Pm xs at = refl
mark_decoded Rw xs at = refl
mark_decoded Wf xs at = refl
mark_decoded Zz xs at = refl

pub branch_width : (b : Branch) → length (branch_bytes b) ≡ 4
branch_width b = refl

pub portion_width : (p : Portion) → length (portion_bytes p) ≡ 5
portion_width p = refl

module _ (xs : List ℕ) (f : (j : ℕ) → get_or xs j 0 < 256) where
  entries_fit : {E : Type 0} (w : ℕ) (one : List ℕ → ℕ → E) (P : E → Type 0) → ((i : ℕ) → P (one xs i)) → (n i : ℕ) → Each P (entries_from w one n xs i)
  entries_fit w one P fits zero i = tt
  entries_fit w one P fits (suc n) i = (fits i, entries_fit w one P fits n (i + w))

  pub branches_fit : (n i : ℕ) → Each BranchFits (branches_from n xs i)
  branches_fit = entries_fit 4 branch_from BranchFits (λ i. (be2_below xs f i, be2_below xs f (i + 2)))

  pub portions_fit : (n i : ℕ) → Each PortionFits (portions_from n xs i)
  portions_fit = entries_fit 5 portion_from PortionFits (λ i. (be2_below xs f i, f (i + 2), be2_below xs f (i + 3)))

  pub decoded_fits : (m : Mark) (at : ℕ) → Fits (decoded m xs at)
  decoded_fits Md at = (be2_below xs f (at + 2), be2_below xs f (at + 4))
  decoded_fits St at = (f (at + 2), be2_below xs f (at + 3))
  decoded_fits Ch at = (omega (arith, length-branches (be2 xs (at + 2)) xs (at + 4), be2_below xs f (at + 2)), branches_fit (be2 xs (at + 2)) (at + 4))
  decoded_fits Hd at = (f (at + 2), f (at + 3))
  decoded_fits Ce at = (be2_below xs f (at + 2), be4_below xs f (at + 4))
  decoded_fits Fl at = (be2_below xs f (at + 2), be4_below xs f (at + 4))
  decoded_fits Pc at = (be2_below xs f (at + 2), f (at + 4))
  decoded_fits Pm at = (be2_below xs f (at + 2), be2_below xs f (at + 4), be2_below xs f (at + 6))
  decoded_fits Rw at = (be2_below xs f (at + 2), omega (arith, be4_below xs f (at + 4), be4_below xs f (at + 4 + 4)))
  decoded_fits Wf at = (
    be2_below xs f (at + 2),
    f (at + 4),
    be2_below xs f (at + 5),
    be2_below xs f (at + 7),
    omega (arith, length-portions (be2 xs (at + 9)) xs (at + 11), be2_below xs f (at + 9)),
    portions_fit (be2 xs (at + 9)) (at + 11),
  )
  decoded_fits Zz at = tt

  -- the bytes of an entry
  pub branch_again : (i : ℕ) → i + 4 ≤ length xs → drop i xs ≡ branch_bytes (branch_from xs i) ++ drop (i + 4) xs
  branch_again i h =
      let e : i + 0 ≡ i = add-zero i in
      let d = drop (i + 4) xs in
      ap (λ k. drop k xs) (sym e) ∙ front 4 xs i 0 (omega arith) ∙ ap (λ k. gets 4 xs i 0 ++ drop (k + 4) xs) e
      ∙ sym (ap (λ k. (two (be2 xs k) ++ two (be2 xs (i + 2))) ++ d) (sym e) ∙ ap (λ l. (l ++ two (be2 xs (i + 2))) ++ d) (two_at xs f i 0) ∙ ap (λ l. (gets 2 xs i 0 ++ l) ++ d) (two_at xs f i 2))

  pub portion_again : (i : ℕ) → i + 5 ≤ length xs → drop i xs ≡ portion_bytes (portion_from xs i) ++ drop (i + 5) xs
  portion_again i h =
      let e : i + 0 ≡ i = add-zero i in
      let d = drop (i + 5) xs in
      ap (λ k. drop k xs) (sym e) ∙ front 5 xs i 0 (omega arith) ∙ ap (λ k. gets 5 xs i 0 ++ drop (k + 5) xs) e
      ∙ sym (ap (λ k. (two (be2 xs k) ++ (get_or xs (i + 2) 0 ∷ two (be2 xs (i + 3)))) ++ d) (sym e) ∙ ap (λ l. (l ++ (get_or xs (i + 2) 0 ∷ two (be2 xs (i + 3)))) ++ d) (two_at xs f i 0) ∙ ap (λ l. (gets 2 xs i 0 ++ (get_or xs (i + 2) 0 ∷ l)) ++ d) (two_at xs f i 3))

  -- a record's bytes start with its mark
  marked : (m : Mark) (at n : ℕ) → get_or xs at 0 ≡ first_letter m → get_or xs (at + 1) 0 ≡ second_letter m → at + (2 + n) ≤ length xs → drop at xs ≡ first_letter m ∷ second_letter m ∷ (gets n xs at 2 ++ drop (at + (2 + n)) xs)
  marked m at n a b h =
      let e : at + 2 + n ≡ at + (2 + n) = add_assoc at 2 n in
      let k : at + 1 + 1 ≡ at + 2 = omega arith in
      drop_more xs at 0 (omega arith) ∙ ap (λ x. x ∷ drop (at + 1) xs) a
      ∙ ap (λ ts. first_letter m ∷ ts) (drop_more xs (at + 1) 0 (omega arith) ∙ ap (λ x. x ∷ drop (at + 1 + 1) xs) b ∙ ap (λ j. second_letter m ∷ drop j xs) k
      ∙ ap (λ ts. second_letter m ∷ ts) (front n xs at 2 (omega arith) ∙ ap (λ j. gets n xs at 2 ++ drop j xs) e))

  -- the bytes of a record that stands there
  pub again : (m : Mark) (at : ℕ) → get_or xs at 0 ≡ first_letter m → get_or xs (at + 1) 0 ≡ second_letter m → at + size m xs at ≤ length xs → drop at xs ≡ encode (decoded m xs at) ++ drop (at + size m xs at) xs
  again Md at a b h =
      let d = drop (at + 6) xs in
      marked Md at 4 a b h ∙ sym (ap (λ l. (77 ∷ 68 ∷ (l ++ two (be2 xs (at + 4)))) ++ d) (two_at xs f at 2) ∙ ap (λ l. (77 ∷ 68 ∷ (gets 2 xs at 2 ++ l)) ++ d) (two_at xs f at 4))
  again St at a b h =
      let d = drop (at + 5) xs in
      marked St at 3 a b h ∙ sym (ap (λ l. (83 ∷ 84 ∷ (get_or xs (at + 2) 0 ∷ l)) ++ d) (two_at xs f at 3))
  again Ch at a b h =
      let k = be2 xs (at + 2) in
      let es = branches_from k xs (at + 4) in
      let d = drop (at + (4 + 4 * k)) xs in
      let n : two (length es) ≡ gets 2 xs at 2 = ap two (length-branches k xs (at + 4)) ∙ two_at xs f at 2 in
      marked Ch at 2 a b (omega arith)
      ∙ ap (λ r. 67 ∷ 72 ∷ (gets 2 xs at 2 ++ r)) (entries_again 4 branch_from branch_bytes branch_width xs branch_again k (at + 4) (omega arith) ∙ ap (λ i. flat_map branch_bytes es ++ drop i xs) (add_assoc at 4 (4 * k)))
      ∙ sym (ap (λ l. (67 ∷ 72 ∷ (l ++ flat_map branch_bytes es)) ++ d) n)
  again Hd at a b h = marked Hd at 2 a b h
  again Ce at a b h =
      let d = drop (at + 8) xs in
      marked Ce at 6 a b h ∙ sym (ap (λ l. (67 ∷ 69 ∷ (l ++ four (be4 xs (at + 4)))) ++ d) (two_at xs f at 2) ∙ ap (λ l. (67 ∷ 69 ∷ (gets 2 xs at 2 ++ l)) ++ d) (four_at xs f at 4))
  again Fl at a b h =
      let d = drop (at + 8) xs in
      marked Fl at 6 a b h ∙ sym (ap (λ l. (70 ∷ 76 ∷ (l ++ four (be4 xs (at + 4)))) ++ d) (two_at xs f at 2) ∙ ap (λ l. (70 ∷ 76 ∷ (gets 2 xs at 2 ++ l)) ++ d) (four_at xs f at 4))
  again Pc at a b h =
      let d = drop (at + 5) xs in
      marked Pc at 3 a b h ∙ sym (ap (λ l. (80 ∷ 67 ∷ (l ++ get_or xs (at + 4) 0 ∷ [])) ++ d) (two_at xs f at 2))
  again Pm at a b h =
      let d = drop (at + 8) xs in
      marked Pm at 6 a b h ∙ sym (ap (λ l. (80 ∷ 77 ∷ (l ++ (two (be2 xs (at + 4)) ++ two (be2 xs (at + 6))))) ++ d) (two_at xs f at 2) ∙ ap (λ l. (80 ∷ 77 ∷ (gets 2 xs at 2 ++ (l ++ two (be2 xs (at + 6))))) ++ d) (two_at xs f at 4) ∙ ap (λ l. (80 ∷ 77 ∷ (gets 2 xs at 2 ++ (gets 2 xs at 4 ++ l))) ++ d) (two_at xs f at 6))
  again Rw at a b h =
      let d = drop (at + 12) xs in
      marked Rw at 10 a b h ∙ sym (ap (λ l. (82 ∷ 87 ∷ (l ++ eight (be8 xs (at + 4)))) ++ d) (two_at xs f at 2) ∙ ap (λ l. (82 ∷ 87 ∷ (gets 2 xs at 2 ++ l)) ++ d) (eight_at xs f at 4 ∙ ap (λ i. gets 4 xs at 4 ++ four (be4 xs i)) (add_assoc at 4 4) ∙ ap (λ l. gets 4 xs at 4 ++ l) (four_at xs f at 8)))
  again Wf at a b h =
      let k = be2 xs (at + 9) in
      let es = portions_from k xs (at + 11) in
      let d = drop (at + (11 + 5 * k)) xs in
      let n : two (length es) ≡ gets 2 xs at 9 = ap two (length-portions k xs (at + 11)) ∙ two_at xs f at 9 in
      marked Wf at 9 a b (omega arith)
      ∙ ap (λ r. 87 ∷ 70 ∷ (gets 9 xs at 2 ++ r)) (entries_again 5 portion_from portion_bytes portion_width xs portion_again k (at + 11) (omega arith) ∙ ap (λ i. flat_map portion_bytes es ++ drop i xs) (add_assoc at 11 (5 * k)))
      ∙ sym (ap (λ l. (87 ∷ 70 ∷ (l ++ (get_or xs (at + 4) 0 ∷ (two (be2 xs (at + 5)) ++ (two (be2 xs (at + 7)) ++ (two (length es) ++ flat_map portion_bytes es)))))) ++ d) (two_at xs f at 2)
      ∙ ap (λ l. (87 ∷ 70 ∷ (gets 2 xs at 2 ++ (get_or xs (at + 4) 0 ∷ (l ++ (two (be2 xs (at + 7)) ++ (two (length es) ++ flat_map portion_bytes es)))))) ++ d) (two_at xs f at 5)
      ∙ ap (λ l. (87 ∷ 70 ∷ (gets 2 xs at 2 ++ (get_or xs (at + 4) 0 ∷ (gets 2 xs at 5 ++ (l ++ (two (length es) ++ flat_map portion_bytes es)))))) ++ d) (two_at xs f at 7)
      ∙ ap (λ l. (87 ∷ 70 ∷ (gets 2 xs at 2 ++ (get_or xs (at + 4) 0 ∷ (gets 2 xs at 5 ++ (gets 2 xs at 7 ++ (l ++ flat_map portion_bytes es)))))) ++ d) n)
  again Zz at a b h = marked Zz at 0 a b h
