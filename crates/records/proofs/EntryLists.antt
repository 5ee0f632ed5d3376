-- Entries read out of their bytes: how many, the i-th, out of chunks, in a part of the bytes, and their bytes again.
use Rattle.std.proofs.Common.{◌≡◌, ℕ, zero, suc, ◌+◌, ◌*◌, ◌/◌, ◌%◌, ◌<◌, ◌≤◌, true, ◌&&◌, eqb, ltb, List, [], ◌∷◌, ◌++◌, length, get_or, map, take, drop, Some, None, sym, refl, ap, ◌∙◌, append_assoc, add-zero, add_assoc, mul-suc, arith}
use Rattle.std.proofs.lemmas.Bool.{and_from, eq-eqb, lt-ltb}
use Rattle.std.specs.List.{slice_get, flat_map}
use Rattle.std.proofs.lemmas.Option.{slice_get_past}
use Rattle.std.proofs.lemmas.List.{get_or-take, get_or-drop, length-take, length-drop, length-append, drop-drop}
use Rattle.std.proofs.Math.Nat.{mul-div_cancel_left, mul-mod_right}
use Rattle.std.specs.Simd.{first_chunks}
use Rattle.records.specs.Encode.{Each}
use Rattle.records.specs.Decode.{entries_from, branch_from, branches_from, portion_from, portions_from}
use Rattle.records.specs.Held.{branches, portions}
use Rattle.records.proofs.Digits.{get_or_past, be2_past}

-- a part of a whole number of entries has their length
pub part_whole : (w k : ℕ) (xs : List ℕ) (i m : ℕ) → m ≡ w * k → i + m ≤ length xs → length (take m (drop i xs)) ≡ w * k
part_whole w k xs i m e h = simp (length-take, length-drop) (omega arith)

-- so the test for whole entries comes out true
pub test_whole : (w z : ℕ) → z % w ≡ 0 → z / w < 65536 → (eqb (z % w) 0 && ltb (z / w) 65536) ≡ true
test_whole w z e h = and_from (eqb (z % w) 0) (ltb (z / w) 65536) (eq-eqb (z % w) 0 e) (lt-ltb (z / w) 65536 h)

module _ {E : Type 0} (w : ℕ) (one : List ℕ → ℕ → E) where
  pub length-entries : (n : ℕ) (xs : List ℕ) (i : ℕ) → length (entries_from w one n xs i) ≡ n
  length-entries zero xs i = refl
  length-entries (suc n) xs i = ap suc (length-entries n xs (i + w))

  nth_from : (n : ℕ) (xs : List ℕ) (at i : ℕ) → i < n → slice_get (entries_from w one n xs at) i ≡ Some (one xs (at + w * i))
  nth_from zero xs at i h = absurd (omega arith)
  nth_from (suc n) xs at zero h = let e : at + w * 0 ≡ at = omega arith in rw e refl
  nth_from (suc n) xs at (suc i) h =
      let e : at + w + w * i ≡ at + w * suc i = omega (arith, mul-suc w i) in
      nth_from n xs (at + w) i (omega arith) ∙ ap (λ k. Some (one xs k)) e

  -- the i-th entry, and none past the last
  pub nth_entries : (n : ℕ) (xs : List ℕ) (i : ℕ) → i < n → slice_get (entries_from w one n xs 0) i ≡ Some (one xs (w * i))
  nth_entries n xs i h = let e : 0 + w * i ≡ w * i = omega arith in nth_from n xs 0 i h ∙ ap (λ k. Some (one xs k)) e

  pub no_entries : (n : ℕ) (xs : List ℕ) (i : ℕ) → n ≤ i → slice_get (entries_from w one n xs 0) i ≡ None
  no_entries n xs i h = let l = length-entries n xs 0 in slice_get_past (entries_from w one n xs 0) i (omega arith)

  -- the entries inside a part of the bytes are those of the whole
  pub entries_inside : ((xs : List ℕ) (i m j : ℕ) → j + w ≤ m → one (take m (drop i xs)) j ≡ one xs (i + j)) → (n : ℕ) (xs : List ℕ) (i m j : ℕ) → j + w * n ≤ m → entries_from w one n (take m (drop i xs)) j ≡ entries_from w one n xs (i + j)
  entries_inside same zero xs i m j h = refl
  entries_inside same (suc n) xs i m j h =
      let s = mul-suc w n in
      let a = same xs i m j (omega arith) in
      let k = entries_inside same n xs i m (j + w) (omega arith) in
      ap (λ e. e ∷ entries_from w one n (take m (drop i xs)) (j + w)) a ∙ ap (λ es. one xs (i + j) ∷ es) (k ∙ ap (entries_from w one n xs) (sym (add_assoc i j w)))

  -- the entries of whole chunks
  pub entries_of_chunks : ((xs : List ℕ) (i m j : ℕ) → j + w ≤ m → one (take m (drop i xs)) j ≡ one xs (i + j)) → (n : ℕ) (xs : List ℕ) (i : ℕ) → map (λ b. one b 0) (first_chunks w n (drop i xs)) ≡ entries_from w one n xs i
  entries_of_chunks same zero xs i = refl
  entries_of_chunks same (suc n) xs i =
      let e = same xs i w 0 (omega arith) in
      let d : drop w (drop i xs) ≡ drop (i + w) xs = drop-drop w i xs in
      rw (d, entries_of_chunks same n xs (i + w)) (ap (λ o. o ∷ entries_from w one n xs (i + w)) (e ∙ ap (one xs) (add-zero i)))

  -- the entries of a part of whole entries are those of the whole, however many they are
  pub entries_of_part : ((xs : List ℕ) (i m j : ℕ) → j + w ≤ m → one (take m (drop i xs)) j ≡ one xs (i + j)) → (k : ℕ) (xs : List ℕ) (i m : ℕ) → 0 < w → m ≡ w * k → i + m ≤ length xs → entries_from w one (length (take m (drop i xs)) / w) (take m (drop i xs)) 0 ≡ entries_from w one k xs i
  entries_of_part same k xs i m p e h =
      let q : w * k / w ≡ k = mul-div_cancel_left k p in
      rw (part_whole w k xs i m e h, q, entries_inside same k xs i m 0 (omega arith), add-zero) refl

  -- and where they are few enough, the test for whole entries comes out true
  pub entries_read : ((xs : List ℕ) (i m j : ℕ) → j + w ≤ m → one (take m (drop i xs)) j ≡ one xs (i + j)) → (k : ℕ) (xs es : List ℕ) (i : ℕ) → 0 < w → k < 65536 → es ≡ take (w * k) (drop i xs) → i + w * k ≤ length xs → (entries_from w one (length es / w) es 0 ≡ entries_from w one k xs i) × ((eqb (length es % w) 0 && ltb (length es / w) 65536) ≡ true)
  entries_read same k xs es i p few e h =
      let l : length es ≡ w * k = ap length e ∙ part_whole w k xs i (w * k) refl h in
      let q : w * k / w ≡ k = mul-div_cancel_left k p in
      let r : w * k % w ≡ 0 = mul-mod_right w k in (
        rw e (entries_of_part same k xs i (w * k) p refl h),
        test_whole w (length es) (rw (l, r) refl) (rw (l, q) few),
      )

  -- entries past a front are the same without the front
  pub entries_past : ((pre ys : List ℕ) (n : ℕ) → one (pre ++ ys) (length pre + n) ≡ one ys n) → (k : ℕ) (pre ys : List ℕ) (n : ℕ) → entries_from w one k (pre ++ ys) (length pre + n) ≡ entries_from w one k ys n
  entries_past same zero pre ys n = refl
  entries_past same (suc k) pre ys n =
      ap (λ e. e ∷ entries_from w one k (pre ++ ys) (length pre + n + w)) (same pre ys n)
      ∙ ap (λ es. one ys n ∷ es) (ap (entries_from w one k (pre ++ ys)) (add_assoc (length pre) n w) ∙ entries_past same k pre ys (n + w))

  module _ (bytes : E → List ℕ) (width : (e : E) → length (bytes e) ≡ w) where
    pub length-flat_map : (es : List E) → length (flat_map bytes es) ≡ w * length es
    length-flat_map [] = omega arith
    length-flat_map (e ∷ es) = length-append (bytes e) (flat_map bytes es) ∙ omega (arith, width e, length-flat_map es, mul-suc w (length es))

    -- the bytes of the entries that bytes give are those bytes
    pub entries_again : (xs : List ℕ) → ((i : ℕ) → i + w ≤ length xs → drop i xs ≡ bytes (one xs i) ++ drop (i + w) xs) → (n i : ℕ) → i + w * n ≤ length xs → drop i xs ≡ flat_map bytes (entries_from w one n xs i) ++ drop (i + w * n) xs
    entries_again xs again zero i h = let e : i ≡ i + w * 0 = omega arith in ap (λ k. drop k xs) e
    entries_again xs again (suc n) i h =
        let s = mul-suc w n in
        let e : i + w + w * n ≡ i + w * suc n = omega arith in
        again i (omega arith)
        ∙ ap (λ ys. bytes (one xs i) ++ ys) (entries_again xs again n (i + w) (omega arith) ∙ ap (λ k. flat_map bytes (entries_from w one n xs (i + w)) ++ drop k xs) e)
        ∙ sym (append_assoc (bytes (one xs i)) (flat_map bytes (entries_from w one n xs (i + w))) (drop (i + w * suc n) xs))

    -- the entries that the bytes of entries give are those entries
    pub entries_back : (P : E → Type 0) → ((pre ys : List ℕ) (n : ℕ) → one (pre ++ ys) (length pre + n) ≡ one ys n) → ((e : E) (rest : List ℕ) → P e → one (bytes e ++ rest) 0 ≡ e) → (es : List E) (rest : List ℕ) → Each P es → entries_from w one (length es) (flat_map bytes es ++ rest) 0 ≡ es
    entries_back P same back [] rest f = refl
    entries_back P same back (e ∷ es) rest f =
        let r = flat_map bytes es ++ rest in
        let a : (bytes e ++ flat_map bytes es) ++ rest ≡ bytes e ++ r = append_assoc (bytes e) (flat_map bytes es) rest in
        let z : 0 + w ≡ length (bytes e) + 0 = omega (arith, width e) in
        ap (λ ys. entries_from w one (suc (length es)) ys 0) a
        ∙ ap (λ x. x ∷ entries_from w one (length es) (bytes e ++ r) (0 + w)) (back e r f.0)
        ∙ ap (λ ts. e ∷ ts) (ap (entries_from w one (length es) (bytes e ++ r)) z ∙ entries_past same (length es) (bytes e) r 0 ∙ entries_back P same back es rest f.1)

-- a number inside a part
get_or_part : (xs : List ℕ) (i m j : ℕ) → j < m → get_or (take m (drop i xs)) j 0 ≡ get_or xs (i + j) 0
get_or_part xs i m j h = get_or-take m (drop i xs) j 0 h ∙ get_or-drop i xs j 0

-- branches: 4 bytes each
pub branch_inside : (xs : List ℕ) (i m j : ℕ) → j + 4 ≤ m → branch_from (take m (drop i xs)) j ≡ branch_from xs (i + j)
branch_inside xs i m j h =
    let a = get_or_part xs i m j (omega arith) in
    let b = get_or_part xs i m (j + 1) (omega arith) in
    let c = get_or_part xs i m (j + 2) (omega arith) in
    let d = get_or_part xs i m (j + 2 + 1) (omega arith) in
    rw (a, b, c, d) (simp add_assoc)

pub branch_past : (pre ys : List ℕ) (n : ℕ) → branch_from (pre ++ ys) (length pre + n) ≡ branch_from ys n
branch_past pre ys n = rw (add_assoc (length pre) n 2, be2_past pre ys n, be2_past pre ys (n + 2)) refl

-- portions: 5 bytes each
pub portion_inside : (xs : List ℕ) (i m j : ℕ) → j + 5 ≤ m → portion_from (take m (drop i xs)) j ≡ portion_from xs (i + j)
portion_inside xs i m j h =
    let a = get_or_part xs i m j (omega arith) in
    let b = get_or_part xs i m (j + 1) (omega arith) in
    let c = get_or_part xs i m (j + 2) (omega arith) in
    let d = get_or_part xs i m (j + 3) (omega arith) in
    let e = get_or_part xs i m (j + 3 + 1) (omega arith) in
    rw (a, b, c, d, e) (simp add_assoc)

pub portion_past : (pre ys : List ℕ) (n : ℕ) → portion_from (pre ++ ys) (length pre + n) ≡ portion_from ys n
portion_past pre ys n = rw (add_assoc (length pre) n 2, add_assoc (length pre) n 3, be2_past pre ys n, get_or_past pre ys (n + 2), be2_past pre ys (n + 3)) refl

pub branches_of_part : (k : ℕ) (xs : List ℕ) (i m : ℕ) → m ≡ 4 * k → i + m ≤ length xs → branches (take m (drop i xs)) ≡ branches_from k xs i
branches_of_part k xs i m e h = entries_of_part 4 branch_from branch_inside k xs i m (omega arith) e h

pub portions_of_part : (k : ℕ) (xs : List ℕ) (i m : ℕ) → m ≡ 5 * k → i + m ≤ length xs → portions (take m (drop i xs)) ≡ portions_from k xs i
portions_of_part k xs i m e h = entries_of_part 5 portion_from portion_inside k xs i m (omega arith) e h

pub length-branches : (n : ℕ) (xs : List ℕ) (i : ℕ) → length (branches_from n xs i) ≡ n
length-branches n xs i = length-entries 4 branch_from n xs i

pub length-portions : (n : ℕ) (xs : List ℕ) (i : ℕ) → length (portions_from n xs i) ≡ n
length-portions n xs i = length-entries 5 portion_from n xs i

pub branches_of_chunks : (n : ℕ) (xs : List ℕ) → map (λ b. branch_from b 0) (first_chunks 4 n xs) ≡ branches_from n xs 0
branches_of_chunks n xs = entries_of_chunks 4 branch_from branch_inside n xs 0

pub portions_of_chunks : (n : ℕ) (xs : List ℕ) → map (λ b. portion_from b 0) (first_chunks 5 n xs) ≡ portions_from n xs 0
portions_of_chunks n xs = entries_of_chunks 5 portion_from portion_inside n xs 0
