-- What is encoded is decoded again.
use Rattle.std.proofs.Common.{◌≡◌, ℕ, ◌+◌, ◌*◌, ◌≤◌, ltb, List, ◌∷◌, ◌++◌, length, get_or, Some, Ok, refl, ap, ◌∙◌, arith}
use Rattle.std.specs.List.{flat_map}
use Rattle.std.proofs.lemmas.Bool.{le-ltb, cond-false}
use Rattle.std.proofs.lemmas.List.{length-append}
use Rattle.records.specs.declared.content.Branch.{Branch}
use Rattle.records.specs.declared.content.Portion.{Portion}
use Rattle.records.specs.Content.{Content, md, st, ch, hd, ce, fl, pc, pm, rw', wf, zz, mark_of}
use Rattle.records.specs.Encode.{encode, Fits, two, branch_bytes, portion_bytes, BranchFits, PortionFits}
use Rattle.records.specs.Decode.{be2, be4, be8, branch_from, branches_from, portion_from, portions_from, mark_spelled, size, decoded}
use Rattle.records.specs.Held.{known, mark_at}
use Rattle.records.proofs.Digits.{get_or_past, get_or_first, be2_past, be4_past, be8_past, two_back, four_back, eight_back}
use Rattle.records.proofs.EntryLists.{entries_past, entries_back, length-flat_map, branch_past, portion_past}

branch_back : (b : Branch) (rest : List ℕ) → BranchFits b → branch_from (branch_bytes b ++ rest) 0 ≡ b
branch_back b rest f = rw (two_back b.target f.0, two_back b.weight f.1) refl

portion_back : (p : Portion) (rest : List ℕ) → PortionFits p → portion_from (portion_bytes p ++ rest) 0 ≡ p
portion_back p rest f = rw (two_back p.target f.0, two_back p.amount f.2) refl

pub branches_length : (bs : List Branch) → length (flat_map branch_bytes bs) ≡ 4 * length bs
branches_length bs = length-flat_map 4 branch_from branch_bytes (λ b. refl) bs

pub portions_length : (ps : List Portion) → length (flat_map portion_bytes ps) ≡ 5 * length ps
portions_length ps = length-flat_map 5 portion_from portion_bytes (λ p. refl) ps

-- the record that a front and its bytes give back
decoded_back : (r : Content) (pre rest : List ℕ) → Fits r → decoded (mark_of r) (pre ++ (encode r ++ rest)) (length pre) ≡ r
decoded_back (md n d) pre rest f = let ys = encode (md n d) ++ rest in
    ap (λ a. md a (be2 (pre ++ ys) (length pre + 4))) (be2_past pre ys 2 ∙ two_back n f.0) ∙ ap (md n) (be2_past pre ys 4 ∙ two_back d f.1)
decoded_back (st g k) pre rest f = let ys = encode (st g k) ++ rest in
    ap (λ a. st a (be2 (pre ++ ys) (length pre + 3))) (get_or_past pre ys 2) ∙ ap (st g) (be2_past pre ys 3 ∙ two_back k f.1)
decoded_back (ch es) pre rest f =
    let ys = encode (ch es) ++ rest in
    let xs = pre ++ ys in
    let at = length pre in
    let top : List ℕ = 67 ∷ 72 ∷ two (length es) in
    let k : be2 xs (at + 2) ≡ length es = be2_past pre ys 2 ∙ two_back (length es) f.0 in
    ap (λ n. ch (branches_from n xs (at + 4))) k
    ∙ ap ch (entries_past 4 branch_from branch_past (length es) pre ys 4 ∙ entries_past 4 branch_from branch_past (length es) top (flat_map branch_bytes es ++ rest) 0
    ∙ entries_back 4 branch_from branch_bytes (λ b. refl) BranchFits branch_past branch_back es rest f.1)
decoded_back (hd k s) pre rest f = let ys = encode (hd k s) ++ rest in
    ap (λ a. hd a (get_or (pre ++ ys) (length pre + 3) 0)) (get_or_past pre ys 2) ∙ ap (hd k) (get_or_past pre ys 3)
decoded_back (ce s c) pre rest f = let ys = encode (ce s c) ++ rest in
    ap (λ a. ce a (be4 (pre ++ ys) (length pre + 4))) (be2_past pre ys 2 ∙ two_back s f.0) ∙ ap (ce s) (be4_past pre ys 4 ∙ four_back c f.1)
decoded_back (fl s c) pre rest f = let ys = encode (fl s c) ++ rest in
    ap (λ a. fl a (be4 (pre ++ ys) (length pre + 4))) (be2_past pre ys 2 ∙ two_back s f.0) ∙ ap (fl s) (be4_past pre ys 4 ∙ four_back c f.1)
decoded_back (pc s c) pre rest f = let ys = encode (pc s c) ++ rest in
    ap (λ a. pc a (get_or (pre ++ ys) (length pre + 4) 0)) (be2_past pre ys 2 ∙ two_back s f.0) ∙ ap (pc s) (get_or_past pre ys 4)
decoded_back (pm s c m) pre rest f = let ys = encode (pm s c m) ++ rest in
    ap (λ a. pm a (be2 (pre ++ ys) (length pre + 4)) (be2 (pre ++ ys) (length pre + 6))) (be2_past pre ys 2 ∙ two_back s f.0)
    ∙ ap (λ a. pm s a (be2 (pre ++ ys) (length pre + 6))) (be2_past pre ys 4 ∙ two_back c f.1) ∙ ap (pm s c) (be2_past pre ys 6 ∙ two_back m f.2)
decoded_back (rw' s r) pre rest f = let ys = encode (rw' s r) ++ rest in
    ap (λ a. rw' a (be8 (pre ++ ys) (length pre + 4))) (be2_past pre ys 2 ∙ two_back s f.0) ∙ ap (rw' s) (be8_past pre ys 4 ∙ eight_back r f.1)
decoded_back (wf s h c m es) pre rest f =
    let ys = encode (wf s h c m es) ++ rest in
    let xs = pre ++ ys in
    let at = length pre in
    let top : List ℕ = 87 ∷ 70 ∷ (two s ++ (h ∷ (two c ++ (two m ++ two (length es))))) in
    let k : be2 xs (at + 9) ≡ length es = be2_past pre ys 9 ∙ two_back (length es) f.4 in
    let e : portions_from (be2 xs (at + 9)) xs (at + 11) ≡ es =
    ap (λ n. portions_from n xs (at + 11)) k ∙ entries_past 5 portion_from portion_past (length es) pre ys 11 ∙ entries_past 5 portion_from portion_past (length es) top (flat_map portion_bytes es ++ rest) 0
    ∙ entries_back 5 portion_from portion_bytes (λ p. refl) PortionFits portion_past portion_back es rest f.5 in
    ap (λ a. wf a (get_or xs (at + 4) 0) (be2 xs (at + 5)) (be2 xs (at + 7)) (portions_from (be2 xs (at + 9)) xs (at + 11))) (be2_past pre ys 2 ∙ two_back s f.0)
    ∙ ap (λ a. wf s a (be2 xs (at + 5)) (be2 xs (at + 7)) (portions_from (be2 xs (at + 9)) xs (at + 11))) (get_or_past pre ys 4)
    ∙ ap (λ a. wf s h a (be2 xs (at + 7)) (portions_from (be2 xs (at + 9)) xs (at + 11))) (be2_past pre ys 5 ∙ two_back c f.2)
    ∙ ap (λ a. wf s h c a (portions_from (be2 xs (at + 9)) xs (at + 11))) (be2_past pre ys 7 ∙ two_back m f.3)
    ∙ ap (wf s h c m) e
decoded_back zz pre rest f = refl

size_back : (r : Content) (pre rest : List ℕ) → Fits r → size (mark_of r) (pre ++ (encode r ++ rest)) (length pre) ≡ length (encode r)
size_back (md n d) pre rest f = refl
size_back (st g k) pre rest f = refl
size_back (ch es) pre rest f =
    let ys = encode (ch es) ++ rest in
    let k : be2 (pre ++ ys) (length pre + 2) ≡ length es = be2_past pre ys 2 ∙ two_back (length es) f.0 in
    ap (λ n. 4 + 4 * n) k ∙ omega (arith, branches_length es)
size_back (hd k s) pre rest f = refl
size_back (ce s c) pre rest f = refl
size_back (fl s c) pre rest f = refl
size_back (pc s c) pre rest f = refl
size_back (pm s c m) pre rest f = refl
size_back (rw' s r) pre rest f = refl
size_back (wf s h c m es) pre rest f =
    let ys = encode (wf s h c m es) ++ rest in
    let k : be2 (pre ++ ys) (length pre + 9) ≡ length es = be2_past pre ys 9 ∙ two_back (length es) f.4 in
    ap (λ n. 11 + 5 * n) k ∙ omega (arith, portions_length es)
size_back zz pre rest f = refl

mark_back : (r : Content) (rest : List ℕ) → mark_spelled (get_or (encode r ++ rest) 0 0) (get_or (encode r ++ rest) 1 0) ≡ Some (mark_of r)
mark_back (md n d) rest = refl
mark_back (st g k) rest = refl
mark_back (ch es) rest = refl
mark_back (hd k s) rest = refl
mark_back (ce s c) rest = refl
mark_back (fl s c) rest = refl
mark_back (pc s c) rest = refl
mark_back (pm s c m) rest = refl
mark_back (rw' s r) rest = refl
mark_back (wf s h c m es) rest = refl
mark_back zz rest = refl

pub encode_least : (r : Content) → 2 ≤ length (encode r)
encode_least r = omega arith

-- after any front and before any rest, a record stands there with its mark, its size and what it says
module _ (r : Content) (pre rest : List ℕ) (f : Fits r) where
  pub mark_returns : mark_at (pre ++ (encode r ++ rest)) (length pre) ≡ Ok (mark_of r)
  mark_returns =
      let ys = encode r ++ rest in
      let l = length-append pre ys in
      let k = length-append (encode r) rest in
      cond-false (ltb (length (pre ++ ys)) (length pre + 2)) _ _ (le-ltb (length (pre ++ ys)) (length pre + 2) (omega (arith, encode_least r)))
      ∙ ap known (ap (λ a. mark_spelled a (get_or (pre ++ ys) (length pre + 1) 0)) (get_or_first pre ys) ∙ ap (mark_spelled (get_or ys 0 0)) (get_or_past pre ys 1) ∙ mark_back r rest)

  pub size_returns : size (mark_of r) (pre ++ (encode r ++ rest)) (length pre) ≡ length (encode r)
  size_returns = size_back r pre rest f

  pub content_returns : decoded (mark_of r) (pre ++ (encode r ++ rest)) (length pre) ≡ r
  content_returns = decoded_back r pre rest f
