-- The bytes of whole entries, however many: how long a record of them is, and that they stand in it as they are.
use Rattle.std.proofs.Common.{◌≡◌, ℕ, ◌+◌, ◌*◌, ◌/◌, ◌%◌, ◌<◌, ◌≤◌, List, ◌∷◌, ◌++◌, length, get_or, drop, sym, refl, ap, ◌∙◌, append-nil, arith}
use Rattle.std.specs.List.{flat_map}
use Rattle.std.proofs.lemmas.List.{drop_all}
use Rattle.records.specs.Content.{ch, wf}
use Rattle.records.specs.Decode.{entries_from, branch_from, portion_from}
use Rattle.records.specs.Encode.{two, encode, branch_bytes, portion_bytes}
use Rattle.records.specs.Held.{branches, portions}
use Rattle.records.proofs.EntryLists.{entries_again, length-entries, length-branches, length-portions, length-flat_map}
use Rattle.records.proofs.Exactness.{branch_width, branch_again, portion_width, portion_again}

-- the bytes of the entries that whole entries are read as
module _ {E : Type 0} (w : ℕ) (one : List ℕ → ℕ → E) (bytes : E → List ℕ) (width : (e : E) → length (bytes e) ≡ w) (some : 0 < w) (xs : List ℕ) (h : length xs % w ≡ 0) where
  pub length_again : length (flat_map bytes (entries_from w one (length xs / w) xs 0)) ≡ length xs
  length_again =
      let es = entries_from w one (length xs / w) xs 0 in
      length-flat_map w one bytes width es ∙ ap (λ n. w * n) (length-entries w one (length xs / w) xs 0) ∙ omega arith

  pub bytes_again : ((i : ℕ) → i + w ≤ length xs → drop i xs ≡ bytes (one xs i) ++ drop (i + w) xs) → flat_map bytes (entries_from w one (length xs / w) xs 0) ≡ xs
  bytes_again again =
      let es = entries_from w one (length xs / w) xs 0 in
      let e = entries_again w one bytes width xs again (length xs / w) 0 (omega arith) in
      let d = drop_all (0 + w * (length xs / w)) xs (omega arith) in
      sym (e ∙ ap (λ ys. flat_map bytes es ++ ys) d ∙ append-nil (flat_map bytes es))

pub length-ch : (xs : List ℕ) → length xs % 4 ≡ 0 → length (encode (ch (branches xs))) ≡ 4 + length xs
length-ch xs h = omega (arith, length_again 4 branch_from branch_bytes branch_width (omega arith) xs h)

pub length-wf : (s t c m : ℕ) (xs : List ℕ) → length xs % 5 ≡ 0 → length (encode (wf s t c m (portions xs))) ≡ 11 + length xs
length-wf s t c m xs h = omega (arith, length_again 5 portion_from portion_bytes portion_width (omega arith) xs h)

module _ (xs : List ℕ) (small : (j : ℕ) → get_or xs j 0 < 256) where
  pub ch_bytes : length xs % 4 ≡ 0 → encode (ch (branches xs)) ≡ (67 ∷ 72 ∷ two (length xs / 4)) ++ xs
  ch_bytes h = rw (length-branches (length xs / 4) xs 0, bytes_again 4 branch_from branch_bytes branch_width (omega arith) xs h (branch_again xs small)) refl

  pub wf_bytes : (s h c m : ℕ) → length xs % 5 ≡ 0 → encode (wf s h c m (portions xs)) ≡ (87 ∷ 70 ∷ (two s ++ (h ∷ (two c ++ (two m ++ two (length xs / 5)))))) ++ xs
  wf_bytes s h c m w = rw (length-portions (length xs / 5) xs 0, bytes_again 5 portion_from portion_bytes portion_width (omega arith) xs w (portion_again xs small)) refl
