-- The parts of a record, one behind the other.
use Rattle.std.proofs.Common.{◌≡◌, ℕ, ◌+◌, ◌-◌, ◌<◌, ◌≤◌, List, [], ◌++◌, length, get_or, take, drop, Bor, sym, refl, ap, ◌∙◌, append_assoc, arith}
use borrow.Rule.Slice.PartMut.{put_mid}
use Rattle.std.proofs.lemmas.List.{length-append, length-take-le, take_at, take_all, take_more, flat_map_more}
use Rattle.std.proofs.lemmas.List.Folds.{length-flat_map-take}
use Rattle.encoding.specs.Placed.{joined}

-- the front of a room, up to `at`, holds ys
pub record Filled (xs : List ℕ) (at : ℕ) (ys : List ℕ) : Type 0 where
  pub ends : at ≡ length ys
  pub front : take at xs ≡ ys

-- a full room holds nothing else
pub filled_whole : (xs : List ℕ) (at : ℕ) (ys : List ℕ) → Filled xs at ys → length xs ≡ length ys → xs ≡ ys
filled_whole xs at ys h e = sym (take_all at xs (omega (arith, h.ends))) ∙ h.front

-- one part more
pub filled_more : (xs : List ℕ) (at : ℕ) (ys ps zs : List ℕ) → Filled xs at ys → ps ≡ zs → at + length zs ≤ length xs → Filled (put_mid at (at + length zs - at) xs ps) (at + length zs) (ys ++ zs)
filled_more xs at ys ps zs h e fits =
    let d = drop (at + length zs - at) (drop at xs) in
    let l : length (take at xs ++ zs) ≡ at + length zs = length-append (take at xs) zs ∙ ap (λ n. n + length zs) (length-take-le at xs (omega arith)) in
    record {
      ends = omega (arith, h.ends, length-append ys zs);
      front = rw (e, ← append_assoc (take at xs) zs d, take_at (take at xs ++ zs) d _ l, h.front) refl;
    }

-- the slice that is read past the end
abbrev none : Bor (List ℕ)
none = record { ref_ptr = (0, 0); now = [] }

module _ (parts : List (Bor (List ℕ))) (i : ℕ) (h : i < length parts) where
  pub joined_more : joined (take (i + 1) parts) ≡ joined (take i parts) ++ (get_or parts i none).now
  joined_more = ap joined (take_more parts i none h) ∙ sym (flat_map_more (λ (p : Bor (List ℕ)). p.now) [] (take i parts) (get_or parts i none))

  pub joined_fits : length (joined (take i parts)) + length (get_or parts i none).now ≤ length (joined parts)
  joined_fits = length-flat_map-take (λ (p : Bor (List ℕ)). p.now) parts i none h
