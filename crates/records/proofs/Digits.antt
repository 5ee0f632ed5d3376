-- Numbers, their bytes, and the numbers again.
use Rattle.std.proofs.Common.{◌≡◌, ℕ, zero, suc, ◌+◌, ◌*◌, ◌/◌, ◌%◌, ◌<◌, ◌≤◌, List, [], ◌∷◌, ◌++◌, length, get_or, drop, sym, refl, ap, ◌∙◌, add-zero, add_assoc, div-add-mod', add-one, arith}
use native.Mathlib.Nat.{div-div-eq-div-mul}
use Rattle.std.proofs.lemmas.List.{drop_more, get_or-append-add}
use Rattle.records.specs.Encode.{two, four, eight}
use Rattle.records.specs.Decode.{be2, be4, be8}

-- bytes to a number and back
two_again : (a b : ℕ) → a < 256 → b < 256 → two (a * 256 + b) ≡ a ∷ b ∷ []
two_again a b h k =
    let p : (a * 256 + b) / 256 % 256 ≡ a = omega arith in
    let q : (a * 256 + b) % 256 ≡ b = omega arith in
    ap (λ x. x ∷ ((a * 256 + b) % 256) ∷ []) p ∙ ap (λ y. a ∷ y ∷ []) q

four_again : (a b c d : ℕ) → a < 256 → b < 256 → c < 256 → d < 256 → four (a * 16777216 + b * 65536 + c * 256 + d) ≡ a ∷ b ∷ c ∷ d ∷ []
four_again a b c d h0 h1 h2 h3 =
    let n = a * 16777216 + b * 65536 + c * 256 + d in
    let p : n / 16777216 % 256 ≡ a = omega arith in
    let q : n / 65536 % 256 ≡ b = omega arith in
    let r : n / 256 % 256 ≡ c = omega arith in
    let s : n % 256 ≡ d = omega arith in
    ap (λ x. x ∷ (n / 65536 % 256) ∷ (n / 256 % 256) ∷ (n % 256) ∷ []) p ∙ ap (λ x. a ∷ x ∷ (n / 256 % 256) ∷ (n % 256) ∷ []) q ∙ ap (λ x. a ∷ b ∷ x ∷ (n % 256) ∷ []) r ∙ ap (λ x. a ∷ b ∷ c ∷ x ∷ []) s

eight_split : (A B : ℕ) → A < 4294967296 → B < 4294967296 → eight (A * 4294967296 + B) ≡ four A ++ four B
eight_split A B h k =
    let n = A * 4294967296 + B in
    let q : n / 4294967296 ≡ A = omega arith in
    let p7 : n / 72057594037927936 % 256 ≡ A / 16777216 % 256 = ap (λ x. x % 256) (sym (div-div-eq-div-mul n 4294967296 16777216) ∙ ap (λ x. x / 16777216) q) in
    let p6 : n / 281474976710656 % 256 ≡ A / 65536 % 256 = ap (λ x. x % 256) (sym (div-div-eq-div-mul n 4294967296 65536) ∙ ap (λ x. x / 65536) q) in
    let p5 : n / 1099511627776 % 256 ≡ A / 256 % 256 = ap (λ x. x % 256) (sym (div-div-eq-div-mul n 4294967296 256) ∙ ap (λ x. x / 256) q) in
    let p4 : n / 4294967296 % 256 ≡ A % 256 = ap (λ x. x % 256) q in
    let p3 : n / 16777216 % 256 ≡ B / 16777216 % 256 = omega arith in
    let p2 : n / 65536 % 256 ≡ B / 65536 % 256 = omega arith in
    let p1 : n / 256 % 256 ≡ B / 256 % 256 = omega arith in
    let p0 : n % 256 ≡ B % 256 = omega arith in
    rw (p7, p6, p5, p4, p3, p2, p1, p0) refl

-- the n bytes at at + i
abbrev pub gets : ℕ → List ℕ → ℕ → ℕ → List ℕ
gets zero xs at i = []
gets (suc n) xs at i = get_or xs (at + i) 0 ∷ gets n xs at (suc i)

pub front : (n : ℕ) (xs : List ℕ) (at i : ℕ) → at + i + n ≤ length xs → drop (at + i) xs ≡ gets n xs at i ++ drop (at + i + n) xs
front zero xs at i h = ap (λ k. drop k xs) (sym (add-zero (at + i)))
front (suc n) xs at i h =
    let a : at + i + 1 ≡ at + suc i = omega arith in
    let b : at + suc i + n ≡ at + i + suc n = omega arith in
    drop_more xs (at + i) 0 (omega arith) ∙ ap (λ k. get_or xs (at + i) 0 ∷ drop k xs) a ∙ ap (λ ts. get_or xs (at + i) 0 ∷ ts) (front n xs at (suc i) (omega arith)) ∙ ap (λ k. get_or xs (at + i) 0 ∷ (gets n xs at (suc i) ++ drop k xs)) b

module _ (xs : List ℕ) (f : (j : ℕ) → get_or xs j 0 < 256) where
  pub two_at : (at i : ℕ) → two (be2 xs (at + i)) ≡ gets 2 xs at i
  two_at at i = two_again (get_or xs (at + i) 0) (get_or xs (at + i + 1) 0) (f (at + i)) (f (at + i + 1)) ∙ ap (λ k. get_or xs (at + i) 0 ∷ get_or xs k 0 ∷ []) (add_assoc at i 1 ∙ ap (λ k. at + k) (add-one i))

  pub four_at : (at i : ℕ) → four (be4 xs (at + i)) ≡ gets 4 xs at i
  four_at at i =
      let e1 : at + i + 1 ≡ at + suc i = omega arith in
      let e2 : at + i + 2 ≡ at + suc (suc i) = omega arith in
      let e3 : at + i + 3 ≡ at + suc (suc (suc i)) = omega arith in
      four_again (get_or xs (at + i) 0) (get_or xs (at + i + 1) 0) (get_or xs (at + i + 2) 0) (get_or xs (at + i + 3) 0) (f (at + i)) (f (at + i + 1)) (f (at + i + 2)) (f (at + i + 3))
      ∙ ap (λ k. get_or xs (at + i) 0 ∷ get_or xs k 0 ∷ get_or xs (at + i + 2) 0 ∷ get_or xs (at + i + 3) 0 ∷ []) e1
      ∙ ap (λ k. get_or xs (at + i) 0 ∷ get_or xs (at + suc i) 0 ∷ get_or xs k 0 ∷ get_or xs (at + i + 3) 0 ∷ []) e2
      ∙ ap (λ k. get_or xs (at + i) 0 ∷ get_or xs (at + suc i) 0 ∷ get_or xs (at + suc (suc i)) 0 ∷ get_or xs k 0 ∷ []) e3

  pub be2_below : (i : ℕ) → be2 xs i < 65536
  be2_below i = omega (arith, f i, f (i + 1))

  pub be4_below : (i : ℕ) → be4 xs i < 4294967296
  be4_below i = omega (arith, f i, f (i + 1), f (i + 2), f (i + 3))

  pub eight_at : (at i : ℕ) → eight (be8 xs (at + i)) ≡ gets 4 xs at i ++ four (be4 xs (at + i + 4))
  eight_at at i = eight_split (be4 xs (at + i)) (be4 xs (at + i + 4)) (be4_below (at + i)) (be4_below (at + i + 4)) ∙ ap (λ l. l ++ four (be4 xs (at + i + 4))) (four_at at i)

-- what stands past a front is the same without the front
module _ (pre ys : List ℕ) where
  pub get_or_past : (n : ℕ) → get_or (pre ++ ys) (length pre + n) 0 ≡ get_or ys n 0
  get_or_past n = get_or-append-add pre ys n 0

  pub get_or_first : get_or (pre ++ ys) (length pre) 0 ≡ get_or ys 0 0
  get_or_first = ap (λ n. get_or (pre ++ ys) n 0) (sym (add-zero (length pre))) ∙ get_or-append-add pre ys 0 0

  pub be2_past : (n : ℕ) → be2 (pre ++ ys) (length pre + n) ≡ be2 ys n
  be2_past n = rw (add_assoc (length pre) n 1, get_or_past n, get_or_past (n + 1)) refl

  pub be4_past : (n : ℕ) → be4 (pre ++ ys) (length pre + n) ≡ be4 ys n
  be4_past n = rw (add_assoc (length pre) n 1, add_assoc (length pre) n 2, add_assoc (length pre) n 3, get_or_past n, get_or_past (n + 1), get_or_past (n + 2), get_or_past (n + 3)) refl

  pub be8_past : (n : ℕ) → be8 (pre ++ ys) (length pre + n) ≡ be8 ys n
  be8_past n = ap (λ a. a * 4294967296 + be4 (pre ++ ys) (length pre + n + 4)) (be4_past n) ∙ ap (λ i. be4 ys n * 4294967296 + be4 (pre ++ ys) i) (add_assoc (length pre) n 4) ∙ ap (λ b. be4 ys n * 4294967296 + b) (be4_past (n + 4))

-- a number to bytes and back
pub two_back : (n : ℕ) → n < 65536 → n / 256 % 256 * 256 + n % 256 ≡ n
two_back n h = omega arith

-- one digit of a quotient
digit : (n d : ℕ) → n / (d * 256) * 256 + n / d % 256 ≡ n / d
digit n d = ap (λ q. q * 256 + n / d % 256) (sym (div-div-eq-div-mul n d 256)) ∙ div-add-mod' (n / d) 256

top : (q : ℕ) → q < 256 → q % 256 ≡ q
top q h = omega arith

four_sum : (n q1 q2 q3 r0 r1 r2 r3 : ℕ) → q1 * 256 + r0 ≡ n → q2 * 256 + r1 ≡ q1 → q3 * 256 + r2 ≡ q2 → r3 ≡ q3 → r3 * 16777216 + r2 * 65536 + r1 * 256 + r0 ≡ n
four_sum n q1 q2 q3 r0 r1 r2 r3 a b c d = omega arith

pub four_back : (n : ℕ) → n < 4294967296 → n / 16777216 % 256 * 16777216 + n / 65536 % 256 * 65536 + n / 256 % 256 * 256 + n % 256 ≡ n
four_back n h =
    four_sum n (n / 256) (n / 65536) (n / 16777216) (n % 256) (n / 256 % 256) (n / 65536 % 256) (n / 16777216 % 256)
    (div-add-mod' n 256) (digit n 256) (digit n 65536) (top (n / 16777216) (omega arith))

eight_sum : (n q1 q2 q3 q4 q5 q6 q7 r0 r1 r2 r3 r4 r5 r6 r7 : ℕ) → q1 * 256 + r0 ≡ n → q2 * 256 + r1 ≡ q1 → q3 * 256 + r2 ≡ q2 → q4 * 256 + r3 ≡ q3 → q5 * 256 + r4 ≡ q4 → q6 * 256 + r5 ≡ q5 → q7 * 256 + r6 ≡ q6 → r7 ≡ q7 → (r7 * 16777216 + r6 * 65536 + r5 * 256 + r4) * 4294967296 + (r3 * 16777216 + r2 * 65536 + r1 * 256 + r0) ≡ n
eight_sum n q1 q2 q3 q4 q5 q6 q7 r0 r1 r2 r3 r4 r5 r6 r7 a b c d e f g h = omega arith

pub eight_back : (n : ℕ) → n < 18446744073709551616 → (n / 72057594037927936 % 256 * 16777216 + n / 281474976710656 % 256 * 65536 + n / 1099511627776 % 256 * 256 + n / 4294967296 % 256) * 4294967296 + (n / 16777216 % 256 * 16777216 + n / 65536 % 256 * 65536 + n / 256 % 256 * 256 + n % 256) ≡ n
eight_back n h =
    eight_sum n (n / 256) (n / 65536) (n / 16777216) (n / 4294967296) (n / 1099511627776) (n / 281474976710656) (n / 72057594037927936)
    (n % 256) (n / 256 % 256) (n / 65536 % 256) (n / 16777216 % 256) (n / 4294967296 % 256) (n / 1099511627776 % 256) (n / 281474976710656 % 256) (n / 72057594037927936 % 256)
    (div-add-mod' n 256) (digit n 256) (digit n 65536) (digit n 16777216) (digit n 4294967296) (digit n 1099511627776) (digit n 281474976710656) (top (n / 72057594037927936) (omega arith))
