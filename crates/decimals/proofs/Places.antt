-- Places of a decimal.
use Rattle.std.proofs.Common.{◌≡◌, ℕ, ◌+◌, ◌-◌, ◌/◌, ◌%◌, ◌^◌, ◌<◌, ◌≤◌, false, List, [], ◌∷◌, ◌++◌, length, replicate, sym, ap, ⊎_elim, append-nil, append_assoc, arith}
use Rattle.std.specs.Fmt.{decimal, padded_integral, format_spec, char_count, number_padding, styled_decimal}
use Rattle.std.proofs.lemmas.Bool.{cases_lt}
use Rattle.std.proofs.lemmas.Fmt.{decimal_digit, decimal_step}
use Rattle.std.proofs.lemmas.List.{length_push, replicate-append-replicate}
use Rattle.decimals.specs.Decimal.{written}

-- a number in at least k places
abbrev filled : ℕ → ℕ → List ℕ
filled k n = replicate (k - length (decimal n)) 48 ++ decimal n

filled_integral : (n : ℕ) → padded_integral (format_spec 32 0 4 6 (2 ^ 64 - 1)) false [] (decimal n) ≡ filled 6 n
unfolding padded_integral char_count
filled_integral n =
    let short : number_padding (format_spec 32 0 4 6 (2 ^ 64 - 1)) false [] (length (decimal n)) ≡ 6 - length (decimal n) = omega arith in
    simp append-nil (ap (λ k. replicate k 48 ++ decimal n) short)

-- one place more, the lowest
filled_more : (k n : ℕ) → n < 2 ^ 64 → filled (k + 2) n ≡ filled (k + 1) (n / 10) ++ ((48 + n % 10) ∷ [])
filled_more k n l = ⊎_elim
    (λ (one : n < 10).
    let none : n / 10 ≡ 0 = omega arith in
    let all : n % 10 ≡ n = omega arith in
    let before : k + 2 - 1 ≡ k + 1 = omega arith in
    let fewer : k + 1 - 1 ≡ k = omega arith in
    let zeros : replicate k 48 ++ (48 ∷ []) ≡ replicate (k + 1) 48 = replicate-append-replicate {A = ℕ} k 1 48 in
    rw (none, all, decimal_digit n one, decimal_digit 0 (omega arith), before, fewer) (ap (λ xs. xs ++ ((48 + n) ∷ [])) (sym zeros)))
    (λ (more : 10 ≤ n).
    let ds = decimal (n / 10) in
    let less : k + 2 - (length ds + 1) ≡ k + 1 - length ds = omega arith in
    rw (decimal_step n more l, length_push, less) (sym (append_assoc (replicate (k + 1 - length ds) 48) ds ((48 + n % 10) ∷ []))))
    (cases_lt n 10)

filled_one : (n : ℕ) → n < 10 → filled 1 n ≡ (48 + n) ∷ []
filled_one n one = rw (decimal_digit n one)

-- six places
six : (n : ℕ) → n < 1000000
    → filled 6 n
    ≡ (48 + n / 10 / 10 / 10 / 10 / 10) ∷ (48 + n / 10 / 10 / 10 / 10 % 10) ∷ (48 + n / 10 / 10 / 10 % 10) ∷ (48 + n / 10 / 10 % 10) ∷ (48 + n / 10 % 10)
    ∷ (48 + n % 10) ∷ []
six n l =
    rw (
      filled_more 4 n (omega arith),
      filled_more 3 (n / 10) (omega arith),
      filled_more 2 (n / 10 / 10) (omega arith),
      filled_more 1 (n / 10 / 10 / 10) (omega arith),
      filled_more 0 (n / 10 / 10 / 10 / 10) (omega arith),
      filled_one (n / 10 / 10 / 10 / 10 / 10) (omega arith),
    )

-- the whole ones, a point, and what stands behind it in six places
pub written_six : (n : ℕ) → decimal (n / 1000000) ++ (46 ∷ styled_decimal (format_spec 32 0 4 6 (2 ^ 64 - 1)) (n % 1000000)) ≡ written n
written_six n =
    let m = n % 1000000 in
    let a : m / 10 / 10 / 10 / 10 / 10 ≡ n / 100000 % 10 = omega arith in
    let b : m / 10 / 10 / 10 / 10 % 10 ≡ n / 10000 % 10 = omega arith in
    let d : m / 10 / 10 / 10 % 10 ≡ n / 1000 % 10 = omega arith in
    let e : m / 10 / 10 % 10 ≡ n / 100 % 10 = omega arith in
    let f : m / 10 % 10 ≡ n / 10 % 10 = omega arith in
    let h : m % 10 ≡ n % 10 = omega arith in
    rw (
      filled_integral m,
      six m (omega arith),
      a,
      b,
      d,
      e,
      f,
      h,
      decimal_digit (n / 100000 % 10) (omega arith),
      decimal_digit (n / 10000 % 10) (omega arith),
      decimal_digit (n / 1000 % 10) (omega arith),
      decimal_digit (n / 100 % 10) (omega arith),
      decimal_digit (n / 10 % 10) (omega arith),
      decimal_digit (n % 10) (omega arith),
    )
