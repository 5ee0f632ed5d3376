-- Numbers that digits write.
use Rattle.std.proofs.Common.{◌≡◌, ◌↔◌, ℕ, ◌^◌, ◌<◌, Result, List, length, get_or, fold, length-drop, arith, rules, tests}
use Rattle.std.specs.Char.{is_ascii_digit}
use Rattle.std.specs.Int.{IsInRange}
use Rattle.std.specs.List.{prefix_len}
use Rattle.std.specs.Result.{OkIff}
use Rattle.std.specs.Str.{IsUtf8}
use Rattle.std.specs.Str.Parse.{ParsesUnsigned}
use Rattle.std.proofs.lemmas.Fmt.{IsAscii-from_digits}
use Rattle.std.proofs.lemmas.List.{get_or-take}
use Rattle.std.proofs.lemmas.List.Folds.{length-prefix_len}
use Rattle.std.proofs.lemmas.List.Sums.{prefix_len_passes, prefix_len-le-length}
use Rattle.std.proofs.lemmas.Str.{IsUtf8-from_ascii}
use Rattle.std.proofs.lemmas.Str.Parse.{IsNumeralModel, numerals_by_fold, tells_by_index, parse_digits}
use Rattle.requests.specs.Line.{appended, value_of, blank, unblanked, digits, OnlyBlanks}

-- each byte is a digit
abbrev pub Digits : List ℕ → Type 0
Digits ds = (i : ℕ) → i < length ds → IsInRange 48 57 (get_or ds i 0)

-- these are the library's digits, and their number is the library's
pub own : IsNumeralModel Digits value_of
own = numerals_by_fold _ tells_by_index (fold appended) (search rules)

-- the first run of digits is digits
pub digits_all : (text : List ℕ) → Digits (digits text)
digits_all text i l =
    let rest = unblanked text in
    let n = prefix_len is_ascii_digit rest in
    let within : i < n = omega (arith, length-prefix_len is_ascii_digit rest) in
    let passes = prefix_len_passes is_ascii_digit rest i 0 within in
    rw (get_or-take n rest i 0 within) (search (rules, tests))

-- and text
pub digits_utf8 : (text : List ℕ) → IsUtf8 (digits text)
digits_utf8 text = IsUtf8-from_ascii _ (IsAscii-from_digits _ (own.to _ (digits_all text)))

-- what the library reads of them
pub digits_parsed :
    {E : Type 0} (text ds : List ℕ) (r : Result ℕ E) → ds ≡ digits text → ParsesUnsigned 32 10 ds r
    → OkIff r ((0 < length (digits text)) × (value_of (digits text) < 2 ^ 32)) (value_of (digits text))
digits_parsed text ds r same h = parse_digits own 32 (digits text) r (rw same at h) (digits_all text)

-- nothing is left behind blanks alone
pub only_blanks : (text : List ℕ) → (length (unblanked text) ≡ 0) ↔ OnlyBlanks text
only_blanks text =
    let skipped = length-drop (prefix_len blank text) text in
    let within = prefix_len-le-length blank text in (λ none. omega arith, λ all. omega arith)
