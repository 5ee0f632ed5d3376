-- A record written into a buffer.
use Rattle.std.specs.Prelude.{◌≡◌, ℕ, ◌+◌, ◌<◌, ◌≤◌, true, List, length, Some, None, Option}
use Rattle.std.specs.Borrow.{Bor}
use Rattle.std.specs.List.{flat_map, splice}
use Rattle.records.specs.declared.content.Record.{Record}
use Rattle.records.specs.Encode.{encode, Fits}
use Rattle.records.specs.Held.{content, whole}

-- the bytes of some slices, one behind the other
abbrev pub joined : List (Bor (List ℕ)) → List ℕ
joined parts = flat_map (λ p. p.now) parts

-- The buffer that held xs holds ys: the record's bytes at `at`, up to `behind`, and else what it held.
pub record Encoded (xs : List ℕ) (at : ℕ) (r : Record) (ys : List ℕ) (behind : ℕ) : Type 0 where
  pub bytes : ys ≡ splice xs at behind (encode (content r))
  pub ends : behind ≡ at + length (encode (content r))
  pub within : behind ≤ length xs
  pub entries : whole r ≡ true
  pub fits : Fits (content r)

-- Or it ended before they would, or the record is not whole, and it holds what it held.
pub record NotEncoded (xs : List ℕ) (at : ℕ) (r : Record) (ys : List ℕ) : Type 0 where
  pub same : ys ≡ xs
  pub short : whole r ≡ true → length xs < at + length (encode (content r))

abbrev pub Encodes : List ℕ → ℕ → Record → List ℕ → Option ℕ → Type 0
Encodes xs at r ys (Some behind) = Encoded xs at r ys behind
Encodes xs at r ys None = NotEncoded xs at r ys
