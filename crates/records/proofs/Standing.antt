-- A record that stands in bytes: its mark, its size and what it says are read there; and what is decoded there stands there.
use Rattle.std.proofs.Common.{◌≡◌, ℕ, ◌+◌, ◌-◌, ◌<◌, ◌≤◌, List, ◌++◌, length, get_or, take, drop, Some, None, Ok, Option, sym, ap, ◌∙◌, subst, arith}
use Rattle.std.proofs.lemmas.List.{take-append-drop, length-take-le, length-append, length-drop}
use Rattle.records.specs.declared.content.Mark.{Mark}
use Rattle.records.specs.declared.content.Record.{Record}
use Rattle.records.specs.Content.{Content, mark_of}
use Rattle.records.specs.Encode.{encode, Fits}
use Rattle.records.specs.Decode.{size, decoded}
use Rattle.records.specs.Held.{content, mark_at, Decodes, Stands}
use Rattle.records.proofs.Exactness.{mark_letters, mark_decoded, decoded_fits, again}
use Rattle.records.proofs.Return.{encode_least, mark_returns, size_returns, content_returns}

-- a record's bytes from `at` on: its mark, its size and what it says are read there
pub record Standing (xs : List ℕ) (at : ℕ) (r : Content) : Type 0 where
  pub mark : mark_at xs at ≡ Ok (mark_of r)
  pub size : size (mark_of r) xs at ≡ length (encode r)
  pub content : decoded (mark_of r) xs at ≡ r
  pub room : at + length (encode r) ≤ length xs

-- bytes that follow an offset begin before the end
starts_within : (xs zs : List ℕ) (at : ℕ) (r : Content) → drop at xs ≡ encode r ++ zs → at + length (encode r) ≤ length xs
starts_within xs zs at r e =
    let l : length xs - at ≡ length (encode r) + length zs = sym (length-drop at xs) ∙ ap length e ∙ length-append (encode r) zs in
    omega (arith, encode_least r)

pub stands : (xs zs : List ℕ) (at : ℕ) (r : Content) → drop at xs ≡ encode r ++ zs → Fits r → Standing xs at r
stands xs zs at r e f =
    let w = starts_within xs zs at r e in
    let pre = take at xs in
    let l : at ≡ length pre = sym (length-take-le at xs (omega arith)) in
    let x : xs ≡ pre ++ (encode r ++ zs) = sym (take-append-drop at xs) ∙ ap (λ ys. pre ++ ys) e in
    record {
      mark = ap (λ ys. mark_at ys at) x ∙ ap (mark_at (pre ++ (encode r ++ zs))) l ∙ mark_returns r pre zs f;
      size = ap (λ ys. size (mark_of r) ys at) x ∙ ap (size (mark_of r) (pre ++ (encode r ++ zs))) l ∙ size_returns r pre zs f;
      content = ap (λ ys. decoded (mark_of r) ys at) x ∙ ap (decoded (mark_of r) (pre ++ (encode r ++ zs))) l ∙ content_returns r pre zs f;
      room = w;
    }

-- a whole record of the mark that stands there
pub record_bytes : (xs : List ℕ) → ((j : ℕ) → get_or xs j 0 < 256) → (at : ℕ) (m : Mark) → Ok m ≡ mark_at xs at → at + size m xs at ≤ length xs → drop at xs ≡ encode (decoded m xs at) ++ drop (at + size m xs at) xs
record_bytes xs f at m e h = let s = mark_letters xs at m e in again xs f m at s.0 s.1 h

-- what is decoded stands there
pub decoded_stands : (xs : List ℕ) → ((j : ℕ) → get_or xs j 0 < 256) → (at : ℕ) (m : Mark) (r : Option (Record × ℕ)) → Decodes xs at m r → Stands xs at m r
decoded_stands xs f at m None d = λ e r zs k g b.
    let s = stands xs zs at r b g in
    let z : size m xs at ≡ length (encode r) = ap (λ q. size q xs at) (sym k) ∙ s.size in
    let w = s.room in
    omega arith
decoded_stands xs f at m (Some p) d = λ e.
    let c = d.1 in (
      record_bytes xs f at m e d.0 ∙ ap (λ r. encode r ++ drop (at + size m xs at) xs) (sym c) ∙ ap (λ k. encode (content p.0) ++ drop k xs) (sym d.2),
      ap mark_of c ∙ mark_decoded m xs at,
      subst Fits (sym c) (decoded_fits xs f m at),
    )
