-- The reading of a unit, one record at a time.
use Rattle.std.proofs.Common.{◌≡◌, ℕ, zero, suc, ◌+◌, ◌-◌, ◌≤◌, true, false, cond, ltb, List, [], ◌∷◌, ◌++◌, length, Some, None, Ok, Err, Option, Result, is_some, sym, refl, ap, ◌∙◌, subst, append_assoc, arith}
use Rattle.std.proofs.lemmas.Bool.{lt-ltb, le-ltb, ltb-false, cond_both, cond-true, cond-false, true≢false}
use Rattle.records.specs.declared.content.Mark.{Mark}
use Rattle.records.specs.declared.content.Mark.TheVariants.{Md}
use Rattle.records.specs.declared.decoding.NoMark.{NoMark}
use Rattle.records.specs.declared.decoding.NoMark.TheVariants.{Cut, Unknown}
use Rattle.records.specs.Content.{Content}
use Rattle.records.specs.Decode.{size, decoded}
use Rattle.records.specs.declared.content.Record.{Record}
use Rattle.records.specs.Held.{content, mark_at}
use Rattle.grammar.specs.declared.place.Place.{Place}
use Rattle.grammar.specs.Place.{allowed, fits, after, over}
use Rattle.reader.specs.declared.reading.Reader.{Reader}
use Rattle.reader.specs.Answer.{rest_of, Next}
use Rattle.reader.specs.Exact.{stopped, fault, Reading, read, prefixed}
use Rattle.reader.specs.Reading.{Outcome, got, refused, at_mark, record_at, next_of, read_from, reading}

-- where a record that was read lies
abbrev pub Lies : List ℕ → ℕ → Outcome → Type 0
Lies xs at (got r next) = (at + 2 ≤ next) × (next ≤ length xs)
Lies xs at (refused n o) = at ≡ o

size_least : (m : Mark) (xs : List ℕ) (at : ℕ) → 2 ≤ size m xs at
size_least Md xs at = omega arith
size_least m xs at = omega arith

within_mark : (p : Place) (xs : List ℕ) (at : ℕ) (m : Result Mark NoMark) → Lies xs at (at_mark p xs at m)
within_mark p xs at (Err Cut) = refl
within_mark p xs at (Err Unknown) = refl
within_mark p xs at (Ok m) =
    cond_both (allowed p m) _ _ (Lies xs at)
    (λ a. cond_both (ltb (length xs) (at + size m xs at)) _ _ (Lies xs at) (λ e. refl)
    (λ e. cond_both (fits p (decoded m xs at)) _ _ (Lies xs at) (λ f. (omega (arith, size_least m xs at), ltb-false (length xs) (at + size m xs at) e)) (λ f. refl)))
    (λ a. refl)

-- a record that was read is no longer than the bytes, and a fault stands where it was met
pub within : (p : Place) (xs : List ℕ) (at : ℕ) → Lies xs at (record_at p xs at)
within p xs at = within_mark p xs at (mark_at xs at)

-- at the end there is nothing to read
pub none_left : (p : Place) (xs : List ℕ) (at : ℕ) → length xs ≤ at → record_at p xs at ≡ refused 1 at
none_left p xs at h = rw (lt-ltb (length xs) (at + 2) (omega arith)) refl

next_same : (p : Place) (xs : List ℕ) (at : ℕ) (f g : Place → ℕ → Reading) (o : Outcome) → Lies xs at o → ((q : Place) (n : ℕ) → at + 2 ≤ n → f q n ≡ g q n) → next_of p f o ≡ next_of p g o
next_same p xs at f g (refused n o) w e = refl
next_same p xs at f g (got r next) w e = ap (prefixed (r ∷ [])) (e (after p r) next w.0)

-- more turns than bytes change nothing
pub turns : (f g : ℕ) (p : Place) (xs : List ℕ) (at : ℕ) → length xs ≤ at + f → length xs ≤ at + g → read_from xs f p at ≡ read_from xs g p at
turns zero zero p xs at h k = refl
turns zero (suc g) p xs at h k = ap (λ o. cond (over p) (read [] (stopped at)) (next_of p (read_from xs g) o)) (sym (none_left p xs at (omega arith)))
turns (suc f) zero p xs at h k = ap (λ o. cond (over p) (read [] (stopped at)) (next_of p (read_from xs f) o)) (none_left p xs at (omega arith))
turns (suc f) (suc g) p xs at h k =
    ap (cond (over p) (read [] (stopped at)))
    (next_same p xs at (read_from xs f) (read_from xs g) (record_at p xs at) (within p xs at) (λ q n l. turns f g q xs n (omega arith) (omega arith)))

-- what is read on from each place and offset
abbrev pub onward : List ℕ → Place → ℕ → Reading
onward xs q n = reading q xs n

-- one record more
pub read_step : (p : Place) (xs : List ℕ) (at : ℕ) → over p ≡ false → reading p xs at ≡ next_of p (onward xs) (record_at p xs at)
read_step p xs at e =
    turns (length xs - at) (suc (length xs)) p xs at (omega arith) (omega arith)
    ∙ ap (λ b. cond b (read [] (stopped at)) (next_of p (read_from xs (length xs)) (record_at p xs at))) e
    ∙ next_same p xs at (read_from xs (length xs)) (onward xs) (record_at p xs at) (within p xs at)
    (λ q n l. turns (length xs) (length xs - n) q xs n (omega arith) (omega arith))

over_turns : (n : ℕ) (p : Place) (xs : List ℕ) (at : ℕ) → over p ≡ true → read_from xs n p at ≡ read [] (stopped at)
over_turns zero p xs at e = cond-true (over p) _ _ e
over_turns (suc n) p xs at e = cond-true (over p) _ _ e

-- behind the end the reading has stopped
pub read_over : (p : Place) (xs : List ℕ) (at : ℕ) → over p ≡ true → reading p xs at ≡ read [] (stopped at)
read_over p xs at e = over_turns (length xs - at) p xs at e

-- a record, where there is one
pub read_got : (p : Place) (xs : List ℕ) (at : ℕ) (r : Content) (next : ℕ) → over p ≡ false → got r next ≡ record_at p xs at → reading p xs at ≡ prefixed (r ∷ []) (reading (after p r) xs next)
read_got p xs at r next e g = read_step p xs at e ∙ ap (next_of p (onward xs)) (sym g)

-- the same of readers, before and behind the record
pub next_got : (r s : Reader) (item : Record) → over r.place ≡ false → got (content item) s.at ≡ record_at r.place r.bytes.now r.at → s.place ≡ after r.place (content item) → s.bytes ≡ r.bytes → rest_of r ≡ prefixed (content item ∷ []) (rest_of s)
next_got r s item o g p b =
    read_got r.place r.bytes.now r.at (content item) s.at o g
    ∙ ap (prefixed (content item ∷ [])) (ap (λ q. reading q r.bytes.now s.at) (sym p) ∙ ap (λ x. reading s.place x.now s.at) (sym b))

-- the fault, where there is none
pub read_refused : (p : Place) (xs : List ℕ) (at n o : ℕ) → over p ≡ false → refused n o ≡ record_at p xs at → reading p xs at ≡ read [] (fault n o)
read_refused p xs at n o e g = read_step p xs at e ∙ ap (next_of p (onward xs)) (sym g)

-- the records so far stand in front of what is read on
pub prefixed_none : (v : Reading) → prefixed [] v ≡ v
prefixed_none (read rs e) = refl

pub prefixed_twice : (ds es : List Content) (v : Reading) → prefixed ds (prefixed es v) ≡ prefixed (ds ++ es) v
prefixed_twice ds es (read rs e) = ap (λ ts. read ts e) (sym (append_assoc ds es rs))

-- a record that stands there and is allowed there
module _ (p : Place) (xs : List ℕ) (at : ℕ) (m : Mark) (k : Ok m ≡ mark_at xs at) (a : allowed p m ≡ true) where
  pub record_reached : (r : Content) → at + size m xs at ≤ length xs → r ≡ decoded m xs at → record_at p xs at ≡ cond (fits p r) (got r (at + size m xs at)) (refused 3 at)
  record_reached r s d =
      ap (at_mark p xs at) (sym k)
      ∙ cond-true (allowed p m) _ _ a
      ∙ cond-false (ltb (length xs) (at + size m xs at)) _ _ (le-ltb (length xs) (at + size m xs at) s)
      ∙ ap (λ x. cond (fits p x) (got x (at + size m xs at)) (refused 3 at)) (sym d)

  pub record_got : (r : Content) (next : ℕ) → at + size m xs at ≤ length xs → r ≡ decoded m xs at → next ≡ at + size m xs at → fits p r ≡ true → got r next ≡ record_at p xs at
  record_got r next s d n f = sym (record_reached r s d ∙ cond-true (fits p r) _ _ f ∙ ap (got r) (sym n))

-- what a reader that gave a record says of what is left
pub next_some : (r s : Reader) (o : Option (ℕ × Record)) (x : ℕ × Record) → o ≡ Some x → Next r s (Ok o) → rest_of r ≡ prefixed (content x.1 ∷ []) (rest_of s)
next_some r s o x e h = let t : Next r s (Ok (Some x)) = subst (λ q. Next r s (Ok q)) e h in t.0

-- the same of a reader that is only known to have given one
pub next_more : (r s : Reader) (o : Option (ℕ × Record)) → is_some o ≡ true → Next r s (Ok o) → (d : Content) × (rest_of r ≡ prefixed (d ∷ []) (rest_of s))
next_more r s (Some x) i h = (content x.1, h.0)
next_more r s None i h = absurd (true≢false (sym i))
