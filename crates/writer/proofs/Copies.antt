-- A hand-in that is read is written again as it was: no record of it is refused, and in the end the bytes are the same.
use Rattle.std.proofs.Common.{◌≡◌, ℕ, ◌+◌, ◌≤◌, true, List, [], ◌∷◌, ◌++◌, length, take, drop, sym, refl, ap, ◌∙◌, subst, arith}
use Rattle.std.proofs.lemmas.List.{append-nil, length-append, take_at}
use Rattle.records.specs.declared.content.Record.{Record}
use Rattle.records.specs.Content.{Content}
use Rattle.records.specs.Encode.{encode}
use Rattle.records.specs.Held.{content, whole}
use Rattle.grammar.specs.HandIn.{HandIn}
use Rattle.grammar.specs.File.{encodes, Reads, GoesOn}
use Rattle.grammar.proofs.Lawful.{encodes-append}
use Rattle.reader.specs.Exact.{Reading, read, stopped, records_of, True, Exactly, prefixed}
use Rattle.reader.proofs.Steps.{prefixed_twice}
use Rattle.writer.specs.declared.fault.WriteFault.{WriteFault}
use Rattle.writer.specs.declared.fault.WriteFault.TheVariants.{BadMark, BadField, NoRoom}
use Rattle.writer.specs.Draft.{Draft, Written}
use Rattle.writer.specs.Answer.{Takes, Refuses}
use Rattle.writer.specs.Rewriting.{rewritten}
use Rattle.writer.proofs.Drafts.{same_length}

-- the records of a reading stand behind those before it
records_prefixed : (ds : List Content) (v : Reading) → records_of (prefixed ds v) ≡ ds ++ records_of v
records_prefixed ds (read rs e) = refl

-- what a reader that stops has read
pub reads : (xs : List ℕ) (n : ℕ) (rs : List Content) (all : Reading) → Exactly HandIn xs 0 all → all ≡ read rs (stopped n) → Reads HandIn xs 0 n rs
reads xs n rs all e s = subst (True HandIn xs 0) s e.holds

-- so far the draft holds what is read before what is left, in a buffer that held `old`
pub record Copying (all : Reading) (old : List ℕ) (left : Reading) (d : Draft) : Type 0 where
  pub done : List Content
  pub read : all ≡ prefixed done left
  pub written : Written old d done

module _ (all : Reading) (old : List ℕ) (v : Reading) (d : Draft) (k : Copying all old v d) where
  -- one record more
  pub copying_more : (item : Record) (left : Reading) (e : Draft) → v ≡ prefixed (content item ∷ []) left → Takes d item e → Copying all old left e
  copying_more item left e s t =
      record {
        done = k.done ++ content item ∷ [];
        read = k.read ∙ ap (prefixed k.done) s ∙ prefixed_twice k.done (content item ∷ []) left;
        written = t.written old k.done k.written;
      }

  -- the bytes xs begin with a hand-in of n bytes, and all is what is read of it
  module _ (xs : List ℕ) (n : ℕ) (rs : List Content) (h : Reads HandIn xs 0 n rs) (e : Exactly HandIn xs 0 all) where
    all_records : records_of all ≡ rs
    all_records = sym (ap records_of (e.only (read rs (stopped n)) h))

    -- in the end all of them are written
    pub copied : records_of v ≡ [] → d.bytes ≡ rewritten n xs old
    copied z =
        let same : rs ≡ k.done = sym all_records ∙ ap records_of k.read ∙ records_prefixed k.done v ∙ rw z (append-nil k.done) in
        let ends : d.len ≡ n = omega (arith, h.ends, k.written.ends, ap (λ ts. length (encodes ts)) same) in
        let front : take n xs ≡ encodes rs = ap (take n) h.bytes ∙ take_at (encodes rs) (drop n xs) n (omega (arith, h.ends)) in
        rw (k.written.bytes, ends, front, same) refl

    -- until then the next one is not refused
    module _ (item : Record) (left : Reading) (s : v ≡ prefixed (content item ∷ []) left) (whole_item : whole item ≡ true) (room : n ≤ length old) where
      rest : rs ≡ k.done ++ (content item ∷ records_of left)
      rest =
          sym all_records ∙ ap records_of k.read ∙ records_prefixed k.done v
          ∙ ap (λ ts. k.done ++ ts) (ap records_of s ∙ records_prefixed (content item ∷ []) left)

      next : GoesOn HandIn k.done (content item)
      next = (records_of left, subst HandIn rest h.file)

      fits_still : d.len + length (encode (content item)) ≤ length d.bytes
      fits_still =
          let all : length (encodes rs) ≡ length (encodes k.done) + (length (encode (content item)) + length (encodes (records_of left))) =
          rw (rest, encodes-append k.done (content item ∷ records_of left)) (simp length-append) in
          omega (arith, all, k.written.ends, h.ends, same_length old d k.done k.written)

      pub not_refused : (f : WriteFault) → Refuses d item f → ⊥
      not_refused (BadMark at) g = g.none old k.done k.written (content item, refl, next)
      not_refused (BadField at) g = g.none whole_item old k.done k.written next
      not_refused NoRoom g = omega (arith, g.short, fits_still)
