-- A draft grows by a record, and is a hand-in in the end.
use Rattle.std.proofs.Common.{◌≡◌, ℕ, ◌+◌, ◌≤◌, Bool, true, false, List, [], ◌∷◌, ◌++◌, length, take, drop, sym, refl, ap, ◌∙◌, subst, append_assoc, arith}
use Rattle.std.proofs.lemmas.List.{length-append, length-drop, take_at, drop_at, drop-drop, flat_map_more}
use Rattle.std.proofs.lemmas.Bool.{both_ways}
use Rattle.records.specs.Content.{Content, mark_of}
use Rattle.records.specs.Encode.{encode, Fits}
use Rattle.std.specs.List.{splice}
use Rattle.grammar.specs.declared.place.Place.{Place}
use Rattle.grammar.specs.declared.place.Place.TheVariants.{HandInDue}
use Rattle.grammar.specs.HandIn.{HandIn}
use Rattle.grammar.specs.File.{encodes, Reads}
use Rattle.grammar.specs.Place.{allowed, fits, after, over, Leads}
use Rattle.grammar.proofs.Lawful.{Lawful, leads_push, lawful_from, all_fit_push}
use Rattle.grammar.proofs.HandIns.{lawful_hand_in, hand_in_lawful}
use Rattle.writer.specs.Draft.{Draft, Written}
use Rattle.reader.proofs.OneTrue.{reads_only}
use Rattle.writer.specs.Answer.{Complete, ReadsBack}

-- where a lawful list leads to is the end
over_at_end : (rs : List Content) (p q : Place) → Leads p rs q → Lawful p rs → over q ≡ true
over_at_end [] p q l h = subst (λ x. over x ≡ true) l h
over_at_end (r ∷ rs) p q l h = over_at_end rs (after p r) q l.2 h.2

module _ (old : List ℕ) (d : Draft) (rs : List Content) (h : Written old d rs) where
  -- behind what is written stands what the buffer held
  rest_kept : drop d.len d.bytes ≡ drop d.len old
  rest_kept = ap (drop d.len) h.bytes ∙ drop_at (encodes rs) (drop d.len old) d.len (sym h.ends)

  pub same_length : length d.bytes ≡ length old
  same_length = omega (arith, simp (length-append, length-drop) at (ap length h.bytes))

  pub written_push :
      (r : Content) → Fits r → d.len + length (encode r) ≤ length d.bytes → allowed d.place (mark_of r) ≡ true → fits d.place r ≡ true →
      Written old (record { bytes = splice d.bytes d.len (d.len + length (encode r)) (encode r); len = d.len + length (encode r); place = after d.place r }) (rs ++ r ∷ [])
  written_push r f room a o =
      let n = d.len in
      let e = encode r in
      let es = encodes rs in
      let more : es ++ e ≡ encodes (rs ++ r ∷ []) = flat_map_more encode [] rs r in
      let front : take n d.bytes ≡ es = ap (take n) h.bytes ∙ take_at es (drop n old) n (sym h.ends) in
      let rest : drop (n + length e) d.bytes ≡ drop (n + length e) old = rw (← drop-drop (length e) n d.bytes, ← drop-drop (length e) n old, rest_kept) refl in
      record {
        bytes = rw (front, rest, ← more) (sym (append_assoc es e (drop (n + length e) old)));
        ends = rw (← more, length-append es e, h.ends) refl;
        within = omega (arith, same_length);
        fit = all_fit_push rs r h.fit f;
        leads = leads_push rs HandInDue d.place r h.leads a o;
      }

  over_reads : over d.place ≡ true → Reads HandIn d.bytes 0 d.len rs
  over_reads o =
      record {
        bytes = h.bytes ∙ ap (λ s. encodes rs ++ s) (sym rest_kept);
        ends = omega (arith, h.ends);
        within = omega (arith, h.within, same_length);
        fit = h.fit;
        file = lawful_hand_in rs (lawful_from rs HandInDue d.place h.leads o);
      }

  not_over_no_hand_in : over d.place ≡ false → HandIn rs → ⊥
  not_over_no_hand_in o i = both_ways (over d.place) o (over_at_end rs HandInDue d.place h.leads (hand_in_lawful rs i))

-- a file is read back
pub reads_back : (d : Draft) (rs : List Content) → Reads HandIn d.bytes 0 d.len rs → ReadsBack d rs
reads_back d rs h = record { file = h; again = sym (reads_only HandInDue HandIn hand_in_lawful d.bytes 0 d.len rs h) }

-- a draft is complete where its place is over
pub complete_where_over : (d : Draft) (b : Bool) → b ≡ over d.place → Complete d b
complete_where_over d true e = λ old rs h. reads_back d rs (over_reads old d rs h (sym e))
complete_where_over d false e = λ old rs h. not_over_no_hand_in old d rs h (sym e)
