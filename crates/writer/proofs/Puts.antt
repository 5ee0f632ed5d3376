-- What a step of the grammar and the encoding of a record say together: the record is written, or why it is not.
use Rattle.std.proofs.Common.{◌≡◌, ℕ, Bool, true, ◌&&◌, List, Some, None, Ok, Err, Result, sym, refl, subst, arith}
use Rattle.std.proofs.lemmas.Bool.{both_ways, and_parts, and_from}
use Rattle.records.specs.declared.content.Record.{Record}
use Rattle.records.specs.Content.{mark_of}
use Rattle.records.specs.Held.{content, whole}
use Rattle.encoding.specs.Placed.{Encodes}
use Rattle.grammar.specs.declared.place.Place.{Place}
use Rattle.grammar.specs.declared.place.Place.TheVariants.{HandInDue}
use Rattle.grammar.specs.declared.step.Misfit.{Misfit}
use Rattle.grammar.specs.declared.step.Misfit.TheVariants.{BadMark, BadField}
use Rattle.grammar.specs.HandIn.{HandIn}
use Rattle.grammar.specs.File.{GoesOn}
use Rattle.grammar.specs.Place.{allowed, fits, after}
use Rattle.grammar.specs.Step.{step}
use Rattle.grammar.proofs.HandIns.{lawful_hand_in, hand_in_lawful}
use Rattle.grammar.proofs.Going.{goes_on, goes_on_only, allows, allows_only}
use Rattle.writer.specs.declared.fault.WriteFault.{WriteFault}
use Rattle.writer.specs.Faults.{fault_of}
use Rattle.writer.specs.Draft.{Draft, OfWritten}
use Rattle.writer.specs.Answer.{Takes, RefusesMark, RefusesField, LacksRoom, Refuses}
use Rattle.writer.proofs.Steps.{ok_passes, bad_mark_fails, bad_field_fails}
use Rattle.writer.proofs.Drafts.{written_push}

-- the tests of a step: of the mark, and of the fields with their order
abbrev mark_passes : Draft → Record → Bool
mark_passes d item = allowed d.place (mark_of (content item))

abbrev fields_pass : Draft → Record → Bool
fields_pass d item = fits d.place (content item)

abbrev stepped : Draft → Record → Result Place Misfit
stepped d item = step d.place (whole item) (content item)

record Passes (d : Draft) (item : Record) (q : Place) : Type 0 where
  mark : mark_passes d item ≡ true
  fields : fields_pass d item ≡ true
  entries : whole item ≡ true
  behind : q ≡ after d.place (content item)

module _ (d : Draft) (item : Record) where
  passes : (q : Place) → Ok q ≡ stepped d item → Passes d item q
  passes q e =
      let t = ok_passes (mark_passes d item) (whole item && fields_pass d item) (after d.place (content item)) q e in
      let u = and_parts (whole item) (fields_pass d item) t.1 in
      record { mark = t.0; fields = u.1; entries = u.0; behind = t.2 }

  next_where_passes : {q : Place} → Passes d item q → OfWritten d (λ rs. GoesOn HandIn rs (content item))
  next_where_passes t = λ old rs h. goes_on HandInDue HandIn lawful_hand_in hand_in_lawful rs d.place (content item) h.leads t.mark t.fields

  pub takes : (ys : List ℕ) (m : ℕ) (q : Place) → Ok q ≡ stepped d item → Encodes d.bytes d.len item ys (Some m) → Takes d item (record { bytes = ys; len = m; place = q })
  takes ys m q e w =
      let t = passes q e in
      record {
        entries = t.entries;
        next = next_where_passes t;
        written = λ old rs h.
            let k = written_push old d rs h (content item) w.fits (omega (arith, w.ends, w.within)) t.mark t.fields in
            rw (w.bytes, w.ends, t.behind) k;
      }

  pub lacks_room : (ys : List ℕ) (q : Place) → Ok q ≡ stepped d item → Encodes d.bytes d.len item ys None → LacksRoom d item
  lacks_room ys q e w = let t = passes q e in record { entries = t.entries; next = next_where_passes t; short = w.short t.entries }

  refuses_mark : Err BadMark ≡ stepped d item → RefusesMark d item d.len
  refuses_mark e =
      let t = bad_mark_fails (mark_passes d item) (whole item && fields_pass d item) (after d.place (content item)) e in
      record {
        place = refl;
        none = λ old rs h m.
            both_ways (mark_passes d item) t (allows_only HandInDue HandIn lawful_hand_in hand_in_lawful rs d.place (mark_of (content item)) h.leads m);
      }

  refuses_field : Err BadField ≡ stepped d item → RefusesField d item d.len
  refuses_field e =
      let t = bad_field_fails (mark_passes d item) (whole item && fields_pass d item) (after d.place (content item)) e in
      record {
        place = refl;
        mark = λ old rs h. allows HandInDue HandIn lawful_hand_in hand_in_lawful rs d.place (mark_of (content item)) h.leads t.0;
        none = λ w old rs h g.
            let f = goes_on_only HandInDue HandIn lawful_hand_in hand_in_lawful rs d.place (content item) h.leads g in
            both_ways (whole item && fields_pass d item) t.1 (and_from (whole item) (fields_pass d item) w f.1);
      }

  pub refuses : (m : Misfit) (f : WriteFault) → Err m ≡ stepped d item → f ≡ fault_of m d.len → Refuses d item f
  refuses BadMark f e t = subst (Refuses d item) (sym t) (refuses_mark e)
  refuses BadField f e t = subst (Refuses d item) (sym t) (refuses_field e)
