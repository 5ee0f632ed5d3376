-- The reading of a unit is true of the bytes, and nothing else is.
use Rattle.std.proofs.Common.{◌≡◌, ℕ, zero, suc, ◌+◌, ◌-◌, ◌<◌, ◌≤◌, true, false, ltb, List, [], ◌∷◌, ◌++◌, length, get_or, drop, Ok, Err, Result, sym, refl, ap, ◌∙◌, subst, inl, inr, append_assoc, add-zero, arith}
use Rattle.std.proofs.lemmas.Bool.{ltb-true, ltb-false, cond_both, cond-true, cond-false, true≢false, true_from_ne_false, false_from_ne_true}
use Rattle.std.proofs.lemmas.List.{append-nil, length-append, drop-drop, drop_at, flat_map_more}
use Rattle.records.specs.declared.content.Mark.{Mark}
use Rattle.records.specs.declared.decoding.NoMark.{NoMark}
use Rattle.records.specs.declared.decoding.NoMark.TheVariants.{Cut, Unknown}
use Rattle.records.specs.Content.{Content, mark_of}
use Rattle.records.specs.Encode.{encode, Fits}
use Rattle.records.specs.Decode.{size, decoded}
use Rattle.records.specs.Held.{mark_at}
use Rattle.records.proofs.Exactness.{mark_decoded, decoded_fits}
use Rattle.grammar.specs.declared.place.Place.{Place}
use Rattle.grammar.specs.declared.place.Place.TheVariants.{Done}
use Rattle.grammar.specs.Place.{allowed, fits, after, over}
use Rattle.grammar.specs.File.{encodes, AllFit, Reads}
use Rattle.grammar.proofs.Lawful.{Lawful, Leads, leads_push, lawful_from, lawful_leads, all_fit_push}
use Rattle.grammar.proofs.Going.{goes_on, goes_on_only, allows, allows_only, unfinished, front, not_over}
use Rattle.reader.specs.Exact.{Marked, Ends, BadMark, BadField, Front, Because, stopped, fault, Reading, read, True, Exactly, prefixed}
use Rattle.reader.specs.Reading.{Outcome, got, refused, at_mark, record_at, next_of, read_from, reading}
use Rattle.reader.proofs.Steps.{Lies, within, none_left, read_over, read_got, read_refused, prefixed_none, prefixed_twice, record_reached, record_got}
use Rattle.records.proofs.Standing.{stands, record_bytes}
use Rattle.reader.proofs.Stands.{marked_mark, mark_marked, cut_short, unknown_long, long_mark, not_cut_short, begins}

-- where records stand in bytes
module _ (xs : List ℕ) where
  -- a record that stands where it may follow is read
  reads_record : (p : Place) (at : ℕ) (r : Content) (zs : List ℕ) → drop at xs ≡ encode r ++ zs → Fits r → allowed p (mark_of r) ≡ true → fits p r ≡ true → got r (at + length (encode r)) ≡ record_at p xs at
  reads_record p at r zs e g a n =
      let s = stands xs zs at r e g in
      record_got p xs at (mark_of r) (sym s.mark) a r (at + length (encode r)) (let z = s.size in let w = s.room in omega arith) (sym s.content) (ap (λ k. at + k) (sym s.size)) n

  -- reading goes through records that stand there and follow one another
  follow : (ds : List Content) (p q : Place) (at : ℕ) (ys : List ℕ) → Leads p ds q → AllFit ds → drop at xs ≡ encodes ds ++ ys → reading p xs at ≡ prefixed ds (reading q xs (at + length (encodes ds)))
  follow [] p q at ys l g e = ap (λ k. reading k xs at) l ∙ ap (reading q xs) (sym (add-zero at)) ∙ sym (prefixed_none (reading q xs (at + 0)))
  follow (d ∷ ds) p q at ys l g e =
      let next = at + length (encode d) in
      let rest = encodes ds ++ ys in
      let b : drop at xs ≡ encode d ++ rest = e ∙ append_assoc (encode d) (encodes ds) ys in
      let t : drop next xs ≡ rest = sym (drop-drop (length (encode d)) at xs) ∙ ap (drop (length (encode d))) b ∙ drop_at (encode d) rest (length (encode d)) refl in
      let n : next + length (encodes ds) ≡ at + length (encode d ++ encodes ds) = omega (arith, length-append (encode d) (encodes ds)) in
      read_got p xs at d next (not_over p (mark_of d) l.0) (reads_record p at d rest b g.0 l.0 l.1)
      ∙ ap (prefixed (d ∷ [])) (follow ds (after p d) q next ys l.2 g.1 t ∙ ap (λ k. prefixed ds (reading q xs k)) n)
      ∙ prefixed_twice (d ∷ []) ds (reading q xs (at + length (encode d ++ encodes ds)))

-- the one file that bytes are
module _ (start : Place) (W : List Content → Type 0) (from : (rs : List Content) → W rs → Lawful start rs) (xs : List ℕ) where
  pub reads_only : (at o : ℕ) (rs : List Content) → Reads W xs at o rs → read rs (stopped o) ≡ reading start xs at
  reads_only at o rs h =
      sym (follow xs rs start Done at (drop o xs) (lawful_leads rs start (from rs h.file)) h.fit h.bytes
      ∙ ap (λ k. prefixed rs (reading Done xs k)) (sym h.ends)
      ∙ ap (prefixed rs) (read_over Done xs o refl) ∙ ap (λ ts. read ts (stopped o)) (append-nil rs))

module _ (start : Place) (W : List Content → Type 0) (to : (rs : List Content) → Lawful start rs → W rs) (from : (rs : List Content) → W rs → Lawful start rs) (xs : List ℕ) (f : (j : ℕ) → get_or xs j 0 < 256) where
  -- what one record, or the want of one, says of the bytes
  abbrev Told : List Content → Place → ℕ → Outcome → Type 0
  Told ds p at (got r next) = (drop at xs ≡ encode r ++ drop next xs) × (next ≡ at + length (encode r)) × (next ≤ length xs) × (allowed p (mark_of r) ≡ true) × (fits p r ≡ true) × Fits r
  Told ds p at (refused n o) = Because W ds (drop at xs) n

  module _ (ds : List Content) (p : Place) (l : Leads start ds p) (at : ℕ) where
    one_mark : (m k : Mark) → Ok m ≡ mark_at xs at → Marked (drop at xs) k → k ≡ m
    one_mark m k e g = let h = marked_mark xs at k g in cc

    not_allowed : (m : Mark) → Ok m ≡ mark_at xs at → allowed p m ≡ false → BadMark W ds (drop at xs)
    not_allowed m e a = (long_mark xs at m e, λ k g w. true≢false (sym (allows_only start W to from ds p k l w) ∙ ap (allowed p) (one_mark m k e g) ∙ a))

    too_short : (m : Mark) → Ok m ≡ mark_at xs at → allowed p m ≡ true → ltb (length xs) (at + size m xs at) ≡ true → Ends W ds (drop at xs)
    too_short m e a h =
        inr (
          m,
          mark_marked xs at m e,
          allows start W to from ds p m l a,
          λ r k b.
              let s = stands xs b.0 at r b.1 b.2 in
              let t = ltb-true (length xs) (at + size m xs at) h in
              let z : size m xs at ≡ length (encode r) = ap (λ q. size q xs at) (sym k) ∙ s.size in
              let w = s.room in
              omega arith,
        )

    bad_field : (m : Mark) → Ok m ≡ mark_at xs at → allowed p m ≡ true → at + size m xs at ≤ length xs → fits p (decoded m xs at) ≡ false → BadField W ds (drop at xs)
    bad_field m e a h n =
        let r = decoded m xs at in
        let k = mark_decoded m xs at in
        (r, begins xs f at m e h, allows start W to from ds p (mark_of r) l (ap (allowed p) k ∙ a), λ g. true≢false (sym (goes_on_only start W to from ds p r l g).1 ∙ n))

    got_record : (m : Mark) → Ok m ≡ mark_at xs at → allowed p m ≡ true → at + size m xs at ≤ length xs → fits p (decoded m xs at) ≡ true → Told ds p at (got (decoded m xs at) (at + size m xs at))
    got_record m e a h n =
        let r = decoded m xs at in
        let b = record_bytes xs f at m e h in
        let g = decoded_fits xs f m at in
        let s = stands xs (drop (at + size m xs at) xs) at r b g in
        let z : size m xs at ≡ length (encode r) = ap (λ q. size q xs at) (sym (mark_decoded m xs at)) ∙ s.size in
        (b, ap (λ k. at + k) z, h, ap (allowed p) (mark_decoded m xs at) ∙ a, n, g)

    told_mark : (m : Result Mark NoMark) → m ≡ mark_at xs at → Told ds p at (at_mark p xs at m)
    told_mark (Err Cut) e = inl (refl, inl (cut_short xs at e))
    told_mark (Err Unknown) e =
        inr (inl (refl, (unknown_long xs at e, λ k g w. let h = marked_mark xs at k g in cc)))
    told_mark (Ok m) e =
        cond_both (allowed p m) _ _ (Told ds p at)
        (λ a. cond_both (ltb (length xs) (at + size m xs at)) _ _ (Told ds p at) (λ h. inl (refl, too_short m e a h))
        (λ h. cond_both (fits p (decoded m xs at)) _ _ (Told ds p at) (λ n. got_record m e a (ltb-false (length xs) (at + size m xs at) h) n)
        (λ n. inr (inr (refl, bad_field m e a (ltb-false (length xs) (at + size m xs at) h) n)))))
        (λ a. inr (inl (refl, not_allowed m e a)))

    told : Told ds p at (record_at p xs at)
    told = told_mark (mark_at xs at) refl

  -- the records so far, and where they end
  record So_far (at₀ : ℕ) (ds : List Content) (p : Place) (at : ℕ) : Type 0 where
    leads : Leads start ds p
    bytes : drop at₀ xs ≡ encodes ds ++ drop at xs
    ends : at ≡ at₀ + length (encodes ds)
    within : over p ≡ true → at ≤ length xs
    fit : AllFit ds

  one_more : (at₀ : ℕ) (ds : List Content) (p : Place) (at : ℕ) (r : Content) (next : ℕ) → So_far at₀ ds p at → Told ds p at (got r next) → So_far at₀ (ds ++ r ∷ []) (after p r) next
  one_more at₀ ds p at r next s t =
      let j : encodes ds ++ encode r ≡ encodes (ds ++ r ∷ []) = flat_map_more encode [] ds r in
      let n : length (encodes (ds ++ r ∷ [])) ≡ length (encodes ds) + length (encode r) = sym (ap length j) ∙ length-append (encodes ds) (encode r) in
      let e = s.ends in
      record {
        leads = leads_push ds start p r s.leads t.3 t.4;
        bytes = s.bytes ∙ ap (λ ys. encodes ds ++ ys) t.0 ∙ sym (append_assoc (encodes ds) (encode r) (drop next xs)) ∙ ap (λ ys. ys ++ drop next xs) j;
        ends = omega (arith, t.1);
        within = λ o. t.2;
        fit = all_fit_push ds r s.fit t.5;
      }

  finished : (at₀ : ℕ) (ds : List Content) (p : Place) (at : ℕ) → So_far at₀ ds p at → over p ≡ true → True W xs at₀ (read (ds ++ []) (stopped at))
  finished at₀ ds p at s o =
      subst (λ rs. Reads W xs at₀ at rs) (sym (append-nil ds))
      (record { bytes = s.bytes; ends = s.ends; within = s.within o; fit = s.fit; file = to ds (lawful_from ds start p s.leads o) })

  stuck : (at₀ : ℕ) (ds : List Content) (p : Place) (at n : ℕ) → So_far at₀ ds p at → over p ≡ false → Because W ds (drop at xs) n → True W xs at₀ (read (ds ++ []) (fault n at))
  stuck at₀ ds p at n s o b =
      subst (λ rs. True W xs at₀ (read rs (fault n at))) (sym (append-nil ds))
      (record { bytes = s.bytes; ends = s.ends; fit = s.fit; unfinished = unfinished start W to from ds p s.leads o }, b)

  by_outcome : (at₀ : ℕ) (ds : List Content) (p : Place) (at : ℕ) (F : Place → ℕ → Reading) (u : Outcome) → So_far at₀ ds p at → over p ≡ false → Told ds p at u → Lies xs at u → ((q : Place) (es : List Content) (next : ℕ) → at + 2 ≤ next → So_far at₀ es q next → True W xs at₀ (prefixed es (F q next))) → True W xs at₀ (prefixed ds (next_of p F u))
  by_outcome at₀ ds p at F (refused n o) s v t w h = subst (λ k. True W xs at₀ (read (ds ++ []) (fault n k))) w (stuck at₀ ds p at n s v t)
  by_outcome at₀ ds p at F (got r next) s v t w h =
      subst (True W xs at₀) (sym (prefixed_twice ds (r ∷ []) (F (after p r) next))) (h (after p r) (ds ++ r ∷ []) next w.0 (one_more at₀ ds p at r next s t))

  holds_from : (n at₀ : ℕ) (ds : List Content) (p : Place) (at : ℕ) → length xs ≤ at + n → So_far at₀ ds p at → True W xs at₀ (prefixed ds (read_from xs n p at))
  holds_from zero at₀ ds p at l s =
      cond_both (over p) _ _ (λ v. True W xs at₀ (prefixed ds v)) (finished at₀ ds p at s)
      (λ o. stuck at₀ ds p at 1 s o (subst (Told ds p at) (none_left p xs at (omega arith)) (told ds p s.leads at)))
  holds_from (suc n) at₀ ds p at l s =
      cond_both (over p) _ _ (λ v. True W xs at₀ (prefixed ds v)) (finished at₀ ds p at s)
      (λ o. by_outcome at₀ ds p at (read_from xs n) (record_at p xs at) s o (told ds p s.leads at) (within p xs at)
      (λ q es next k t. holds_from n at₀ es q next (omega arith) t))

  pub holds : (at : ℕ) → over start ≡ false → True W xs at (reading start xs at)
  holds at o =
      subst (True W xs at) (prefixed_none (reading start xs at))
      (holds_from (length xs - at) at [] start at (omega arith)
      (record { leads = refl; bytes = refl; ends = omega arith; within = λ v. absurd (true≢false (sym v ∙ o)); fit = tt }))

  module _ (ds : List Content) (p : Place) (l : Leads start ds p) (at : ℕ) where
    refuses_short : Ends W ds (drop at xs) → record_at p xs at ≡ refused 1 at
    refuses_short (inl h) = ap (at_mark p xs at) (not_cut_short xs at h)
    refuses_short (inr h) =
        let m = h.0 in
        let e = marked_mark xs at m h.1 in
        let a = allows_only start W to from ds p m l h.2 in
        let n = ltb (length xs) (at + size m xs at) in
        let short : n ≡ true =
        true_from_ne_false n (λ g. h.3 (decoded m xs at) (mark_decoded m xs at) (begins xs f at m (sym e) (ltb-false (length xs) (at + size m xs at) g))) in
        ap (at_mark p xs at) e ∙ cond-true (allowed p m) _ _ a ∙ cond-true n _ _ short

    refuses_mark : BadMark W ds (drop at xs) → record_at p xs at ≡ refused 2 at
    refuses_mark h = by (mark_at xs at) refl
      where
        by : (m : Result Mark NoMark) → m ≡ mark_at xs at → at_mark p xs at m ≡ refused 2 at
        by (Err Cut) e = let c = cut_short xs at e in absurd (omega (arith, h.0))
        by (Err Unknown) e = refl
        by (Ok m) e = cond-false (allowed p m) _ _ (false_from_ne_true (allowed p m) (λ a. h.1 m (mark_marked xs at m e) (allows start W to from ds p m l a)))

    refuses_field : BadField W ds (drop at xs) → record_at p xs at ≡ refused 3 at
    refuses_field h =
        let r = h.0 in
        let b = h.1 in
        let s = stands xs b.0 at r b.1 b.2 in
        let m = mark_of r in
        let a = allows_only start W to from ds p m l h.2 in
        record_reached p xs at m (sym s.mark) a r (let z = s.size in let w = s.room in omega arith) (sym s.content)
        ∙ cond-false (fits p r) _ _ (false_from_ne_true (fits p r) (λ n. h.3 (goes_on start W to from ds p r l a n)))

    refuses : (n : ℕ) → Because W ds (drop at xs) n → record_at p xs at ≡ refused n at
    refuses n (inl h) = refuses_short h.1 ∙ ap (λ k. refused k at) (sym h.0)
    refuses n (inr (inl h)) = refuses_mark h.1 ∙ ap (λ k. refused k at) (sym h.0)
    refuses n (inr (inr h)) = refuses_field h.1 ∙ ap (λ k. refused k at) (sym h.0)

  only_fault : (at n o : ℕ) (ds : List Content) → Front W xs at o ds → Because W ds (drop o xs) n → read ds (fault n o) ≡ reading start xs at
  only_fault at n o ds h b =
      let g = h.unfinished in
      let w = front start W to from ds g.0 g.1 in
      let p = w.0 in
      sym (follow xs ds start p at (drop o xs) w.1 h.fit h.bytes
      ∙ ap (λ k. prefixed ds (reading p xs k)) (sym h.ends)
      ∙ ap (prefixed ds) (read_refused p xs o n o w.2 (sym (refuses ds p w.1 o n b))) ∙ ap (λ ts. read ts (fault n o)) (append-nil ds))

  only : (at : ℕ) (other : Reading) → True W xs at other → other ≡ reading start xs at
  only at (read rs (stopped o)) h = reads_only start W from xs at o rs h
  only at (read ds (fault n o)) h = only_fault at n o ds h.0 h.1

  -- the one true reading
  pub exactly : (at : ℕ) → over start ≡ false → Exactly W xs at (reading start xs at)
  exactly at o = record { holds = holds at o; only = only at }
