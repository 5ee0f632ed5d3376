-- What leads to a place goes on with the records that fit there, and with no others.
use Rattle.std.proofs.Common.{◌≡◌, true, false, List, [], ◌∷◌, ◌++◌, sym, refl, ap, ◌∙◌}
use Rattle.std.proofs.lemmas.Bool.{true≢false, false≢true}
use Rattle.records.specs.declared.content.Mark.{Mark}
use Rattle.records.specs.Content.{Content, mark_of}
use Rattle.grammar.specs.declared.place.Place.{Place}
use Rattle.grammar.specs.declared.place.Place.TheVariants.{Done}
use Rattle.grammar.specs.Place.{allowed, fits, after, over}
use Rattle.grammar.specs.File.{GoesOn, Allowed}
use Rattle.grammar.proofs.Lawful.{Lawful, Leads, lawful-append, lawful_rest, front_leads}
use Rattle.grammar.proofs.Completion.{completes, some_record}

-- a place is over exactly where no record may follow
follows_unless_over : (p : Place) (rs : List Content) → over p ≡ false → Lawful p rs → (r : Content) × (allowed p (mark_of r) ≡ true) × (fits p r ≡ true)
follows_unless_over p [] e h = absurd (true≢false (sym h ∙ e))
follows_unless_over p (r ∷ rs) e h = (r, h.0, h.1)

pub not_over : (p : Place) (m : Mark) → allowed p m ≡ true → over p ≡ false
not_over Done m a = absurd (false≢true a)
not_over p m a = refl

-- where the files W are what is lawful from `start` on
module _ (start : Place) (W : List Content → Type 0) (to : (rs : List Content) → Lawful start rs → W rs) (from : (rs : List Content) → W rs → Lawful start rs) where
  pub goes_on : (ds : List Content) (p : Place) (r : Content) → Leads start ds p → allowed p (mark_of r) ≡ true → fits p r ≡ true → GoesOn W ds r
  goes_on ds p r l a f =
      let c = completes (after p r) in
      (c.0, to (ds ++ (r ∷ c.0)) (lawful-append ds (r ∷ c.0) start p l (a, f, c.1)))

  pub goes_on_only : (ds : List Content) (p : Place) (r : Content) → Leads start ds p → GoesOn W ds r → (allowed p (mark_of r) ≡ true) × (fits p r ≡ true)
  goes_on_only ds p r l g =
      let h = lawful_rest ds (r ∷ g.0) start p l (from (ds ++ (r ∷ g.0)) g.1) in
      (h.0, h.1)

  pub allows : (ds : List Content) (p : Place) (m : Mark) → Leads start ds p → allowed p m ≡ true → Allowed W ds m
  allows ds p m l a = let s = some_record p m a in (s.0, s.1, goes_on ds p s.0 l (ap (allowed p) s.1 ∙ a) s.2)

  pub allows_only : (ds : List Content) (p : Place) (m : Mark) → Leads start ds p → Allowed W ds m → allowed p m ≡ true
  allows_only ds p m l g = ap (allowed p) (sym g.1) ∙ (goes_on_only ds p g.0 l g.2).0

  pub unfinished : (ds : List Content) (p : Place) → Leads start ds p → over p ≡ false → (r : Content) × GoesOn W ds r
  unfinished ds p l e =
      let c = completes p in
      let f = follows_unless_over p c.0 e c.1 in
      (f.0, goes_on ds p f.0 l f.1 f.2)

  pub front : (ds : List Content) (r : Content) → GoesOn W ds r → (p : Place) × Leads start ds p × (over p ≡ false)
  front ds r g =
      let f = front_leads ds (r ∷ g.0) start (from (ds ++ (r ∷ g.0)) g.1) in
      (f.0, f.1, not_over f.0 (mark_of r) f.2.0)
