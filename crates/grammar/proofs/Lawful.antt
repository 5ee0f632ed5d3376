-- Records that follow one another, as the places that they lead through allow.
use Rattle.std.proofs.Common.{◌≡◌, true, Some, None, Option, is_some, unwrap_or, List, [], ◌∷◌, ◌++◌, sym, refl, ap, ◌∙◌, subst}
use Rattle.std.proofs.lemmas.Bool.{false≢true}
use Rattle.std.proofs.lemmas.Grind.{flat_map-append}
use Rattle.records.specs.Content.{Content, mark_of}
use Rattle.records.specs.Encode.{encode, Fits}
use Rattle.grammar.specs.File.{encodes, AllFit}
use Rattle.grammar.specs.declared.place.Place.{Place}
use Rattle.grammar.specs.declared.place.Place.TheVariants.{Done}
use Rattle.grammar.specs.Place.{allowed, behind, fits, after, over}
pub use Rattle.grammar.specs.Place.{Leads}

-- from the place p to the end
abbrev pub Lawful : Place → List Content → Type 0
Lawful p [] = over p ≡ true
Lawful p (r ∷ rs) = (allowed p (mark_of r) ≡ true) × (fits p r ≡ true) × Lawful (after p r) rs

-- one record first
pub lawful_more : (p q : Place) (r : Content) (rs : List Content) → allowed p (mark_of r) ≡ true → behind p r ≡ Some q → Lawful q rs → Lawful p (r ∷ rs)
lawful_more p q r rs a e h = (a, ap is_some e, subst (λ x. Lawful x rs) (sym (ap (λ o. unwrap_or o p) e)) h)

-- the place behind a record that fits
some_place : (o : Option Place) (p : Place) → is_some o ≡ true → o ≡ Some (unwrap_or o p)
some_place (Some q) p e = refl
some_place None p e = absurd (false≢true e)

pub behind-fits : (p : Place) (r : Content) → fits p r ≡ true → behind p r ≡ Some (after p r)
behind-fits p r f = some_place (behind p r) p f

-- one record more
pub leads_push : (rs : List Content) (p q : Place) (r : Content) → Leads p rs q → allowed q (mark_of r) ≡ true → fits q r ≡ true → Leads p (rs ++ r ∷ []) (after q r)
leads_push [] p q r l a f = (ap (λ x. allowed x (mark_of r)) l ∙ a, ap (λ x. fits x r) l ∙ f, ap (λ x. after x r) l)
leads_push (d ∷ rs) p q r l a f = (l.0, l.1, leads_push rs (after p d) q r l.2 a f)

-- what leads to a place, and what is lawful from there
pub lawful-append : (ds rs : List Content) (p q : Place) → Leads p ds q → Lawful q rs → Lawful p (ds ++ rs)
lawful-append [] rs p q l h = subst (λ x. Lawful x rs) (sym l) h
lawful-append (d ∷ ds) rs p q l h = (l.0, l.1, lawful-append ds rs (after p d) q l.2 h)

pub lawful_rest : (ds rs : List Content) (p q : Place) → Leads p ds q → Lawful p (ds ++ rs) → Lawful q rs
lawful_rest [] rs p q l h = subst (λ x. Lawful x rs) l h
lawful_rest (d ∷ ds) rs p q l h = lawful_rest ds rs (after p d) q l.2 h.2

pub front_leads : (ds rs : List Content) (p : Place) → Lawful p (ds ++ rs) → (q : Place) × Leads p ds q × Lawful q rs
front_leads [] rs p h = (p, refl, h)
front_leads (d ∷ ds) rs p h = let f = front_leads ds rs (after p d) h.2 in (f.0, (h.0, h.1, f.1), f.2)

-- the end is the one place that is over
over_done : (p : Place) → over p ≡ true → p ≡ Done
over_done Done e = refl
over_done p e = absurd (false≢true e)

pub lawful_leads : (rs : List Content) (p : Place) → Lawful p rs → Leads p rs Done
lawful_leads [] p h = over_done p h
lawful_leads (r ∷ rs) p h = (h.0, h.1, lawful_leads rs (after p r) h.2)

pub lawful_from : (rs : List Content) (p q : Place) → Leads p rs q → over q ≡ true → Lawful p rs
lawful_from [] p q l e = ap over l ∙ e
lawful_from (r ∷ rs) p q l e = (l.0, l.1, lawful_from rs (after p r) q l.2 e)

-- nothing follows the end
pub none_after : (rs : List Content) → Lawful Done rs → rs ≡ []
none_after [] h = refl
none_after (r ∷ rs) h = absurd (false≢true h.0)

-- numbers that all fit, and one record more
pub all_fit_push : (rs : List Content) (r : Content) → AllFit rs → Fits r → AllFit (rs ++ r ∷ [])
all_fit_push [] r a f = (f, tt)
all_fit_push (s ∷ rs) r a f = (a.0, all_fit_push rs r a.1 f)

-- the bytes of two lists of records, one after the other
pub encodes-append : (ds rs : List Content) → encodes (ds ++ rs) ≡ encodes ds ++ encodes rs
encodes-append ds rs = flat_map-append encode ds rs
