-- Records whose entries are whole: how long they are, that the entries stand in them as they are, and that their numbers fit.
use Rattle.std.proofs.Common.{◌≡◌, ℕ, ◌+◌, ◌/◌, ◌%◌, ◌<◌, true, ◌&&◌, eqb, ltb, List, [], ◌∷◌, ◌++◌, length, get_or, Bor, sym, ap, ◌∙◌, subst, append-nil, arith}
use Rattle.std.proofs.lemmas.List.{get_or-append-add}
use Rattle.std.proofs.lemmas.Bool.{and_parts, eqb-true, ltb-true}
use Rattle.records.specs.declared.content.Record.{Record}
use Rattle.records.specs.declared.content.Record.TheVariants.{Ch, Wf}
use Rattle.records.specs.Decode.{branch_from, portion_from}
use Rattle.records.specs.declared.content.Mark.{Mark}
use Rattle.records.specs.Content.{mark_of}
use Rattle.records.specs.Encode.{two, encode, Fits, first_letter, second_letter}
use Rattle.records.specs.Held.{content, whole}
use Rattle.records.proofs.EntryLists.{length-entries}
use Rattle.records.proofs.Exactness.{branches_fit, portions_fit}
use Rattle.encoding.proofs.EntryBytes as entry
use Rattle.encoding.proofs.EntryBytes.{length-ch, length-wf}

-- what the test for whole entries says
pub record Entries (w : ℕ) (xs : List ℕ) : Type 0 where
  pub whole : length xs % w ≡ 0
  pub few : length xs / w < 65536

pub entries : (w : ℕ) (xs : List ℕ) → (eqb (length xs % w) 0 && ltb (length xs / w) 65536) ≡ true → Entries w xs
entries w xs h =
    let t = and_parts (eqb (length xs % w) 0) (ltb (length xs / w) 65536) h in
    record { whole = eqb-true (length xs % w) 0 t.0; few = ltb-true (length xs / w) 65536 t.1 }

module _ {r : Record} {es : Bor (List ℕ)} (is : r ≡ Ch es) (w : whole r ≡ true) where
  ch_entries : Entries 4 es.now
  ch_entries = entries 4 es.now (sym (ap whole is) ∙ w)

  pub length_ch : length (encode (content r)) ≡ 4 + length es.now
  length_ch = ap (λ r. length (encode (content r))) is ∙ length-ch es.now ch_entries.whole

  module _ (small : (j : ℕ) → get_or es.now j 0 < 256) where
    pub ch_bytes : encode (content r) ≡ 67 ∷ 72 ∷ (two (length es.now / 4) ++ es.now)
    ch_bytes = ap (λ r. encode (content r)) is ∙ entry.ch_bytes es.now small ch_entries.whole

    pub ch_fits : Fits (content r)
    ch_fits =
        let n = length-entries 4 branch_from (length es.now / 4) es.now 0 in
        subst (λ r. Fits (content r)) (sym is) (omega (arith, ch_entries.few), branches_fit es.now small (length es.now / 4) 0)

module _ {r : Record} {s h c m : ℕ} {es : Bor (List ℕ)} (is : r ≡ Wf s h c m es) (w : whole r ≡ true) where
  wf_entries : Entries 5 es.now
  wf_entries = entries 5 es.now (sym (ap whole is) ∙ w)

  pub length_wf : length (encode (content r)) ≡ 11 + length es.now
  length_wf = ap (λ r. length (encode (content r))) is ∙ length-wf s h c m es.now wf_entries.whole

  module _ (small : (j : ℕ) → get_or es.now j 0 < 256) where
    pub wf_bytes : encode (content r) ≡ 87 ∷ 70 ∷ (two s ++ (h ∷ (two c ++ (two m ++ (two (length es.now / 5) ++ es.now)))))
    wf_bytes = ap (λ r. encode (content r)) is ∙ entry.wf_bytes es.now small s h c m wf_entries.whole

    pub wf_fits : s < 65536 → h < 256 → c < 65536 → m < 65536 → Fits (content r)
    wf_fits x y z u =
        let n = length-entries 5 portion_from (length es.now / 5) es.now 0 in
        subst (λ r. Fits (content r)) (sym is) (x, y, z, u, omega (arith, wf_entries.few), portions_fit es.now small (length es.now / 5) 0)

-- the letters of a record's mark
abbrev pub spelled : Mark → List ℕ
spelled m = first_letter m ∷ second_letter m ∷ []

pub letters_of : {ls : List ℕ} {m : Mark} {r s : Record} → ls ≡ spelled m → m ≡ mark_of (content r) → r ≡ s → ls ≡ spelled (mark_of (content s))
letters_of l e is = l ∙ ap spelled (e ∙ ap (λ r. mark_of (content r)) is)

-- what stands behind a head in bytes is bytes
pub small_behind : (head xs ys : List ℕ) → ys ≡ head ++ (xs ++ []) → ((j : ℕ) → get_or ys j 0 < 256) → (j : ℕ) → get_or xs j 0 < 256
small_behind head xs ys e f j =
    let g : get_or ys (length head + j) 0 ≡ get_or xs j 0 =
    ap (λ zs. get_or zs (length head + j) 0) (e ∙ ap (λ zs. head ++ zs) (append-nil xs)) ∙ get_or-append-add head xs j 0 in
    omega (arith, g, f (length head + j))
