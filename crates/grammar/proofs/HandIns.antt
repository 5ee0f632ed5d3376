-- What is lawful from the start of a hand-in on is a hand-in, and the other way round.
use Rattle.std.proofs.Common.{◌≡◌, ℕ, ◌≤◌, true, ◌&&◌, leb, List, [], ◌∷◌, ◌++◌, Some, None, Option, sym, refl, ap, ◌∙◌, subst, inl, inr, arith}
use Rattle.std.specs.Bool.{then_some}
use Rattle.std.specs.Option.{option_and_then}
use Rattle.std.proofs.lemmas.Bool.Decides.{nat_tests}
use Rattle.std.proofs.lemmas.Bool.{false≢true, and_parts, and_from, or_cases, or_right, leb-true, le-leb}
use Rattle.records.specs.declared.content.Mark.TheVariants.{Hd, Zz}
use Rattle.records.specs.Content.{Content, hd, ce, fl, pc, pm, rw', wf, zz, mark_of, same_mark}
use Rattle.grammar.specs.declared.kind.Kind.{Kind}
use Rattle.grammar.specs.declared.order.Key.{Key}
use Rattle.grammar.specs.declared.place.Place.{Place}
use Rattle.grammar.specs.declared.place.Place.TheVariants.{HandInDue, Within}
use Rattle.grammar.specs.HandIn.{HandIn, Body, head_ok, block, key, precedes, fields_ok, nothing}
use Rattle.grammar.specs.Kind.{number_of, kind_of}
use Rattle.grammar.specs.Place.{begun, ascended, behind, after}
use Rattle.grammar.proofs.Lawful.{Lawful, lawful_more, behind-fits, none_after}
use Rattle.grammar.proofs.Marks.{form}
use Rattle.grammar.proofs.ModelSteps.{then_some-is}

-- what comes later stands in the same block or in a later one
block_precedes : (a b : Key) → precedes a b ≡ true → a.block ≤ b.block
block_precedes a b e = grind (arith, nat_tests)

-- a number of a head is that of a kind
number_of-kind_of : (n : ℕ) (kind : Kind) → kind_of n ≡ Some kind → number_of kind ≡ n
number_of-kind_of n kind e = grind (arith, nat_tests)

head_kind : (n side : ℕ) → head_ok n side ≡ true → (o : Option Kind) → kind_of n ≡ o → (kind : Kind) × (kind_of n ≡ Some kind)
head_kind n side h (Some kind) e = (kind, e)
head_kind n side h None e = absurd (grind (arith, nat_tests))

-- what holds of a record of the kind
record Own (kind : Kind) (last : Key) (r : Content) : Type 0 where
  behind_it : behind (Within kind last) r ≡ ascended kind last r
  in_block : (key (number_of kind) r).block ≡ block (number_of kind) (mark_of r)

own : (kind : Kind) (last : Key) (r : Content) → 1 ≤ block (number_of kind) (mark_of r) → Own kind last r
own kind last (ce s c) b = record { behind_it = refl; in_block = refl }
own kind last (fl s c) b = record { behind_it = refl; in_block = refl }
own kind last (pc s c) b = record { behind_it = refl; in_block = refl }
own kind last (pm s c m) b = record { behind_it = refl; in_block = refl }
own kind last (rw' s r) b = record { behind_it = refl; in_block = refl }
own kind last (wf s h c m es) b = record { behind_it = refl; in_block = refl }
own kind last r b = absurd (omega arith)

-- a body and the end
body_lawful : (kind : Kind) (last : Key) (body : List Content) → Body (number_of kind) last body → Lawful (Within kind last) (body ++ zz ∷ [])
body_lawful kind last [] b = (refl, refl, refl)
body_lawful kind last (r ∷ body) b =
    let k = key (number_of kind) r in
    let n = block (number_of kind) (mark_of r) in
    let o = own kind last r b.0 in
    let e = le-leb 1 n b.0 in
    let l : last.block ≤ n = subst (λ x. last.block ≤ x) o.in_block (block_precedes last k b.2) in
    lawful_more (Within kind last) (Within kind k) r (body ++ zz ∷ []) (or_right (same_mark (mark_of r) Zz) _ (and_from _ _ e (le-leb last.block n l)))
    (o.behind_it ∙ rw (e, b.2, b.1) refl) (body_lawful kind k body b.3)

abbrev BodyOf : ℕ → Key → List Content → Type 0
BodyOf kind last rs = (body : List Content) × (rs ≡ body ++ zz ∷ []) × Body kind last body

lawful_end : (kind : Kind) (last : Key) (r : Content) (rs : List Content) → same_mark (mark_of r) Zz ≡ true → Lawful (after (Within kind last) r) rs → BodyOf (number_of kind) last (r ∷ rs)
lawful_end kind last r rs e h =
    let z = form r Zz e in
    let n = none_after rs (subst (λ x. Lawful (after (Within kind last) x) rs) z h) in
    ([], ap (λ x. x ∷ rs) z ∙ ap (λ x. zz ∷ x) n, tt)

-- what a record of a body passes where it fits
ascended-is : (kind : Kind) (last : Key) (r : Content) (q : Place) → leb 1 (block (number_of kind) (mark_of r)) ≡ true → ascended kind last r ≡ Some q → (precedes last (key (number_of kind) r) ≡ true) × (fields_ok r ≡ true) × (q ≡ Within kind (key (number_of kind) r))
ascended-is kind last r q b e =
    let k = key (number_of kind) r in
    let t = then_some-is (precedes last k && fields_ok r) (Within kind k) q
    (ap (λ x. option_and_then (λ k. then_some (precedes last k && fields_ok r) (Within kind k)) (then_some x k)) (sym b) ∙ e) in
    let f = and_parts (precedes last k) (fields_ok r) t.0 in
    (f.0, f.1, t.1)

lawful_body : (kind : Kind) (last : Key) (rs : List Content) → Lawful (Within kind last) rs → BodyOf (number_of kind) last rs
lawful_body kind last [] h = absurd (false≢true h)
lawful_body kind last (r ∷ rs) h =
    elim (or_cases (same_mark (mark_of r) Zz) (leb 1 (block (number_of kind) (mark_of r)) && leb last.block (block (number_of kind) (mark_of r))) h.0) [
      | inl e ↦ lawful_end kind last r rs e h.2
      | inr e ↦
          let n = block (number_of kind) (mark_of r) in
          let k = key (number_of kind) r in
          let l = (and_parts (leb 1 n) (leb last.block n) e).0 in
          let b = leb-true 1 n l in
          let o = own kind last r b in
          let f = ascended-is kind last r (after (Within kind last) r) l (sym o.behind_it ∙ behind-fits (Within kind last) r h.1) in
          let more = lawful_body kind k rs (subst (λ p. Lawful p rs) f.2 h.2) in
          (r ∷ more.0, ap (λ x. r ∷ x) more.1, (b, f.1, f.0, more.2))
    ]

-- the head before it
abbrev begun_as : ℕ → Kind → Option Place
begun_as side kind = then_some (head_ok (number_of kind) side) (Within kind nothing)

pub hand_in_lawful : (rs : List Content) → HandIn rs → Lawful HandInDue rs
hand_in_lawful rs h =
    let t = head_kind h.kind h.side h.head (kind_of h.kind) refl in
    let place = Within t.0 nothing in
    let n : number_of t.0 ≡ h.kind = number_of-kind_of h.kind t.0 t.1 in
    let e : begun h.kind h.side ≡ Some place =
    ap (option_and_then (begun_as h.side)) t.1 ∙ ap (λ b. then_some b place) (ap (λ k. head_ok k h.side) n ∙ h.head) in
    subst (Lawful HandInDue) (sym h.shape)
    (lawful_more HandInDue place (hd h.kind h.side) (h.body ++ zz ∷ []) refl e
    (body_lawful t.0 nothing h.body (subst (λ k. Body k nothing h.body) (sym n) h.ascending)))

begun-is : (n side : ℕ) (q : Place) (o : Option Kind) → kind_of n ≡ o → option_and_then (begun_as side) o ≡ Some q → (kind : Kind) × (number_of kind ≡ n) × (head_ok n side ≡ true) × (q ≡ Within kind nothing)
begun-is n side q None e g = absurd (cc)
begun-is n side q (Some kind) e g =
    let k = number_of-kind_of n kind e in
    let t = then_some-is (head_ok (number_of kind) side) (Within kind nothing) q g in
    (kind, k, ap (λ x. head_ok x side) (sym k) ∙ t.0, t.1)

pub lawful_hand_in : (rs : List Content) → Lawful HandInDue rs → HandIn rs
lawful_hand_in [] h = absurd (false≢true h)
lawful_hand_in (r ∷ rs) h =
    let f = form r Hd h.0 in
    let g = subst (λ x. Lawful HandInDue (x ∷ rs)) f.2 h in
    let t = begun-is f.0 f.1 (after HandInDue (hd f.0 f.1)) (kind_of f.0) refl (behind-fits HandInDue (hd f.0 f.1) g.1) in
    let b = lawful_body t.0 nothing rs (subst (λ p. Lawful p rs) t.3 g.2) in
    record {
      kind = f.0;
      side = f.1;
      body = b.0;
      shape = ap (λ x. x ∷ rs) f.2 ∙ ap (λ x. hd f.0 f.1 ∷ x) b.1;
      head = t.2;
      ascending = subst (λ n. Body n nothing b.0) t.1 b.2;
    }
