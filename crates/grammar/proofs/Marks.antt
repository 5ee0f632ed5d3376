-- Marks with the same number are the same, and the mark of a record says its form.
use Rattle.std.proofs.Common.{◌≡◌, ℕ, zero, suc, true, List, sym, refl, ap, ◌∙◌, subst}
use Rattle.std.proofs.lemmas.Bool.{eqb-true}
use Rattle.records.specs.declared.content.Branch.{Branch}
use Rattle.records.specs.declared.content.Mark.{Mark}
use Rattle.records.specs.declared.content.Mark.TheVariants.{Md, St, Ch, Hd, Ce, Fl, Pc, Pm, Rw, Wf, Zz}
use Rattle.records.specs.Content.{Content, md, st, ch, hd, zz, mark_of, mark_number, same_mark}

-- the mark at a place of the list of marks
abbrev nth_mark : ℕ → Mark
nth_mark zero = Md
nth_mark (suc zero) = St
nth_mark (suc (suc zero)) = Ch
nth_mark (suc (suc (suc zero))) = Hd
nth_mark (suc (suc (suc (suc zero)))) = Ce
nth_mark (suc (suc (suc (suc (suc zero))))) = Fl
nth_mark (suc (suc (suc (suc (suc (suc zero)))))) = Pc
nth_mark (suc (suc (suc (suc (suc (suc (suc zero))))))) = Pm
nth_mark (suc (suc (suc (suc (suc (suc (suc (suc zero)))))))) = Rw
nth_mark (suc (suc (suc (suc (suc (suc (suc (suc (suc zero))))))))) = Wf
nth_mark (suc (suc (suc (suc (suc (suc (suc (suc (suc (suc n)))))))))) = Zz

nth_number : (m : Mark) → nth_mark (mark_number m) ≡ m
nth_number Md = refl
nth_number m = refl

pub same_mark-true : (a b : Mark) → same_mark a b ≡ true → a ≡ b
same_mark-true a b e = sym (nth_number a) ∙ ap nth_mark (eqb-true (mark_number a) (mark_number b) e) ∙ nth_number b

-- what a record of a mark is; nothing is said of the records that a hand-in's body has
abbrev pub Form : Mark → Content → Type 0
Form Md r = (n : ℕ) × (d : ℕ) × (r ≡ md n d)
Form St r = (g : ℕ) × (k : ℕ) × (r ≡ st g k)
Form Ch r = (es : List Branch) × (r ≡ ch es)
Form Hd r = (k : ℕ) × (s : ℕ) × (r ≡ hd k s)
Form Zz r = r ≡ zz
Form m r = Unit {0}

own_form : (r : Content) → Form (mark_of r) r
own_form (md n d) = (n, d, refl)
own_form (st g k) = (g, k, refl)
own_form (ch es) = (es, refl)
own_form (hd k s) = (k, s, refl)
own_form zz = refl
own_form r = tt

pub form : (r : Content) (m : Mark) → same_mark (mark_of r) m ≡ true → Form m r
form r m e = subst (λ x. Form x r) (same_mark-true (mark_of r) m e) (own_form r)
