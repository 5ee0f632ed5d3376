-- Rows laid over a table.
use Rattle.std.proofs.Common.{◌≡◌, ℕ, zero, suc, ◌+◌, ◌-◌, ◌<◌, ◌≤◌, List, [], ◌∷◌, ◌++◌, length, get_or, take, drop, set, Some, None, sym, refl, ap, ◌∙◌, append_assoc, add-zero, arith}
use Rattle.std.proofs.lemmas.List.{append-nil, take_more, drop_more, set_at, length-append, length_push, length-drop, length-take-le, take-append-drop, take_at, drop_at, drop-drop}
use Rattle.std.proofs.lemmas.Option.{slice_get_within, get_or_from_slice_get}
use Rattle.std.specs.List.{slice_get}
use Rattle.filling.specs.Fills.{fronted}
use Rattle.filling.specs.Placed.{laid}

module _ {X : Type 0} where
  pub laid_none : (xs : List X) (k : ℕ) → xs ≡ laid xs k []
  laid_none xs k = sym (rw add-zero (take-append-drop k xs))

  pub laid_more :
      (xs : List X) (k : ℕ) (ys : List X) (y : X) (j : ℕ) → k + length ys ≡ j → j < length xs
      → set (laid xs k ys) j y ≡ laid xs k (ys ++ y ∷ [])
  laid_more xs k ys y j q h =
      let d = drop_more xs j y h in
      let l : length (take k xs ++ ys) ≡ j = length-append (take k xs) ys ∙ ap (λ n. n + length ys) (length-take-le k xs (omega arith)) ∙ q in
      let a = set_at (take k xs ++ ys) (get_or xs j y) (drop (j + 1) xs) y j l in
      let b : take k xs ++ (ys ++ (get_or xs j y ∷ drop (j + 1) xs)) ≡ (take k xs ++ ys) ++ (get_or xs j y ∷ drop (j + 1) xs) = sym (append_assoc (take k xs) ys _) in
      let e : k + length (ys ++ y ∷ []) ≡ j + 1 = rw (length_push ys y) (omega arith) in
      rw (q, d, b, a, e) (simp append_assoc)

  -- the i-th of a list is laid behind those before it, and in the end all are
  pub laid_next :
      (xs : List X) (k : ℕ) (ys : List X) (i : ℕ) (y : X) (was : List X) → was ≡ laid xs k (take i ys) → Some y ≡ slice_get ys i → k + length ys ≤ length xs
      → set was (k + i) y ≡ laid xs k (take (i + 1) ys)
  laid_next xs k ys i y was w e h =
      let below = slice_get_within ys i y (sym e) in
      let item : get_or ys i y ≡ y = get_or_from_slice_get ys i y y (sym e) in
      let size : k + length (take i ys) ≡ k + i = ap (λ n. k + n) (length-take-le i ys (omega arith)) in
      rw (w, take_more ys i y below, item) (laid_more xs k (take i ys) y (k + i) size (omega arith))

  none_left : (ys : List X) (i : ℕ) → None ≡ slice_get ys i → drop i ys ≡ []
  none_left [] zero e = refl
  none_left [] (suc i) e = refl
  none_left (y ∷ ys) zero e = let z : ◌≡◌ {A = ℕ} 0 1 = cc in absurd (omega arith)
  none_left (y ∷ ys) (suc i) e = none_left ys i e

  pub laid_all : (xs : List X) (k : ℕ) (ys : List X) (i : ℕ) (was : List X) → was ≡ laid xs k (take i ys) → None ≡ slice_get ys i → was ≡ laid xs k ys
  laid_all xs k ys i was w e =
      w ∙ ap (laid xs k) (sym (append-nil (take i ys)) ∙ ap (λ (zs : List X). take i ys ++ zs) (sym (none_left ys i e)) ∙ take-append-drop i ys)

  pub length-fronted : (rows old : List X) → length (fronted rows old) ≡ length rows + (length old - length rows)
  length-fronted rows old = length-append rows (drop (length rows) old) ∙ ap (λ n. length rows + n) (length-drop (length rows) old)

  -- rows laid behind rows
  pub laid_fronted : (rows old ys : List X) → laid (fronted rows old) (length rows) ys ≡ fronted (rows ++ ys) old
  laid_fronted rows old ys =
      let k = length rows in
      let rest = drop k old in
      let a : drop (k + length ys) (rows ++ rest) ≡ drop (k + length ys) old = sym (drop-drop (length ys) k (rows ++ rest)) ∙ ap (drop (length ys)) (drop_at rows rest k refl) ∙ drop-drop (length ys) k old in
      rw (take_at rows rest k refl, a, length-append rows ys) (sym (append_assoc rows ys (drop (k + length ys) old)))

  pub set_fronted : (rows old : List X) (y : X) → length rows < length (fronted rows old) → set (fronted rows old) (length rows) y ≡ fronted (rows ++ y ∷ []) old
  set_fronted rows old y h =
      let d = drop_more old (length rows) y (omega (arith, length-fronted rows old)) in
      rw (d, set_at rows (get_or old (length rows) y) (drop (length rows + 1) old) y (length rows) refl, length_push rows y) (simp append_assoc)
