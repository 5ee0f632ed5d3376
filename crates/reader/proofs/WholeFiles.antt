-- What is promised of readers and of whole files, from the one true reading.
use Rattle.std.proofs.Common.{◌≡◌, ℕ, ◌<◌, ◌≤◌, List, length, get_or, Ok, Err, Result, sym, refl, ap, subst, inl, inr, arith}
use Rattle.records.specs.Content.{Content}
use Rattle.grammar.specs.declared.place.Place.TheVariants.{HandInDue, ModelDue}
use Rattle.grammar.specs.File.{Reads}
use Rattle.grammar.proofs.HandIns.{lawful_hand_in, hand_in_lawful}
use Rattle.grammar.proofs.ModelFiles.{lawful_model_file, model_file_lawful}
use Rattle.reader.specs.declared.fault.ReadFault.{ReadFault}
use Rattle.reader.specs.declared.fault.ReadFault.TheVariants as faults
use Rattle.reader.specs.declared.format.Format.{Format}
use Rattle.reader.specs.declared.format.Format.TheVariants.{HandIn, ModelFile}
use Rattle.reader.specs.declared.reading.Reader.{Reader}
use Rattle.reader.specs.Format.{IsFile, start_of}
use Rattle.reader.specs.Faults.{number_of, place_of}
use Rattle.reader.specs.Exact.{stopped, fault, read, True, Exactly}
use Rattle.reader.specs.Reading.{reading}
use Rattle.reader.specs.Answer.{rest_of, Alone, ReadsWhole, Sole}
use Rattle.reader.proofs.OneTrue.{exactly}

-- a fault is known by its number and its place
same_fault : (f g : ReadFault) → number_of f ≡ number_of g → place_of f ≡ place_of g → f ≡ g
same_fault (faults.Ends a) (faults.Ends b) n p = ap faults.Ends p
same_fault (faults.BadMark a) (faults.BadMark b) n p = ap faults.BadMark p
same_fault (faults.BadField a) (faults.BadField b) n p = ap faults.BadField p
same_fault (faults.Surplus a) (faults.Surplus b) n p = ap faults.Surplus p
same_fault f g n p = absurd (omega arith)

-- what is read whole, or else the first fault, from the one true reading
module _ (W : List Content → Type 0) (r : Reader) (xs : List ℕ) (b : r.bytes.now ≡ xs) (e : Exactly W xs 0 (rest_of r)) where
  reads_whole : (o : ℕ) (rs : List Content) → rest_of r ≡ read rs (stopped o) → length xs ≤ o → Reads W xs 0 (length xs) rs
  reads_whole o rs h l =
      let t : True W xs 0 (read rs (stopped o)) = subst (True W xs 0) h e.holds in
      let z : o ≡ length xs = let k = t.within in omega arith in
      subst (λ k. Reads W xs 0 k rs) z t

  alone_whole : (a : Result (Unit {0}) ReadFault) → Alone r a → ReadsWhole W xs a
  alone_whole (Ok u) h = (h.0, reads_whole h.1 h.0 h.2 (subst (λ ys. length ys ≤ h.1) b h.3))
  alone_whole (Err f) (inl h) = let t : True W xs 0 (read h.0 (fault (number_of f) (place_of f))) = subst (True W xs 0) h.1 e.holds in inl (h.0, t.0, t.1)
  alone_whole (Err f) (inr h) =
      inr (h.0, (h.1.0, subst (True W xs 0) h.1.1 e.holds), subst (λ ys. place_of f < length ys) b h.2)

  -- and the other way round
  whole_alone : (a : Result (Unit {0}) ReadFault) → ReadsWhole W xs a → Alone r a
  whole_alone (Ok u) h = (h.0, length xs, sym (e.only (read h.0 (stopped (length xs))) h.1), subst (λ ys. length ys ≤ length xs) (sym b) (omega arith))
  whole_alone (Err f) (inl h) = inl (h.0, sym (e.only (read h.0 (fault (number_of f) (place_of f))) (h.1, h.2)))
  whole_alone (Err f) (inr h) =
      inr (h.0, (h.1.0, sym (e.only (read h.1.0 (stopped (place_of f))) h.1.1)), subst (λ ys. place_of f < length ys) (sym b) h.2)

  -- two answers that both say how the reading ends are one
  one_answer : (a c : Result (Unit {0}) ReadFault) → Alone r a → Alone r c → a ≡ c
  one_answer (Ok u) (Ok v) h k = refl
  one_answer (Ok u) (Err g) h (inl k) = absurd (cc)
  one_answer (Ok u) (Err g) h (inr k) = let z : h.1 ≡ place_of g = cc in absurd (omega arith)
  one_answer (Err f) (Ok v) (inl h) k = absurd (cc)
  one_answer (Err f) (Ok v) (inr h) k = let z : k.1 ≡ place_of f = cc in absurd (omega arith)
  one_answer (Err f) (Err g) (inl h) (inl k) = ap Err (same_fault f g (cc) (cc))
  one_answer (Err f) (Err g) (inl h) (inr k) = absurd (cc)
  one_answer (Err f) (Err g) (inr h) (inl k) = absurd (cc)
  one_answer (Err f) (Err g) (inr h) (inr k) = ap Err (same_fault f g (cc) (cc))

  pub sole : (a : Result (Unit {0}) ReadFault) → Alone r a → Sole W xs a
  sole a h = record { right = alone_whole a h; only = λ other k. one_answer other a (whole_alone other k) h }

-- the reading of a file of a format, from its start on
pub exactly_file : (m : Format) (xs : List ℕ) → ((j : ℕ) → get_or xs j 0 < 256) → (at : ℕ) → Exactly (IsFile m) xs at (reading (start_of m) xs at)
exactly_file HandIn xs f at = exactly HandInDue (IsFile HandIn) lawful_hand_in hand_in_lawful xs f at refl
exactly_file ModelFile xs f at = exactly ModelDue (IsFile ModelFile) lawful_model_file model_file_lawful xs f at refl
