-- A file that is read record by record: what was read so far, and what it gives.
use Rattle.std.proofs.Common.{◌≡◌, ℕ, ◌+◌, ◌^◌, ◌<◌, ◌≤◌, List, [], ◌∷◌, ◌++◌, length, drop, None, Ok, Option, sym, refl, ap, ◌∙◌, subst, inl, arith}
use Rattle.std.proofs.lemmas.List.{append-nil, length-append, length_push}
use Rattle.records.specs.Content.{Content, md, st, ch, hd, ce, fl, pc, pm, rw', wf, zz}
use Rattle.records.specs.Encode.{encode, Fits}
use Rattle.records.proofs.Return.{branches_length}
use Rattle.grammar.specs.File.{Reads, AllFit, encodes}
use Rattle.grammar.specs.ModelFile.{State, ModelFile, file_records}
use Rattle.records.specs.declared.content.Record.{Record}
use Rattle.reader.specs.declared.reading.Reader.{Reader}
use Rattle.reader.specs.Answer.{rest_of, Next}
use Rattle.reader.specs.Exact.{Ending, stopped, fault, Reading, read, records_of, True, Exactly, FirstFault, prefixed}
use Rattle.reader.proofs.Steps.{prefixed_twice}
use Rattle.tables.specs.Held.{Held}
use Rattle.tables.specs.declared.rows.Filled.{Filled}
use Rattle.filling.specs.Giving.{Gift, head, state, choice, nothing, given, none, add, adds}
use Rattle.filling.specs.Counted.{tally, CountsFit, Counted}
use Rattle.filling.specs.Fills.{FileOf, rows_in, filled_by, Tables, RoomFor, Room}
use Rattle.tables.proofs.Saying.{length-state_rows}
use Rattle.filling.proofs.Giving.{tally_add, adds-append, file_adds}

-- no more rows than so many, in each part
pub record Few (h : Held) (n : ℕ) : Type 0 where
  pub states : length h.states ≤ n
  pub choices : length h.choices ≤ n
  pub branches : length h.branches ≤ n

-- how many rows a record gives, at most in each part
abbrev size : Gift → ℕ
size (head d) = 0
size (state g k) = 1
size (choice bs) = 1 + length bs
size nothing = 0

few_more : (h : Held) (g : Gift) (n m : ℕ) → Few h n → n + size g ≤ m → Few (add h g) m
few_more h (head d) n m few l = record { states = omega arith; choices = omega arith; branches = omega arith }
few_more h (state g k) n m few l =
    record { states = rw (length_push h.states) (omega arith); choices = omega arith; branches = omega arith }
few_more h (choice bs) n m few l =
    record { states = omega arith; choices = rw (length_push h.choices) (omega arith); branches = rw (length-append h.branches bs) (omega arith) }
few_more h nothing n m few l = record { states = omega arith; choices = omega arith; branches = omega arith }

-- a record has more bytes than rows
size_least : (r : Content) → size (given r) ≤ length (encode r)
size_least (md n d) = omega arith
size_least (st g k) = omega arith
size_least (ch bs) = omega (arith, branches_length bs)
size_least (hd k s) = omega arith
size_least (ce s c) = omega arith
size_least (fl s c) = omega arith
size_least (pc s c) = omega arith
size_least (pm s c m) = omega arith
size_least (rw' s r) = omega arith
size_least (wf s h c m ps) = omega arith
size_least zz = omega arith

few_adds : (h : Held) (n m : ℕ) (rs : List Content) → Few h n → n + length (encodes rs) ≤ m → Few (adds h rs) m
few_adds h n m [] few l = record { states = omega arith; choices = omega arith; branches = omega arith }
few_adds h n m (r ∷ rs) few l =
    let total = length-append (encode r) (encodes rs) in
    few_adds (add h (given r)) (n + length (encode r)) m rs (few_more h (given r) n (n + length (encode r)) few (omega (arith, size_least r))) (omega arith)

-- no part has more rows than with the records that follow
record Within (k : Filled) (h : Held) : Type 0 where
  states : k.states ≤ length h.states
  choices : k.choices ≤ length h.choices
  branches : k.branches ≤ length h.branches

below_add : (h : Held) (g : Gift) → Within (filled_by h) (add h g)
below_add h (head d) = record { states = omega arith; choices = omega arith; branches = omega arith }
below_add h (state g k) = record { states = rw (length_push h.states) (omega arith); choices = omega arith; branches = omega arith }
below_add h (choice bs) =
    record { states = omega arith; choices = rw (length_push h.choices) (omega arith); branches = rw (length-append h.branches bs) (omega arith) }
below_add h nothing = record { states = omega arith; choices = omega arith; branches = omega arith }

below_adds : (h : Held) (rs : List Content) → Within (filled_by h) (adds h rs)
below_adds h [] = record { states = omega arith; choices = omega arith; branches = omega arith }
below_adds h (r ∷ rs) =
    let one = below_add h (given r) in
    let rest = below_adds (add h (given r)) rs in
    record { states = omega arith; choices = omega arith; branches = omega arith }

-- the records of a reading are no more than its bytes
true_within : (W : List Content → Type 0) (xs : List ℕ) (it : Reading) → True W xs 0 it → length (encodes (records_of it)) ≤ length xs
true_within W xs (read rs (stopped o)) t = omega (arith, ap length t.bytes, length-append (encodes rs) (drop o xs))
true_within W xs (read rs (fault n o)) t = omega (arith, ap length t.0.bytes, length-append (encodes rs) (drop o xs))

prefixed_records : (ds : List Content) (rest : Reading) → records_of (prefixed ds rest) ≡ ds ++ records_of rest
prefixed_records ds (read rs e) = refl

-- where none is left, the reader has stopped at its offset
pub next_none : (r s : Reader) (o : Option (ℕ × Record)) → o ≡ None → Next r s (Ok o) → rest_of r ≡ read [] (stopped s.at)
next_none r s o e h =
    let t : Next r s (Ok None) = subst (λ (q : Option (ℕ × Record)). Next r s (Ok q)) e h in
    t.0 ∙ ap (λ (q : Reader). read [] (stopped q.at)) (sym t.1)

-- What begins a model file has fewer than 65,536 states.
few_states : (ds rest : List Content) (d : ℕ) (ss : List State) → ds ++ rest ≡ file_records d ss → AllFit ds → length (adds none ds).states < 65536
few_states [] rest d ss e fit = omega arith
few_states (r ∷ ds) rest d ss e fit =
    let first : r ≡ md (length ss) d = cc in
    let fits : Fits (md (length ss) d) = subst Fits first fit.0 in
    let below = below_adds (adds none (r ∷ ds)) rest in
    let whole = ap (λ (h : Held). length h.states) (sym (adds-append none (r ∷ ds) rest) ∙ ap (adds none) e ∙ file_adds d ss) in
    omega (arith, fits.0, below, whole, length-state_rows 0 ss)

true_few_states : (xs : List ℕ) (it : Reading) → True ModelFile xs 0 it → length (adds none (records_of it)).states < 65536
true_few_states xs (read rs (stopped o)) t = few_states rs [] t.file.denominator t.file.states (append-nil rs ∙ t.file.shape) t.fit
true_few_states xs (read rs (fault n o)) t =
    let more = t.0.unfinished in
    few_states rs (more.0 ∷ more.1.0) more.1.1.denominator more.1.1.states more.1.1.shape t.0.fit

-- Of the reading `all` of a file, `rest` is still to be read: the records before it, and the count of their rows.
pub record SoFar (all rest : Reading) (k : Filled) : Type 0 where
  pub records : List Content
  pub comes : all ≡ prefixed records rest
  pub counts : k ≡ filled_by (adds none records)

pub prefixed_none : (all : Reading) → all ≡ prefixed [] all
prefixed_none (read rs e) = refl

abbrev pub none_yet : (all : Reading) (k : Filled) → k ≡ filled_by none → SoFar all all k
none_yet all k e = record { records = []; comes = prefixed_none all; counts = e }

module _ (all rest : Reading) (k : Filled) (so : SoFar all rest k) where
  pub all_come : records_of rest ≡ [] → so.records ≡ records_of all
  all_come none_left =
      sym (ap records_of so.comes ∙ prefixed_records so.records rest ∙ ap (λ (rs : List Content). so.records ++ rs) none_left ∙ append-nil so.records)

  -- one record more
  module _ (r : Content) (next : Reading) (step : rest ≡ prefixed (r ∷ []) next) where
    abbrev pub so_far_next : SoFar all next (tally k (given r))
    so_far_next =
        record {
          records = so.records ++ r ∷ [];
          comes = so.comes ∙ ap (prefixed so.records) step ∙ prefixed_twice so.records (r ∷ []) next;
          counts = ap (λ (c : Filled). tally c (given r)) so.counts ∙ tally_add (adds none so.records) (given r)
              ∙ ap filled_by (sym (adds-append none so.records (r ∷ [])));
        }

    -- what is counted with it is no more than what all records give
    next_below : Within (tally k (given r)) (adds none (records_of all))
    next_below =
        let ds = so_far_next.records in
        let whole = ap (adds none) (ap records_of so_far_next.comes ∙ prefixed_records ds next) ∙ adds-append none ds (records_of next) in
        rw (so_far_next.counts, whole) (below_adds (adds none ds) (records_of next))

    -- nor are any more than the bytes, whatever whole files are
    pub next_few :
        (W : List Content → Type 0) (xs : List ℕ) → True W xs 0 all
        → ((tally k (given r)).states ≤ length xs) × ((tally k (given r)).choices ≤ length xs) × ((tally k (given r)).branches ≤ length xs)
    next_few W xs holds =
        let few = few_adds none 0 (length xs) (records_of all) (record { states = omega arith; choices = omega arith; branches = omega arith }) (omega (arith, true_within W xs all holds)) in
        let part = next_below in
        (omega (arith, few, part), omega (arith, few, part), omega (arith, few, part))

    pub next_fits : (xs : List ℕ) → True ModelFile xs 0 all → length xs < 2 ^ 64 → CountsFit (tally k (given r))
    next_fits xs holds short =
        let few = next_few ModelFile xs holds in
        let states = true_few_states xs all holds in
        let part = next_below in
        (omega (arith, states, part), omega (arith, few, short), omega (arith, few, short))

    pub next_room : (t : Tables) → Room (adds none (records_of all)) t → RoomFor (tally k (given r)) t
    next_room t room =
        let part = next_below in
        record { states = omega (arith, part, room); choices = omega (arith, part, room); branches = omega (arith, part, room) }

-- The reading of a file is that of its records.
pub file_rows : (xs : List ℕ) (all : Reading) → Exactly ModelFile xs 0 all → (file : FileOf xs) → adds none (records_of all) ≡ rows_in xs file
file_rows xs all exact file =
    let records = file_records file.denominator file.states in
    ap (λ (v : Reading). adds none (records_of v)) (sym (exact.only (read records (stopped (length xs))) file.reads))
    ∙ file_adds file.denominator file.states

-- how a reading ends: at a fault, or with the file
module _ (xs : List ℕ) (all : Reading) (exact : Exactly ModelFile xs 0 all) (rest : Reading) (k : Filled) (so : SoFar all rest k) where
  ended : (e : Ending) → rest ≡ read [] e → True ModelFile xs 0 (read (so.records ++ []) e)
  ended e end = subst (True ModelFile xs 0) (so.comes ∙ ap (prefixed so.records) end) exact.holds

  pub ends_at_fault : (n o : ℕ) → rest ≡ read [] (fault n o) → FirstFault ModelFile xs n o
  ends_at_fault n o end = let t = ended (fault n o) end in inl (so.records ++ [], t.0, t.1)

  pub ends_with_file : (o : ℕ) → rest ≡ read [] (stopped o) → length xs ≤ o → Counted xs (Ok k)
  ends_with_file o end l =
      let t : Reads ModelFile xs 0 o (so.records ++ []) = ended (stopped o) end in
      let behind : o ≡ length xs = omega (arith, t.within) in
      let model = t.file in
      let file : FileOf xs =
      record {
        denominator = model.denominator;
        states = model.states;
        reads = subst (λ (rs : List Content). Reads ModelFile xs 0 (length xs) rs) model.shape (subst (λ (b : ℕ). Reads ModelFile xs 0 b (so.records ++ [])) behind t);
        ranges = model.ranges;
      } in
      (file, so.counts ∙ ap (λ (rs : List Content). filled_by (adds none rs)) (sym (append-nil so.records) ∙ model.shape) ∙ ap filled_by (file_adds model.denominator model.states))
