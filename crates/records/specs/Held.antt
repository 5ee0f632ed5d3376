-- What the code's values stand for.
use Rattle.std.specs.Prelude.{◌≡◌, ℕ, ◌+◌, ◌*◌, ◌/◌, ◌%◌, ◌<◌, ◌≤◌, Bool, true, cond, ◌&&◌, List, ◌++◌, length, take, drop, Some, None, Ok, Err, Option, Result, ◌==◌, ◌≢◌, nat_lt, slice_index}
use Rattle.std.specs.Borrow.{Bor}
use Rattle.records.specs.declared.content.Branch.{Branch}
use Rattle.records.specs.declared.content.Portion.{Portion}
use Rattle.records.specs.declared.content.Mark.{Mark}
use Rattle.records.specs.declared.content.Record.{Record}
use Rattle.records.specs.declared.content.Record.TheVariants.{Md, St, Ch, Hd, Ce, Fl, Pc, Pm, Rw, Wf, Zz}
use Rattle.records.specs.declared.decoding.NoMark.{NoMark}
use Rattle.records.specs.declared.fields.Fields.{Fields}
use Rattle.records.specs.declared.decoding.NoMark.TheVariants.{Cut, Unknown}
use Rattle.records.specs.Content.{Content, md, st, ch, hd, ce, fl, pc, pm, rw', wf, zz, mark_of}
use Rattle.records.specs.Encode.{encode, Fits}
use Rattle.records.specs.Decode.{be2, branches_from, portions_from, mark_spelled, size, decoded}

-- the whole entries in their bytes, 4 or 5 each
abbrev pub branches : List ℕ → List Branch
branches xs = branches_from (length xs / 4) xs 0

abbrev pub portions : List ℕ → List Portion
portions xs = portions_from (length xs / 5) xs 0

abbrev pub content : Record → Content
content (Md n d) = md n d
content (St g k) = st g k
content (Ch es) = ch (branches es.now)
content (Hd k s) = hd k s
content (Ce s c) = ce s c
content (Fl s c) = fl s c
content (Pc s c) = pc s c
content (Pm s c m) = pm s c m
content (Rw s r) = rw' s r
content (Wf s h c m es) = wf s h c m (portions es.now)
content Zz = zz

-- entries are whole, with no byte left over, and few enough to be counted in two bytes
abbrev pub whole : Record → Bool
whole (Md n d) = true
whole (St g k) = true
whole (Ch es) = length es.now % 4 == 0 && nat_lt (length es.now / 4) 65536
whole (Hd k s) = true
whole (Ce s c) = true
whole (Fl s c) = true
whole (Pc s c) = true
whole (Pm s c m) = true
whole (Rw s r) = true
whole (Wf s h c m es) = length es.now % 5 == 0 && nat_lt (length es.now / 5) 65536
whole Zz = true

-- n bytes are read, of the value that V says, and it goes on behind them; or there are not so many, and it stays
abbrev pub Reads : {A : Type 0} → ℕ → (A → Type 0) → Fields → Option A → Fields → Type 0
Reads n V old None new = (length old.bytes.now < old.at + n) × (new.bytes ≡ old.bytes) × (new.at ≡ old.at)
Reads n V old (Some x) new = (old.at + n ≤ length old.bytes.now) × V x × (new.bytes ≡ old.bytes) × (new.at ≡ old.at + n)

-- a number of entries of that size is read, and their bytes
abbrev pub ReadsEntries : ℕ → Fields → Option (Bor (List ℕ)) → Fields → Type 0
ReadsEntries size old found new =
    let bytes = size * be2 old.bytes.now old.at in
    Reads (2 + bytes) (λ entries. entries.now ≡ take bytes (drop (old.at + 2) old.bytes.now)) old found new

-- the mark that stands at `at`, or why there is none
abbrev pub known : Option Mark → Result Mark NoMark
known (Some m) = Ok m
known None = Err Unknown

abbrev pub mark_at : List ℕ → ℕ → Result Mark NoMark
mark_at xs at = cond (nat_lt (length xs) (at + 2)) (Err Cut) (known (mark_spelled (slice_index xs at) (slice_index xs (at + 1))))

-- the record that stands at `at` and where it ends, or that the bytes end before it does
abbrev pub Decodes : List ℕ → ℕ → Mark → Option (Record × ℕ) → Type 0
Decodes xs at m None = length xs < at + size m xs at
Decodes xs at m (Some p) =
    (at + size m xs at ≤ length xs) × (content p.0 ≡ decoded m xs at) × (p.1 ≡ at + size m xs at) × (whole p.0 ≡ true)

-- Where the mark stands at `at`, the bytes from there on begin with just this record, each of its numbers fitting the bytes that it is written
-- in; or they begin with no record of this mark.
abbrev pub Stands : List ℕ → ℕ → Mark → Option (Record × ℕ) → Type 0
Stands xs at m (Some p) =
    Ok m ≡ mark_at xs at → (drop at xs ≡ encode (content p.0) ++ drop p.1 xs) × (mark_of (content p.0) ≡ m) × Fits (content p.0)
Stands xs at m None = Ok m ≡ mark_at xs at → (r : Content) (zs : List ℕ) → mark_of r ≡ m → Fits r → drop at xs ≢ encode r ++ zs
