-- What it is for bytes to read as records, and what the first fault is of bytes that do not. A file here is any property W of lists of
-- records: HandIn, or ModelFile.
use Rattle.std.specs.Prelude.{◌≡◌, ℕ, ◌+◌, ◌<◌, ◌≤◌, ◌⊎◌, List, ◌∷◌, ◌++◌, length, drop}
use Rattle.records.specs.declared.content.Mark.{Mark}
use Rattle.records.specs.Content.{Content, mark_of}
use Rattle.records.specs.Encode.{encode, Fits, first_letter, second_letter}
use Rattle.grammar.specs.File.{encodes, AllFit, Reads, GoesOn, Allowed}

-- The bytes ys begin with the letters of the mark m.
abbrev pub Marked : List ℕ → Mark → Type 0
Marked ys m = (zs : List ℕ) × (ys ≡ first_letter m ∷ second_letter m ∷ zs)

-- The bytes ys begin with the record r.
abbrev pub Begins : List ℕ → Content → Type 0
Begins ys r = (zs : List ℕ) × (ys ≡ encode r ++ zs) × Fits r

-- Why the bytes ys cannot go on after the records ds, by its number:
-- 1: there is no mark, or one that is allowed there and no whole record of it;
abbrev pub Ends : (List Content → Type 0) → List Content → List ℕ → Type 0
Ends W ds ys = (length ys < 2) ⊎ ((m : Mark) × Marked ys m × Allowed W ds m × ((r : Content) → mark_of r ≡ m → Begins ys r → ⊥))

-- 2: there is no mark that is allowed there;
abbrev pub BadMark : (List Content → Type 0) → List Content → List ℕ → Type 0
BadMark W ds ys = (2 ≤ length ys) × ((m : Mark) → Marked ys m → Allowed W ds m → ⊥)

-- 3: there is a whole record with a mark that is allowed, but no file goes on with this record.
abbrev pub BadField : (List Content → Type 0) → List Content → List ℕ → Type 0
BadField W ds ys = (r : Content) × Begins ys r × Allowed W ds (mark_of r) × (GoesOn W ds r → ⊥)

-- Some file goes on after the records ds; they stand in xs from `at` up to the offset `fault`.
pub record Front (W : List Content → Type 0) (xs : List ℕ) (at fault : ℕ) (ds : List Content) : Type 0 where
  pub bytes : drop at xs ≡ encodes ds ++ drop fault xs
  pub ends : fault ≡ at + length (encodes ds)
  pub fit : AllFit ds
  pub unfinished : (r : Content) × GoesOn W ds r

-- What reading a unit from `at` on comes to: it stopped behind a ZZ, or at the first fault, with its number and place; and the records before that.
pub data Ending : Type 0 where
  stopped : (behind : ℕ) → Ending
  fault : (number place : ℕ) → Ending

pub data Reading : Type 0 where
  read : (rs : List Content) (e : Ending) → Reading

-- the records of a reading, and a reading with more records in front
abbrev pub records_of : Reading → List Content
records_of (read rs e) = rs

abbrev pub prefixed : List Content → Reading → Reading
prefixed ds (read rs e) = read (ds ++ rs) e

-- why the records ds are followed by bytes ys that cannot be read on, by the number
abbrev pub Because : (List Content → Type 0) → List Content → List ℕ → ℕ → Type 0
Because W ds ys n = ((n ≡ 1) × Ends W ds ys) ⊎ (((n ≡ 2) × BadMark W ds ys) ⊎ ((n ≡ 3) × BadField W ds ys))

-- The reading is the one that the bytes have: they are a file of these records, or these are the records before the first fault.
abbrev pub True : (List Content → Type 0) → List ℕ → ℕ → Reading → Type 0
True W xs at (read rs (stopped o)) = Reads W xs at o rs
True W xs at (read ds (fault n o)) = Front W xs at o ds × Because W ds (drop o xs) n

-- It is the one true reading: of every list of bytes just one thing is true, and this is it.
pub record Exactly (W : List Content → Type 0) (xs : List ℕ) (at : ℕ) (it : Reading) : Type 0 where
  pub holds : True W xs at it
  pub only : (other : Reading) → True W xs at other → other ≡ it

-- The first fault of bytes that should be a file and nothing more: one of these, or 4 at the first byte behind the file.
abbrev pub FirstFault : (List Content → Type 0) → List ℕ → ℕ → ℕ → Type 0
FirstFault W xs n o =
    ((ds : List Content) × Front W xs 0 o ds × Because W ds (drop o xs) n)
    ⊎ ((n ≡ 4) × ((rs : List Content) × Reads W xs 0 o rs) × (o < length xs))
