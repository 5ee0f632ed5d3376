-- What it is for bytes to be a file, and for a record to follow others in a file. A file here is any property W of lists of records:
-- HandIn, or ModelFile.
use Rattle.std.specs.Prelude.{◌≡◌, ℕ, ◌+◌, ◌≤◌, List, [], ◌∷◌, ◌++◌, length, drop}
use Rattle.std.specs.List.{flat_map}
use Rattle.records.specs.declared.content.Mark.{Mark}
use Rattle.records.specs.Content.{Content, mark_of}
use Rattle.records.specs.Encode.{encode, Fits}

-- the bytes of records, one after the other
abbrev pub encodes : List Content → List ℕ
encodes rs = flat_map encode rs

-- each number fits the bytes that the format gives it
abbrev pub AllFit : List Content → Type 0
AllFit [] = Unit {0}
AllFit (r ∷ rs) = Fits r × AllFit rs

-- From the offset `at` up to the offset `behind`, the bytes xs are a file of the records rs.
pub record Reads (W : List Content → Type 0) (xs : List ℕ) (at behind : ℕ) (rs : List Content) : Type 0 where
  pub bytes : drop at xs ≡ encodes rs ++ drop behind xs
  pub ends : behind ≡ at + length (encodes rs)
  pub within : behind ≤ length xs
  pub fit : AllFit rs
  pub file : W rs

-- Some file goes on with r after the records ds.
abbrev pub GoesOn : (List Content → Type 0) → List Content → Content → Type 0
GoesOn W ds r = (rest : List Content) × W (ds ++ (r ∷ rest))

-- Some file goes on with a record of this mark there. The numbers of that file may be as large as they like.
abbrev pub Allowed : (List Content → Type 0) → List Content → Mark → Type 0
Allowed W ds m = (r : Content) × (mark_of r ≡ m) × GoesOn W ds r
