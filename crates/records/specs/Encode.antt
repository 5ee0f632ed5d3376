-- The bytes of a record. Numbers are written with the highest byte first.
use Rattle.std.specs.Prelude.{ℕ, ◌/◌, ◌%◌, ◌<◌, List, [], ◌∷◌, ◌++◌, length}
use Rattle.std.specs.List.{flat_map}
use Rattle.records.specs.declared.content.Branch.{Branch}
use Rattle.records.specs.declared.content.Portion.{Portion}
use Rattle.records.specs.declared.content.Mark.{Mark}
use Rattle.records.specs.declared.content.Mark.TheVariants.{Md, St, Ch, Hd, Ce, Fl, Pc, Pm, Rw, Wf, Zz}
use Rattle.records.specs.Content.{Content, md, st, ch, hd, ce, fl, pc, pm, rw', wf, zz, mark_of}

-- a number in 2, 4 or 8 bytes
abbrev pub two : ℕ → List ℕ
two n = (n / 256 % 256) ∷ (n % 256) ∷ []

abbrev pub four : ℕ → List ℕ
four n = (n / 16777216 % 256) ∷ (n / 65536 % 256) ∷ (n / 256 % 256) ∷ (n % 256) ∷ []

abbrev pub eight : ℕ → List ℕ
eight n =
    (n / 72057594037927936 % 256) ∷ (n / 281474976710656 % 256) ∷ (n / 1099511627776 % 256) ∷ (n / 4294967296 % 256)
    ∷ (n / 16777216 % 256) ∷ (n / 65536 % 256) ∷ (n / 256 % 256) ∷ (n % 256) ∷ []

-- a mark is two ASCII letters
abbrev pub first_letter : Mark → ℕ
first_letter Md = 77
first_letter St = 83
first_letter Ch = 67
first_letter Hd = 72
first_letter Ce = 67
first_letter Fl = 70
first_letter Pc = 80
first_letter Pm = 80
first_letter Rw = 82
first_letter Wf = 87
first_letter Zz = 90

abbrev pub second_letter : Mark → ℕ
second_letter Md = 68
second_letter St = 84
second_letter Ch = 72
second_letter Hd = 68
second_letter Ce = 69
second_letter Fl = 76
second_letter Pc = 67
second_letter Pm = 77
second_letter Rw = 87
second_letter Wf = 70
second_letter Zz = 90

abbrev pub branch_bytes : Branch → List ℕ
branch_bytes b = two b.target ++ two b.weight

abbrev pub portion_bytes : Portion → List ℕ
portion_bytes p = two p.target ++ (p.high ∷ two p.amount)

-- what follows the mark
abbrev pub field_bytes : Content → List ℕ
field_bytes (md n d) = two n ++ two d
field_bytes (st g k) = g ∷ two k
field_bytes (ch es) = two (length es) ++ flat_map branch_bytes es
field_bytes (hd k s) = k ∷ s ∷ []
field_bytes (ce s c) = two s ++ four c
field_bytes (fl s c) = two s ++ four c
field_bytes (pc s c) = two s ++ c ∷ []
field_bytes (pm s c m) = two s ++ (two c ++ two m)
field_bytes (rw' s r) = two s ++ eight r
field_bytes (wf s h c m es) = two s ++ (h ∷ (two c ++ (two m ++ (two (length es) ++ flat_map portion_bytes es))))
field_bytes zz = []

abbrev pub encode : Content → List ℕ
encode r = first_letter (mark_of r) ∷ second_letter (mark_of r) ∷ field_bytes r

-- what holds of each in a list
abbrev pub Each : {E : Type 0} → (E → Type 0) → List E → Type 0
Each P [] = Unit {0}
Each P (e ∷ es) = P e × Each P es

-- each number fits the bytes that it is written in
abbrev pub BranchFits : Branch → Type 0
BranchFits b = (b.target < 65536) × (b.weight < 65536)

abbrev pub PortionFits : Portion → Type 0
PortionFits p = (p.target < 65536) × (p.high < 256) × (p.amount < 65536)

abbrev pub Fits : Content → Type 0
Fits (md n d) = (n < 65536) × (d < 65536)
Fits (st g k) = (g < 256) × (k < 65536)
Fits (ch es) = (length es < 65536) × Each BranchFits es
Fits (hd k s) = (k < 256) × (s < 256)
Fits (ce s c) = (s < 65536) × (c < 4294967296)
Fits (fl s c) = (s < 65536) × (c < 4294967296)
Fits (pc s c) = (s < 65536) × (c < 256)
Fits (pm s c m) = (s < 65536) × (c < 65536) × (m < 65536)
Fits (rw' s r) = (s < 65536) × (r < 18446744073709551616)
Fits (wf s h c m es) = (s < 65536) × (h < 256) × (c < 65536) × (m < 65536) × (length es < 65536) × Each PortionFits es
Fits zz = Unit {0}
