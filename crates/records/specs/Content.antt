-- What a record says: its fields as numbers, its entries as a list.
use Rattle.std.specs.Prelude.{ℕ, Bool, List, ◌==◌}
use Rattle.records.specs.declared.content.Branch.{Branch}
use Rattle.records.specs.declared.content.Portion.{Portion}
use Rattle.records.specs.declared.content.Mark.{Mark}
use Rattle.records.specs.declared.content.Mark.TheVariants.{Md, St, Ch, Hd, Ce, Fl, Pc, Pm, Rw, Wf, Zz}

-- each kind of record is named by its mark
pub data Content : Type 0 where
  md : (states denominator : ℕ) → Content
  st : (goal choices : ℕ) → Content
  ch : (branches : List Branch) → Content
  hd : (kind side : ℕ) → Content
  ce : (state claim : ℕ) → Content
  fl : (state claim : ℕ) → Content
  pc : (state class : ℕ) → Content
  pm : (state choice matched : ℕ) → Content
  -- `rw` is a word of the proof language
  rw' : (state row : ℕ) → Content
  wf : (state high choice matched : ℕ) (portions : List Portion) → Content
  zz : Content

abbrev pub mark_of : Content → Mark
mark_of (md n d) = Md
mark_of (st g k) = St
mark_of (ch es) = Ch
mark_of (hd k s) = Hd
mark_of (ce s c) = Ce
mark_of (fl s c) = Fl
mark_of (pc s c) = Pc
mark_of (pm s c m) = Pm
mark_of (rw' s r) = Rw
mark_of (wf s h c m es) = Wf
mark_of zz = Zz

-- marks are compared by their places in this list
abbrev pub mark_number : Mark → ℕ
mark_number Md = 0
mark_number St = 1
mark_number Ch = 2
mark_number Hd = 3
mark_number Ce = 4
mark_number Fl = 5
mark_number Pc = 6
mark_number Pm = 7
mark_number Rw = 8
mark_number Wf = 9
mark_number Zz = 10

abbrev pub same_mark : Mark → Mark → Bool
same_mark a b = mark_number a == mark_number b
