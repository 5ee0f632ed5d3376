-- Reading bytes: numbers, entries, the mark at an offset, and the record of a mark at an offset.
use Rattle.std.specs.Prelude.{ℕ, zero, suc, ◌+◌, ◌*◌, cond, ◌&&◌, List, [], ◌∷◌, Some, None, Option, ◌==◌, slice_index}
use Rattle.records.specs.declared.content.Branch.{Branch}
use Rattle.records.specs.declared.content.Portion.{Portion}
use Rattle.records.specs.declared.content.Mark.{Mark}
use Rattle.records.specs.declared.content.Mark.TheVariants.{Md, St, Ch, Hd, Ce, Fl, Pc, Pm, Rw, Wf, Zz}
use Rattle.records.specs.Content.{Content, md, st, ch, hd, ce, fl, pc, pm, rw', wf, zz}

-- the number in the 2, 4 or 8 bytes from i on
abbrev pub be2 : List ℕ → ℕ → ℕ
be2 xs i = slice_index xs i * 256 + slice_index xs (i + 1)

abbrev pub be4 : List ℕ → ℕ → ℕ
be4 xs i = slice_index xs i * 16777216 + slice_index xs (i + 1) * 65536 + slice_index xs (i + 2) * 256 + slice_index xs (i + 3)

abbrev pub be8 : List ℕ → ℕ → ℕ
be8 xs i = be4 xs i * 4294967296 + be4 xs (i + 4)

-- k entries of so many bytes each, from i on
abbrev pub entries_from : {E : Type 0} → ℕ → (List ℕ → ℕ → E) → ℕ → List ℕ → ℕ → List E
entries_from width entry_from zero xs i = []
entries_from width entry_from (suc k) xs i = entry_from xs i ∷ entries_from width entry_from k xs (i + width)

abbrev pub branch_from : List ℕ → ℕ → Branch
branch_from xs i = record { target = be2 xs i; weight = be2 xs (i + 2) }

abbrev pub branches_from : ℕ → List ℕ → ℕ → List Branch
branches_from k xs i = entries_from 4 branch_from k xs i

abbrev pub portion_from : List ℕ → ℕ → Portion
portion_from xs i = record { target = be2 xs i; high = slice_index xs (i + 2); amount = be2 xs (i + 3) }

abbrev pub portions_from : ℕ → List ℕ → ℕ → List Portion
portions_from k xs i = entries_from 5 portion_from k xs i

-- the mark that two bytes spell
abbrev pub mark_spelled : ℕ → ℕ → Option Mark
mark_spelled a b =
    cond (a == 77 && b == 68) (Some Md)
    (cond (a == 83 && b == 84) (Some St)
    (cond (a == 67 && b == 72) (Some Ch)
    (cond (a == 72 && b == 68) (Some Hd)
    (cond (a == 67 && b == 69) (Some Ce)
    (cond (a == 70 && b == 76) (Some Fl)
    (cond (a == 80 && b == 67) (Some Pc)
    (cond (a == 80 && b == 77) (Some Pm)
    (cond (a == 82 && b == 87) (Some Rw)
    (cond (a == 87 && b == 70) (Some Wf)
    (cond (a == 90 && b == 90) (Some Zz) None))))))))))

-- how many bytes a record of that mark takes without its entries
abbrev pub fixed_size : Mark → ℕ
fixed_size Md = 6
fixed_size St = 5
fixed_size Ch = 4
fixed_size Hd = 4
fixed_size Ce = 8
fixed_size Fl = 8
fixed_size Pc = 5
fixed_size Pm = 8
fixed_size Rw = 12
fixed_size Wf = 11
fixed_size Zz = 2

-- and with those that it has at `at`
abbrev pub size : Mark → List ℕ → ℕ → ℕ
size Md xs at = 6
size St xs at = 5
size Ch xs at = 4 + 4 * be2 xs (at + 2)
size Hd xs at = 4
size Ce xs at = 8
size Fl xs at = 8
size Pc xs at = 5
size Pm xs at = 8
size Rw xs at = 12
size Wf xs at = 11 + 5 * be2 xs (at + 9)
size Zz xs at = 2

-- what the record of that mark says whose bytes stand at `at`
abbrev pub decoded : Mark → List ℕ → ℕ → Content
decoded Md xs at = md (be2 xs (at + 2)) (be2 xs (at + 4))
decoded St xs at = st (slice_index xs (at + 2)) (be2 xs (at + 3))
decoded Ch xs at = ch (branches_from (be2 xs (at + 2)) xs (at + 4))
decoded Hd xs at = hd (slice_index xs (at + 2)) (slice_index xs (at + 3))
decoded Ce xs at = ce (be2 xs (at + 2)) (be4 xs (at + 4))
decoded Fl xs at = fl (be2 xs (at + 2)) (be4 xs (at + 4))
decoded Pc xs at = pc (be2 xs (at + 2)) (slice_index xs (at + 4))
decoded Pm xs at = pm (be2 xs (at + 2)) (be2 xs (at + 4)) (be2 xs (at + 6))
decoded Rw xs at = rw' (be2 xs (at + 2)) (be8 xs (at + 4))
decoded Wf xs at =
    wf (be2 xs (at + 2)) (slice_index xs (at + 4)) (be2 xs (at + 5)) (be2 xs (at + 7)) (portions_from (be2 xs (at + 9)) xs (at + 11))
decoded Zz xs at = zz
