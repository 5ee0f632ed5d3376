-- A hand-in that is read and written again.
use Rattle.std.specs.Prelude.{◌≡◌, ℕ, ◌<◌, List, ◌++◌, length, take, drop}
use Rattle.records.specs.Content.{Content}
use Rattle.grammar.specs.HandIn.{HandIn}
use Rattle.grammar.specs.File.{Reads}
use Rattle.reader.specs.Exact.{read, fault, True}
use Rattle.reader.specs.Faults.{number_of, place_of}
use Rattle.writer.specs.declared.fault.WriteFault.TheVariants.{NoRoom}
use Rattle.writer.specs.declared.rewriting.RewriteFault.{RewriteFault}
use Rattle.writer.specs.declared.rewriting.RewriteFault.TheVariants.{Reading, Writing}

-- the first n bytes of xs, and past them what the buffer held
abbrev pub rewritten : ℕ → List ℕ → List ℕ → List ℕ
rewritten n xs old = take n xs ++ drop n old

-- The bytes begin with a hand-in of n bytes.
abbrev pub BeginsHandIn : List ℕ → ℕ → Type 0
BeginsHandIn xs n = (rs : List Content) × Reads HandIn xs 0 n rs

-- Why it is not written again: there is no such hand-in, or it is longer than the buffer.
abbrev pub NotRewritten : List ℕ → List ℕ → RewriteFault → Type 0
NotRewritten xs old (Reading f) = (ds : List Content) × True HandIn xs 0 (read ds (fault (number_of f) (place_of f)))
NotRewritten xs old (Writing f) = (f ≡ NoRoom) × ((n : ℕ) × BeginsHandIn xs n × (length old < n))
