-- What a writer has written.
use Rattle.std.specs.Prelude.{◌≡◌, ℕ, ◌≤◌, List, ◌++◌, length, drop}
use Rattle.records.specs.Content.{Content}
use Rattle.grammar.specs.declared.place.Place.{Place}
use Rattle.grammar.specs.declared.place.Place.TheVariants.{HandInDue}
use Rattle.grammar.specs.File.{encodes, AllFit}
use Rattle.grammar.specs.Place.{Leads}
use Rattle.writer.specs.declared.writing.Reached.{Reached}
use Rattle.writer.specs.declared.writing.Writer.{Writer}

-- A hand-in as far as it is written: what the buffer holds, how many bytes of it are written, and the place that the hand-in has come to.
pub record Draft : Type 0 where
  pub bytes : List ℕ
  pub len : ℕ
  pub place : Place

abbrev pub draft : List ℕ → Reached → Draft
draft xs r = record { bytes = xs; len = r.len; place = r.place }

abbrev pub draft_of : Writer → Draft
draft_of w = draft w.buffer.now w.reached

-- The records rs are written into a buffer that held `old`; past them it holds what it held. They are so far a hand-in, since each may
-- follow where it stands.
pub record Written (old : List ℕ) (d : Draft) (rs : List Content) : Type 0 where
  pub bytes : d.bytes ≡ encodes rs ++ drop d.len old
  pub ends : d.len ≡ length (encodes rs)
  pub within : d.len ≤ length old
  pub fit : AllFit rs
  pub leads : Leads HandInDue rs d.place

-- What holds of the records of a draft, whatever they are and whatever the buffer held.
abbrev pub OfWritten : Draft → (List Content → Type 0) → Type 0
OfWritten d P = (old : List ℕ) (rs : List Content) → Written old d rs → P rs
