-- What a filling leaves.
use Rattle.std.proofs.Common.{◌≡◌, ℕ, ◌<◌, List, length, drop, sym, refl, ap, ◌∙◌, subst, arith}
use Rattle.std.proofs.lemmas.List.{take_at}
use Rattle.tables.specs.Held.{Held, front}
use Rattle.tables.proofs.Saying.{length-state_rows, rows_tell}
use Rattle.tables.specs.declared.rows.Filled.{Filled}
use Rattle.filling.specs.declared.filling.Tables as lent
use Rattle.filling.specs.Fills.{AreSameLoans, FileOf, rows_in, Tables, RoomFor, Room, fronted_by, filled_by, Filling, TooSmall}
use Rattle.filling.proofs.Laid.{length-fronted}

-- the filled rows are the rows
front_rows : (h : Held) (t : Tables) → front (filled_by h) (fronted_by h t).states (fronted_by h t).choices (fronted_by h t).branches ≡ h
front_rows h t =
    rw (
      take_at h.states (drop (length h.states) t.states) (length h.states) refl,
      take_at h.choices (drop (length h.choices) t.choices) (length h.choices) refl,
      take_at h.branches (drop (length h.branches) t.branches) (length h.branches) refl,
    )
    refl

-- A file whose rows were counted.
module _ (xs : List ℕ) (file : FileOf xs) (k : Filled) (counted : k ≡ filled_by (rows_in xs file)) where
  -- a file has fewer than 65,536 states
  pub few_states : k.states < 65536
  few_states = omega (arith, ap (λ (c : Filled). c.states) counted, length-state_rows 0 file.states, file.reads.fit.0.0)

  pub room_for_rows : (t : Tables) → RoomFor k t → Room (rows_in xs file) t
  room_for_rows t = subst (λ (c : Filled). RoomFor c t) counted

  pub too_small : (t : Tables) → (RoomFor k t → ⊥) → TooSmall xs t
  too_small t full = (file, λ room. full (subst (λ (c : Filled). RoomFor c t) (sym counted) room))

  pub leaves : (old new : Tables) → Room (rows_in xs file) old → new ≡ fronted_by (rows_in xs file) old → Filling xs old new k
  leaves old new room rows =
      record {
        file = file;
        room = room;
        counts = counted;
        rows = rows;
        model = rows_tell (front k new.states new.choices new.branches) file.denominator file.states file.ranges
            (ap (λ (f : Filled). front f new.states new.choices new.branches) counted
            ∙ ap (λ (t : Tables). front (filled_by (rows_in xs file)) t.states t.choices t.branches) rows
            ∙ front_rows (rows_in xs file) old);
      }

-- rows at the front leave as much room
pub fronted_room : (h : Held) (k : Filled) (old : Tables) → RoomFor k old → RoomFor k (fronted_by h old)
fronted_room h k old room =
    record {
      states = omega (arith, room.states, length-fronted h.states old.states);
      choices = omega (arith, room.choices, length-fronted h.choices old.choices);
      branches = omega (arith, room.branches, length-fronted h.branches old.branches);
    }

-- the caller's slices, from step to step
pub same_trans : (a b c : lent.Tables) → AreSameLoans a b → AreSameLoans b c → AreSameLoans a c
same_trans a b c p q = record { states = q.states ∙ p.states; choices = q.choices ∙ p.choices; branches = q.branches ∙ p.branches }
