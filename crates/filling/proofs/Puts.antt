-- The rows of a record, at their place in the tables.
use Rattle.std.proofs.Common.{◌≡◌, ℕ, ◌<◌, eqb, List, length, set, refl, ap, arith, Bor}
use Rattle.records.specs.declared.content.Branch.{Branch}
use Rattle.records.specs.declared.content.Record.{Record}
use Rattle.records.specs.declared.content.Record.TheVariants.{St, Ch}
use Rattle.records.specs.Held.{content, branches}
use Rattle.tables.specs.declared.rows.StateRow.{StateRow}
use Rattle.tables.specs.declared.rows.ChoiceRow.{ChoiceRow}
use Rattle.tables.specs.declared.rows.Filled.{Filled}
use Rattle.filling.specs.Giving.{state, choice, given}
use Rattle.filling.specs.Fills.{Tables, tables, fronted, filled_by, RoomFor}
use Rattle.filling.specs.Counted.{tally}
use Rattle.filling.specs.Placed.{laid, Placed}
use Rattle.filling.proofs.Laid.{set_fronted, laid_fronted}

abbrev row_of_state : Filled → ℕ → ℕ → StateRow
row_of_state k g n = record { goal = eqb g 1; first = k.choices; choices = n }

abbrev row_of_choice : Filled → ℕ → ChoiceRow
row_of_choice k n = record { first = k.branches; branches = n }

state_put :
    (k : Filled) (g n : ℕ) (was : Tables) → k.states < length was.states
    → Placed k (state g n) was (tables (set was.states k.states (row_of_state k g n)) was.choices was.branches)
state_put k g n was room h old e w =
    let rows = h.states in
    let fits : length rows < length (fronted rows old.states) = omega (arith, ap (λ (c : Filled). c.states) e, ap (λ (t : Tables). length t.states) w) in
    rw (w, e, set_fronted rows old.states (row_of_state (filled_by h) g n) fits) refl

choice_put :
    (k : Filled) (bs : List Branch) (n : ℕ) (was : Tables) → n ≡ length bs → k.choices < length was.choices
    → Placed k (choice bs) was (tables was.states (set was.choices k.choices (row_of_choice k n)) (laid was.branches k.branches bs))
choice_put k bs n was size room h old e w =
    let rows = h.choices in
    let fits : length rows < length (fronted rows old.choices) = omega (arith, ap (λ (c : Filled). c.choices) e, ap (λ (t : Tables). length t.choices) w) in
    rw (w, e, size, set_fronted rows old.choices (row_of_choice (filled_by h) (length bs)) fits, laid_fronted h.branches old.branches bs) refl

module _ (k : Filled) (item : Record) (was : Tables) (room : RoomFor (tally k (given (content item))) was) where
  pub state_placed :
      (g n : ℕ) → item ≡ St g n
      → Placed k (given (content item)) was (tables (set was.states k.states (row_of_state k g n)) was.choices was.branches)
  state_placed g n e = rw e (state_put k g n was (omega (arith, ap (λ (r : Record). (tally k (given (content r))).states) e, room.states)))

  pub choice_placed :
      (entries : Bor (List ℕ)) (n : ℕ) (last : List Branch) → item ≡ Ch entries → n ≡ length (branches entries.now) → last ≡ laid was.branches k.branches (branches entries.now)
      → Placed k (given (content item)) was (tables was.states (set was.choices k.choices (row_of_choice k n)) last)
  choice_placed entries n last e size l =
      rw (e, l) (choice_put k (branches entries.now) n was size (omega (arith, ap (λ (r : Record). (tally k (given (content r))).choices) e, room.choices)))
