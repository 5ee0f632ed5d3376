-- The kinds of hand-ins.
use Rattle.std.specs.Prelude.{◌≡◌, ℕ, [], ◌∷◌, None, Some, Option, Result, MatchResult, ◌==◌, find, nat_le}
use Rattle.std.specs.Bool.{then_some}
use Rattle.records.specs.declared.content.Mark.{Mark}
use Rattle.records.specs.Content.{Content, mark_of}
use Rattle.grammar.specs.declared.kind.Kind.{Kind}
use Rattle.grammar.specs.declared.kind.Kind.TheVariants.{Ceilings, Floors, Classes, Relation, Carry}
use Rattle.grammar.specs.declared.kind.UnknownKind.{UnknownKind}
use Rattle.grammar.specs.declared.order.Key.{Key}
use Rattle.grammar.specs.HandIn.{block, key}

-- the number of a kind in a head
abbrev pub number_of : Kind → ℕ
number_of Ceilings = 1
number_of Floors = 2
number_of Classes = 3
number_of Relation = 4
number_of Carry = 5

-- the kind of that number, if there is one
abbrev pub kind_of : ℕ → Option Kind
kind_of n = find (λ kind. number_of kind == n) (Ceilings ∷ Floors ∷ Classes ∷ Relation ∷ Carry ∷ [])

-- the kind of that number, or an error with a number that no kind has
abbrev pub Decodes : ℕ → Result Kind UnknownKind → Type 0
Decodes n r = MatchResult r (λ kind. kind_of n ≡ Some kind) (λ e. (e.0 ≡ n) × (kind_of n ≡ None))

-- The block and the key of a record in a hand-in of that kind, where it has such records.
abbrev pub block_of : Kind → Mark → Option ℕ
block_of kind m = then_some (nat_le 1 (block (number_of kind) m)) (block (number_of kind) m)

abbrev pub key_of : Kind → Content → Option Key
key_of kind r = then_some (nat_le 1 (block (number_of kind) (mark_of r))) (key (number_of kind) r)
