-- How far a reading has come, and what may follow there. Laws in the reader's Exact.antt say what this comes to.
use Rattle.std.specs.Prelude.{◌≡◌, ℕ, ◌-◌, Bool, true, false, cond, ◌&&◌, ◌||◌, List, [], ◌∷◌, None, Some, Option, is_some, nat_le, nat_lt, unwrap_or}
use Rattle.std.specs.Bool.{then_some}
use Rattle.std.specs.Option.{option_and_then}
use Rattle.records.specs.declared.content.Mark.{Mark}
use Rattle.records.specs.declared.content.Mark.TheVariants.{Md, St, Ch, Hd, Zz}
use Rattle.records.specs.Content.{Content, md, st, ch, hd, zz, mark_of, same_mark}
use Rattle.grammar.specs.declared.kind.Kind.{Kind}
use Rattle.grammar.specs.declared.order.Key.{Key}
use Rattle.grammar.specs.declared.place.Place.{Place}
use Rattle.grammar.specs.declared.place.Place.TheVariants.{HandInDue, ModelDue, Within, States, Done}
use Rattle.grammar.specs.HandIn.{block, precedes, head_ok, fields_ok, nothing}
use Rattle.grammar.specs.Kind.{number_of, kind_of, key_of}
use Rattle.grammar.specs.ModelFile.{branches_ok}

-- the one mark that a model file has next
abbrev pub wanted : ℕ → ℕ → Mark
wanted states choices = cond (nat_lt 0 choices) Ch (cond (nat_lt 0 states) St Zz)

abbrev pub allowed : Place → Mark → Bool
allowed HandInDue m = same_mark m Hd
allowed ModelDue m = same_mark m Md
allowed (Within kind last) m =
    same_mark m Zz || (nat_le 1 (block (number_of kind) m) && nat_le last.block (block (number_of kind) m))
allowed (States n states choices) m = same_mark m (wanted states choices)
allowed Done m = false

-- behind the head of a hand-in, and behind a record of its body
abbrev pub begun : ℕ → ℕ → Option Place
begun k side = option_and_then (λ kind. then_some (head_ok (number_of kind) side) (Within kind nothing)) (kind_of k)

abbrev pub ascended : Kind → Key → Content → Option Place
ascended kind last r = option_and_then (λ k. then_some (precedes last k && fields_ok r) (Within kind k)) (key_of kind r)

-- The place behind a record that may stand there by its mark: none where a field is out of its range, or the order does not ascend.
abbrev pub behind : Place → Content → Option Place
behind HandInDue (hd k side) = begun k side
behind ModelDue (md n d) = Some (States n n 0)
behind (Within kind last) zz = Some Done
behind (Within kind last) r = ascended kind last r
behind (States n states choices) (st g k) = then_some (nat_le g 1) (States n (states - 1) k)
behind (States n states choices) (ch es) = then_some (branches_ok n 0 es) (States n states (choices - 1))
behind (States n states choices) zz = Some Done
behind p r = None

abbrev pub fits : Place → Content → Bool
fits p r = is_some (behind p r)

abbrev pub after : Place → Content → Place
after p r = unwrap_or (behind p r) p

abbrev pub over : Place → Bool
over Done = true
over p = false

-- the records lead from the place p to the place q: each may follow where it stands
abbrev pub Leads : Place → List Content → Place → Type 0
Leads p [] q = p ≡ q
Leads p (r ∷ rs) q = (allowed p (mark_of r) ≡ true) × (fits p r ≡ true) × Leads (after p r) rs q
