-- What a hand-in is: a head, the records of its kind in ascending order, and the end.
use Rattle.std.specs.Prelude.{◌≡◌, ℕ, ◌≤◌, Bool, true, cond, ◌&&◌, ◌||◌, List, [], ◌∷◌, ◌++◌, ◌==◌, nat_le, nat_lt}
use Rattle.records.specs.declared.content.Portion.{Portion}
use Rattle.records.specs.declared.content.Mark.{Mark}
use Rattle.records.specs.declared.content.Mark.TheVariants.{Ce, Fl, Pc, Pm, Rw, Wf}
use Rattle.records.specs.Content.{Content, hd, ce, fl, pc, pm, rw', wf, zz, mark_of}
use Rattle.grammar.specs.declared.order.Key.{Key}

-- Kinds 1 to 5 there are; only kinds 1 and 2 may be for the high side, 1.
abbrev pub head_ok : ℕ → ℕ → Bool
head_ok kind side = nat_le 1 kind && (nat_le kind 5 && nat_le side (cond (nat_le kind 2) 1 0))

-- A kind's records stand in one block or in two: the block of a mark, 0 where the kind has no such record.
abbrev pub block : ℕ → Mark → ℕ
block kind Ce = cond (kind == 1) 1 0
block kind Fl = cond (kind == 2) 1 0
block kind Pc = cond (kind == 3) 1 0
block kind Pm = cond (kind == 3) 2 0
block kind Rw = cond (kind == 4) 1 0
block kind Wf = cond (kind == 4) 2 0
block kind m = 0

-- the first record of a body comes after nothing
abbrev pub nothing : Key
nothing = record { block = 0; state = 0; high = 0; choice = 0 }

-- What a record is ordered by: its block, then its state, high state and choice, 0 for what it does not have.
abbrev pub key : ℕ → Content → Key
key kind (ce s c) = record { block = block kind Ce; state = s; high = 0; choice = 0 }
key kind (fl s c) = record { block = block kind Fl; state = s; high = 0; choice = 0 }
key kind (pc s c) = record { block = block kind Pc; state = s; high = 0; choice = 0 }
key kind (pm s c m) = record { block = block kind Pm; state = s; high = 0; choice = c }
key kind (rw' s r) = record { block = block kind Rw; state = s; high = 0; choice = 0 }
key kind (wf s h c m es) = record { block = block kind Wf; state = s; high = h; choice = c }
key kind r = nothing

-- The first number that differs decides.
abbrev pub precedes : Key → Key → Bool
precedes a b =
    nat_lt a.block b.block
    || (a.block == b.block && (nat_lt a.state b.state
    || (a.state == b.state && (nat_lt a.high b.high
    || (a.high == b.high && nat_lt a.choice b.choice)))))

-- The entries of a WF ascend strictly by target, then high target; amounts are at least 1.
abbrev pub portion_precedes : Portion → Portion → Bool
portion_precedes p q = nat_lt p.target q.target || (p.target == q.target && nat_lt p.high q.high)

abbrev pub portions_after : Portion → List Portion → Bool
portions_after p [] = true
portions_after p (q ∷ qs) = portion_precedes p q && (nat_lt 0 q.amount && portions_after q qs)

abbrev pub portions_ok : List Portion → Bool
portions_ok [] = true
portions_ok (p ∷ ps) = nat_lt 0 p.amount && portions_after p ps

-- The fields of a record of a hand-in. A claim is at most 1,048,576, which stands for 1.
abbrev pub fields_ok : Content → Bool
fields_ok (hd k s) = head_ok k s
fields_ok (ce s c) = nat_le c 1048576
fields_ok (fl s c) = nat_le c 1048576
fields_ok (wf s h c m es) = portions_ok es
fields_ok r = true

-- Each record is one of the kind's, with its fields in range, and comes after the one before it.
abbrev pub Body : ℕ → Key → List Content → Type 0
Body kind before [] = Unit {0}
Body kind before (r ∷ rs) = (1 ≤ block kind (mark_of r)) × (fields_ok r ≡ true) × (precedes before (key kind r) ≡ true) × Body kind (key kind r) rs

pub record HandIn (rs : List Content) : Type 0 where
  pub kind : ℕ
  pub side : ℕ
  pub body : List Content
  pub shape : rs ≡ hd kind side ∷ (body ++ zz ∷ [])
  pub head : head_ok kind side ≡ true
  pub ascending : Body kind nothing body
