-- The search by halves. Rows may stand in any order, and a table has one meaning, so what is found is said halving by halving.
use Rattle.std.specs.Prelude.{ℕ, zero, suc, ◌+◌, ◌/◌, cond, List, [], ◌∷◌, length, take, drop, Option, Some, None, ◌==◌, nat_lt, slice_index_or}
use Rattle.records.specs.declared.content.Branch.{Branch}

abbrev pub no_branch : Branch
no_branch = record { target = 0; weight = 0 }

-- the branch in the middle
abbrev pub middle : List Branch → Branch
middle bs = slice_index_or bs (length bs / 2) no_branch

-- at most f halvings: the weight in the middle, or the search goes on behind it or before it
abbrev pub halved : ℕ → List Branch → ℕ → Option ℕ
halved zero bs t = None
halved (suc f) [] t = None
halved (suc f) (b ∷ bs) t =
    cond ((middle (b ∷ bs)).target == t) (Some (middle (b ∷ bs)).weight)
    (cond (nat_lt (middle (b ∷ bs)).target t) (halved f (drop (length (b ∷ bs) / 2 + 1) (b ∷ bs)) t) (halved f (take (length (b ∷ bs) / 2) (b ∷ bs)) t))

abbrev pub found : List Branch → ℕ → Option ℕ
found bs t = halved (length bs) bs t
