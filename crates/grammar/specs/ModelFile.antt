-- What a model file is: its size, each state with its choices, and the end.
use Rattle.std.specs.Prelude.{◌≡◌, ℕ, ◌+◌, ◌≤◌, Bool, true, ◌&&◌, List, [], ◌∷◌, ◌++◌, map, length, nat_le, nat_lt}
use Rattle.std.specs.List.{flat_map}
use Rattle.records.specs.declared.content.Branch.{Branch}
use Rattle.records.specs.Content.{Content, md, st, ch, zz}

-- A state: 1 if it is a goal and else 0, and the branches of each of its choices.
pub record State : Type 0 where
  pub goal : ℕ
  pub choices : List (List Branch)

-- An ST, and a CH for each choice.
abbrev pub state_records : State → List Content
state_records s = st s.goal (length s.choices) ∷ map ch s.choices

abbrev pub file_records : ℕ → List State → List Content
file_records denominator states = md (length states) denominator ∷ (flat_map state_records states ++ zz ∷ [])

-- The targets of a choice ascend strictly, from `least` on, and are below n, the number of states; weights are at least 1.
abbrev pub branches_ok : ℕ → ℕ → List Branch → Bool
branches_ok n least [] = true
branches_ok n least (b ∷ bs) =
    nat_le least b.target && (nat_lt b.target n && (nat_lt 0 b.weight && branches_ok n (b.target + 1) bs))

abbrev pub ChoicesOk : ℕ → List (List Branch) → Type 0
ChoicesOk n [] = Unit {0}
ChoicesOk n (c ∷ cs) = (branches_ok n 0 c ≡ true) × ChoicesOk n cs

abbrev pub StatesOk : ℕ → List State → Type 0
StatesOk n [] = Unit {0}
StatesOk n (s ∷ ss) = (s.goal ≤ 1) × ChoicesOk n s.choices × StatesOk n ss

pub record ModelFile (rs : List Content) : Type 0 where
  pub denominator : ℕ
  pub states : List State
  pub shape : rs ≡ file_records denominator states
  pub ranges : StatesOk (length states) states
