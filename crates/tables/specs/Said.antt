-- The model that a file says.
use Rattle.std.specs.Prelude.{ℕ, cond, List, [], ◌∷◌, length, ◌==◌, slice_index_or}
use Rattle.mdp.specs.Model.{Model}
use Rattle.records.specs.declared.content.Branch.{Branch}
use Rattle.grammar.specs.ModelFile.{State}

-- past the last state of a file there is no goal and no choice
abbrev pub no_state : State
no_state = record { goal = 0; choices = [] }

-- the weight of target t among the branches of a choice, 0 where it is not there
abbrev pub weight_among : List Branch → ℕ → ℕ
weight_among [] t = 0
weight_among (b ∷ bs) t = cond (b.target == t) b.weight (weight_among bs t)

-- States and choices are numbered as they stand in the file.
abbrev pub said : ℕ → List State → Model
said denominator states =
    record {
      states = length states;
      denominator = denominator;
      goal = λ s. (slice_index_or states s no_state).goal == 1;
      choices = λ s. length (slice_index_or states s no_state).choices;
      weight = λ s c t. weight_among (slice_index_or (slice_index_or states s no_state).choices c []) t;
    }
