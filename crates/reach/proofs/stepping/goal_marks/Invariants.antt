use Rattle.std.proofs.Common.{◌≡◌, ℕ, ◌<◌, ◌≤◌, cond, length, get_or}
use Rattle.reach.proofs.stepping.goal_marks.Given as goal

abbrev pub invariant-loop-s : goal.invariant-loop-s
invariant-loop-s g l =
    (length l.marks ≡ 256)
    × ((k : ℕ) → k < l.s → get_or l.marks k 0 ≡ cond ((g.S.Source.meaning l.source).goal k) 1 0)
    × ((k : ℕ) → l.s ≤ k → get_or l.marks k 0 ≡ 0)
