use Rattle.std.proofs.Common.{◌≡◌, ℕ, ◌≤◌, length}
use Rattle.tables.specs.Halves.{halved, found}
use Rattle.tables.proofs.search.find.Given as goal

abbrev pub invariant-loop-middle : goal.invariant-loop-middle
invariant-loop-middle l =
    (length l.rest ≤ length l.branches)
    × ((f : ℕ) × (length l.rest ≤ f) × (found l.branches l.target ≡ halved f l.rest l.target))

abbrev pub decreases-loop-middle : goal.decreases-loop-middle
decreases-loop-middle l = length l.rest
