use Rattle.std.proofs.Common.{◌≡◌, ◌+◌, ◌≤◌, length}
use Rattle.std.specs.Iterator.Adapters.{enumerate_source, enumerate_count}
use Rattle.records.specs.Held.{branches}
use Rattle.filling.specs.Placed.{laid}
use Rattle.filling.proofs.placing.put_branches.Given as goal

-- what is left, laid over the table as it is now, makes what is wanted
abbrev pub invariant-loop-i : goal.invariant-loop-i
invariant-loop-i l =
    (goal.iterator-loop-i).can_next l.i-iterator
    × (goal.iterator-loop-i).is_finite l.i-iterator
    × (l.first + enumerate_count l.i-iterator + length (enumerate_source l.i-iterator) ≤ length l.table)
    × (laid l.initial.table l.first (branches l.entries) ≡ laid l.table (l.first + enumerate_count l.i-iterator) (enumerate_source l.i-iterator))
