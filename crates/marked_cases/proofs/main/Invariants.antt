-- No more cases differ than bytes are passed.
use Rattle.std.proofs.Common.{◌≤◌, ◌+◌, length}
use Rattle.marked_cases.proofs.main.Given as goal

abbrev pub invariant-loop-case : goal.invariant-loop-case
invariant-loop-case l =
    (goal.iterator-loop-case).can_next l.case-iterator ×
    (goal.iterator-loop-case).is_finite l.case-iterator ×
    (l.differing + length l.case-iterator.rest.now ≤ 879)
