-- `verdict::numbers_where` meets its contract: before the turn c of the loop the numbers below c are tried. Assumes
-- nothing.
use Rattle.std.proofs.Common.{◌≡◌, Bool, ℕ, ◌+◌, ◌-◌, ◌≤◌}
use Rattle.verdict.specs.Colours.{ActsAsUpTo, such_of}
use Rattle.verdict.proofs.numbers_where.Given as goal

abbrev pub invariant-loop-c : goal.invariant-loop-c
invariant-loop-c g l = (l.c ≤ l.n + 1) × ((t : ℕ → Bool) → ActsAsUpTo (goal.F-post g l.test) l.n t → l.found ≡ such_of (l.c - 1) t)
