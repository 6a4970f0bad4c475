-- `reach::reached` meets its contract: the loop ends with exactly the cells met, and only one set has them. Assumes
-- nothing.
use Rattle.reach.proofs.Walks.{Walking}
use Rattle.reach.proofs.reached.Given as goal

abbrev pub invariant-loop-m : goal.invariant-loop-m
invariant-loop-m l = Walking l.m l.start l.seen l.left l.pending

abbrev pub decreases-loop-m : goal.decreases-loop-m
decreases-loop-m l = l.left
