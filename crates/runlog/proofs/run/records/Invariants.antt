-- `runlog::run::records` meets its contract: in the loop the state, the count and the last read are those of the run of
-- the records so far.
use Rattle.std.proofs.Common.{◌≤◌}
use Rattle.runlog.proofs.Turns.{Ongoing}
use Rattle.runlog.proofs.run.records.Given as goal

abbrev pub invariant-loop-steps : goal.invariant-loop-steps
invariant-loop-steps l = (l.steps ≤ l.whole) × Ongoing l.log l.at l.fn.start l.state l.steps l.read
