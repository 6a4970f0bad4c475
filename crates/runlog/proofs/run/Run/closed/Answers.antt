use Rattle.std.proofs.Common.{refl}
use borrow.Author.Tests.{ne_eqb}
use Rattle.base.specs.Refusals.{stop_number}
use Rattle.base.proofs.Errors.{stopped_by}
use Rattle.runlog.specs.Runs.{closed_of}
use Rattle.runlog.proofs.run.Run.closed.Goals as goal

pub returns-then-left-ne0 : goal.returns-then-left-ne0
unfolding closed_of
returns-then-left-ne0 c = rw (c.in-Ended.is, ne_eqb c.args.left 0 c.if-left-ne0.true) refl

pub returns-else-left-ne0 : goal.returns-else-left-ne0
unfolding closed_of
returns-else-left-ne0 c = rw (c.in-Ended.is, c.if-left-ne0.false) refl

pub returns-in_default : goal.returns-in_default
unfolding closed_of
returns-in_default c = rw (ne_eqb (stop_number c.args.self.stop) 0 (stopped_by c.args.self.stop c.in_default.not-Ended)) refl
