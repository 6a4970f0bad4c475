-- `cells::remove` meets its contract. Assumes nothing.
use mathlib.Core.Path.{sym}
use Rattle.cells.proofs.Members.{remove_above}
use Rattle.cells.proofs.remove.Goals as goal

pub returns-then-x-gt-MAX_SET : goal.returns-then-x-gt-MAX_SET
returns-then-x-gt-MAX_SET c = sym (remove_above c.args.s c.args.x c.ranges.s.fits c.if-x-gt-MAX_SET.true)
