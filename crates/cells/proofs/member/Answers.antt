-- `cells::member` meets its contract. Assumes nothing.
use mathlib.Core.Logic.{⊎_elim}
use mathlib.Core.Path.{sym}
use Rattle.cells.specs.Sets.{max_set}
use Rattle.cells.proofs.Members.{above_none, member_null}
use Rattle.cells.proofs.member.Goals as goal

pub returns-then-x-eq0 : goal.returns-then-x-eq0
returns-then-x-eq0 c =
    ⊎_elim (λ e. rw e (sym (member_null c.args.s))) (λ h. sym (above_none max_set c.args.s c.args.x c.ranges.s.fits h.1)) c.then-x-eq0.either
