-- `reach::reached` meets its contract: the loop ends with exactly the cells met, and only one set has them. Assumes
-- nothing.
use mathlib.Core.Path.{sym, ◌∙◌}
use Rattle.reach.proofs.Closures.{met_once, reached_met}
use Rattle.reach.proofs.Walks.{walking_start, walking_next, walking_less, walking_end}
use Rattle.reach.proofs.reached.Goals as goal

pub loop-m-init : goal.loop-m-init
loop-m-init c = walking_start _ _ _ _ c.ranges.start.fits c.walked-left.ensures c.both-pending.ensures

pub loop-m-smaller : goal.loop-m-smaller
loop-m-smaller c =
    let l = c.loop-m in
    walking_less _ _ _ _ _ l.invariant _ (sym c.is_empty.ensures ∙ c.loop-m-test.true) c.first-c.ensures _ c.remove-left.ensures

pub loop-m-preserved : goal.loop-m-preserved
loop-m-preserved c =
    let l = c.loop-m in
    walking_next _ _ _ _ _ l.invariant _ (sym c.is_empty.ensures ∙ c.loop-m-test.true) c.first-c.ensures _ _ _ c.remove-left.ensures c.follow-seen.ensures c.both-pending-in-loop-m.ensures

pub returns : goal.returns
returns c =
    let l = c.loop-m in
    met_once _ _ _ _ (walking_end _ _ _ _ _ l.invariant (sym c.is_empty.ensures ∙ c.loop-m-test.false)) (reached_met _ _ c.ranges.start.fits)
