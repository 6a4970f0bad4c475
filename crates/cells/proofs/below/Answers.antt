-- `cells::below` meets its contract. Assumes nothing.
use borrow.Author.Tests.{lt-ltb, le-leb}
use mathlib.Core.Path.{sym, ◌∙◌}
use native.Mathlib.Nat.{lt_of_lt_of_le}
use lib.Pow.{pow_mono}
use Rattle.cells.specs.Sets.{below_of}
use Rattle.cells.proofs.below.Goals as goal

pub returns-then-n-ge-MAX_SET : goal.returns-then-n-ge-MAX_SET
unfolding below_of
returns-then-n-ge-MAX_SET c = le-leb _ _ c.if-n-ge-MAX_SET.true ∙ sym (lt-ltb _ _ (lt_of_lt_of_le c.ranges.s.fits (pow_mono c.if-n-ge-MAX_SET.true)))
