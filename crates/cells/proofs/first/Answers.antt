-- `cells::first` meets its contract. Assumes nothing.
use borrow.Author.Rules.{rules}
use Rattle.base.proofs.Picks.{picks}
use Rattle.cells.specs.Sets.{is_none, first_of}
use Rattle.cells.proofs.first.Goals as goal

pub returns-then-is_empty : goal.returns-then-is_empty
unfolding first_of is_none
returns-then-is_empty c = search (rules, picks, c.is_empty.ensures, c.if-is_empty.true)

pub returns-else-is_empty : goal.returns-else-is_empty
unfolding first_of is_none
returns-else-is_empty c = search (rules, picks, c.is_empty.ensures, c.if-is_empty.false)
