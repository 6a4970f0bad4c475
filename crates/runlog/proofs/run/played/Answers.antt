-- `runlog::run::played` meets its contract.
use borrow.Author.Rules.{rules}
use Rattle.base.proofs.Picks.{picks}
use Rattle.runlog.specs.Runs.{played_of}
use Rattle.runlog.proofs.run.played.Goals as goal

pub returns : goal.returns
unfolding played_of
returns c = rw (← c.size-at.ensures, ← c.records-run.ensures, ← c.closed.ensures) (search (rules, picks) depth 16)
