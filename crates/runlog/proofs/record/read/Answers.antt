-- `runlog::record::read` meets its contract.
use borrow.Author.Rules.{rules}
use Rattle.runlog.specs.Records.{record_at}
use Rattle.header.specs.Bytes.{pair_at}
use Rattle.runlog.proofs.record.read.Goals as goal

pub returns : goal.returns
unfolding record_at pair_at
returns c = rw (← c.choice-choice.ensures, ← c.joined-check.ensures) (search rules)
