-- `runlog::record::choice` meets its contract.
use borrow.Author.Rules.{rules}
use Rattle.runlog.specs.Records.{choice_at}
use Rattle.runlog.proofs.record.choice.Goals as goal

pub returns : goal.returns
unfolding choice_at
returns c = search rules
