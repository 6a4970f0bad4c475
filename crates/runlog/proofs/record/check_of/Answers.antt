-- `runlog::record::check_of` meets its contract.
use borrow.Author.Rules.{rules}
use Rattle.base.proofs.Picks.{picks}
use Rattle.runlog.specs.Records.{check_sum_of}
use Rattle.runlog.proofs.record.check_of.Goals as goal

pub returns : goal.returns
unfolding check_sum_of
returns c = search (rules, picks) depth 16
