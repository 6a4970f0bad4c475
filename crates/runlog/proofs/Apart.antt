-- The four numbers of an outcome leave no two of them alike. Assumes nothing.
use Rattle.std.proofs.Common.{◌≡◌, refl}
use Rattle.base.specs.Answers.{TellsApart}
use Rattle.base.proofs.Answers.{undone}
use Rattle.runlog.specs.declared as code
use Rattle.runlog.specs.Answers.{Outcome}
use Rattle.runlog.specs.Runs.{numbers_as}

numbers : Outcome → code.Numbers.Numbers
numbers o = record { steps = o.steps; stop = o.stop; verdict = o.verdict; read = o.read }

numbers_back : (n : code.Numbers.Numbers) → numbers (numbers_as n) ≡ n
unfolding numbers
numbers_back n = refl

pub numbers_as_apart : TellsApart numbers_as
numbers_as_apart = undone numbers_as numbers numbers_back
