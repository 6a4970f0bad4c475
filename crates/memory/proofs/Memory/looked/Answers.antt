use Rattle.std.proofs.Common.{ap}
use Rattle.base.proofs.Errors.{passed}
use Rattle.memory.specs.Answers.{Read}
use Rattle.memory.specs.Looks.{read_of}
use Rattle.memory.specs.Asks.{looked_of}
use Rattle.memory.proofs.Lookings.{as_sight}
use Rattle.memory.proofs.Memory.looked.Goals as goal

pub returns-in_err-look : goal.returns-in_err-look
unfolding looked_of read_of
returns-in_err-look c = rw (passed c.from_residual.result c.in_err-look.field-0.0 c.from_residual.ensures.1) (ap (λ (r : Read). r.seen.no) c.in_err-look.ensures)

pub returns : goal.returns
unfolding looked_of read_of
returns c = ap as_sight c.in_ok-look.ensures
