use Rattle.std.proofs.Common.{ap}
use Rattle.base.proofs.Errors.{passed}
use Rattle.memory.specs.Looks.{look_mark_of, read_of, read_mark_of}
use Rattle.memory.proofs.Lookings.{as_bit}
use Rattle.memory.proofs.Memory.look_mark.Goals as goal

pub returns-in_err-look : goal.returns-in_err-look
unfolding look_mark_of read_of read_mark_of
returns-in_err-look c = rw (passed c.from_residual.result c.in_err-look.field-0.0 c.from_residual.ensures.1) (ap as_bit c.in_err-look.ensures)

pub returns : goal.returns
unfolding look_mark_of read_of read_mark_of
returns c = rw c.bit_in.ensures (ap as_bit c.in_ok-look.ensures)
