use Rattle.std.proofs.Common.{ap}
use Rattle.base.proofs.Errors.{passed}
use Rattle.memory.specs.Looks.{look_field_of, read_of, read_field_of}
use Rattle.memory.proofs.Lookings.{as_value}
use Rattle.memory.proofs.Memory.look_field.Goals as goal

pub returns-in_err-look : goal.returns-in_err-look
unfolding look_field_of read_of read_field_of
returns-in_err-look c = rw (passed c.from_residual.result c.in_err-look.field-0.0 c.from_residual.ensures.1) (ap as_value c.in_err-look.ensures)

pub returns : goal.returns
unfolding look_field_of read_of read_field_of
returns c = rw c.value_in.ensures (ap as_value c.in_ok-look.ensures)
