use Rattle.std.proofs.Common.{ap}
use Rattle.base.proofs.Errors.{passed}
use Rattle.memory.specs.Looks.{look_phase_of, read_of, read_phase_of}
use Rattle.memory.proofs.Lookings.{as_phase}
use Rattle.memory.proofs.Memory.look_phase.Goals as goal

pub returns-in_err-look : goal.returns-in_err-look
unfolding look_phase_of read_of read_phase_of
returns-in_err-look c = rw (passed c.from_residual.result c.in_err-look.field-0.0 c.from_residual.ensures.1) (ap as_phase c.in_err-look.ensures)

pub returns : goal.returns
unfolding look_phase_of read_of read_phase_of
returns c = rw c.phase_in.ensures (ap as_phase c.in_ok-look.ensures)
