use Rattle.std.proofs.Common.{ap, ◌∙◌}
use Rattle.base.proofs.Errors.{passed}
use Rattle.memory.specs.Answers.{ReadSwept}
use Rattle.memory.specs.Looks.{read_swept_of}
use Rattle.memory.specs.Asks.{swept_sight}
use Rattle.memory.proofs.Lookings.{as_swept_sight, swept_told}
use Rattle.memory.proofs.Memory.swept.Goals as goal

pub returns-in_err-look : goal.returns-in_err-look
unfolding swept_sight read_swept_of
returns-in_err-look c = rw (passed c.from_residual.result c.in_err-look.field-0.0 c.from_residual.ensures.1) (ap (λ (r : ReadSwept). r.seen.no) c.in_err-look.ensures)

pub returns : goal.returns
unfolding swept_sight read_swept_of
returns c =
    rw (c.is_some.ensures, c.unwrap_or.ensures) (swept_told c.args.x c.in_ok-look.look ∙ ap (as_swept_sight c.args.x) c.in_ok-look.ensures)
