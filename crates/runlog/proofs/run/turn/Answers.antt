use Rattle.std.proofs.Common.{◌∙◌, sym, ap, arith}
use Rattle.base.specs.Refusals.{refusal_number, stop_by}
use Rattle.base.proofs.Errors.{passed, refused_by}
use Rattle.state.specs.States.{refused_of}
use Rattle.runlog.proofs.Turns.{wrong_turn, refused_turn, taken_turn}
use Rattle.runlog.proofs.run.turn.Goals as goal

pub returns-then-r-check_of : goal.returns-then-r-check_of
returns-then-r-check_of c =
    let a = c.args in
    ((λ z. omega arith), λ k v. wrong_turn a.s.now a.r k v (λ h. c.if-r-check_of.true (h ∙ sym c.check_of.ensures)))

pub returns-in_err-source : goal.returns-in_err-source
returns-in_err-source c =
    let a = c.args in
    let e = c.in_err-source in
    let r = e.field-0.0 in
    let right = c.if-r-check_of.false ∙ c.check_of.ensures in
    let kept = e.ensures.kept in
    rw (passed c.from_residual.result (stop_by r) c.from_residual.ensures.1, kept)
    ((λ z. refused_by r z), λ k v. refused_turn a.s.now a.r k v right (refusal_number r) (refused_by r) (sym e.ensures.answer ∙ ap (refused_of (refusal_number r)) kept))

pub returns : goal.returns
returns c =
    let a = c.args in
    let o = c.in_ok-source in
    let right = c.if-r-check_of.false ∙ c.check_of.ensures in
    λ k v. taken_turn a.s.now a.r k v right c.turn.new.s o.source o.ensures.read (sym o.ensures.answer)
