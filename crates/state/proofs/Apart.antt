-- The view of a step's answer tells any two apart. Assumes nothing.
use Rattle.std.proofs.Common.{sym, ap, ap₂}
use Rattle.std.specs.Prelude.{Ok, Err, Result}
use Rattle.base.specs.declared.Refusal.{Refusal}
use Rattle.base.specs.Answers.{TellsApart}
use Rattle.base.proofs.Errors.{refused_by}
use Rattle.base.proofs.Apart.{refusal_number_apart}
use Rattle.state.specs.declared.State.{State}
use Rattle.state.specs.declared.Refused.{Refused}
use Rattle.state.specs.States.{Answer, answered}

refusing : Refusal → State → Result State Refused
refusing r s = Err (record { why = r; state = s })

pub answered_apart : TellsApart answered
unfolding refusing
answered_apart (Ok s) (Ok t) e = ap (λ (a : Answer). Ok a.state) e
answered_apart (Ok s) (Err f) e = absurd (refused_by f.why (sym (ap (λ (a : Answer). a.no) e)))
answered_apart (Err f) (Ok t) e = absurd (refused_by f.why (ap (λ (a : Answer). a.no) e))
answered_apart (Err f) (Err g) e = ap₂ refusing (refusal_number_apart f.why g.why (ap (λ (a : Answer). a.no) e)) (ap (λ (a : Answer). a.state) e)
