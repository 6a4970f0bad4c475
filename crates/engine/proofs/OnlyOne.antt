-- Only one answer meets the contract of `step`, of `inner`, of `turn`: of the code's answers, as `one_step` says it of
-- the records that they are viewed as. Assumes nothing.
--     one_result, one_inner     of `step` and of `inner`
--     one_turn                  of `turn`, with the state that it leaves
use Rattle.std.proofs.Common.{sym, ◌∙◌, ap}
use Rattle.std.specs.Prelude.{Ok, Err}
use Rattle.base.proofs.Errors.{refused_by}
use Rattle.base.proofs.Answers.{one_answer, one_viewed}
use Rattle.base.proofs.Apart.{refusal_number_apart}
use Rattle.state.specs.States.{Answer, answered}
use Rattle.state.proofs.Apart.{answered_apart}
use Rattle.engine.specs.Steps.{inner_of, step_of}
use Rattle.engine.specs.Readings.{read_by}
use Rattle.engine.specs.Statements.{OneResult, OneInner, OneTurn}

pub one_result : OneResult
one_result s c r t p q = one_viewed answered answered_apart (step_of s c) r t p q

pub one_inner : OneInner
one_inner s c r t p q = one_viewed answered answered_apart (inner_of s c) r t p q

pub one_turn : OneTurn
one_turn s c n m (Ok v) (Ok w) p q = (ap (λ (a : Answer). a.state) (p.answer ∙ sym q.answer), ap Ok (one_answer (read_by s c) v w p.read q.read))
one_turn s c n m (Ok v) (Err f) p q = absurd (refused_by f (ap (λ (a : Answer). a.no) (q.answer ∙ sym p.answer)))
one_turn s c n m (Err e) (Ok w) p q = absurd (refused_by e (ap (λ (a : Answer). a.no) (p.answer ∙ sym q.answer)))
one_turn s c n m (Err e) (Err f) p q = (ap (λ (a : Answer). a.state) (p.answer ∙ sym q.answer), ap Err (refusal_number_apart e f (ap (λ (a : Answer). a.no) (p.answer ∙ sym q.answer))))
