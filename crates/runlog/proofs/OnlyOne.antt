-- Only one outcome meets the contract of `judge`. Assumes nothing.
use Rattle.std.proofs.Common.{◌≡◌, refl, sym, ◌∙◌, ap}
use Rattle.std.specs.Prelude.{ℕ}
use Rattle.base.specs.declared.Stop.{Stop}
use Rattle.base.proofs.Answers.{one_answer, one_viewed}
use Rattle.base.proofs.Apart.{stop_number_apart}
use Rattle.buffers.specs.declared.sources.Source.{Source}
use Rattle.verdict.specs.declared.Verdict.{Verdict}
use Rattle.verdict.specs.Judged.{told}
use Rattle.verdict.proofs.Apart.{told_apart}
use Rattle.runlog.specs.declared as code
use Rattle.runlog.specs.Answers.{Outcome}
use Rattle.runlog.specs.Runs.{found_of, origin_of}
use Rattle.runlog.specs.Statements.{OneOutcome}

outcome : ℕ → Stop → Verdict → Source → code.Outcome.Outcome
outcome k n v w = record { steps = k; stop = n; verdict = v; read = w }

same : (k j : ℕ) (n m : Stop) (v u : Verdict) (w x : Source) → k ≡ j → n ≡ m → v ≡ u → w ≡ x → outcome k n v w ≡ outcome j m u x
same k j n m v u w x a b c d = rw (a, b, c, d) refl

pub one_outcome : OneOutcome
unfolding outcome
one_outcome log r t p q =
    same r.steps t.steps r.stop t.stop r.verdict t.verdict r.read t.read
    (ap (λ (o : Outcome). o.steps) (p.numbers ∙ sym q.numbers))
    (stop_number_apart r.stop t.stop (ap (λ (o : Outcome). o.stop) (p.numbers ∙ sym q.numbers)))
    (one_viewed told told_apart (found_of log) r.verdict t.verdict p.verdict q.verdict)
    (one_answer (origin_of log) r.read t.read p.read q.read)
