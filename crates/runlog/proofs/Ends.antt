-- How a log's run can end. Assumes nothing.
--     never_malformed                               not with refusal 1
--     stop_not_admitted, verdict_not_admitted       stop 12 and verdict 4 exactly for a log that is not admitted
--     ran_judged                                    the verdict is demand 2's of the state then
use mathlib.Core.Path.{◌≡◌, refl, sym, ap, ◌∙◌, subst}
use mathlib.Core.List.{List}
use mathlib.Core.Logic.{◌↔◌}
use Prim.Native.Nat.{ℕ}
use native.Mathlib.Omega.{arith}
use Rattle.base.specs.Refusals.{by_malformed, not_admitted}
use Rattle.state.specs.declared.State.{State}
use Rattle.formed.specs.Fits.{WellFormed}
use Rattle.engine.proofs.Theorems.{kept, numbered, malformed_exactly}
use Rattle.verdict.specs.Judged.{is_malformed, judged_of}
use Rattle.verdict.proofs.Verdicts.{judged_holds, verdicts_exactly}
use Rattle.verdict.proofs.Formed as verdict
use Rattle.header.specs.Admitted.{Admitted}
use Rattle.runlog.specs.Answers.{Outcome}
use Rattle.runlog.specs.Runs.{outcome_told_of, judge_of}
use Rattle.runlog.specs.Rule.{record_of, Taken, Stops, ended, short, wrong, refused, Judges, shut, runs}
use Rattle.runlog.specs.Statements.{ran_of, NeverMalformed, StopNotAdmitted, VerdictNotAdmitted, VerdictOf, RanJudged}
use Rattle.runlog.proofs.Formed.{opening_is_formed, ran_formed}
use Rattle.runlog.proofs.Exacts.{run_keeps, judge_admitted, outcome_exactly}

judged : (log : List ℕ) → Judges log (judge_of log)
judged log = (outcome_exactly log (judge_of log)).0 refl

taken_formed : (log : List ℕ) → Admitted log → {k : ℕ} {s : State} → Taken log k s → WellFormed s
taken_formed log a {k} {s} t =
    run_keeps WellFormed (λ s t c w e. subst WellFormed (ap (λ x. x.state) e) (kept s c w)) log k s (opening_is_formed log a) t

-- ---- the stop of a run is neither 1 nor 12
module _ {log : List ℕ} {k : ℕ} {s : State} where
  not_malformed : {n : ℕ} → WellFormed s → Stops log k s n → n ≡ by_malformed → ⊥
  not_malformed w (ended l) e = omega arith
  not_malformed w (short l m) e = omega arith
  not_malformed w (wrong l r) e = omega arith
  not_malformed w (refused l r x) e = (malformed_exactly s (record_of log k).choice).0 e w

  was_admitted : {n : ℕ} → Stops log k s n → n ≡ not_admitted → ⊥
  was_admitted (ended l) e = omega arith
  was_admitted (short l m) e = omega arith
  was_admitted (wrong l r) e = omega arith
  was_admitted (refused l r x) e = omega (arith, numbered s (record_of log k).choice)

pub never_malformed : NeverMalformed
never_malformed log e = go (judged log)
  where
    go : Judges log (judge_of log) → ⊥
    go (shut n u) = omega (arith, u.stop, e)
    go (runs a r) = not_malformed (taken_formed log a r.taken) r.stops e

pub stop_not_admitted : StopNotAdmitted
stop_not_admitted log = go (judged log)
  where
    go : Judges log (judge_of log) → ((judge_of log).stop ≡ not_admitted) ↔ (Admitted log → ⊥)
    go (shut n u) = (λ _. n, λ _. u.stop)
    go (runs a r) = (λ e. absurd (was_admitted r.stops e), λ n. absurd (n a))

pub verdict_not_admitted : VerdictNotAdmitted
verdict_not_admitted log = go (judged log)
  where
    go : Judges log (judge_of log) → ((judge_of log).verdict ≡ is_malformed) ↔ (Admitted log → ⊥)
    go (shut n u) = (λ _. n, λ _. u.verdict)
    go (runs a r) =
        (λ e. absurd ((verdict.malformed_judged r.state).0 (sym r.verdict ∙ e) (taken_formed log a r.taken)), λ n. absurd (n a))

pub ran_judged : RanJudged
unfolding outcome_told_of
ran_judged log a =
    let b = verdict.formed_bounded (ran_of log).state (ran_formed log a) in
    subst (VerdictOf (ran_of log).state) (sym (ap (λ (o : Outcome). o.verdict) (judge_admitted log a)))
    (record { number = (judged_of (ran_of log).state).number; judged = judged_holds (ran_of log).state b; each = verdicts_exactly (ran_of log).state b })
