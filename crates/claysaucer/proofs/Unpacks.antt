-- The packed number unpacks to the four numbers. Assumes nothing.
--     unpacks, same_numbers
use mathlib.Core.Logic.{⊎_elim}
use native.Mathlib.Omega.{arith}
use Rattle.runlog.specs.Runs.{judge_of}
use Rattle.claysaucer.specs.Statements.{Unpacks, SameNumbers}
use Rattle.claysaucer.proofs.Ranges.{judged_ranged}

pub unpacks : Unpacks
unpacks o f =
    record {
      verdict = omega (arith, f.verdict);
      stop = omega (arith, f.verdict, f.stop);
      read = omega (arith, f.verdict, f.stop, f.read);
      between = omega (arith, f.verdict, f.stop, f.read);
      steps = omega (arith, f.verdict, f.stop, f.read);
      within = omega (arith, f.verdict, f.stop, f.read, f.steps);
    }

pub same_numbers : SameNumbers
same_numbers log =
    let r = judged_ranged log in
    unpacks (judge_of log) (record { verdict = omega (arith, r.verdict); stop = omega (arith, r.stop); read = ⊎_elim (λ h. omega (arith, h)) (λ h. omega (arith, h)) r.read; steps = omega (arith, r.steps) })
