-- The published claim holds, and so it does of every log. Assumes nothing.
--     published       after any choices from an opening
--     logged_safe     of the judge's own run
use mathlib.Core.Path.{◌≡◌, refl, ap, ◌∙◌, subst}
use mathlib.Core.Logic.{◌⊎◌, inl, inr, ⊎_elim}
use mathlib.Core.List.{List}
use Prim.Native.Nat.{ℕ}
use native.Mathlib.Omega.{arith}
use Rattle.base.specs.Refusals.{by_free, not_admitted}
use Rattle.cells.proofs.Bools.{not_both}
use Rattle.state.specs.declared.State.{State}
use Rattle.state.specs.declared.Choice.{Choice}
use Rattle.state.specs.Codes.{row10_free}
use Rattle.state.specs.States.{process_of, taken_of}
use Rattle.state.specs.Openings.{opening_of}
use Rattle.model.specs.Rows.{Row}
use Rattle.model.specs.Reasons.{mover}
use Rattle.engine.specs.Steps.{step_of}
use Rattle.engine.proofs.Theorems.{exact}
use Rattle.reach.specs.Reach.{Reach}
use Rattle.reach.specs.Held.{Held}
use Rattle.verdict.specs.Judged.{Finding, is_sound, is_malformed}
use Rattle.header.specs.Header.{heap_of}
use Rattle.header.specs.Admitted.{Admitted}
use Rattle.runlog.specs.Runs.{judge_of}
use Rattle.runlog.specs.Rule.{Taken, Stops, record_of, Judges}
use Rattle.runlog.proofs.Exacts.{run_keeps, outcome_exactly}
use Rattle.runlog.proofs.Formed.{heap_fitting}
use Rattle.claims.specs.Runs.{run_of}
use Rattle.spared.specs.Inv.{Spared}
use Rattle.spared.proofs.Shades.{marked_not_white}
use Rattle.spared.proofs.Stays.{used_or_freed}
use Rattle.spared.proofs.Opening.{opening_spared}
use Rattle.spared.proofs.Inv.{row_spared, run_spared}
use Rattle.safety.specs.Published.{Frees, Published}
use Rattle.safety.specs.Logs.{LoggedSafe}
use Rattle.safety.proofs.Sound.{reach_good, sound}
use Rattle.safety.proofs.Never.{never_free}

row : {s t : State} {c : Choice} → step_of s c ≡ taken_of t → Row s c t
row {s} {t} {c} e = ((exact s c t).0 e).1

-- the cell that the sweep frees is white, and what is reached is marked while the sweep runs
handed_back : (s : State) → Spared s → (c : Choice) (x : ℕ) → Frees s c x → Reach s.memory (Held s) x → ⊥
handed_back s v c x k i = ⊎_elim (λ u. not_both u k.freed) (λ f. freed f.0.place f.1.0 f.1.1) (used_or_freed s k.after c v (row k.taken) x k.occupied)
  where
    white : (process_of s 0).place ≡ row10_free → (process_of s 0).x ≡ x → ⊥
    white a e = marked_not_white ((reach_good s v i).marked (rw a refl)) (rw (← e) (v.swept.white a))

    freed : (mover s c).place ≡ row10_free → (mover s c).x ≡ x → c.process ≡ 0 → ⊥
    freed a e z = white (subst (λ p. (process_of s p).place ≡ row10_free) z a) (subst (λ p. (process_of s p).x ≡ x) z e)

pub published : Published
published =
    record {
      safe = λ h f cs. sound (run_of (opening_of h) cs) (run_spared h f cs);
      never_free = λ h f cs c. never_free (run_of (opening_of h) cs) c (run_spared h f cs);
      never_handed_back = λ h f cs. handed_back (run_of (opening_of h) cs) (run_spared h f cs);
    }

-- ---- a log
taken_spared : (log : List ℕ) → Admitted log → (k : ℕ) (s : State) → Taken log k s → Spared s
taken_spared log a k s t = run_keeps Spared (λ x y c v e. row_spared x c y v (row e)) log k s (opening_spared (heap_of log) (heap_fitting log a)) t

not_free : {log : List ℕ} {k : ℕ} {s : State} {n : ℕ} → Spared s → Stops log k s n → n ≡ by_free → ⊥
not_free v (Stops.ended l) e = omega arith
not_free v (Stops.short l m) e = omega arith
not_free v (Stops.wrong l r) e = omega arith
not_free {log} {k} {s} v (Stops.refused l r x) e = never_free s (record_of log k).choice v e

pub logged_safe : LoggedSafe
logged_safe = record { stop = λ log e. stops log e (judged log); verdict = λ log. verdicts log (judged log) }
  where
    judged : (log : List ℕ) → Judges log (judge_of log)
    judged log = (outcome_exactly log (judge_of log)).0 refl

    stops : (log : List ℕ) → (judge_of log).stop ≡ by_free → Judges log (judge_of log) → ⊥
    stops log e (Judges.shut n u) = omega (arith, u.stop, e)
    stops log e (Judges.runs a r) = not_free (taken_spared log a (judge_of log).steps r.state r.taken) r.stops e

    verdicts : (log : List ℕ) → Judges log (judge_of log) → ((judge_of log).verdict ≡ is_sound) ⊎ (((judge_of log).verdict ≡ is_malformed) × ((judge_of log).stop ≡ not_admitted))
    verdicts log (Judges.shut n u) = inr (u.verdict, u.stop)
    verdicts log (Judges.runs a r) = inl (r.verdict ∙ ap (λ (f : Finding). f.verdict) (sound r.state (taken_spared log a (judge_of log).steps r.state r.taken)))
