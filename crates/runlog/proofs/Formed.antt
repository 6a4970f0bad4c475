-- The states of a run. Assumes nothing.
--     heap_fitting, opening_is_formed     the opening of an admitted log is well formed
--     turn_whole                          a turn of a run whose state is well formed is by the whole step
--     each_its_own                        the run is the fold of the step over the records
--     after_chosen, ran_chosen            its states are those that the choices of the records taken lead to
--     after_formed, ran_formed            and they are well formed
use mathlib.Core.Path.{◌≡◌, refl, sym, ap, ◌∙◌, subst}
use mathlib.Core.List.{List}
use Prim.Native.Nat.{ℕ, zero, suc, ◌+◌}
use native.Mathlib.Decide.{ℕ_discrete}
use native.Mathlib.Numerals.{add-one}
use native.Mathlib.Omega.{arith}
use lib.Dec.{eqb}
use borrow.Author.Tests.{eq-eqb, ne_eqb}
use Rattle.base.specs.Pick.{pick}
use Rattle.base.proofs.Picking.{picked, pick_no}
use Rattle.state.specs.declared.State.{State}
use Rattle.state.specs.Openings.{opening_of}
use Rattle.formed.specs.Fits.{WellFormed}
use Rattle.formed.proofs.Opens.{opening_formed}
use Rattle.engine.specs.Steps.{step_of}
use Rattle.engine.specs.Runs as engine
use Rattle.engine.proofs.Theorems.{inner_formed}
use Rattle.engine.proofs.Runs.{run_more, run_kept}
use Rattle.header.specs.Header.{heap_of}
use Rattle.header.specs.Admitted.{Admitted}
use Rattle.header.proofs.Heaps.{heap_sound}
use Rattle.runlog.specs.declared.record.Record.{Record}
use Rattle.runlog.specs.Answers.{Run}
use Rattle.runlog.specs.Records.{right_check_of}
use Rattle.runlog.specs.Runs.{turned_of, turn_of, closed_of, whole_of, left_of, played_of}
use Rattle.runlog.specs.Rule.{record_of}
use Rattle.runlog.specs.Statements.{after_of, ran_of, choices_of, EachItsOwn, HeapFitting, OpeningFormed, Chosen, AfterChosen, RanChosen, AfterFormed, RanFormed}
use Rattle.runlog.proofs.Turns.{onward_goes, onward_stays}

pub heap_fitting : HeapFitting
heap_fitting log a = (heap_sound log a).fits

pub opening_is_formed : OpeningFormed
opening_is_formed log a = opening_formed (heap_of log) (heap_fitting log a)

pub turn_whole : (run : Run) (r : Record) → WellFormed run.state → turn_of run r ≡ turned_of run r (step_of run.state r.choice)
unfolding turn_of
turn_whole run r w = rw (inner_formed run.state r.choice w) refl

module _ (log : List ℕ) (a : Admitted log) where
  abbrev opening : State
  opening = opening_of (heap_of log)

  chosen_formed : (run : Run) → Chosen log run → WellFormed run.state
  chosen_formed run e = subst WellFormed (sym e) (run_kept opening (choices_of log run.steps) (opening_is_formed log a))

  -- after the first k records: while there is no stop all of them are taken
  record After (k : ℕ) (run : Run) : Type 0 where
    all : run.stop ≡ 0 → run.steps ≡ k
    chosen : Chosen log run

  took : (k : ℕ) (run : Run) → After k run → run.stop ≡ 0
      → (step_of run.state (record_of log k).choice).state ≡ engine.run_of opening (choices_of log (run.steps + 1))
  took k run f z =
      let e = f.all z in
      let c = (record_of log k).choice in
      ap (λ (s : State). (step_of s c).state) (f.chosen ∙ ap (λ (n : ℕ). engine.run_of opening (choices_of log n)) e)
      ∙ sym (run_more opening (choices_of log k) c)
      ∙ ap (λ (n : ℕ). engine.run_of opening (choices_of log n)) (sym (ap (λ (n : ℕ). n + 1) e ∙ add-one k))

  turned : (k : ℕ) (run : Run) → After k run → run.stop ≡ 0 → After (suc k) (turned_of run (record_of log k) (step_of run.state (record_of log k).choice))
  turned k run f z =
      picked (After (suc k)) (right_check_of (record_of log k))
      (pick_no (After (suc k)) (step_of run.state (record_of log k).choice).no 0
      (λ _. record { all = λ _. omega (arith, f.all z); chosen = took k run f z })
      (λ n. record { all = λ h. absurd (n h); chosen = f.chosen }))
      (record { all = λ h. absurd (omega arith); chosen = f.chosen })

  after : (k : ℕ) → After k (after_of log k)
  after zero = record { all = λ _. refl; chosen = refl }
  after (suc k) = go (ℕ_discrete (after_of log k).stop 0) (after k)
    where
      go : Dec ((after_of log k).stop ≡ 0) → After k (after_of log k) → After (suc k) (after_of log (suc k))
      go (yes z) f =
          let run = after_of log k in
          let r = record_of log k in
          rw (onward_goes run r z, turn_whole run r (chosen_formed run f.chosen)) (turned k run f z)
      go (no n) f = rw (onward_stays (after_of log k) (record_of log k) n) (record { all = λ h. absurd (n h); chosen = f.chosen })

  -- the bytes left change neither the steps nor the state
  closed_chosen : (run : Run) (l : ℕ) → Chosen log run → Chosen log (closed_of run l)
  unfolding closed_of
  closed_chosen run l e = picked (Chosen log) (eqb run.stop 0) (picked (Chosen log) (eqb l 0) e e) e

pub after_chosen : AfterChosen
after_chosen log k a = (after log a k).chosen

pub ran_chosen : RanChosen
unfolding played_of
ran_chosen log a = closed_chosen log a (after_of log (whole_of log)) (left_of log) (after_chosen log (whole_of log) a)

pub after_formed : AfterFormed
after_formed log k a = chosen_formed log a (after_of log k) (after_chosen log k a)

pub ran_formed : RanFormed
ran_formed log a = chosen_formed log a (ran_of log) (ran_chosen log a)

pub each_its_own : EachItsOwn
each_its_own log k a = go (ℕ_discrete (after_of log k).stop 0)
  where
    go : Dec ((after_of log k).stop ≡ 0)
        → after_of log (suc k) ≡ pick (eqb (after_of log k).stop 0) (turned_of (after_of log k) (record_of log k) (step_of (after_of log k).state (record_of log k).choice)) (after_of log k)
    go (yes z) = rw (eq-eqb (after_of log k).stop 0 z) (onward_goes (after_of log k) (record_of log k) z ∙ turn_whole (after_of log k) (record_of log k) (after_formed log k a))
    go (no n) = rw (ne_eqb (after_of log k).stop 0 n) (onward_stays (after_of log k) (record_of log k) n)
