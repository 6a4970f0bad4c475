-- Demand 3 holds of the judge's own run: its states are those that the choices of the records taken lead to from the
-- opening. Assumes nothing.
use mathlib.Core.Path.{◌≡◌, sym, subst}
use mathlib.Core.List.{List}
use Prim.Native.Nat.{ℕ, ◌+◌}
use Rattle.cells.specs.Sets.{member_of}
use Rattle.memory.specs.Memories.{used_of}
use Rattle.state.specs.declared.State.{State}
use Rattle.state.specs.States.{process_of}
use Rattle.state.specs.Openings.{opening_of}
use Rattle.header.specs.Header.{heap_of}
use Rattle.header.specs.Admitted.{Admitted}
use Rattle.runlog.specs.Answers.{Run}
use Rattle.runlog.specs.Statements.{after_of, ran_of, choices_of, Chosen}
use Rattle.runlog.proofs.Formed.{heap_fitting, after_chosen, ran_chosen}
use Rattle.claims.specs.Runs.{run_of}
use Rattle.claims.specs.Posted.{Posted}
use Rattle.claims.specs.Table.{Table}
use Rattle.claims.specs.Counts.{sets_type, finishes_answer, times_of, rounds_behind}
use Rattle.claims.specs.Lock.{Lock}
use Rattle.claims.specs.Pending.{MarksLocked}
use Rattle.claims.specs.Noted.{HolderNoted}
use Rattle.claims.specs.Occupied.{none, occupied_by, last_of}
use Rattle.claims.specs.Logs.{Keeps, Logged3}
use Rattle.claims.proofs.Demand.{demand3}

-- what holds after those choices holds of the run's state
moved : (log : List ℕ) (run : Run) → Chosen log run → (P : State → Type 0) → P (run_of (opening_of (heap_of log)) (choices_of log run.steps)) → P run.state
moved log run e P = subst P (sym e)

keeps : (log : List ℕ) → Admitted log → (run : Run) → Chosen log run → Keeps log run
keeps log a run e =
    let h = heap_of log in
    let f = heap_fitting log a in
    let o = opening_of h in
    let cs = choices_of log run.steps in
    record {
      posted = moved log run e Posted (demand3.posted h f cs);
      table = moved log run e Table (demand3.table h f cs);
      behind = λ m l u. moved log run e (λ (s : State). times_of sets_type o cs ≡ times_of (finishes_answer m) o cs + rounds_behind (process_of s m)) (demand3.behind h f cs m l u);
      lock = moved log run e Lock (demand3.lock h f cs);
      marks = moved log run e MarksLocked (demand3.marks h f cs);
      noted = moved log run e HolderNoted (demand3.noted h f cs);
      occupied = λ x i. moved log run e (λ (s : State). used_of s.memory x ≡ occupied_by (last_of o cs x none) (member_of h.used x)) (demand3.occupied h f cs x i);
    }

pub logged3 : Logged3
logged3 = record { after = λ log k a. keeps log a (after_of log k) (after_chosen log k a); ran = λ log a. keeps log a (ran_of log) (ran_chosen log a) }
