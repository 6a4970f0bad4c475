-- Demand 3 for the judge's own run: what holds of an admitted log's run after any number of its records, and at its
-- end. Assumes nothing.
use Rattle.std.specs.Prelude.{◌≡◌, List, ℕ, ◌+◌, ◌≤◌, ◌<◌}
use Rattle.cells.specs.Sets.{member_of}
use Rattle.buffers.specs.Fits.{IsCell}
use Rattle.memory.specs.Memories.{used_of}
use Rattle.state.specs.States.{mutators_of, process_of}
use Rattle.state.specs.Openings.{opening_of}
use Rattle.header.specs.Header.{heap_of}
use Rattle.header.specs.Admitted.{Admitted}
use Rattle.runlog.specs.Answers.{Run}
use Rattle.runlog.specs.Statements.{after_of, ran_of, choices_of}
use Rattle.claims.specs.Posted.{Posted}
use Rattle.claims.specs.Table.{Table}
use Rattle.claims.specs.Counts.{sets_type, finishes_answer, times_of, rounds_behind}
use Rattle.claims.specs.Lock.{Lock}
use Rattle.claims.specs.Pending.{MarksLocked}
use Rattle.claims.specs.Noted.{HolderNoted}
use Rattle.claims.specs.Occupied.{none, occupied_by, last_of}

-- the parts of demand 3, of a run of the log; its choices are those of the records that it took
pub record Keeps (log : List ℕ) (run : Run) : Type 0 where
  pub posted : Posted run.state
  pub table : Table run.state
  pub behind : (m : ℕ) → 0 < m → m ≤ mutators_of (opening_of (heap_of log)) →
      times_of sets_type (opening_of (heap_of log)) (choices_of log run.steps)
      ≡ times_of (finishes_answer m) (opening_of (heap_of log)) (choices_of log run.steps) + rounds_behind (process_of run.state m)
  pub lock : Lock run.state
  pub marks : MarksLocked run.state
  pub noted : HolderNoted run.state
  pub occupied : (x : ℕ) → IsCell (heap_of log).cells x →
      used_of run.state.memory x ≡ occupied_by (last_of (opening_of (heap_of log)) (choices_of log run.steps) x none) (member_of (heap_of log).used x)

-- after the first k records, for every k, and at the end
pub record Logged3 : Type 0 where
  pub after : (log : List ℕ) (k : ℕ) → Admitted log → Keeps log (after_of log k)
  pub ran : (log : List ℕ) → Admitted log → Keeps log (ran_of log)
