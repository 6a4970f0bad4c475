-- What every step keeps. Assumes nothing.
use Rattle.std.specs.Prelude.{◌≡◌, ℕ, ◌≤◌, ◌<◌}
use Rattle.buffers.specs.Stores.{value_of}
use Rattle.buffers.specs.Fits.{entry_of}
use Rattle.memory.specs.declared.Memory.{Memory}
use Rattle.memory.specs.Memories.{field_of, buffer_of}
use Rattle.state.specs.declared.Process.{Process}
use Rattle.state.specs.declared.State.{State}
use Rattle.state.specs.declared.Choice.{Choice}
use Rattle.formed.specs.Fits.{CollectorFits, MutatorFits, WellFormed}
use Rattle.model.specs.Rows.{Row}

-- "A step zeroes what it stops using", and puts nothing out of range: every step from a well-formed state gives a
-- well-formed one
abbrev pub RowKept : Type 0
RowKept = (s : State) (c : Choice) (t : State) → WellFormed s → Row s c t → WellFormed t

-- process p fits among n cells and m mutators: "Processes 0 (collector) and 1..M (mutators)"
pub data Fits (n m p : ℕ) (q : Process) : Type 0 where
  collects : p ≡ 0 → CollectorFits n m q → Fits n m p q
  mutates : 0 < p → MutatorFits n q → Fits n m p q

-- memory has k cells and j processes, and the value of each field, in memory and pending, is null or one of the cells
pub record Ranged (k j : ℕ) (m : Memory) : Type 0 where
  pub cells : m.cells ≡ k
  pub processes : m.processes ≡ j
  pub fields : (c f : ℕ) → field_of m c f ≤ k
  pub pending : (p i : ℕ) → value_of (entry_of (buffer_of m p) i).store ≤ k

-- the memory n has the counts of m
pub record Counted (m n : Memory) : Type 0 where
  pub cells : n.cells ≡ m.cells
  pub processes : n.processes ≡ m.processes
