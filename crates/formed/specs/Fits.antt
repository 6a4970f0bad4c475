-- Refusal 1 as facts: what holds of a well-formed state, place by place. "the state is malformed: a count, cell,
-- process, set, place or buffer length out of range, or something unused not zero. Unused: a free cell's mark and
-- fields, cells above N, processes above M, entries past a buffer's length, notes once their operation, mark or row
-- is over (not the collector's noted fM, 0 at the opening)". Assumes nothing.
use Rattle.std.specs.Prelude.{◌≡◌, Bool, true, false, List, [], ◌∷◌, ◌⊎◌, ℕ, ◌-◌, ◌≤◌, ◌<◌, eqb, length}
use Rattle.base.specs.Pick.{pick}
use Rattle.cells.specs.Sets.{no_cells, member_of, Member, Sub, below_of}
use Rattle.buffers.specs.Stores.{value_of}
use Rattle.buffers.specs.Fits.{max_fields, IsCell, entry_of}
use Rattle.memory.specs.Memories.{max_cells, max_processes, at_cell, field_of, buffer_of}
use Rattle.memory_formed.specs.WellFormed.{MemoryFormed}
use Rattle.state.specs.declared.Process.{Process}
use Rattle.state.specs.declared.State.{State}
use Rattle.state.specs.Codes.{top, store_mark_old, store_mark_y, store_write, noop_fence, noop_finish, roots_fence, roots_mark, roots_finish, work_fence, work_finish, row1_round, row2_read, row2_write, row3_round, row4_write, row4_round, row5_phase, row5_alloc, row5_round, row6_round, row6_take, row7_first, row7_mark, row7_next, row7_drop, row8_round, row8_take, row9_write, row10_look, row10_free, row11_write, no_stage, look_stage, sense_stage, phase_stage, unlock_stage, raise_stage, poll_stage}
use Rattle.state.specs.declared.opening.Heap.{Heap}
use Rattle.state.specs.Openings.{roots_at}
use Rattle.state.specs.States.{no_part, no_process, mutators_of, process_of}

-- ---- the places, in groups with the same notes in use
-- k is one of the list
abbrev pub among_of : ℕ → List ℕ → Bool
among_of k [] = false
among_of k (a ∷ l) = pick (eqb k a) true (among_of k l)

abbrev pub Among : ℕ → List ℕ → Type 0
Among k l = among_of k l ≡ true

-- a mutator's: at top, and in an answer but for its marks
abbrev pub idle_places : List ℕ
idle_places = top ∷ noop_fence ∷ noop_finish ∷ roots_fence ∷ roots_finish ∷ work_fence ∷ work_finish ∷ []

-- the collector's: "A round"; a write, a read of fM, a take, the first read of row 7
abbrev pub round_places : List ℕ
round_places = row1_round ∷ row3_round ∷ row4_round ∷ row5_round ∷ row6_round ∷ row8_round ∷ []

abbrev pub plain_places : List ℕ
plain_places =
    row2_read ∷ row2_write ∷ row4_write ∷ row5_phase ∷ row5_alloc ∷ row6_take ∷ row7_first ∷ row8_take ∷ row9_write ∷ row11_write ∷ []

-- ---- notes that stand together, by their values
-- those of a running store: "store y (a root or 0) in field f of root x"; "the old value read by a running store (the
-- honorary root)"
pub record StoreNotes (n x f y old : ℕ) : Type 0 where
  pub is_x : IsCell n x
  pub is_f : f < max_fields
  pub is_y : y ≤ n
  pub is_old : old ≤ n

-- no operation
pub record Unnoted (x f y old : ℕ) : Type 0 where
  pub no_x : x ≡ 0
  pub no_f : f ≡ 0
  pub no_y : y ≡ 0
  pub no_old : old ≡ 0

-- a mark of the cell c, at one of its seven stages: "look at r's mark; read fM, ..; read phase, ..; lock; look again;
-- .. write mark := noted fM (r is now being greyed); unlock". The first look is noted from the second; a cell, or
-- none, is being greyed at the seventh alone.
pub record MarkNotes (n stage c : ℕ) (look : Bool) (grey : ℕ) : Type 0 where
  pub cell_named : IsCell n c
  pub begun : 0 < stage
  pub running : stage ≤ unlock_stage
  pub no_look : stage < sense_stage → look ≡ false
  pub no_grey : stage < unlock_stage → grey ≡ 0
  pub is_grey : grey ≤ n

-- no mark
pub record Unmarked (cell : ℕ) (look : Bool) (grey : ℕ) : Type 0 where
  pub no_cell : cell ≡ 0
  pub no_look : look ≡ false
  pub no_grey : grey ≡ 0

-- ---- a mutator, place by place
-- at top, and in an answer but for its marks: nothing
pub record Idle (q : Process) : Type 0 where
  pub stage : q.stage ≡ no_stage
  pub notes : Unnoted q.x q.f q.y q.old
  pub left : q.left ≡ no_cells
  pub mark : Unmarked q.cell q.look q.grey
  pub sense : q.sense ≡ false

-- a store that marks c: its old value or y, which is kept once
pub record StoreMark (n c : ℕ) (q : Process) : Type 0 where
  pub notes : StoreNotes n q.x q.f q.y q.old
  pub left : q.left ≡ no_cells
  pub cell : q.cell ≡ 0
  pub mark : MarkNotes n q.stage c q.look q.grey
  pub sense : q.stage < phase_stage → q.sense ≡ false

-- a store that writes
pub record StoreWrite (n : ℕ) (q : Process) : Type 0 where
  pub stage : q.stage ≡ no_stage
  pub notes : StoreNotes n q.x q.f q.y q.old
  pub left : q.left ≡ no_cells
  pub mark : Unmarked q.cell q.look q.grey
  pub sense : q.sense ≡ false

-- "mark each root, the choice x naming which remaining one at its first look": before that look, and after
pub record RootsFirst (n : ℕ) (q : Process) : Type 0 where
  pub stage : q.stage ≡ look_stage
  pub notes : Unnoted q.x q.f q.y q.old
  pub left : below_of q.left n ≡ true
  pub mark : Unmarked q.cell q.look q.grey
  pub sense : q.sense ≡ false

pub record RootsRest (n : ℕ) (q : Process) : Type 0 where
  pub named : look_stage < q.stage
  pub notes : Unnoted q.x q.f q.y q.old
  pub left : below_of q.left n ≡ true
  pub mark : MarkNotes n q.stage q.cell q.look q.grey
  pub sense : q.stage < phase_stage → q.sense ≡ false

pub data MutatorAt (n : ℕ) (q : Process) : Type 0 where
  idle : Among q.place idle_places → Idle q → MutatorAt n q
  mark_old : q.place ≡ store_mark_old → StoreMark n q.old q → MutatorAt n q
  mark_y : q.place ≡ store_mark_y → StoreMark n q.y q → MutatorAt n q
  write : q.place ≡ store_write → StoreWrite n q → MutatorAt n q
  roots_first : q.place ≡ roots_mark → RootsFirst n q → MutatorAt n q
  roots_rest : q.place ≡ roots_mark → RootsRest n q → MutatorAt n q

-- "Mutators: a root set", "a work list"
pub record MutatorFits (n : ℕ) (q : Process) : Type 0 where
  pub roots : below_of q.roots n ≡ true
  pub work : below_of q.work n ≡ true
  pub notes : MutatorAt n q

-- ---- the collector, place by place
-- nothing
pub record PlainNotes (q : Process) : Type 0 where
  pub stage : q.stage ≡ no_stage
  pub no_x : q.x ≡ 0
  pub left : q.left ≡ no_cells
  pub mark : Unmarked q.cell q.look q.grey

-- "fence; set type ..; raise each flag once, x naming the mutator; poll, x naming one still awaited": mutators are
-- left from the third stage
pub record RoundNotes (m : ℕ) (q : Process) : Type 0 where
  pub begun : 0 < q.stage
  pub running : q.stage ≤ poll_stage
  pub no_x : q.x ≡ 0
  pub none_left : q.stage < raise_stage → q.left ≡ no_cells
  pub left : below_of q.left m ≡ true
  pub mark : Unmarked q.cell q.look q.grey

-- row 7: x, the fields of it that are not yet scanned, and the cell that one of its fields names
pub record ScanMark (n : ℕ) (q : Process) : Type 0 where
  pub is_x : IsCell n q.x
  pub left : below_of q.left max_fields ≡ true
  pub mark : MarkNotes n q.stage q.cell q.look q.grey

pub record Scan (n : ℕ) (q : Process) : Type 0 where
  pub stage : q.stage ≡ no_stage
  pub is_x : IsCell n q.x
  pub left : below_of q.left max_fields ≡ true
  pub mark : Unmarked q.cell q.look q.grey

pub record Drop (n : ℕ) (q : Process) : Type 0 where
  pub stage : q.stage ≡ no_stage
  pub is_x : IsCell n q.x
  pub left : q.left ≡ no_cells
  pub mark : Unmarked q.cell q.look q.grey

-- row 10: "for each cell number, x naming one left: look at the mark; .. free it, as a further step"
pub record Sweep (n : ℕ) (q : Process) : Type 0 where
  pub stage : q.stage ≡ no_stage
  pub no_x : q.x ≡ 0
  pub left : below_of q.left n ≡ true
  pub mark : Unmarked q.cell q.look q.grey

pub record SweepFree (n : ℕ) (q : Process) : Type 0 where
  pub stage : q.stage ≡ no_stage
  pub is_x : IsCell n q.x
  pub left : below_of q.left n ≡ true
  pub mark : Unmarked q.cell q.look q.grey

pub data CollectorAt (n m : ℕ) (q : Process) : Type 0 where
  plain : Among q.place plain_places → PlainNotes q → CollectorAt n m q
  round : Among q.place round_places → RoundNotes m q → CollectorAt n m q
  scan_mark : q.place ≡ row7_mark → ScanMark n q → CollectorAt n m q
  scan : q.place ≡ row7_next → Scan n q → CollectorAt n m q
  drop : q.place ≡ row7_drop → Drop n q → CollectorAt n m q
  sweep : q.place ≡ row10_look → Sweep n q → CollectorAt n m q
  sweep_free : q.place ≡ row10_free → SweepFree n q → CollectorAt n m q

-- a work list and the noted fM, which is 0 or 1; no store, no roots, no part in the handshakes
pub record CollectorFits (n m : ℕ) (q : Process) : Type 0 where
  pub work : below_of q.work n ≡ true
  pub no_f : q.f ≡ 0
  pub no_y : q.y ≡ 0
  pub no_old : q.old ≡ 0
  pub no_roots : q.roots ≡ no_cells
  pub part_none : q.part ≡ no_part
  pub notes : CollectorAt n m q

-- ---- the whole
pub record WellFormed (s : State) : Type 0 where
  -- "a count, cell, .. or buffer length out of range"; "a free cell's mark and fields, cells above N, .. entries past
  -- a buffer's length"
  pub memory : MemoryFormed s.memory
  -- "a .. cell .. out of range": the value of a field, in memory and pending; 0 is null
  pub fields : (c f : ℕ) → field_of s.memory c f ≤ s.memory.cells
  pub pending : (p i : ℕ) → value_of (entry_of (buffer_of s.memory p) i).store ≤ s.memory.cells
  -- the array has its length
  pub sized : length s.procs ≡ max_processes
  -- "process, set, place .. out of range"; "notes once their operation, mark or row is over"
  pub collector : CollectorFits s.memory.cells (mutators_of s) (process_of s 0)
  pub mutators : (p : ℕ) → 0 < p → p ≤ mutators_of s → MutatorFits s.memory.cells (process_of s p)
  -- "processes above M"
  pub nobody : (p : ℕ) → mutators_of s < p → process_of s p ≡ no_process
  -- "set .. out of range": the system's work list
  pub system : below_of s.system.work s.memory.cells ≡ true

-- ---- the header's rules for an opening heap
-- field f of cell c: field 0 is field 0, and any other number is field 1
abbrev pub heap_field : Heap → ℕ → ℕ → ℕ
heap_field h c f = pick (eqb f 0) (at_cell h.field0 c 0) (at_cell h.field1 c 0)

pub record HeapFits (h : Heap) : Type 0 where
  -- N from 1 to 64; "M from 1 to 4", and the collector
  pub cells : IsCell max_cells h.cells
  pub some : 1 < h.processes
  pub most : h.processes ≤ max_processes
  -- "Cells 1..N": the occupied ones are among them
  pub used : below_of h.used h.cells ≡ true
  -- "a free cell's fields are 0"
  pub free : (c f : ℕ) → member_of h.used c ≡ false → heap_field h c f ≡ 0
  -- "A field of an occupied cell is 0 or names an occupied cell"
  pub named : (c f : ℕ) → Member h.used c → (heap_field h c f ≡ 0) ⊎ Member h.used (heap_field h c f)
  -- "roots name occupied cells": those of mutator p
  pub roots : (p : ℕ) → 0 < p → p < h.processes → Sub (roots_at h (p - 1)) h.used
  -- the arrays have their lengths
  pub sized0 : length h.field0 ≡ max_cells
  pub sized1 : length h.field1 ≡ max_cells
