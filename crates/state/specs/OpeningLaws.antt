-- "Opening: fM, fA and all marks of occupied cells 1, phase Idle, type roots, all in step, all handshake phases
-- IdleMarkSweep, flags down, buffers and lists empty, lock free, mutators at top, collector at row 1." Each phrase is
-- a law of `opening_of`, and so is what the heap gives. Assumes nothing.
use Rattle.std.specs.Prelude.{◌≡◌, true, false, [], ℕ, ◌-◌, ◌≤◌, ◌<◌}
use Rattle.cells.specs.Sets.{no_cells}
use Rattle.buffers.specs.declared.Phase.TheVariants as phase
use Rattle.buffers.specs.Buffers.{pending_of}
use Rattle.memory.specs.Memories.{max_processes, used_of, mark_of, buffer_of}
use Rattle.state.specs.declared.Handshake.TheVariants as hand
use Rattle.state.specs.declared.RoundType.TheVariants as round
use Rattle.state.specs.declared.opening.Heap.{Heap}
use Rattle.state.specs.Codes.{top, row1_round, no_stage, fence_stage}
use Rattle.state.specs.States.{no_process, process_of}
use Rattle.state.specs.Openings.{roots_at, opening_of}

-- "1..M (mutators)"
pub record IsMutator (h : Heap) (p : ℕ) : Type 0 where
  pub some : 0 < p
  pub within : p < h.processes
  pub most : p < max_processes

-- ---- memory
-- "fM, fA .. 1"
abbrev pub OpensSenses : Type 0
OpensSenses = (h : Heap) → ((opening_of h).memory.fm ≡ true) × ((opening_of h).memory.fa ≡ true)

-- "all marks of occupied cells 1"; those of free cells are 0
abbrev pub OpensMarks : Type 0
OpensMarks = (h : Heap) (c : ℕ) → mark_of (opening_of h).memory c ≡ used_of (opening_of h).memory c

-- "phase Idle"
abbrev pub OpensPhase : Type 0
OpensPhase = (h : Heap) → (opening_of h).memory.phase.phase ≡ phase.Idle

-- "buffers .. empty"
abbrev pub OpensBuffers : Type 0
OpensBuffers = (h : Heap) (p : ℕ) → pending_of (buffer_of (opening_of h).memory p) ≡ []

-- "lock free"
abbrev pub OpensLock : Type 0
OpensLock = (h : Heap) → (opening_of h).memory.lock ≡ 0

-- ---- handshakes
-- "type roots"
abbrev pub OpensType : Type 0
OpensType = (h : Heap) → (opening_of h).system.kind ≡ round.Roots

-- "all in step"
abbrev pub OpensInStep : Type 0
OpensInStep = (h : Heap) (p : ℕ) → IsMutator h p → (process_of (opening_of h) p).part.in_step ≡ true

-- "all handshake phases IdleMarkSweep": the system's, and each mutator's
abbrev pub OpensSystemPhase : Type 0
OpensSystemPhase = (h : Heap) → (opening_of h).system.phase ≡ hand.IdleMarkSweep

abbrev pub OpensMutatorPhase : Type 0
OpensMutatorPhase = (h : Heap) (p : ℕ) → IsMutator h p → (process_of (opening_of h) p).part.phase ≡ hand.IdleMarkSweep

-- "flags down"
abbrev pub OpensFlags : Type 0
OpensFlags = (h : Heap) (p : ℕ) → (process_of (opening_of h) p).part.raised ≡ false

-- ---- processes
-- "lists empty": the system's, and each process's
abbrev pub OpensSystemList : Type 0
OpensSystemList = (h : Heap) → (opening_of h).system.work ≡ no_cells

abbrev pub OpensLists : Type 0
OpensLists = (h : Heap) (p : ℕ) → (process_of (opening_of h) p).work ≡ no_cells

-- "mutators at top"
abbrev pub OpensTop : Type 0
OpensTop = (h : Heap) (p : ℕ) → IsMutator h p → ((process_of (opening_of h) p).place ≡ top) × ((process_of (opening_of h) p).stage ≡ no_stage)

-- "collector at row 1"
abbrev pub OpensRow1 : Type 0
OpensRow1 = (h : Heap) → ((process_of (opening_of h) 0).place ≡ row1_round) × ((process_of (opening_of h) 0).stage ≡ fence_stage)

-- "the collector's noted fM, 0 at the opening"; nor has a mutator noted it, and nobody is greying a cell
abbrev pub OpensNoted : Type 0
OpensNoted = (h : Heap) (p : ℕ) → (process_of (opening_of h) p).sense ≡ false

abbrev pub OpensGreying : Type 0
OpensGreying = (h : Heap) (p : ℕ) → (process_of (opening_of h) p).grey ≡ 0

-- "processes above M" are unused
abbrev pub OpensNobody : Type 0
OpensNobody = (h : Heap) (p : ℕ) → 0 < p → h.processes ≤ p → process_of (opening_of h) p ≡ no_process

-- ---- what the heap gives: N and M, the occupied cells and their fields, and the roots of each mutator
abbrev pub OpensCounts : Type 0
OpensCounts = (h : Heap) → ((opening_of h).memory.cells ≡ h.cells) × ((opening_of h).memory.processes ≡ h.processes)

abbrev pub OpensCells : Type 0
OpensCells = (h : Heap) → ((opening_of h).memory.used ≡ h.used) × ((opening_of h).memory.field0 ≡ h.field0) × ((opening_of h).memory.field1 ≡ h.field1)

abbrev pub OpensRoots : Type 0
OpensRoots = (h : Heap) (p : ℕ) → IsMutator h p → (process_of (opening_of h) p).roots ≡ roots_at h (p - 1)
