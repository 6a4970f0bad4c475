-- What each setter of memory sets, and that it leaves all else alone. Assumes nothing.
use Rattle.std.specs.Prelude.{◌≡◌, Bool, List, ℕ, ◌≤◌, ◌<◌, length}
use Rattle.buffers.specs.declared.Phase.{Phase}
use Rattle.buffers.specs.declared.Buffer.{Buffer}
use Rattle.memory.specs.declared.Memory.{Memory}
use Rattle.memory.specs.Memories.{with_used, with_marks, with_field0, with_field1, with_sense, with_alloc_sense, with_phase, with_lock, with_buffers, buffer_of, with_buffer}

-- ---- memory's parts, in groups
-- "Cells 1..N"; "Processes 0 (collector) and 1..M (mutators)"
abbrev pub SameCounts : Memory → Memory → Type 0
SameCounts m n = (n.cells ≡ m.cells) × (n.processes ≡ m.processes)

-- "A cell is free, or occupied with a mark bit and two fields."
abbrev pub SameCells : Memory → Memory → Type 0
SameCells m n = (n.used ≡ m.used) × (n.marks ≡ m.marks) × (n.field0 ≡ m.field0) × (n.field1 ≡ m.field1)

-- "Memory's mark sense fM, allocation sense fA, phase (Idle, Init, Mark, Sweep)"
abbrev pub SameSenses : Memory → Memory → Type 0
SameSenses m n = (n.fm ≡ m.fm) × (n.fa ≡ m.fa) × (n.phase ≡ m.phase)

-- "lock (nobody or a process)"; "a FIFO buffer" of each process
abbrev pub SameLock : Memory → Memory → Type 0
SameLock m n = n.lock ≡ m.lock

abbrev pub SameBuffers : Memory → Memory → Type 0
SameBuffers m n = n.buffers ≡ m.buffers

-- ---- one part set, the others left: of the cells
abbrev pub WithUsedLaw : Type 0
WithUsedLaw =
    (m : Memory) (s : ℕ) →
    let n = with_used m s in
    (n.used ≡ s) × (n.marks ≡ m.marks) × (n.field0 ≡ m.field0) × (n.field1 ≡ m.field1) × SameCounts m n × SameSenses m n × SameLock m n × SameBuffers m n

abbrev pub WithMarksLaw : Type 0
WithMarksLaw =
    (m : Memory) (b : ℕ) →
    let n = with_marks m b in
    (n.used ≡ m.used) × (n.marks ≡ b) × (n.field0 ≡ m.field0) × (n.field1 ≡ m.field1) × SameCounts m n × SameSenses m n × SameLock m n × SameBuffers m n

abbrev pub WithField0Law : Type 0
WithField0Law =
    (m : Memory) (vs : List ℕ) →
    let n = with_field0 m vs in
    (n.used ≡ m.used) × (n.marks ≡ m.marks) × (n.field0 ≡ vs) × (n.field1 ≡ m.field1) × SameCounts m n × SameSenses m n × SameLock m n × SameBuffers m n

abbrev pub WithField1Law : Type 0
WithField1Law =
    (m : Memory) (vs : List ℕ) →
    let n = with_field1 m vs in
    (n.used ≡ m.used) × (n.marks ≡ m.marks) × (n.field0 ≡ m.field0) × (n.field1 ≡ vs) × SameCounts m n × SameSenses m n × SameLock m n × SameBuffers m n

-- of the senses and the phase
abbrev pub WithSenseLaw : Type 0
WithSenseLaw =
    (m : Memory) (b : Bool) →
    let n = with_sense m b in
    (n.fm ≡ b) × (n.fa ≡ m.fa) × (n.phase ≡ m.phase) × SameCounts m n × SameCells m n × SameLock m n × SameBuffers m n

abbrev pub WithAllocSenseLaw : Type 0
WithAllocSenseLaw =
    (m : Memory) (b : Bool) →
    let n = with_alloc_sense m b in
    (n.fm ≡ m.fm) × (n.fa ≡ b) × (n.phase ≡ m.phase) × SameCounts m n × SameCells m n × SameLock m n × SameBuffers m n

abbrev pub WithPhaseLaw : Type 0
WithPhaseLaw =
    (m : Memory) (p : Phase) →
    let n = with_phase m p in
    (n.fm ≡ m.fm) × (n.fa ≡ m.fa) × (n.phase.phase ≡ p) × SameCounts m n × SameCells m n × SameLock m n × SameBuffers m n

-- of the lock, and of the buffers
abbrev pub WithLockLaw : Type 0
WithLockLaw =
    (m : Memory) (k : ℕ) →
    let n = with_lock m k in
    (n.lock ≡ k) × SameCounts m n × SameCells m n × SameSenses m n × SameBuffers m n

abbrev pub WithBuffersLaw : Type 0
WithBuffersLaw =
    (m : Memory) (bs : List Buffer) →
    let n = with_buffers m bs in
    (n.buffers ≡ bs) × SameCounts m n × SameCells m n × SameSenses m n × SameLock m n

-- ---- one buffer: it is there now, the others are as before, and so is all else
abbrev pub WithBufferHere : Type 0
WithBufferHere = (m : Memory) (p : ℕ) (b : Buffer) → p < length m.buffers → buffer_of (with_buffer m p b) p ≡ b

abbrev pub WithBufferThere : Type 0
WithBufferThere = (m : Memory) (p o : ℕ) (b : Buffer) → (o ≡ p → ⊥) → buffer_of (with_buffer m p b) o ≡ buffer_of m o

abbrev pub WithBufferLeaves : Type 0
WithBufferLeaves =
    (m : Memory) (p : ℕ) (b : Buffer) →
    let n = with_buffer m p b in
    SameCounts m n × SameCells m n × SameSenses m n × SameLock m n × (length n.buffers ≡ length m.buffers)

-- past the last process nothing changes
abbrev pub WithBufferPast : Type 0
WithBufferPast = (m : Memory) (p : ℕ) (b : Buffer) → length m.buffers ≤ p → with_buffer m p b ≡ m
