-- What memory promises of each step that can change it: its numbers (Refusals), the effect of a taken one and what it
-- leaves alone (Effects), that a refused one hands the same memory back, and that memory keeps its shape. Statements,
-- proved in proofs/Laws. Assumes nothing.
use Rattle.std.specs.Prelude.{◌≡◌, true, false, ◌↔◌, ◌⊎◌, [], ℕ, ◌+◌, ◌≤◌, ◌<◌, length}
use Rattle.cells.specs.Sets.{add_of, remove_of}
use Rattle.buffers.specs.declared.Entry.{Entry}
use Rattle.buffers.specs.Buffers.{max_stores}
use Rattle.memory.specs.declared.Memory.{Memory}
use Rattle.memory.specs.Memories.{max_cells, max_processes, taken, pending_len_of, blocked_of, allocated_of}
use Rattle.memory.specs.Steps.{write_of, commit_of, fence_of, lock_of, unlock_of, allocate_of, free_of}
use Rattle.memory.specs.Views.{pending_for}
use Rattle.memory.specs.Shapes.{Shaped}
use Rattle.memory.specs.Refusals.{HandsBack, WriteNumbers, CommitNumbers, FenceNumbers, LockNumbers, UnlockNumbers, AllocateNumbers, FreeNumbers}
use Rattle.memory.specs.Effects.{Settled, Written, Committed, Fenced, Locked, Unlocked, Allocated, Freed}

-- "Each owns a FIFO buffer of at most 8 pending stores": a process that is not there has none
pub record PendingLaw (m : Memory) (p : ℕ) : Type 0 where
  pub fits : Shaped m → length (pending_for m p) ≤ max_stores
  pub count : Shaped m → length (pending_for m p) ≡ pending_len_of m p
  pub absent : Shaped m → max_processes ≤ p → pending_for m p ≡ []

abbrev pub PendingLaws : Type 0
PendingLaws = (m : Memory) (p : ℕ) → PendingLaw m p

-- "A write appends."
pub record WriteLaw (m : Memory) (p : ℕ) (e : Entry) : Type 0 where
  pub numbers : Shaped m → WriteNumbers m p e
  pub effect : (n : Memory) → Shaped m → write_of m p e ≡ taken n → Written m p e n
  pub settled : (n : Memory) → write_of m p e ≡ taken n → Settled m n
  pub refused : HandsBack m (write_of m p e)
  pub shaped : Shaped m → Shaped (write_of m p e).memory

abbrev pub WriteLaws : Type 0
WriteLaws = (m : Memory) (p : ℕ) (e : Entry) → WriteLaw m p e

-- "A commit applies one's oldest store, unblocked."
pub record CommitLaw (m : Memory) (p : ℕ) : Type 0 where
  pub numbers : Shaped m → CommitNumbers m p
  pub effect : (n : Memory) → Shaped m → commit_of m p ≡ taken n → Committed m p n
  pub settled : (n : Memory) → commit_of m p ≡ taken n → Settled m n
  pub refused : HandsBack m (commit_of m p)
  pub shaped : Shaped m → Shaped (commit_of m p).memory

abbrev pub CommitLaws : Type 0
CommitLaws = (m : Memory) (p : ℕ) → CommitLaw m p

-- "A fence needs one's own buffer empty."
pub record FenceLaw (m : Memory) (p : ℕ) : Type 0 where
  pub numbers : Shaped m → FenceNumbers m p
  pub effect : (n : Memory) → Shaped m → fence_of m p ≡ taken n → Fenced m p n
  -- taken or refused
  pub same : (fence_of m p).memory ≡ m

abbrev pub FenceLaws : Type 0
FenceLaws = (m : Memory) (p : ℕ) → FenceLaw m p

-- "A process is blocked while another holds the lock."
abbrev pub BlockedExactly : Type 0
BlockedExactly = (m : Memory) (p : ℕ) → blocked_of m p ≡ true ↔ ((m.lock ≡ 0 → ⊥) × (m.lock ≡ p + 1 → ⊥))

abbrev pub UnblockedExactly : Type 0
UnblockedExactly = (m : Memory) (p : ℕ) → blocked_of m p ≡ false ↔ ((m.lock ≡ 0) ⊎ (m.lock ≡ p + 1))

-- "Lock needs the lock free."
pub record LockLaw (m : Memory) (p : ℕ) : Type 0 where
  pub numbers : LockNumbers m p
  pub effect : (n : Memory) → lock_of m p ≡ taken n → Locked m p n
  pub refused : HandsBack m (lock_of m p)
  pub shaped : Shaped m → Shaped (lock_of m p).memory

abbrev pub LockLaws : Type 0
LockLaws = (m : Memory) (p : ℕ) → LockLaw m p

-- "Unlock needs one's own buffer empty and leaves the lock with nobody."
pub record UnlockLaw (m : Memory) (p : ℕ) : Type 0 where
  pub numbers : Shaped m → UnlockNumbers m p
  pub effect : (n : Memory) → Shaped m → unlock_of m p ≡ taken n → Unlocked m p n
  pub settled : (n : Memory) → unlock_of m p ≡ taken n → Settled m n
  pub refused : HandsBack m (unlock_of m p)
  pub shaped : Shaped m → Shaped (unlock_of m p).memory

abbrev pub UnlockLaws : Type 0
UnlockLaws = (m : Memory) (p : ℕ) → UnlockLaw m p

-- "Allocation and freeing act on memory at once, unblocked."
pub record AllocateLaw (m : Memory) (p c : ℕ) : Type 0 where
  pub numbers : AllocateNumbers m p c
  pub effect : (n : Memory) → Shaped m → 0 < c → c ≤ max_cells → allocate_of m p c ≡ taken n → Allocated m p c n
  pub used : (n : Memory) → allocate_of m p c ≡ taken n → n.used ≡ add_of m.used c
  pub counts : (n : Memory) → allocate_of m p c ≡ taken n → (n.cells ≡ m.cells) × (n.processes ≡ m.processes)
  pub refused : HandsBack m (allocate_of m p c)
  pub shaped : Shaped m → c ≤ max_cells → Shaped (allocate_of m p c).memory

abbrev pub AllocateLaws : Type 0
AllocateLaws = (m : Memory) (p c : ℕ) → AllocateLaw m p c

pub record FreeLaw (m : Memory) (p c : ℕ) : Type 0 where
  pub numbers : FreeNumbers m p c
  pub effect : (n : Memory) → Shaped m → 0 < c → c ≤ max_cells → free_of m p c ≡ taken n → Freed m p c n
  pub used : (n : Memory) → free_of m p c ≡ taken n → n.used ≡ remove_of m.used c
  pub counts : (n : Memory) → free_of m p c ≡ taken n → (n.cells ≡ m.cells) × (n.processes ≡ m.processes)
  pub refused : HandsBack m (free_of m p c)
  pub shaped : Shaped m → Shaped (free_of m p c).memory

abbrev pub FreeLaws : Type 0
FreeLaws = (m : Memory) (p c : ℕ) → FreeLaw m p c

-- "Room in a buffer is usable again after each commit": its process can write
abbrev pub RoomAgain : Type 0
RoomAgain = (m n : Memory) (p : ℕ) (e : Entry) → Shaped m → commit_of m p ≡ taken n → write_of n p e ≡ taken (write_of n p e).memory

-- "a freed cell may be allocated again", by any process that is not blocked
abbrev pub CellAgain : Type 0
CellAgain =
    (m n : Memory) (p q c : ℕ) → Shaped m → 0 < c → c ≤ max_cells → free_of m p c ≡ taken n → blocked_of n q ≡ false
    → allocate_of n q c ≡ taken (allocated_of n c)
