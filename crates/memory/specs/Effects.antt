-- What a step that is taken asks, what it changes, and what stays: a record for each, over the memory m before it and
-- the memory n after it. Assumes nothing.
use Rattle.std.specs.Prelude.{◌≡◌, Bool, true, false, List, [], ◌∷◌, ◌++◌, ℕ, ◌+◌, ◌<◌, length}
use Rattle.cells.specs.Sets.{add_of, remove_of}
use Rattle.buffers.specs.declared.Entry.{Entry}
use Rattle.buffers.specs.Stores.{spot_of}
use Rattle.buffers.specs.Buffers.{max_stores}
use Rattle.memory.specs.declared.Memory.{Memory}
use Rattle.memory.specs.Memories.{max_processes, used_of, mark_of, field_of, blocked_of, there_of, applied_of}
use Rattle.memory.specs.Views.{pending_for}

-- the parts of memory that a store can change
pub record Alike (m n : Memory) : Type 0 where
  pub marks : n.marks ≡ m.marks
  pub field0 : n.field0 ≡ m.field0
  pub field1 : n.field1 ≡ m.field1
  pub fm : n.fm ≡ m.fm
  pub fa : n.fa ≡ m.fa
  pub phase : n.phase ≡ m.phase

-- the parts that no store changes
pub record Settled (m n : Memory) : Type 0 where
  pub cells : n.cells ≡ m.cells
  pub processes : n.processes ≡ m.processes
  pub used : n.used ≡ m.used

-- "A write appends": the entry is the last of the writer's list
pub record Written (m : Memory) (p : ℕ) (e : Entry) (n : Memory) : Type 0 where
  pub process : p < max_processes
  pub room : length (pending_for m p) < max_stores
  pub own : pending_for n p ≡ pending_for m p ++ (e ∷ [])
  pub others : (q : ℕ) → (q ≡ p → ⊥) → pending_for n q ≡ pending_for m q
  pub lock : n.lock ≡ m.lock
  pub alike : Alike m n
  pub settled : Settled m n

-- "A commit applies one's oldest store, unblocked": the oldest leaves the list
pub record Committed (m : Memory) (p : ℕ) (n : Memory) : Type 0 where
  pub oldest : Entry
  pub rest : List Entry
  pub process : p < max_processes
  pub unblocked : blocked_of m p ≡ false
  pub there : there_of m (spot_of oldest.store) ≡ true
  pub before : pending_for m p ≡ oldest ∷ rest
  pub own : pending_for n p ≡ rest
  pub others : (q : ℕ) → (q ≡ p → ⊥) → pending_for n q ≡ pending_for m q
  pub lock : n.lock ≡ m.lock
  pub settled : Settled m n
  pub alike : Alike (applied_of m oldest.store) n

-- "A fence needs one's own buffer empty", and changes nothing
pub record Fenced (m : Memory) (p : ℕ) (n : Memory) : Type 0 where
  pub empty : pending_for m p ≡ []
  pub same : n ≡ m

-- the lock alone has changed
pub record Relocked (m : Memory) (k : ℕ) (n : Memory) : Type 0 where
  pub lock : n.lock ≡ k
  pub pending : (q : ℕ) → pending_for n q ≡ pending_for m q
  pub alike : Alike m n
  pub settled : Settled m n

-- "Lock needs the lock free."
pub record Locked (m : Memory) (p : ℕ) (n : Memory) : Type 0 where
  pub free : m.lock ≡ 0
  pub after : Relocked m (p + 1) n

-- "Unlock needs one's own buffer empty and leaves the lock with nobody."
pub record Unlocked (m : Memory) (p : ℕ) (n : Memory) : Type 0 where
  pub empty : pending_for m p ≡ []
  pub after : Relocked m 0 n

-- one cell alone has changed: it is occupied or free from now on, with mark b and null fields
pub record Reset (m : Memory) (c : ℕ) (u b : Bool) (n : Memory) : Type 0 where
  pub used : used_of n c ≡ u
  pub used_others : (d : ℕ) → (d ≡ c → ⊥) → used_of n d ≡ used_of m d
  pub mark : mark_of n c ≡ b
  pub marks_others : (d : ℕ) → (d ≡ c → ⊥) → mark_of n d ≡ mark_of m d
  pub fields : (f : ℕ) → field_of n c f ≡ 0
  pub fields_others : (d f : ℕ) → (d ≡ c → ⊥) → field_of n d f ≡ field_of m d f
  pub fm : n.fm ≡ m.fm
  pub fa : n.fa ≡ m.fa
  pub phase : n.phase ≡ m.phase
  pub lock : n.lock ≡ m.lock
  pub cells : n.cells ≡ m.cells
  pub processes : n.processes ≡ m.processes
  pub pending : (q : ℕ) → pending_for n q ≡ pending_for m q

-- "Allocation and freeing act on memory at once, unblocked": "allocate free cell x (mark = memory's fA, null fields
-- ..)"
pub record Allocated (m : Memory) (p c : ℕ) (n : Memory) : Type 0 where
  pub unblocked : blocked_of m p ≡ false
  pub free : used_of m c ≡ false
  pub used : n.used ≡ add_of m.used c
  pub after : Reset m c true m.fa n

-- "A step zeroes what it stops using": "a free cell's mark and fields"
pub record Freed (m : Memory) (p c : ℕ) (n : Memory) : Type 0 where
  pub unblocked : blocked_of m p ≡ false
  pub used : n.used ≡ remove_of m.used c
  pub after : Reset m c false false n
