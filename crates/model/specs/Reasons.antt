-- "When the judge says no": the eleven reasons, each as a predicate of state and choice, in document 01's words.
-- Checks run in number order: the number given is that of the first reason that holds (`Refused` of crate `engine`).
-- Assumes nothing.
use Rattle.std.specs.Prelude.{◌≡◌, true, false, List, [], ◌∷◌, ℕ, ◌+◌, ◌≤◌, ◌<◌, length}
use Rattle.buffers.specs.declared.Spot.{Spot}
use Rattle.buffers.specs.declared.Spot.TheVariants as spot
use Rattle.buffers.specs.declared.Store.{Store}
use Rattle.buffers.specs.declared.Entry.{Entry}
use Rattle.buffers.specs.Stores.{spot_of}
use Rattle.buffers.specs.Buffers.{max_stores, pending_of}
use Rattle.memory.specs.declared.Memory.{Memory}
use Rattle.memory.specs.Memories.{used_of, buffer_of}
use Rattle.state.specs.declared.Process.{Process}
use Rattle.state.specs.declared.State.{State}
use Rattle.state.specs.declared.Choice.{Choice}
use Rattle.state.specs.Codes.{top}
use Rattle.state.specs.States.{mutators_of, process_of}
use Rattle.formed.specs.Fits.{WellFormed}
use Rattle.model.specs.Offers.{Bare, AmongOffered, offer_of}
use Rattle.model.specs.Deeds.{Deed, reads, sweeps, writes, fences, locks, unlocks, allocates, frees, deed_of}

-- the process that the choice names, and its pending stores, oldest first
abbrev pub mover : State → Choice → Process
mover s c = process_of s c.process

abbrev pub waiting : State → Choice → List Entry
waiting s c = pending_of (buffer_of s.memory c.process)

-- an own step that does d; a commit
abbrev pub Own : State → Choice → Deed → Type 0
Own s c d = (c.kind ≡ 0) × (deed_of c (mover s c) ≡ d)

abbrev pub Commit : Choice → Type 0
Commit c = c.kind ≡ 1

-- "A process is blocked while another holds the lock."
pub record Blocked (m : Memory) (p : ℕ) : Type 0 where
  pub held : m.lock ≡ 0 → ⊥
  pub other : m.lock ≡ p + 1 → ⊥

-- the spot is a mark or a field of a cell that is free
abbrev pub OnFree : Memory → Spot → Type 0
OnFree m (spot.Mark c) = used_of m c ≡ false
OnFree m (spot.Field c f) = used_of m c ≡ false
OnFree m spot.Sense = ⊥
OnFree m spot.AllocSense = ⊥
OnFree m spot.Phase = ⊥

-- 4: an argument that is not offered; a commit offers none
pub data NotOffered (s : State) (c : Choice) : Type 0 where
  own : c.kind ≡ 0 → (AmongOffered s.memory.cells c (mover s c) (offer_of (mover s c)) → ⊥) → NotOffered s c
  commit : Commit c → (Bare c → ⊥) → NotOffered s c

-- 6: "operation 5, flag down"
pub record FlagDown (s : State) (c : Choice) : Type 0 where
  pub kind : c.kind ≡ 0
  pub place : (mover s c).place ≡ top
  pub op : c.op ≡ 5
  pub flag : (mover s c).part.raised ≡ false

-- 7: "a memory or own-buffer read, commit, allocation or free while blocked; a lock step while any process holds
--    the lock"
pub data Hindered (s : State) (c : Choice) : Type 0 where
  reading : {at : Spot} → Own s c (reads at) → Blocked s.memory c.process → Hindered s c
  sweeping : {x : ℕ} → Own s c (sweeps x) → Blocked s.memory c.process → Hindered s c
  allocating : {x : ℕ} → Own s c (allocates x) → Blocked s.memory c.process → Hindered s c
  freeing : {x : ℕ} → Own s c (frees x) → Blocked s.memory c.process → Hindered s c
  committing : Commit c → Blocked s.memory c.process → Hindered s c
  locking : Own s c locks → (s.memory.lock ≡ 0 → ⊥) → Hindered s c

-- 8: "fence or unlock, own buffer not empty"
pub data Waits (s : State) (c : Choice) : Type 0 where
  fencing : Own s c fences → (waiting s c ≡ [] → ⊥) → Waits s c
  unlocking : Own s c unlocks → (waiting s c ≡ [] → ⊥) → Waits s c

-- 11: "a look, field read, or commit of a mark or field on a free cell (the sweep's look excepted)"
pub data OfFree (s : State) (c : Choice) : Type 0 where
  reading : {at : Spot} → Own s c (reads at) → OnFree s.memory at → OfFree s c
  committing : Commit c → {e : Entry} {l : List Entry} → waiting s c ≡ e ∷ l → OnFree s.memory (spot_of e.store) → OfFree s c

-- reason n
pub data Reason (s : State) (c : Choice) (n : ℕ) : Type 0 where
  -- 1: "the state is malformed"
  malformed : n ≡ 1 → (WellFormed s → ⊥) → Reason s c n
  -- 2: "the process is above M"
  no_process : n ≡ 2 → mutators_of s < c.process → Reason s c n
  -- 3: "the kind is not 0 (own step) or 1 (commit)"
  no_kind : n ≡ 3 → (c.kind ≡ 0 → ⊥) → (c.kind ≡ 1 → ⊥) → Reason s c n
  not_offered : n ≡ 4 → NotOffered s c → Reason s c n
  -- 5: "a commit with an empty buffer"
  none_pending : n ≡ 5 → Commit c → waiting s c ≡ [] → Reason s c n
  flag_down : n ≡ 6 → FlagDown s c → Reason s c n
  blocked : n ≡ 7 → Hindered s c → Reason s c n
  pending : n ≡ 8 → Waits s c → Reason s c n
  -- 9: "a write, 8 stores pending"
  full : n ≡ 9 → {v : Store} → Own s c (writes v) → max_stores ≤ length (waiting s c) → Reason s c n
  -- 10: "allocation of an occupied cell"
  occupied : n ≡ 10 → {x : ℕ} → Own s c (allocates x) → used_of s.memory x ≡ true → Reason s c n
  free : n ≡ 11 → OfFree s c → Reason s c n
