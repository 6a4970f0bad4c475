-- "Held: roots, honorary roots, targets and values of pending field stores". Null is not held. Assumes nothing.
use Rattle.std.specs.Prelude.{◌≡◌, ℕ, ◌<◌, get_or, fold}
use Rattle.cells.specs.Sets.{no_cells, Member, union_of, add_of}
use Rattle.buffers.specs.declared.Store.{Store}
use Rattle.buffers.specs.declared.Store.TheVariants as store
use Rattle.buffers.specs.declared.Entry.{Entry}
use Rattle.buffers.specs.declared.Buffer.{Buffer}
use Rattle.buffers.specs.Stores.{no_entry}
use Rattle.buffers.specs.Buffers.{pending_of}
use Rattle.memory.specs.declared.Memory.{Memory}
use Rattle.memory.specs.Memories.{buffer_of}
use Rattle.state.specs.declared.Process.{Process}
use Rattle.state.specs.declared.State.{State}
use Rattle.state.specs.States.{process_of}

-- the i-th pending store of process p, "oldest store first", from 0; past the last, the empty store
abbrev pub store_at : State → ℕ → ℕ → Store
store_at s p i = (get_or (pending_of (buffer_of s.memory p)) i no_entry).store

-- c is held: a root, an honorary root ("the old value read by a running store"), the target or the value of a pending
-- field store, of any process.
-- The collector of a well-formed state has neither roots nor an old value. Work lists and pending marks hold nothing
-- (reading 8).
pub data Held (s : State) (c : ℕ) : Type 0 where
  root : (p : ℕ) → Member (process_of s p).roots c → Held s c
  honorary : (p : ℕ) → (process_of s p).old ≡ c → 0 < c → Held s c
  target : (p i f v : ℕ) → store_at s p i ≡ store.Field c f v → 0 < c → Held s c
  value : (p i d f : ℕ) → store_at s p i ≡ store.Field d f c → 0 < c → Held s c

-- ---- the same as a set: what a process adds, what a pending store adds, what a buffer adds
abbrev pub with_process_held : ℕ → Process → ℕ
with_process_held h q = add_of (union_of h q.roots) q.old

abbrev pub with_store_of : ℕ → Store → ℕ
with_store_of h (store.Mark cell bit) = h
with_store_of h (store.Field c f v) = add_of (add_of h c) v
with_store_of h (store.Sense bit) = h
with_store_of h (store.AllocSense bit) = h
with_store_of h (store.Phase phase) = h

abbrev pub with_entry_of : ℕ → Entry → ℕ
with_entry_of h e = with_store_of h e.store

abbrev pub with_buffer_of : ℕ → Buffer → ℕ
with_buffer_of h b = fold with_entry_of h (pending_of b)

-- all processes, then all buffers
unfoldable pub of_processes_of : State → ℕ
of_processes_of s = fold with_process_held no_cells s.procs

unfoldable pub of_buffers_of : ℕ → Memory → ℕ
of_buffers_of h m = fold with_buffer_of h m.buffers

unfoldable pub held_of : State → ℕ
held_of s = of_buffers_of (of_processes_of s) s.memory
