-- What is pending, by membership and not by its place in the buffer; "Held: roots, honorary roots, targets and values
-- of pending field stores", process by process. Assumes nothing.
use Rattle.std.specs.Prelude.{◌≡◌, ℕ, ◌≤◌, ◌<◌}
use mathlib.Core.List.{List, Memᴰ}
use Rattle.cells.specs.Sets.{Member}
use Rattle.buffers.specs.declared.Store.{Store}
use Rattle.buffers.specs.declared.Store.TheVariants as store
use Rattle.buffers.specs.declared.Entry.{Entry}
use Rattle.state.specs.declared.Process.{Process}
use Rattle.state.specs.declared.State.{State}
use Rattle.state.specs.States.{mutators_of, process_of}
use Rattle.claims.specs.Pending.{waiting_of}

-- a store of the list is v
pub data StoreIn (l : List Entry) (v : Store) : Type 0 where
  pends : (e : Entry) → Memᴰ e l → e.store ≡ v → StoreIn l v

-- a store of v to field f of c is among the pending ones
abbrev pub FieldIn : List Entry → ℕ → ℕ → ℕ → Type 0
FieldIn l c f v = StoreIn l (store.Field c f v)

-- no store to a field is
abbrev pub NoField : List Entry → Type 0
NoField l = (c f v : ℕ) → FieldIn l c f v → ⊥

-- held by q, whose pending stores are l
pub data HeldBy (q : Process) (l : List Entry) (c : ℕ) : Type 0 where
  root : Member q.roots c → HeldBy q l c
  honorary : q.old ≡ c → 0 < c → HeldBy q l c
  target : (f v : ℕ) → FieldIn l c f v → HeldBy q l c
  value : (d f : ℕ) → FieldIn l d f c → 0 < c → HeldBy q l c

-- .. by process p
abbrev pub HeldAt : State → ℕ → ℕ → Type 0
HeldAt s p c = HeldBy (process_of s p) (waiting_of s p) c

-- of every mutator
abbrev pub Every : State → (Process → Type 0) → Type 0
Every s P = (m : ℕ) → 0 < m → m ≤ mutators_of s → P (process_of s m)
