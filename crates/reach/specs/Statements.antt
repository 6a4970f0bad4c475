-- What is proved of the sets: they hold exactly the cells that document 01's words name. Assumes nothing.
use Rattle.std.specs.Prelude.{◌≡◌, true, ◌↔◌, ℕ, ◌^◌, ◌≤◌, ◌<◌}
use Rattle.cells.specs.Sets.{max_set, Member, below_of}
use Rattle.buffers.specs.declared.Store.TheVariants as store
use Rattle.memory.specs.declared.Memory.{Memory}
use Rattle.memory.specs.Memories.{max_cells, used_of, field_of}
use Rattle.state.specs.declared.State.{State}
use Rattle.state.specs.States.{process_of}
use Rattle.reach.specs.Held.{store_at, Held, held_of}
use Rattle.reach.specs.Reach.{Reach, reached_of}

-- the set of the cells held: no number above 64 is in a set, so of such a number it says nothing
abbrev pub HeldExactly : Type 0
HeldExactly = (s : State) (c : ℕ) → c ≤ max_set → Member (held_of s) c ↔ Held s c

-- memory's part of well-formed that reach leans on: at most `max_cells` cells, none occupied above N, no field above N
pub record Bounds (m : Memory) : Type 0 where
  pub cells : m.cells ≤ max_cells
  pub used : below_of m.used m.cells ≡ true
  pub fields : (c f : ℕ) → used_of m c ≡ true → field_of m c f ≤ m.cells

-- the set of the cells reached from a set
abbrev pub ReachedExactly : Type 0
ReachedExactly = (m : Memory) (start : ℕ) → Bounds m → start < 2 ^ max_set → (c : ℕ) → Member (reached_of m start) c ↔ Reach m (Member start) c

-- the state's part: no root, honorary root, target or value above N
pub record Within (s : State) : Type 0 where
  pub memory : Bounds s.memory
  pub roots : (p : ℕ) → below_of (process_of s p).roots s.memory.cells ≡ true
  pub old : (p : ℕ) → (process_of s p).old ≤ s.memory.cells
  pub target : (p i c f v : ℕ) → store_at s p i ≡ store.Field c f v → c ≤ s.memory.cells
  pub value : (p i c f v : ℕ) → store_at s p i ≡ store.Field c f v → v ≤ s.memory.cells

-- the set of the cells reached from those held
abbrev pub HeldReachedExactly : Type 0
HeldReachedExactly = (s : State) → Within s → (c : ℕ) → Member (reached_of s.memory (held_of s)) c ↔ Reach s.memory (Held s) c
