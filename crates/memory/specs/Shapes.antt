-- What memory's laws take for granted of a memory, and the store to be committed first. Assumes nothing.
use Rattle.std.specs.Prelude.{◌≡◌, true, List, [], ◌∷◌, ℕ, ◌≤◌, ◌<◌, length}
use Rattle.buffers.specs.declared.Store.{Store}
use Rattle.buffers.specs.declared.Spot.{Spot}
use Rattle.buffers.specs.declared.Entry.{Entry}
use Rattle.buffers.specs.Stores.{no_store, spot_field_of}
use Rattle.buffers.specs.Sizes.{Sized}
use Rattle.memory.specs.declared.Memory.{Memory}
use Rattle.memory.specs.Memories.{max_cells, max_processes, used_of, buffer_of}

-- arrays have their lengths, buffers are sized, occupied cells are within the arrays. Every step keeps it (Laws).
pub record Shaped (m : Memory) : Type 0 where
  pub field0 : length m.field0 ≡ max_cells
  pub field1 : length m.field1 ≡ max_cells
  pub buffers : length m.buffers ≡ max_processes
  pub sized : (p : ℕ) → p < max_processes → Sized (buffer_of m p)
  pub within : (c : ℕ) → used_of m c ≡ true → c ≤ max_cells

-- "field above 1" is never offered
abbrev pub last_field : ℕ
last_field = 1

-- a spot whose field, if any, is 0 or 1: only those are apart in memory
abbrev pub Plain : Spot → Type 0
Plain at = spot_field_of at ≤ last_field

-- "one's oldest store", of a list with the oldest first; the empty one where nothing is pending
abbrev pub oldest_of : List Entry → Store
oldest_of [] = no_store
oldest_of (e ∷ es) = e.store
