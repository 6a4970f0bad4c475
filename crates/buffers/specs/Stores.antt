-- What a store writes, and the value that it holds. Assumes nothing.
use Rattle.std.specs.Prelude.{Bool, false, ℕ, eqb}
use Rattle.base.specs.Every.{◌and◌}
use Rattle.buffers.specs.declared.Phase.{Phase}
use Rattle.buffers.specs.declared.Phase.TheVariants as phase
use Rattle.buffers.specs.declared.Store.{Store}
use Rattle.buffers.specs.declared.Store.TheVariants as store
use Rattle.buffers.specs.declared.Spot.{Spot}
use Rattle.buffers.specs.declared.Spot.TheVariants as spot
use Rattle.buffers.specs.declared.Entry.{Entry}

-- "something unused not zero": an unused entry is the first kind of store at zeros
abbrev pub no_store : Store
no_store = store.Mark 0 false

abbrev pub no_entry : Entry
no_entry = record { store = no_store }

-- "A pending store is a mark, a field, fM, fA or phase": the spot that it writes
abbrev pub spot_of : Store → Spot
spot_of (store.Mark cell bit) = spot.Mark cell
spot_of (store.Field cell field value) = spot.Field cell field
spot_of (store.Sense bit) = spot.Sense
spot_of (store.AllocSense bit) = spot.AllocSense
spot_of (store.Phase phase) = spot.Phase

-- a spot's kind, its cell and its field, 0 where it has none: together they name it
abbrev pub kind_of : Spot → ℕ
kind_of (spot.Mark cell) = 0
kind_of (spot.Field cell field) = 1
kind_of spot.Sense = 2
kind_of spot.AllocSense = 3
kind_of spot.Phase = 4

abbrev pub spot_cell_of : Spot → ℕ
spot_cell_of (spot.Mark cell) = cell
spot_cell_of (spot.Field cell field) = cell
spot_cell_of spot.Sense = 0
spot_cell_of spot.AllocSense = 0
spot_cell_of spot.Phase = 0

abbrev pub spot_field_of : Spot → ℕ
spot_field_of (spot.Mark cell) = 0
spot_field_of (spot.Field cell field) = field
spot_field_of spot.Sense = 0
spot_field_of spot.AllocSense = 0
spot_field_of spot.Phase = 0

abbrev pub same_spot : Spot → Spot → Bool
same_spot a b = eqb (kind_of a) (kind_of b) and eqb (spot_cell_of a) (spot_cell_of b) and eqb (spot_field_of a) (spot_field_of b)

-- "matching store": one that writes the spot
unfoldable pub hits_of : Spot → Store → Bool
hits_of at s = same_spot (spot_of s) at

-- "with its value": the bit, the field's value or the phase of a store, zero where it has none
abbrev pub bit_of : Store → Bool
bit_of (store.Mark cell bit) = bit
bit_of (store.Field cell field value) = false
bit_of (store.Sense bit) = bit
bit_of (store.AllocSense bit) = bit
bit_of (store.Phase phase) = false

abbrev pub value_of : Store → ℕ
value_of (store.Mark cell bit) = 0
value_of (store.Field cell field value) = value
value_of (store.Sense bit) = 0
value_of (store.AllocSense bit) = 0
value_of (store.Phase phase) = 0

abbrev pub phase_of : Store → Phase
phase_of (store.Mark cell bit) = phase.Idle
phase_of (store.Field cell field value) = phase.Idle
phase_of (store.Sense bit) = phase.Idle
phase_of (store.AllocSense bit) = phase.Idle
phase_of (store.Phase p) = p
