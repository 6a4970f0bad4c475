-- Refusal 1, as far as a buffer goes: "a .. cell .. or buffer length out of range, or something unused not zero".
-- Assumes nothing.
-- `BufferFits` says it as facts, `buffer_fits_of` as the test that the code makes; proofs/Wells has that the two agree.
-- What a field's value may be is not said here: it is a plain byte.
use Rattle.std.specs.Prelude.{◌≡◌, Bool, true, false, not, ℕ, ◌≤◌, ◌<◌, eqb, ltb, leb, length, get_or}
use Rattle.base.specs.Pick.{pick}
use Rattle.base.specs.Every.{◌and◌, every}
use Rattle.buffers.specs.declared.Store.{Store}
use Rattle.buffers.specs.declared.Store.TheVariants as store
use Rattle.buffers.specs.declared.Entry.{Entry}
use Rattle.buffers.specs.declared.Buffer.{Buffer}
use Rattle.buffers.specs.Stores.{no_entry}
use Rattle.buffers.specs.Buffers.{max_stores}

-- "A cell is .. occupied with a mark bit and two fields."
abbrev pub max_fields : ℕ
max_fields = 2

-- ---- as facts
-- "Cells 1..N"; "0 is null"
abbrev pub IsCell : ℕ → ℕ → Type 0
IsCell n c = (0 < c) × (c ≤ n)

-- a store fits where its cell is one of 1..N and its field is one of the two; fM, fA and the phase always do
abbrev pub StoreFits : ℕ → Store → Type 0
StoreFits n (store.Mark cell bit) = IsCell n cell
StoreFits n (store.Field cell field value) = IsCell n cell × (field < max_fields)
StoreFits n (store.Sense bit) = Unit {0}
StoreFits n (store.AllocSense bit) = Unit {0}
StoreFits n (store.Phase phase) = Unit {0}

-- the entry at place i
abbrev pub entry_of : Buffer → ℕ → Entry
entry_of b i = get_or b.entries i no_entry

pub record BufferFits (n : ℕ) (b : Buffer) : Type 0 where
  -- the array has its length
  pub sized : length b.entries ≡ max_stores
  -- "buffer length out of range": "at most 8 pending stores"
  pub within : b.len ≤ max_stores
  -- "a .. cell .. out of range": of a pending store
  pub pending : (i : ℕ) → i < b.len → StoreFits n (entry_of b i).store
  -- "something unused not zero": "entries past a buffer's length"
  pub unused : (i : ℕ) → b.len ≤ i → entry_of b i ≡ no_entry

-- ---- as a test
abbrev pub is_cell_of : ℕ → ℕ → Bool
is_cell_of n c = ltb 0 c and leb c n

abbrev pub store_fits_of : ℕ → Store → Bool
store_fits_of n (store.Mark cell bit) = is_cell_of n cell
store_fits_of n (store.Field cell field value) = is_cell_of n cell and ltb field max_fields
store_fits_of n (store.Sense bit) = true
store_fits_of n (store.AllocSense bit) = true
store_fits_of n (store.Phase phase) = true

abbrev pub store_empty_of : Store → Bool
store_empty_of (store.Mark cell bit) = eqb cell 0 and not bit
store_empty_of (store.Field cell field value) = false
store_empty_of (store.Sense bit) = false
store_empty_of (store.AllocSense bit) = false
store_empty_of (store.Phase phase) = false

abbrev pub entry_fits_of : ℕ → ℕ → ℕ → Entry → Bool
entry_fits_of n len i e = pick (ltb i len) (store_fits_of n e.store) (store_empty_of e.store)

abbrev pub entry_at_of : ℕ → Buffer → ℕ → Bool
entry_at_of n b i = entry_fits_of n b.len i (entry_of b i)

unfoldable pub buffer_fits_of : ℕ → Buffer → Bool
buffer_fits_of n b = eqb (length b.entries) max_stores and leb b.len max_stores and every max_stores (entry_at_of n b)
