-- The header of a log as facts, clause by clause in document 01's words: which logs are opened, and what is known of
-- the heap of one that is. Assumes nothing.
use Rattle.std.specs.Prelude.{◌≡◌, false, List, [], ◌∷◌, ◌⊎◌, ℕ, ◌+◌, ◌-◌, ◌≤◌, ◌<◌, length, take}
use Rattle.cells.specs.Sets.{no_cells, member_of, Member}
use Rattle.memory.specs.Memories.{max_mutators}
use Rattle.state.specs.declared.opening.Heap.{Heap}
use Rattle.state.specs.Openings.{roots_at}
use Rattle.formed.specs.Fits.{HeapFits}
use Rattle.header.specs.Header.{max_log, letter_m, letter_g, letter_t, version1, version2, most_cells_of, version_said, cells_said, mutators_said, cell_fields, size_of, occupied_at, field_at, roots_read}

-- "Cells 1..N": cell c stands at c - 1
abbrev pub CellSaid : List ℕ → ℕ → Type 0
CellSaid log c = (0 < c) × (c ≤ cells_said log)

-- "per cell: occupied (0 or 1), field 0, field 1"
abbrev pub said_of : List ℕ → ℕ → ℕ
said_of log c = occupied_at log (c - 1)

abbrev pub field_said : List ℕ → ℕ → ℕ → ℕ
field_said log c f = field_at log (c - 1) f

abbrev pub OccupiedSaid : List ℕ → ℕ → Type 0
OccupiedSaid log c = CellSaid log c × (said_of log c ≡ 1)

abbrev pub FreeSaid : List ℕ → ℕ → Type 0
FreeSaid log c = CellSaid log c × (said_of log c ≡ 0)

-- "per mutator a 32-bit root set, bit 0 for cell 1"; "Version 2 logs carry root sets of 64 bits"
abbrev pub root_set : List ℕ → ℕ → ℕ
root_set log k = roots_read log (cells_said log) k

-- "a 16-bit version 1"; document 02's version 2
abbrev pub IsVersion : ℕ → Type 0
IsVersion v = (v ≡ version1) ⊎ (v ≡ version2)

pub record Admitted (log : List ℕ) : Type 0 where
  -- "A log is at most 65,536 bytes, else stop 12."
  pub not_long : length log ≤ max_log
  -- "Bytes 4D 47 54 ("MGT")"
  pub letters : take 3 log ≡ letter_m ∷ letter_g ∷ letter_t ∷ []
  -- "a 16-bit version 1 (little-endian, as all here)"
  pub version : IsVersion (version_said log)
  -- "N": "Raise N to 64"; "version 1 logs are still read, with N at most 32"
  pub some_cells : 0 < cells_said log
  pub few_cells : cells_said log ≤ most_cells_of (version_said log)
  -- "M": "M from 1 to 4"
  pub some_mutators : 0 < mutators_said log
  pub few_mutators : mutators_said log ≤ max_mutators
  -- "or if short"
  pub not_short : size_of log ≤ length log
  -- "occupied (0 or 1)"
  pub said : (c : ℕ) → CellSaid log c → (said_of log c ≡ 0) ⊎ (said_of log c ≡ 1)
  -- "A field of an occupied cell is 0 or names an occupied cell"
  pub fields : (c f : ℕ) → f < cell_fields → OccupiedSaid log c → (field_said log c f ≡ 0) ⊎ OccupiedSaid log (field_said log c f)
  -- "roots name occupied cells"
  pub roots : (k x : ℕ) → k < mutators_said log → Member (root_set log k) x → OccupiedSaid log x
  -- "a free cell's fields are 0"
  pub free : (c f : ℕ) → f < cell_fields → FreeSaid log c → field_said log c f ≡ 0
  -- "no bit at or above N": bit i is for cell i + 1
  pub within : (k i : ℕ) → k < mutators_said log → cells_said log ≤ i → member_of (root_set log k) (i + 1) ≡ false

-- ---- what an opening needs of its heap: the header's rules, no roots above M, and the length of the array of roots
pub record Sound (h : Heap) : Type 0 where
  pub fits : HeapFits h
  pub no_roots : (p : ℕ) → h.processes ≤ p → roots_at h (p - 1) ≡ no_cells
  pub sized_roots : length h.roots ≡ max_mutators
