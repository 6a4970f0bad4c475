-- Refusal 1, as far as memory goes: "the state is malformed: a count, cell, process, set, .. or buffer length out of
-- range, or something unused not zero. Unused: a free cell's mark and fields, cells above N, processes above M,
-- entries past a buffer's length". Assumes nothing.
-- `MemoryFormed` says it as facts, `memory_formed_of` as the test that the code makes; proofs/Wells has that the two agree.
-- What a field's value may be is not said here: it is a plain byte.
use Rattle.std.specs.Prelude.{◌≡◌, Bool, true, false, ℕ, ◌+◌, ◌≤◌, ◌<◌, eqb, ltb, leb, length}
use Rattle.base.specs.Pick.{pick}
use Rattle.base.specs.Every.{◌and◌, every}
use Rattle.cells.specs.Sets.{is_none, minus_of, below_of}
use Rattle.buffers.specs.declared.Buffer.{Buffer}
use Rattle.buffers.specs.Buffers.{empty_buffer}
use Rattle.buffers.specs.Fits.{IsCell, BufferFits, buffer_fits_of}
use Rattle.memory.specs.declared.Memory.{Memory}
use Rattle.memory.specs.Memories.{max_cells, max_processes, used_of, mark_of, field_of, buffer_of}

-- N from 1 to 64; "Processes 0 (collector) and 1..M (mutators), M from 1 to 4"
abbrev pub min_cells : ℕ
min_cells = 1

abbrev pub min_processes : ℕ
min_processes = 2

-- ---- as facts
pub record MemoryFormed (m : Memory) : Type 0 where
  -- the arrays have their lengths
  pub field0_sized : length m.field0 ≡ max_cells
  pub field1_sized : length m.field1 ≡ max_cells
  pub buffers_sized : length m.buffers ≡ max_processes
  -- "a count .. out of range"
  pub some_cells : min_cells ≤ m.cells
  pub few_cells : m.cells ≤ max_cells
  pub some_processes : min_processes ≤ m.processes
  pub few_processes : m.processes ≤ max_processes
  -- "a .. set .. out of range": an occupied cell is one of 1..N
  pub used_cells : (c : ℕ) → used_of m c ≡ true → IsCell m.cells c
  -- "a .. process .. out of range": the one that holds the lock
  pub holder : (p : ℕ) → m.lock ≡ p + 1 → p < m.processes
  -- "Unused: a free cell's mark and fields, cells above N", which are free by `used_cells`
  pub free_mark : (c : ℕ) → used_of m c ≡ false → mark_of m c ≡ false
  pub free_field : (c f : ℕ) → used_of m c ≡ false → field_of m c f ≡ 0
  -- "a .. cell .. or buffer length out of range", "entries past a buffer's length"
  pub buffers : (p : ℕ) → p < m.processes → BufferFits m.cells (buffer_of m p)
  -- "processes above M"
  pub process_none : (p : ℕ) → m.processes ≤ p → p < max_processes → buffer_of m p ≡ empty_buffer

-- ---- as a test
unfoldable pub counts_fit_of : Memory → Bool
counts_fit_of m =
    pick (ltb m.cells min_cells) false
    (pick (ltb max_cells m.cells) false
    (pick (ltb m.processes min_processes) false
    (leb m.processes max_processes)))

unfoldable pub cell_fits_of : Memory → ℕ → Bool
cell_fits_of m c = pick (used_of m c) true (eqb (field_of m c 0) 0 and eqb (field_of m c 1) 0)

-- the cell at place i of the arrays
abbrev pub cell_at_of : Memory → ℕ → Bool
cell_at_of m i = cell_fits_of m (i + 1)

unfoldable pub cells_fit_of : Memory → Bool
cells_fit_of m = every max_cells (cell_at_of m)

-- the buffer b as that of p
unfoldable pub held_fits_of : Memory → ℕ → Buffer → Bool
held_fits_of m p b = buffer_fits_of m.cells b and (pick (ltb p m.processes) true (eqb b.len 0))

abbrev pub buffer_at_of : Memory → ℕ → Bool
buffer_at_of m p = held_fits_of m p (buffer_of m p)

unfoldable pub buffers_fit_of : Memory → Bool
buffers_fit_of m = every max_processes (buffer_at_of m)

unfoldable pub fits_of : Memory → Bool
fits_of m =
    counts_fit_of m
    and below_of m.used m.cells
    and is_none (minus_of m.marks m.used)
    and (pick (ltb m.processes m.lock) false
    (cells_fit_of m and buffers_fit_of m))

unfoldable pub sized_of : Memory → Bool
sized_of m =
    eqb (length m.field0) max_cells
    and eqb (length m.field1) max_cells
    and eqb (length m.buffers) max_processes

unfoldable pub memory_formed_of : Memory → Bool
memory_formed_of m = sized_of m and fits_of m
