-- The header of a log as the code reads it: the tests in their order, and the heap that it gives. `Admitted` says the
-- same as facts; proofs/Agrees has that the two agree. Assumes nothing.
use Rattle.std.specs.Prelude.{Bool, true, false, List, Option, Some, None, ℕ, zero, suc, ◌+◌, ◌*◌, eqb, ltb, leb, length, replicate}
use Rattle.base.specs.Pick.{pick, listed}
use Rattle.base.specs.Every.{◌and◌, every}
use Rattle.base.specs.Refusals.{not_admitted}
use Rattle.cells.specs.Sets.{no_cells, is_none, member_of, add_of, minus_of, below_of}
use Rattle.memory.specs.Memories.{max_cells, max_mutators}
use Rattle.state.specs.declared.opening.Heap.{Heap}
use Rattle.header.specs.Bytes.{byte_at, word_size, wide_size, pair_at, little_at}

-- "A log is at most 65,536 bytes"
abbrev pub max_log : ℕ
max_log = 65536

-- ---- where things stand: "Bytes 4D 47 54 ("MGT"), a 16-bit version .., N, M; per cell: occupied (0 or 1), field 0,
-- field 1; per mutator a .. root set"
abbrev pub letter_m : ℕ
letter_m = 77

abbrev pub letter_g : ℕ
letter_g = 71

abbrev pub letter_t : ℕ
letter_t = 84

abbrev pub version_place : ℕ
version_place = 3

-- document 01's, and document 02's
abbrev pub version1 : ℕ
version1 = 1

abbrev pub version2 : ℕ
version2 = 2

abbrev pub cells_place : ℕ
cells_place = 5

abbrev pub mutators_place : ℕ
mutators_place = 6

abbrev pub heap_place : ℕ
heap_place = 7

-- "A cell is .. occupied with a mark bit and two fields."
abbrev pub cell_fields : ℕ
cell_fields = 2

abbrev pub cell_size : ℕ
cell_size = cell_fields + 1

-- ---- what a version has
-- "a 32-bit root set"; "Version 2 logs carry root sets of 64 bits"
abbrev pub roots_size_of : ℕ → ℕ
roots_size_of v = pick (eqb v version2) wide_size word_size

-- "Raise N to 64", "version 1 logs are still read, with N at most 32": as many as a root set has bits
abbrev pub bits_per_byte : ℕ
bits_per_byte = 8

abbrev pub most_cells_of : ℕ → ℕ
most_cells_of v = bits_per_byte * roots_size_of v

-- ---- the version, N and M
abbrev pub version_said : List ℕ → ℕ
version_said log = pair_at log version_place

abbrev pub cells_said : List ℕ → ℕ
cells_said log = byte_at log cells_place

abbrev pub mutators_said : List ℕ → ℕ
mutators_said log = byte_at log mutators_place

-- cell i + 1, and the roots of mutator k + 1, of w bytes each, after n cells
unfoldable pub cell_place_of : ℕ → ℕ
cell_place_of i = heap_place + cell_size * i

unfoldable pub roots_place_of : ℕ → ℕ → ℕ → ℕ
roots_place_of w n k = cell_place_of n + w * k

-- the bytes of a root set, and of the header
abbrev pub size_of_roots : List ℕ → ℕ
size_of_roots log = roots_size_of (version_said log)

abbrev pub size_of : List ℕ → ℕ
size_of log = roots_place_of (size_of_roots log) (cells_said log) (mutators_said log)

-- ---- what is read of a cell and of a mutator
abbrev pub occupied_at : List ℕ → ℕ → ℕ
occupied_at log i = byte_at log (cell_place_of i)

abbrev pub field_at : List ℕ → ℕ → ℕ → ℕ
field_at log i f = byte_at log (cell_place_of i + 1 + f)

abbrev pub roots_read : List ℕ → ℕ → ℕ → ℕ
roots_read log n k = little_at (size_of_roots log) log (roots_place_of (size_of_roots log) n k)

-- the occupied ones of the first n cells
abbrev pub gained_of : ℕ → ℕ → ℕ → ℕ
gained_of used occupied c = pick (eqb occupied 1) (add_of used c) used

abbrev pub used_among : List ℕ → ℕ → ℕ
used_among log zero = no_cells
used_among log (suc i) = gained_of (used_among log i) (occupied_at log i) (i + 1)

-- ---- the tests
-- "Bytes 4D 47 54", "a 16-bit version": 1 or 2
unfoldable pub is_version_of : ℕ → Bool
is_version_of v = pick (eqb v version1) true (eqb v version2)

unfoldable pub letters_of : List ℕ → Bool
letters_of log =
    eqb (byte_at log 0) letter_m and eqb (byte_at log 1) letter_g and eqb (byte_at log 2) letter_t and is_version_of (version_said log)

-- N from 1 to the most that the version has; "M from 1 to 4"
unfoldable pub counts_of : ℕ → ℕ → ℕ → Bool
counts_of most n m = leb 1 n and leb n most and leb 1 m and leb m max_mutators

-- "is 0 or names an occupied cell"
unfoldable pub names_of : ℕ → ℕ → Bool
names_of used v = pick (eqb v 0) true (member_of used v)

-- "occupied (0 or 1)"; "A field of an occupied cell is 0 or names an occupied cell"; "a free cell's fields are 0"
unfoldable pub cell_said_fits_of : ℕ → ℕ → ℕ → ℕ → Bool
cell_said_fits_of used occupied a b =
    pick (eqb occupied 0) (eqb a 0 and eqb b 0)
    (pick (eqb occupied 1) (names_of used a and names_of used b) false)

abbrev pub cell_said_at_of : List ℕ → ℕ → ℕ → Bool
cell_said_at_of log used i = cell_said_fits_of used (occupied_at log i) (field_at log i 0) (field_at log i 1)

-- "no bit at or above N"; "roots name occupied cells"
unfoldable pub roots_fit_of : ℕ → ℕ → ℕ → Bool
roots_fit_of n used r = below_of r n and is_none (minus_of r used)

abbrev pub roots_at_of : List ℕ → ℕ → ℕ → ℕ → Bool
roots_at_of log n used k = roots_fit_of n used (roots_read log n k)

-- every cell, every root set
unfoldable pub cells_said_fit_of : List ℕ → ℕ → ℕ → Bool
cells_said_fit_of log n used = every n (cell_said_at_of log used)

unfoldable pub all_roots_fit_of : List ℕ → ℕ → ℕ → ℕ → Bool
all_roots_fit_of log n m used = every m (roots_at_of log n used)

unfoldable pub heap_fits_of : List ℕ → ℕ → ℕ → ℕ → Bool
heap_fits_of log n m used = cells_said_fit_of log n used and all_roots_fit_of log n m used

-- "Otherwise, or if short: stop 12."
unfoldable pub admitted_of : List ℕ → Bool
admitted_of log =
    leb (length log) max_log and letters_of log and counts_of (most_cells_of (version_said log)) (cells_said log) (mutators_said log) and leb (size_of log) (length log)
    and heap_fits_of log (cells_said log) (mutators_said log) (used_among log (cells_said log))

-- ---- the heap
-- a field of the cell i + 1, and the roots of mutator k + 1; what is above N or M is zero
abbrev pub field_in_of : List ℕ → ℕ → ℕ → ℕ → ℕ
field_in_of log n f i = pick (ltb i n) (field_at log i f) 0

unfoldable pub fields_of : List ℕ → ℕ → ℕ → List ℕ
fields_of log n f = listed max_cells (field_in_of log n f)

abbrev pub roots_in_of : List ℕ → ℕ → ℕ → ℕ → ℕ
roots_in_of log n m k = pick (ltb k m) (roots_read log n k) no_cells

unfoldable pub roots_of : List ℕ → ℕ → ℕ → List ℕ
roots_of log n m = listed max_mutators (roots_in_of log n m)

unfoldable pub read_heap : List ℕ → ℕ → ℕ → Heap
read_heap log n m =
    record { cells = n; processes = m + 1; used = used_among log n; field0 = fields_of log n 0; field1 = fields_of log n 1; roots = roots_of log n m }

abbrev pub heap_of : List ℕ → Heap
heap_of log = read_heap log (cells_said log) (mutators_said log)

-- the heap of a log that is not opened
abbrev pub no_heap : Heap
no_heap = record { cells = 0; processes = 0; used = no_cells; field0 = replicate max_cells 0; field1 = replicate max_cells 0; roots = replicate max_mutators no_cells }

-- what opening a log gives: 0 and its heap, or 12 and the empty heap
pub record Opened : Type 0 where
  pub no : ℕ
  pub heap : Heap

abbrev pub opened : Heap → Opened
opened h = record { no = 0; heap = h }

abbrev pub unopened : Opened
unopened = record { no = not_admitted; heap = no_heap }

unfoldable pub open_of : List ℕ → Opened
open_of log = pick (admitted_of log) (opened (heap_of log)) unopened

-- the same, of the code's answer: no heap is "stop 12"
abbrev pub told : Option Heap → Opened
told (Some h) = opened h
told None = unopened
