-- The header of a log as bytes, written from a heap in a version: "Bytes 4D 47 54 ("MGT"), a 16-bit version 1
-- (little-endian, as all here), N, M; per cell: occupied (0 or 1), field 0, field 1; per mutator a 32-bit root set, bit
-- 0 for cell 1." "Version 2 logs carry root sets of 64 bits". And what is proved of them, each statement by its name. Assumes nothing.
use Rattle.std.specs.Prelude.{◌≡◌, List, [], ◌∷◌, ◌++◌, ◌↔◌, ℕ, zero, suc, ◌-◌, ◌/◌, ◌%◌, ◌≤◌, ◌<◌, ltb, length, get_or}
use Rattle.base.specs.Pick.{pick, listed}
use Rattle.cells.specs.Sets.{no_cells, member_of}
use Rattle.memory.specs.Memories.{max_mutators}
use Rattle.state.specs.declared.State.{State}
use Rattle.state.specs.declared.opening.Heap.{Heap}
use Rattle.state.specs.Openings.{roots_at, opening_of}
use Rattle.formed.specs.Fits.{HeapFits}
use Rattle.header.specs.Bytes.{per_byte, byte_at}
use Rattle.header.specs.Header.{max_log, letter_m, letter_g, letter_t, version2, roots_size_of, most_cells_of, size_of, heap_of}
use Rattle.header.specs.Admitted.{IsVersion, Admitted, Sound}

-- ---- bytes
-- "little-endian, as all here": a number in w bytes, the lowest first
abbrev pub little_of : ℕ → ℕ → List ℕ
little_of zero v = []
little_of (suc w) v = v % per_byte ∷ little_of w (v / per_byte)

-- what f gives for 0, 1, .. n - 1, one after the other
abbrev pub in_turn : ℕ → (ℕ → List ℕ) → List ℕ
in_turn zero f = []
in_turn (suc n) f = in_turn n f ++ f n

-- each number of the list is a byte; past the end byte_at is 0
abbrev pub Bytes : List ℕ → Type 0
Bytes l = (i : ℕ) → byte_at l i < per_byte

-- ---- the header of a heap
-- "a 16-bit version"
abbrev pub version_size : ℕ
version_size = 2

-- M
abbrev pub heap_mutators : Heap → ℕ
heap_mutators h = h.processes - 1

-- "occupied (0 or 1), field 0, field 1": the cell i + 1
abbrev pub cell_bytes : Heap → ℕ → List ℕ
cell_bytes h i = pick (member_of h.used (suc i)) 1 0 ∷ get_or h.field0 i 0 ∷ get_or h.field1 i 0 ∷ []

-- "a .. root set, bit 0 for cell 1": the mutator k + 1
abbrev pub roots_bytes : ℕ → Heap → ℕ → List ℕ
roots_bytes v h k = little_of (roots_size_of v) (roots_at h k)

-- ""MGT", a 16-bit version .., N, M"
abbrev pub front_bytes : ℕ → Heap → List ℕ
front_bytes v h = (letter_m ∷ letter_g ∷ letter_t ∷ []) ++ (little_of version_size v ++ (h.cells ∷ heap_mutators h ∷ []))

-- "per cell: ..; per mutator .."
unfoldable pub bytes_of : ℕ → Heap → List ℕ
bytes_of v h = front_bytes v h ++ (in_turn h.cells (cell_bytes h) ++ in_turn (heap_mutators h) (roots_bytes v h))

-- the heap can be said in version v
pub record SaidIn (v : ℕ) (h : Heap) : Type 0 where
  pub version : IsVersion v
  pub fits : HeapFits h
  pub few_cells : h.cells ≤ most_cells_of v

-- ---- what is proved of it
-- every heap that keeps the header's rules can be said in version 2
abbrev pub SaidInTwo : Type 0
SaidInTwo = (h : Heap) → HeapFits h → SaidIn version2 h

-- each of them is a byte
abbrev pub WrittenBytes : Type 0
WrittenBytes = (v : ℕ) (h : Heap) → SaidIn v h → Bytes (bytes_of v h)

-- a log that begins with them is admitted, with any records after them, and its header is these bytes
abbrev pub WrittenAdmitted : Type 0
WrittenAdmitted = (v : ℕ) (h : Heap) (records : List ℕ) → SaidIn v h → length (bytes_of v h ++ records) ≤ max_log → Admitted (bytes_of v h ++ records)

abbrev pub WrittenSize : Type 0
WrittenSize = (v : ℕ) (h : Heap) (records : List ℕ) → IsVersion v → size_of (bytes_of v h ++ records) ≡ length (bytes_of v h)

-- the heap without what no byte says: roots above M
abbrev pub roots_said : Heap → ℕ → ℕ
roots_said h k = pick (ltb k (heap_mutators h)) (roots_at h k) no_cells

unfoldable pub as_said : Heap → Heap
as_said h =
    record { cells = h.cells; processes = h.processes; used = h.used; field0 = h.field0; field1 = h.field1; roots = listed max_mutators (roots_said h) }

-- read again they give that heap; an opening needs no more of it
abbrev pub WrittenSaid : Type 0
WrittenSaid = (v : ℕ) (h : Heap) (records : List ℕ) → SaidIn v h → heap_of (bytes_of v h ++ records) ≡ as_said h

abbrev pub SaidOpens : Type 0
SaidOpens = (h : Heap) → opening_of (as_said h) ≡ opening_of h

-- and where no roots stand above M, it is the heap itself
abbrev pub WrittenRead : Type 0
WrittenRead = (v : ℕ) (h : Heap) (records : List ℕ) → SaidIn v h → Sound h → heap_of (bytes_of v h ++ records) ≡ h

-- ---- "any opening heap the header rules admit", both ways
-- an admitted log of bytes
pub record Opens (log : List ℕ) : Type 0 where
  pub bytes : Bytes log
  pub admitted : Admitted log

-- the heaps that are sound are those of such logs
abbrev pub HeapsExactly : Type 0
HeapsExactly = (h : Heap) → Sound h ↔ ((log : List ℕ) × Opens log × (heap_of log ≡ h))

-- the openings of the heaps that keep the header's rules are those of such logs
abbrev pub OpeningsExactly : Type 0
OpeningsExactly = (s : State) → ((h : Heap) × HeapFits h × (opening_of h ≡ s)) ↔ ((log : List ℕ) × Opens log × (opening_of (heap_of log) ≡ s))
