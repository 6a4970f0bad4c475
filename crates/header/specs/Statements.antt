-- What is proved of the header, each statement by its name. Assumes nothing.
use Rattle.std.specs.Prelude.{◌≡◌, true, List, ◌↔◌, ℕ, ◌+◌, ◌-◌, ◌≤◌, ◌<◌, length, get_or, take}
use Rattle.cells.specs.Sets.{Member}
use Rattle.state.specs.declared.opening.Heap.{Heap}
use Rattle.header.specs.Bytes.{byte_at}
use Rattle.header.specs.Header.{max_log, version1, version_said, cells_said, mutators_said, size_of, admitted_of, heap_of, opened, unopened, open_of}
use Rattle.header.specs.Admitted.{CellSaid, OccupiedSaid, field_said, root_set, Admitted, Sound}

-- the tests hold exactly if every clause does
abbrev pub TestedExactly : Type 0
TestedExactly = (log : List ℕ) → (admitted_of log ≡ true) ↔ Admitted log

-- "Otherwise, or if short: stop 12."
abbrev pub OpenedWhere : Type 0
OpenedWhere = (log : List ℕ) → Admitted log → open_of log ≡ opened (heap_of log)

abbrev pub RefusedElse : Type 0
RefusedElse = (log : List ℕ) → (Admitted log → ⊥) → open_of log ≡ unopened

abbrev pub OpenedOnly : Type 0
OpenedOnly = (log : List ℕ) → (open_of log).no ≡ 0 → Admitted log

-- "version 1 logs are still read, with N at most 32"
abbrev pub NarrowRefused : Type 0
NarrowRefused = (log : List ℕ) → version_said log ≡ version1 → 32 < cells_said log → Admitted log → ⊥

-- the heap is the one that the header says
pub record Said (log : List ℕ) (h : Heap) : Type 0 where
  pub cells : h.cells ≡ cells_said log
  pub processes : h.processes ≡ mutators_said log + 1
  pub used : (c : ℕ) → Member h.used c ↔ OccupiedSaid log c
  pub field0 : (c : ℕ) → CellSaid log c → get_or h.field0 (c - 1) 0 ≡ field_said log c 0
  pub field1 : (c : ℕ) → CellSaid log c → get_or h.field1 (c - 1) 0 ≡ field_said log c 1
  pub roots : (k : ℕ) → k < mutators_said log → get_or h.roots k 0 ≡ root_set log k

abbrev pub HeapSaid : Type 0
HeapSaid = (log : List ℕ) → Admitted log → Said log (heap_of log)

-- and an opening can stand on it
abbrev pub HeapSound : Type 0
HeapSound = (log : List ℕ) → Admitted log → Sound (heap_of log)

-- two logs with the same header: the second is as long as the first one's header at least, and has its bytes
pub record SameHeader (log other : List ℕ) : Type 0 where
  pub bytes : (i : ℕ) → i < size_of log → byte_at other i ≡ byte_at log i
  pub not_short : size_of log ≤ length other
  pub not_long : length other ≤ max_log

-- only the header decides what is opened, and the size of the log
pub record SameOpening (log other : List ℕ) : Type 0 where
  pub size : size_of other ≡ size_of log
  pub admitted : Admitted other
  pub heap : heap_of other ≡ heap_of log

abbrev pub HeaderDecides : Type 0
HeaderDecides = (log other : List ℕ) → Admitted log → SameHeader log other → SameOpening log other

-- "or if short": a log cut inside its header
abbrev pub CutInside : Type 0
CutInside = (log : List ℕ) (j : ℕ) → Admitted log → j < size_of log → Admitted (take j log) → ⊥
