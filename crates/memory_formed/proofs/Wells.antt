-- Well-formed memory: the test and the facts agree. Assumes nothing.
--     well_formed_lem      `memory_formed_of` holds exactly if `MemoryFormed` does
use mathlib.Core.Path.{◌≡◌, refl}
use mathlib.Core.Bool.{true, false}
use mathlib.Core.List.{List}
use mathlib.Core.Logic.{◌↔◌, ◌⊎◌, inl, inr}
use Prim.Native.Nat.{ℕ, zero, suc, ◌+◌, ◌-◌, ◌≤◌, ◌<◌}
use native.Mathlib.Decide.{ℕ_discrete, dec_lt}
use native.Mathlib.Numerals.{add-one}
use native.Mathlib.Omega.{arith}
use lib.Dec.{eqb, ltb}
use lib.ListN.{length}
use borrow.Author.Tests.{eqb-true, lt-ltb, le-ltb, ne_eqb}
use Rattle.base.specs.Pick.{pick}
use Rattle.base.specs.Every.{◌and◌}
use Rattle.base.proofs.Choices.{choices}
use Rattle.base.proofs.Everies.{and_both, every_at, every_all}
use Rattle.base.proofs.Lists.{beyond}
use Rattle.cells.specs.Sets.{is_none, Sub, minus_of, below_of}
use Rattle.cells.proofs.Bools.{split, not_both}
use Rattle.cells.proofs.Members.{is_none_true, is_none_empty}
use Rattle.cells.proofs.Subsets.{sub_of_minus, minus_of_sub}
use Rattle.cells.proofs.Belows.{below_range, below_of_lem}
use Rattle.buffers.specs.Buffers.{empty_buffer}
use Rattle.buffers.specs.Fits.{BufferFits, buffer_fits_of}
use Rattle.buffers.proofs.Wells as buffer
use Rattle.memory.specs.declared.Memory.{Memory}
use Rattle.memory.specs.Memories.{max_cells, max_processes, at_cell, used_of, mark_of, field_of, buffer_of}
use Rattle.memory_formed.specs.WellFormed.{min_cells, min_processes, MemoryFormed, counts_fit_of, cell_fits_of, cell_at_of, cells_fit_of, held_fits_of, buffer_at_of, buffers_fit_of, fits_of, sized_of, memory_formed_of}

record Sized (m : Memory) : Type 0 where
  field0 : length m.field0 ≡ max_cells
  field1 : length m.field1 ≡ max_cells
  buffers : length m.buffers ≡ max_processes

record Counts (m : Memory) : Type 0 where
  some_cells : min_cells ≤ m.cells
  few_cells : m.cells ≤ max_cells
  some_processes : min_processes ≤ m.processes
  few_processes : m.processes ≤ max_processes

module _ (m : Memory) where
  sized_told : sized_of m ≡ true → Sized m
  unfolding sized_of
  sized_told e = grind (arith, choices)

  counts_told : counts_fit_of m ≡ true → Counts m
  unfolding counts_fit_of
  counts_told e = grind (arith, choices)

-- ---- cells: what stands at a cell above the arrays is zero
past_cell : {A : Type 0} (l : List A) (d : A) (i : ℕ) → length l ≡ max_cells → max_cells ≤ i → at_cell l (i + 1) d ≡ d
past_cell l d i e h = let q : i + 1 - 1 ≡ i = omega arith in rw (ne_eqb (i + 1) 0 (λ z. omega arith), q) (beyond l d i max_cells e h)

field_zero : (m : Memory) (c : ℕ) → field_of m c 0 ≡ 0 → field_of m c 1 ≡ 0 → (f : ℕ) → field_of m c f ≡ 0
field_zero m c x y f = go (ℕ_discrete f 0)
  where
    go : Dec (f ≡ 0) → field_of m c f ≡ 0
    go (yes q) = rw q x
    go (no q) = rw (ne_eqb f 0 q) y

module _ (m : Memory) (s : Sized m) (fit : cells_fit_of m ≡ true) where
  zero_at : (i : ℕ) → Dec (i < max_cells) → used_of m (i + 1) ≡ false → (f : ℕ) → field_of m (i + 1) f ≡ 0
  unfolding cells_fit_of cell_fits_of
  zero_at i (yes l) u =
      let e : eqb (field_of m (i + 1) 0) 0 and eqb (field_of m (i + 1) 1) 0 ≡ true = rw u at (every_at (cell_at_of m) max_cells i fit l) in
      let y = and_both (eqb (field_of m (i + 1) 0) 0) _ e in
      field_zero m (i + 1) (eqb-true _ _ y.0) (eqb-true _ _ y.1)
  zero_at i (no l) u = field_zero m (i + 1) (past_cell m.field0 0 i s.field0 (omega arith)) (past_cell m.field1 0 i s.field1 (omega arith))

  zero_told : (c : ℕ) → used_of m c ≡ false → (f : ℕ) → field_of m c f ≡ 0
  zero_told zero u = field_zero m 0 refl refl
  zero_told (suc i) u = rw (← add-one i) (zero_at i (dec_lt i max_cells) (rw (← add-one i) at u))

-- ---- marks: only of occupied cells
unmarked_told : (m : Memory) → Sub m.marks m.used → (c : ℕ) → used_of m c ≡ false → mark_of m c ≡ false
unmarked_told m h c u = go (split (mark_of m c))
  where
    go : (mark_of m c ≡ true) ⊎ (mark_of m c ≡ false) → mark_of m c ≡ false
    go (inl t) = absurd (not_both (h c t) u)
    go (inr t) = t

-- ---- buffers
module _ (m : Memory) (fit : buffers_fit_of m ≡ true) where
  held : (p : ℕ) → p < max_processes → (BufferFits m.cells (buffer_of m p)) × (pick (ltb p m.processes) true (eqb (buffer_of m p).len 0) ≡ true)
  unfolding buffers_fit_of held_fits_of
  held p l =
      let x = and_both (buffer_fits_of m.cells (buffer_of m p)) _ (every_at (buffer_at_of m) max_processes p fit l) in
      ((buffer.well_formed_lem m.cells (buffer_of m p)).0 x.0, x.1)

  none : (p : ℕ) → m.processes ≤ p → p < max_processes → buffer_of m p ≡ empty_buffer
  none p h l =
      let x = held p l in
      let e : eqb (buffer_of m p).len 0 ≡ true = rw (le-ltb p m.processes h) at x.1 in
      buffer.none_pending_lem m.cells (buffer_of m p) x.0 (eqb-true _ _ e)

-- ---- the whole
told : (m : Memory) → memory_formed_of m ≡ true → MemoryFormed m
unfolding memory_formed_of fits_of
told m e =
    let s = sized_told m (grind (arith, choices)) in
    let n = counts_told m (grind (arith, choices)) in
    let b : below_of m.used m.cells ≡ true = grind (arith, choices) in
    let d : is_none (minus_of m.marks m.used) ≡ true = grind (arith, choices) in
    let f : cells_fit_of m ≡ true = grind (arith, choices) in
    let g : buffers_fit_of m ≡ true = grind (arith, choices) in
    let l : m.lock ≤ m.processes = grind (arith, choices) in
    record {
      field0_sized = s.field0;
      field1_sized = s.field1;
      buffers_sized = s.buffers;
      some_cells = n.some_cells;
      few_cells = n.few_cells;
      some_processes = n.some_processes;
      few_processes = n.few_processes;
      used_cells = λ c u. below_range m.used m.cells c b u;
      holder = λ p h. omega arith;
      free_mark = unmarked_told m (sub_of_minus m.marks m.used (is_none_true (minus_of m.marks m.used) d));
      free_field = λ c k u. zero_told m s f c u k;
      buffers = λ p h. (held m g p (omega (arith, n.few_processes))).0;
      process_none = none m g;
    }

module _ (m : Memory) (w : MemoryFormed m) where
  sized_test : sized_of m ≡ true
  unfolding sized_of
  sized_test = let a = w.field0_sized in let b = w.field1_sized in let d = w.buffers_sized in grind (arith, choices)

  counts_test : counts_fit_of m ≡ true
  unfolding counts_fit_of
  counts_test = let a = w.some_cells in let b = w.few_cells in let d = w.some_processes in let f = w.few_processes in grind (arith, choices)

  lock_test : ltb m.processes m.lock ≡ false
  lock_test = le-ltb _ _ (go (ℕ_discrete m.lock 0))
    where
      go : Dec (m.lock ≡ 0) → m.lock ≤ m.processes
      go (yes q) = omega arith
      go (no q) = let h = w.holder (m.lock - 1) (omega arith) in omega arith

  cell_test : (c : ℕ) → cell_fits_of m c ≡ true
  unfolding cell_fits_of
  cell_test c = go (split (used_of m c))
    where
      go : (used_of m c ≡ true) ⊎ (used_of m c ≡ false) → cell_fits_of m c ≡ true
      go (inl u) = rw u refl
      go (inr u) = rw (w.free_field c 0 u, w.free_field c 1 u) (rw u refl)

  buffer_test : (p : ℕ) → p < max_processes → buffer_at_of m p ≡ true
  unfolding held_fits_of
  buffer_test p l = go (dec_lt p m.processes)
    where
      go : Dec (p < m.processes) → buffer_at_of m p ≡ true
      go (yes h) = rw ((buffer.well_formed_lem m.cells (buffer_of m p)).1 (w.buffers p h), lt-ltb p m.processes h) refl
      go (no h) =
          let k : m.processes ≤ p = omega arith in
          rw (w.process_none p k l, (buffer.well_formed_lem m.cells empty_buffer).1 (buffer.empty_fits m.cells), le-ltb p m.processes k) refl

  marks_used : Sub m.marks m.used
  marks_used c t = go (split (used_of m c))
    where
      go : (used_of m c ≡ true) ⊎ (used_of m c ≡ false) → used_of m c ≡ true
      go (inl u) = u
      go (inr u) = absurd (not_both t (w.free_mark c u))

  test : memory_formed_of m ≡ true
  unfolding memory_formed_of fits_of cells_fit_of buffers_fit_of
  test =
      rw (sized_test, counts_test, below_of_lem m.used m.cells (λ c u. (w.used_cells c u).1), minus_of_sub m.marks m.used marks_used, is_none_empty, lock_test, every_all (cell_at_of m) max_cells (λ i l. cell_test (i + 1)))
      (every_all (buffer_at_of m) max_processes buffer_test)

pub well_formed_lem : (m : Memory) → (memory_formed_of m ≡ true) ↔ MemoryFormed m
well_formed_lem m = (told m, test m)
