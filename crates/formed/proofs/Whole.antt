-- The whole state: the test and the facts agree. Assumes nothing.
--     well_formed_lem      `well_formed_of` holds exactly if `WellFormed` does
use mathlib.Core.Path.{◌≡◌}
use mathlib.Core.Bool.{true}
use mathlib.Core.List.{List}
use mathlib.Core.Logic.{◌↔◌}
use Prim.Native.Nat.{ℕ, suc, ◌-◌, ◌≤◌, ◌<◌}
use native.Mathlib.Decide.{ℕ_discrete, dec_lt}
use native.Mathlib.Omega.{arith}
use lib.Dec.{eqb, eqb-suc-zero}
use lib.ListN.{length, get_or}
use borrow.Author.Tests.{leb-true, lt-ltb, le-ltb, le-leb, eq-eqb, ne_eqb}
use Rattle.base.specs.Every.{◌and◌}
use Rattle.base.proofs.Choices.{choices}
use Rattle.base.proofs.Picking.{picked}
use Rattle.base.proofs.Everies.{and_both, every_at, every_all}
use Rattle.base.proofs.Lists.{beyond}
use Rattle.buffers.specs.Stores.{no_entry, value_of}
use Rattle.buffers.specs.Buffers.{max_stores}
use Rattle.buffers.specs.Fits.{entry_of}
use Rattle.memory.specs.declared.Memory.{Memory}
use Rattle.memory.specs.Memories.{max_cells, max_processes, at_cell, field_of, no_buffer, buffer_of}
use Rattle.memory_formed.specs.WellFormed.{MemoryFormed}
use Rattle.memory_formed.proofs.Wells as memories
use Rattle.memory_formed.proofs.Shapes.{shaped}
use Rattle.state.specs.declared.Process.{Process}
use Rattle.state.specs.declared.State.{State}
use Rattle.state.specs.States.{no_process, mutators_of}
use Rattle.formed.specs.Fits.{MutatorFits, CollectorFits, WellFormed}
use Rattle.formed.specs.WellFormed.{field_fits_at, fields_fit_of, store_fits_at, stores_fit_of, buffer_fits_at, pending_fit_of, values_fit_of, process_fits_of, process_at, procs_fit_of, well_formed_of}
use Rattle.formed.proofs.Agrees.{mutator_told, mutator_test, collector_told, collector_test, nobody_told, nobody_test}

-- memory is well formed: every buffer has room for its stores, that of a process above M too
entries_sized : (m : Memory) → MemoryFormed m → (p : ℕ) → p < max_processes → length (buffer_of m p).entries ≡ max_stores
entries_sized m w p h = ((shaped m w).sized p h).entries

-- ---- values of fields
at_told : (n : ℕ) (l : List ℕ) → length l ≡ max_cells → fields_fit_of n l ≡ true → (c : ℕ) → at_cell l c 0 ≤ n
unfolding fields_fit_of
at_told n l s e c = picked (λ v. v ≤ n) (eqb c 0) (omega arith) (go (dec_lt (c - 1) max_cells))
  where
    go : Dec (c - 1 < max_cells) → get_or l (c - 1) 0 ≤ n
    go (yes h) = leb-true _ _ (every_at (field_fits_at n l) max_cells (c - 1) e h)
    go (no h) = let z : get_or l (c - 1) 0 ≡ 0 = beyond l 0 (c - 1) max_cells s (omega arith) in omega arith

at_test : (n : ℕ) (l : List ℕ) → ((c : ℕ) → at_cell l c 0 ≤ n) → fields_fit_of n l ≡ true
unfolding fields_fit_of
at_test n l h = every_all (field_fits_at n l) max_cells (λ i k. le-leb _ _ (at i))
  where
    at : (i : ℕ) → get_or l i 0 ≤ n
    at i = let e : suc i - 1 ≡ i = omega arith in rw (eqb-suc-zero i, e) at (h (suc i))

module _ (m : Memory) (z : MemoryFormed m) where
  values_told : values_fit_of m ≡ true → ((c f : ℕ) → field_of m c f ≤ m.cells) × ((p i : ℕ) → value_of (entry_of (buffer_of m p) i).store ≤ m.cells)
  unfolding values_fit_of pending_fit_of stores_fit_of
  values_told e =
      let a = and_both (fields_fit_of m.cells m.field0) (fields_fit_of m.cells m.field1 and pending_fit_of m.cells m.buffers) e in
      let b = and_both (fields_fit_of m.cells m.field1) (pending_fit_of m.cells m.buffers) a.1 in
      (λ c f. picked (λ v. v ≤ m.cells) (eqb f 0) (at_told m.cells m.field0 z.field0_sized a.0 c) (at_told m.cells m.field1 z.field1_sized b.0 c), λ p i. buffer p i b.1 (dec_lt p max_processes))
    where
      none : 0 ≤ m.cells
      none = omega arith

      entry : (p i : ℕ) → p < max_processes → pending_fit_of m.cells m.buffers ≡ true → Dec (i < max_stores) → value_of (entry_of (buffer_of m p) i).store ≤ m.cells
      entry p i h e (yes l) = leb-true _ _ (every_at (store_fits_at m.cells (buffer_of m p)) max_stores i (every_at (buffer_fits_at m.cells m.buffers) max_processes p e h) l)
      entry p i h e (no l) = rw (beyond (buffer_of m p).entries no_entry i max_stores (entries_sized m z p h) (omega arith)) none

      buffer : (p i : ℕ) → pending_fit_of m.cells m.buffers ≡ true → Dec (p < max_processes) → value_of (entry_of (buffer_of m p) i).store ≤ m.cells
      buffer p i e (yes h) = entry p i h e (dec_lt i max_stores)
      buffer p i e (no h) = rw (beyond m.buffers no_buffer p max_processes z.buffers_sized (omega arith)) none

values_test : (m : Memory) → ((c f : ℕ) → field_of m c f ≤ m.cells) → ((p i : ℕ) → value_of (entry_of (buffer_of m p) i).store ≤ m.cells) → values_fit_of m ≡ true
unfolding values_fit_of pending_fit_of stores_fit_of
values_test m f e =
    rw (at_test m.cells m.field0 (λ c. f c 0), at_test m.cells m.field1 (λ c. f c 1))
    (every_all (buffer_fits_at m.cells m.buffers) max_processes (λ p h. every_all (store_fits_at m.cells (buffer_of m p)) max_stores (λ i l. le-leb _ _ (e p i))))

-- ---- the processes
module _ (n m : ℕ) (qs : List Process) where
  abbrev at : ℕ → Process
  at p = get_or qs p no_process

  procs_sized : procs_fit_of n m qs ≡ true → length qs ≡ max_processes
  unfolding procs_fit_of
  procs_sized e = grind (arith, choices)

  procs_at : procs_fit_of n m qs ≡ true → (p : ℕ) → p < max_processes → process_fits_of n m p (at p) ≡ true
  unfolding procs_fit_of
  procs_at e p h = every_at (process_at n m qs) max_processes p (grind (arith, choices)) h

  collector_of : procs_fit_of n m qs ≡ true → CollectorFits n m (at 0)
  unfolding process_fits_of
  collector_of e = collector_told n m (at 0) (rw (le-ltb m 0 (omega arith)) at (procs_at e 0 (omega arith)))

  mutator_of : procs_fit_of n m qs ≡ true → m < max_processes → (p : ℕ) → 0 < p → p ≤ m → MutatorFits n (at p)
  unfolding process_fits_of
  mutator_of e l p h g = mutator_told n m (at p) (rw (le-ltb m p g, ne_eqb p 0 (λ z. omega arith)) at (procs_at e p (omega arith)))

  nobody_of_lem : procs_fit_of n m qs ≡ true → (p : ℕ) → m < p → at p ≡ no_process
  unfolding process_fits_of
  nobody_of_lem e p h = go (dec_lt p max_processes)
    where
      go : Dec (p < max_processes) → at p ≡ no_process
      go (yes l) = nobody_told (at p) (rw (lt-ltb m p h) at (procs_at e p l))
      go (no l) = beyond qs no_process p max_processes (procs_sized e) (omega arith)

  procs_test : length qs ≡ max_processes → CollectorFits n m (at 0) → ((p : ℕ) → 0 < p → p ≤ m → MutatorFits n (at p)) → ((p : ℕ) → m < p → at p ≡ no_process) → procs_fit_of n m qs ≡ true
  unfolding procs_fit_of process_fits_of
  procs_test s c w z = rw (eq-eqb _ _ s) (every_all (process_at n m qs) max_processes (λ p l. above p (dec_lt m p)))
    where
      own : (p : ℕ) → p ≤ m → Dec (p ≡ 0) → process_fits_of n m p (at p) ≡ true
      own p h (yes e) = rw (le-ltb m p h, e) (collector_test n m (at 0) c)
      own p h (no e) = rw (le-ltb m p h, ne_eqb p 0 e) (mutator_test n m (at p) (w p (omega arith) h))

      above : (p : ℕ) → Dec (m < p) → process_fits_of n m p (at p) ≡ true
      above p (yes h) = rw (lt-ltb m p h) (nobody_test (at p) (z p h))
      above p (no h) = own p (omega arith) (ℕ_discrete p 0)

-- ---- the whole
module _ (s : State) where
  told : well_formed_of s ≡ true → WellFormed s
  unfolding well_formed_of
  told e =
      let m = s.memory in
      let n = m.cells in
      let w = (memories.well_formed_lem m).0 (grind (arith, choices)) in
      let v = values_told m w (grind (arith, choices)) in
      let d : procs_fit_of n (mutators_of s) s.procs ≡ true = grind (arith, choices) in
      let few : mutators_of s < max_processes = omega (arith, w.some_processes, w.few_processes) in
      record {
        memory = w;
        fields = v.0;
        pending = v.1;
        sized = procs_sized n (mutators_of s) s.procs d;
        collector = collector_of n (mutators_of s) s.procs d;
        mutators = mutator_of n (mutators_of s) s.procs d few;
        nobody = nobody_of_lem n (mutators_of s) s.procs d;
        system = grind (arith, choices);
      }

  test : WellFormed s → well_formed_of s ≡ true
  unfolding well_formed_of
  test w =
      rw ((memories.well_formed_lem s.memory).1 w.memory, values_test s.memory w.fields w.pending, procs_test s.memory.cells (mutators_of s) s.procs w.sized w.collector w.mutators w.nobody) w.system

  pub well_formed_lem : (well_formed_of s ≡ true) ↔ WellFormed s
  well_formed_lem = (told, test)
