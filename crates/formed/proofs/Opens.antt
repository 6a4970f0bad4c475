-- The opening of a heap that keeps the header's rules is well formed. Assumes nothing.
--     opening_formed
use mathlib.Core.Path.{◌≡◌, refl}
use mathlib.Core.Bool.{Bool, true, false}
use mathlib.Core.Logic.{⊎_elim}
use Prim.Native.Nat.{ℕ, zero, suc, ◌-◌, ◌≤◌, ◌<◌}
use native.Mathlib.Decide.{dec_lt}
use native.Mathlib.Omega.{arith}
use lib.ListN.{get_or, replicate, get_or-replicate}
use borrow.Author.Tests.{lt-ltb, le-ltb}
use Rattle.base.proofs.Lists.{beyond}
use Rattle.cells.specs.Sets.{member_of}
use Rattle.cells.proofs.Belows.{below_empty, below_member, below_range, below_sub}
use Rattle.buffers.specs.Stores.{no_entry}
use Rattle.buffers.specs.Buffers.{max_stores, empty_buffer}
use Rattle.buffers.specs.Fits.{entry_of}
use Rattle.buffers.proofs.Wells.{empty_fits}
use Rattle.memory.specs.Memories.{max_processes, no_buffer}
use Rattle.memory_formed.specs.WellFormed.{MemoryFormed}
use Rattle.state.specs.declared.opening.Heap.{Heap}
use Rattle.state.specs.States.{no_process, process_of}
use Rattle.state.specs.Openings.{open_memory, open_collector, open_mutator, open_process, open_system, roots_at, opening_of}
use Rattle.formed.specs.Fits.{heap_field, HeapFits, idle, MutatorFits, round, CollectorFits, WellFormed}
use Rattle.formed.proofs.Places.{AllBelow, all_below}

-- what a list of the same holds, and past its end too
same_there : {A : Type 0} (k : ℕ) (a : A) (i : ℕ) → get_or (replicate k a) i a ≡ a
same_there zero a i = refl
same_there (suc k) a zero = refl
same_there (suc k) a (suc i) = same_there k a i

-- every buffer is empty
none_at : (k p i : ℕ) → entry_of (get_or (replicate k empty_buffer) p no_buffer) i ≡ no_entry
none_at zero p i = refl
none_at (suc k) zero i = same_there max_stores no_entry i
none_at (suc k) (suc p) i = none_at k p i

module _ (h : Heap) (w : HeapFits h) where
  -- ---- memory
  memory_opens : MemoryFormed (open_memory h)
  unfolding open_memory
  memory_opens =
      record {
        field0_sized = w.sized0;
        field1_sized = w.sized1;
        buffers_sized = refl;
        some_cells = w.cells.0;
        few_cells = w.cells.1;
        some_processes = w.some;
        few_processes = w.most;
        used_cells = λ c e. below_range h.used h.cells c w.used e;
        holder = λ p e. absurd (omega arith);
        free_mark = λ c e. e;
        free_field = w.free;
        buffers = λ p l. rw (get_or-replicate max_processes p empty_buffer no_buffer (omega (arith, w.most))) (empty_fits h.cells);
        process_none = λ p l k. get_or-replicate max_processes p empty_buffer no_buffer k;
      }

  -- ---- values, and processes
  field_within : (c f : ℕ) → heap_field h c f ≤ h.cells
  field_within c f = go (member_of h.used c) refl
    where
      go : (b : Bool) → member_of h.used c ≡ b → heap_field h c f ≤ h.cells
      go true e = ⊎_elim (λ z. omega arith) (λ z. below_member h.used h.cells (heap_field h c f) w.used z) (w.named c f e)
      go false e = let z = w.free c f e in omega arith

  collector_opens : CollectorFits h.cells (h.processes - 1) open_collector
  unfolding open_collector
  collector_opens =
      record {
        work = below_empty h.cells;
        no_f = refl;
        no_y = refl;
        no_old = refl;
        no_roots = refl;
        part_none = refl;
        notes = round refl (record { begun = omega arith; running = omega arith; no_x = refl; none_left = λ l. refl; left = below_empty (h.processes - 1); mark = record { no_cell = refl; no_look = refl; no_grey = refl } });
      }

  mutator_opens : (p : ℕ) → 0 < p → p ≤ h.processes - 1 → MutatorFits h.cells (open_process h p (roots_at h (p - 1)))
  unfolding open_process open_mutator
  mutator_opens p a b =
      let l : p < h.processes = omega arith in
      rw (lt-ltb p h.processes l)
      (record {
        roots = below_sub (roots_at h (p - 1)) h.used h.cells (w.roots p a l) w.used;
        work = below_empty h.cells;
        notes = idle refl (record { stage = refl; notes = record { no_x = refl; no_f = refl; no_y = refl; no_old = refl }; left = refl; mark = record { no_cell = refl; no_look = refl; no_grey = refl }; sense = refl });
      })

  nobody_opens : (p r : ℕ) → h.processes - 1 < p → open_process h p r ≡ no_process
  unfolding open_process
  nobody_opens p r a = rw (le-ltb p h.processes (omega arith)) refl

  abbrev Opens : ℕ → Type 0
  Opens p = 0 < p → p ≤ h.processes - 1 → MutatorFits h.cells (process_of (opening_of h) p)

  abbrev Nobody : ℕ → Type 0
  Nobody p = h.processes - 1 < p → process_of (opening_of h) p ≡ no_process

  mutators_open : AllBelow Opens max_processes
  unfolding opening_of
  mutators_open = (((((tt, λ a b. absurd (omega arith)), mutator_opens 1), mutator_opens 2), mutator_opens 3), mutator_opens 4)

  nobodies_open : AllBelow Nobody max_processes
  unfolding opening_of
  nobodies_open = (((((tt, λ a. absurd (omega (arith, w.some))), nobody_opens 1 (roots_at h 0)), nobody_opens 2 (roots_at h 1)), nobody_opens 3 (roots_at h 2)), nobody_opens 4 (roots_at h 3))

  pub opening_formed : WellFormed (opening_of h)
  unfolding opening_of open_memory open_system
  opening_formed =
      record {
        memory = memory_opens;
        fields = field_within;
        pending = λ p i. rw (none_at max_processes p i) (omega arith);
        sized = refl;
        collector = collector_opens;
        mutators = λ p a b. all_below Opens max_processes mutators_open p (omega (arith, w.most)) a b;
        nobody = λ p a. past p a (dec_lt p max_processes);
        system = below_empty h.cells;
      }
    where
      past : (p : ℕ) → h.processes - 1 < p → Dec (p < max_processes) → process_of (opening_of h) p ≡ no_process
      past p a (yes l) = all_below Nobody max_processes nobodies_open p l a
      past p a (no l) = beyond (opening_of h).procs no_process p max_processes refl (omega arith)
