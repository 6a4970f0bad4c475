-- A part of a well-formed state replaced by one that fits leaves it well formed. Assumes nothing.
--     process_same, process_other     process p after it was replaced, and the others
--     mutators_most                   M is at most its limit
--     keeps_processes                 all processes
--     keeps_process, keeps_collector, keeps_mutator       one of them
--     keeps_memory, keeps_system       memory, and the system's part
use mathlib.Core.Path.{◌≡◌, sym, ◌∙◌}
use mathlib.Core.Bool.{true}
use mathlib.Core.List.{List}
use Prim.Native.Nat.{ℕ, ◌≤◌, ◌<◌}
use native.Mathlib.Decide.{ℕ_discrete, dec_lt}
use native.Mathlib.Omega.{arith}
use lib.ListN.{length, get_or, length-set}
use lib.Seq.{get_or-set_same, get_or-set_other}
use Rattle.base.proofs.Lists.{beyond}
use Rattle.cells.specs.Sets.{below_of}
use Rattle.buffers.specs.Stores.{value_of}
use Rattle.buffers.specs.Fits.{entry_of}
use Rattle.memory.specs.declared.Memory.{Memory}
use Rattle.memory.specs.Memories.{max_mutators, max_processes, field_of, buffer_of}
use Rattle.memory_formed.specs.WellFormed.{MemoryFormed}
use Rattle.state.specs.declared.Process.{Process}
use Rattle.state.specs.declared.System.{System}
use Rattle.state.specs.declared.State.{State}
use Rattle.state.specs.States.{no_process, mutators_of, process_of, with_process_of, with_memory, with_system}
use Rattle.formed.specs.Fits.{MutatorFits, CollectorFits, WellFormed}

-- ---- processes by number
pub process_same : (s : State) (p : ℕ) (q : Process) → length s.procs ≡ max_processes → p < max_processes → process_of (with_process_of s p q) p ≡ q
process_same s p q e h = get_or-set_same s.procs p q no_process (omega arith)

pub process_other : (s : State) (p r : ℕ) (q : Process) → (r ≡ p → ⊥) → process_of (with_process_of s p q) r ≡ process_of s r
process_other s p r q h = get_or-set_other s.procs p r q no_process h

module _ (s : State) (w : WellFormed s) where
  pub mutators_most : mutators_of s ≤ max_mutators
  mutators_most = let z = w.memory in omega (arith, z.some_processes, z.few_processes)

  sized_with : (p : ℕ) (q : Process) → length (with_process_of s p q).procs ≡ max_processes
  sized_with p q = length-set s.procs p q ∙ w.sized

  -- ---- the processes
  pub keeps_processes : (qs : List Process) → length qs ≡ max_processes → CollectorFits s.memory.cells (mutators_of s) (get_or qs 0 no_process) → ((p : ℕ) → 0 < p → p ≤ mutators_of s → MutatorFits s.memory.cells (get_or qs p no_process)) → ((p : ℕ) → mutators_of s < p → get_or qs p no_process ≡ no_process) → WellFormed (record { memory = s.memory; procs = qs; system = s.system })
  keeps_processes qs l c m n =
      record {
        memory = w.memory;
        fields = w.fields;
        pending = w.pending;
        sized = l;
        collector = c;
        mutators = m;
        nobody = n;
        system = w.system;
      }

  -- process p: the collector, a mutator, or nobody
  pub keeps_process : (p : ℕ) (q : Process) → (p ≡ 0 → CollectorFits s.memory.cells (mutators_of s) q) → (0 < p → p ≤ mutators_of s → MutatorFits s.memory.cells q) → (mutators_of s < p → q ≡ no_process) → WellFormed (with_process_of s p q)
  keeps_process p q a b d = keeps_processes (with_process_of s p q).procs (sized_with p q) (first (ℕ_discrete 0 p)) (λ r h g. one r h g (ℕ_discrete r p)) (λ r h. none r h (ℕ_discrete r p))
    where
      first : Dec (0 ≡ p) → CollectorFits s.memory.cells (mutators_of s) (process_of (with_process_of s p q) 0)
      first (yes e) = rw (← e, process_same s 0 q w.sized (omega arith)) (a (sym e))
      first (no e) = rw (process_other s p 0 q e) w.collector

      one : (r : ℕ) → 0 < r → r ≤ mutators_of s → Dec (r ≡ p) → MutatorFits s.memory.cells (process_of (with_process_of s p q) r)
      one r h g (yes e) = let l : p < max_processes = omega (arith, mutators_most) in rw (e, process_same s p q w.sized l) (b (omega arith) (omega arith))
      one r h g (no e) = rw (process_other s p r q e) (w.mutators r h g)

      there : (r : ℕ) → mutators_of s < r → r ≡ p → Dec (p < max_processes) → process_of (with_process_of s p q) r ≡ no_process
      there r h e (yes l) = rw (e, process_same s p q w.sized l) (d (omega arith))
      there r h e (no l) = beyond (with_process_of s p q).procs no_process r max_processes (sized_with p q) (omega arith)

      none : (r : ℕ) → mutators_of s < r → Dec (r ≡ p) → process_of (with_process_of s p q) r ≡ no_process
      none r h (yes e) = there r h e (dec_lt p max_processes)
      none r h (no e) = process_other s p r q e ∙ w.nobody r h

  pub keeps_collector : (q : Process) → CollectorFits s.memory.cells (mutators_of s) q → WellFormed (with_process_of s 0 q)
  keeps_collector q f = keeps_process 0 q (λ e. f) (λ h g. absurd (omega arith)) (λ h. absurd (omega arith))

  pub keeps_mutator : (p : ℕ) (q : Process) → 0 < p → p ≤ mutators_of s → MutatorFits s.memory.cells q → WellFormed (with_process_of s p q)
  keeps_mutator p q a b f = keeps_process p q (λ e. absurd (omega arith)) (λ h g. f) (λ h. absurd (omega arith))

  -- ---- memory, with as many cells and processes
  pub keeps_memory : (m : Memory) → MemoryFormed m → m.cells ≡ s.memory.cells → m.processes ≡ s.memory.processes → ((c f : ℕ) → field_of m c f ≤ m.cells) → ((p i : ℕ) → value_of (entry_of (buffer_of m p) i).store ≤ m.cells) → WellFormed (with_memory s m)
  keeps_memory m k c p f v =
      record {
        memory = k;
        fields = f;
        pending = v;
        sized = w.sized;
        collector = rw (c, p) w.collector;
        mutators = λ r h g. rw c (w.mutators r h (rw p at g));
        nobody = λ r h. w.nobody r (rw p at h);
        system = rw c w.system;
      }

  -- ---- the system's part
  pub keeps_system : (h : System) → below_of h.work s.memory.cells ≡ true → WellFormed (with_system s h)
  keeps_system h b =
      record {
        memory = w.memory;
        fields = w.fields;
        pending = w.pending;
        sized = w.sized;
        collector = w.collector;
        mutators = w.mutators;
        nobody = w.nobody;
        system = b;
      }
