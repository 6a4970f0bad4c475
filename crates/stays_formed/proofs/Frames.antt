-- The state with one part replaced, as the rows replace it: that it stays well formed. Assumes nothing.
--     named                what holds of the process p holds of the one that a choice names
--     off_process          all in-step bits off: each process but the collector's is out of step
--     ranged               the values and counts of a well-formed state's memory
--     memory_framed        memory replaced by a well-formed one with the same counts and its values in range
--     process_framed       a process replaced by one that fits
--     off_framed           all in-step bits off
--     moved                memory and a process replaced at once
use mathlib.Core.Path.{◌≡◌, refl, ap, ◌∙◌}
use mathlib.Core.Bool.{false}
use mathlib.Core.List.{List, [], ◌∷◌}
use Prim.Native.Nat.{ℕ, zero, suc, ◌≤◌, ◌<◌}
use native.Mathlib.Omega.{arith}
use lib.ListN.{length, get_or, length-map, get_or-map}
use Rattle.memory.specs.declared.Memory.{Memory}
use Rattle.memory_formed.specs.WellFormed.{MemoryFormed}
use Rattle.state.specs.declared.Process.{Process}
use Rattle.state.specs.declared.State.{State}
use Rattle.state.specs.States.{no_process, mutators_of, process_of, with_process_of, with_memory}
use Rattle.formed.specs.Fits.{WellFormed}
use Rattle.formed.proofs.Gives.{shakes}
use Rattle.formed.proofs.Keeps.{keeps_processes, keeps_collector, keeps_mutator, keeps_memory}
use Rattle.model.specs.Rows.{step_out, all_off, with_processes}
use Rattle.stays_formed.specs.Kept.{Fits, collects, mutates, Ranged}

-- ---- reading a process
-- what holds of the process p holds of the one that the choice names
pub named : (P : ℕ → Type 0) {i p : ℕ} → i ≡ p → P p → P i
named P e a = rw e a

off_first : (qs : List Process) → get_or (all_off qs) 0 no_process ≡ get_or qs 0 no_process
off_first [] = refl
off_first (q ∷ qs) = refl

off_rest : (qs : List Process) (p : ℕ) → 0 < p → get_or (all_off qs) p no_process ≡ step_out (get_or qs p no_process)
off_rest [] p h = refl
off_rest (q ∷ qs) zero h = absurd (omega arith)
off_rest (q ∷ qs) (suc i) h = get_or-map step_out qs i no_process

off_length : (qs : List Process) → length (all_off qs) ≡ length qs
off_length [] = refl
off_length (q ∷ qs) = ap suc (length-map qs step_out)

pub off_process : (s : State) (p : ℕ) → 0 < p → process_of (with_processes s (all_off s.procs)) p ≡ step_out (process_of s p)
off_process s p h = off_rest s.procs p h

-- ---- one part replaced
module _ (s : State) (w : WellFormed s) where
  pub ranged : Ranged s.memory.cells s.memory.processes s.memory
  ranged = record { cells = refl; processes = refl; fields = w.fields; pending = w.pending }

  pub memory_framed : (m : Memory) → MemoryFormed m → Ranged s.memory.cells s.memory.processes m → WellFormed (with_memory s m)
  memory_framed m k r = keeps_memory s w m k r.cells r.processes (rw r.cells r.fields) (rw r.cells r.pending)

  pub process_framed : (p : ℕ) (q : Process) → p ≤ mutators_of s → Fits s.memory.cells (mutators_of s) p q → WellFormed (with_process_of s p q)
  process_framed p q l (collects e f) = rw e (keeps_collector s w q f)
  process_framed p q l (mutates h f) = keeps_mutator s w p q h l f

  pub off_framed : WellFormed (with_processes s (all_off s.procs))
  off_framed =
      keeps_processes s w (all_off s.procs) (off_length s.procs ∙ w.sized) (rw (off_first s.procs) w.collector)
      (λ p a b. rw (off_rest s.procs p a) (shakes (process_of s p).part.raised false (process_of s p).part.phase (w.mutators p a b)))
      (λ p a. off_rest s.procs p (omega arith) ∙ ap step_out (w.nobody p a))

-- ---- memory and a process replaced
module _ (s : State) (w : WellFormed s) (m : Memory) (k : MemoryFormed m) (r : Ranged s.memory.cells s.memory.processes m) where
  pub moved : (p : ℕ) (q : Process) → p ≤ mutators_of s → Fits s.memory.cells (mutators_of s) p q → WellFormed (with_process_of (with_memory s m) p q)
  moved p q l f = process_framed (with_memory s m) (memory_framed s w m k r) p q (rw r.processes l) (rw (r.cells, r.processes) f)
