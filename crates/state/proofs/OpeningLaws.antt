-- The opening, phrase by phrase. Assumes nothing.
--     mutator_at, nobody_at        which process stands there
--     each_process                 what every process of the opening has
--     opens_senses .. opens_lock   memory
--     opens_type .. opens_flags    handshakes
--     opens_lists .. opens_nobody  processes
--     opens_counts, -cells, -roots what the heap gives
use mathlib.Core.Path.{◌≡◌, refl, sym, ap, ◌∙◌, subst}
use mathlib.Core.Bool.{Bool, true, false}
use mathlib.Core.List.{[]}
use Prim.Native.Nat.{ℕ, zero, suc, ◌-◌, ◌≤◌, ◌<◌}
use native.Mathlib.Decide.{dec_lt}
use native.Mathlib.Omega.{arith}
use lib.Dec.{ltb}
use lib.ListN.{get_or, replicate}
use borrow.Author.Tests.{lt-ltb, le-ltb}
use Rattle.base.specs.Pick.{pick}
use Rattle.base.proofs.Lists.{beyond}
use Rattle.cells.specs.Sets.{no_cells}
use Rattle.buffers.specs.Buffers.{empty_buffer, pending_of}
use Rattle.memory.specs.Memories.{max_mutators, max_processes, no_buffer}
use Rattle.state.specs.declared.Handshake.TheVariants as hand
use Rattle.state.specs.declared.Process.{Process}
use Rattle.state.specs.declared.opening.Heap.{Heap}
use Rattle.state.specs.Codes.{top, no_stage}
use Rattle.state.specs.States.{no_process, process_of}
use Rattle.state.specs.Openings.{open_memory, open_collector, open_mutator, open_process, open_system, roots_at, opening_of}
use Rattle.state.specs.OpeningLaws.{IsMutator, OpensSenses, OpensMarks, OpensPhase, OpensBuffers, OpensLock, OpensType, OpensInStep, OpensSystemPhase, OpensMutatorPhase, OpensFlags, OpensSystemList, OpensLists, OpensTop, OpensRow1, OpensNoted, OpensGreying, OpensNobody, OpensCounts, OpensCells, OpensRoots}

-- ---- the processes
module _ (h : Heap) where
  process_at_lem : (k : ℕ) → k < max_mutators → process_of (opening_of h) (suc k) ≡ open_process h (suc k) (roots_at h k)
  unfolding opening_of
  process_at_lem zero l = refl
  process_at_lem (suc zero) l = refl
  process_at_lem (suc (suc zero)) l = refl
  process_at_lem (suc (suc (suc zero))) l = refl
  process_at_lem (suc (suc (suc (suc k)))) l = absurd (omega arith)

  past : (p : ℕ) → max_processes ≤ p → process_of (opening_of h) p ≡ no_process
  unfolding opening_of
  past p l = beyond (opening_of h).procs no_process p max_processes refl l

  pub mutator_at : (p : ℕ) → IsMutator h p → process_of (opening_of h) p ≡ open_mutator (roots_at h (p - 1))
  unfolding open_process
  mutator_at p m =
      let e : p ≡ suc (p - 1) = omega (arith, m.some) in
      ap (process_of (opening_of h)) e
      ∙ process_at_lem (p - 1) (omega (arith, m.some, m.most))
      ∙ rw (lt-ltb (suc (p - 1)) h.processes (omega (arith, m.some, m.within))) refl

  pub each_process : (P : Process → Type 0) → P open_collector → ((r : ℕ) → P (open_mutator r)) → P no_process → (p : ℕ) → P (process_of (opening_of h) p)
  unfolding opening_of open_process
  each_process P c m n zero = c
  each_process P c m n (suc k) = go (dec_lt k max_mutators)
    where
      one : (b : Bool) → P (pick b (open_mutator (roots_at h k)) no_process)
      one true = m (roots_at h k)
      one false = n

      go : Dec (k < max_mutators) → P (process_of (opening_of h) (suc k))
      go (yes l) = subst P (sym (process_at_lem k l)) (one (ltb (suc k) h.processes))
      go (no l) = subst P (sym (past (suc k) (omega arith))) n

  pub nobody_at : (p : ℕ) → 0 < p → h.processes ≤ p → process_of (opening_of h) p ≡ no_process
  unfolding open_process
  nobody_at p s l = go (dec_lt p max_processes)
    where
      go : Dec (p < max_processes) → process_of (opening_of h) p ≡ no_process
      go (yes b) =
          let e : p ≡ suc (p - 1) = omega arith in
          ap (process_of (opening_of h)) e ∙ process_at_lem (p - 1) (omega arith) ∙ rw (le-ltb (suc (p - 1)) h.processes (omega arith)) refl
      go (no b) = past p (omega arith)

-- a mutator's law, from the opening's mutator
of_mutator : (P : Process → Type 0) → ((r : ℕ) → P (open_mutator r)) → (h : Heap) (p : ℕ) → IsMutator h p → P (process_of (opening_of h) p)
of_mutator P f h p m = subst P (sym (mutator_at h p m)) (f (roots_at h (p - 1)))

-- ---- memory
pub opens_senses : OpensSenses
unfolding opening_of open_memory
opens_senses h = (refl, refl)

pub opens_marks : OpensMarks
unfolding opening_of open_memory
opens_marks h c = refl

pub opens_phase : OpensPhase
unfolding opening_of open_memory
opens_phase h = refl

pub opens_buffers : OpensBuffers
unfolding opening_of open_memory
opens_buffers h p = none max_processes p
  where
    none : (k p : ℕ) → pending_of (get_or (replicate k empty_buffer) p no_buffer) ≡ []
    none zero p = refl
    none (suc k) zero = refl
    none (suc k) (suc p) = none k p

pub opens_lock : OpensLock
unfolding opening_of open_memory
opens_lock h = refl

-- ---- handshakes
pub opens_type : OpensType
unfolding opening_of open_system
opens_type h = refl

pub opens_in_step : OpensInStep
unfolding open_mutator
opens_in_step = of_mutator (λ q. q.part.in_step ≡ true) (λ r. refl)

pub opens_system_phase : OpensSystemPhase
unfolding opening_of open_system
opens_system_phase h = refl

pub opens_mutator_phase : OpensMutatorPhase
unfolding open_mutator
opens_mutator_phase = of_mutator (λ q. q.part.phase ≡ hand.IdleMarkSweep) (λ r. refl)

pub opens_flags : OpensFlags
unfolding open_collector open_mutator
opens_flags h = each_process h (λ q. q.part.raised ≡ false) refl (λ r. refl) refl

-- ---- processes
pub opens_system_list : OpensSystemList
unfolding opening_of open_system
opens_system_list h = refl

pub opens_lists : OpensLists
unfolding open_collector open_mutator
opens_lists h = each_process h (λ q. q.work ≡ no_cells) refl (λ r. refl) refl

pub opens_top : OpensTop
unfolding open_mutator
opens_top = of_mutator (λ q. (q.place ≡ top) × (q.stage ≡ no_stage)) (λ r. (refl, refl))

pub opens_row1 : OpensRow1
unfolding opening_of open_collector
opens_row1 h = (refl, refl)

pub opens_noted : OpensNoted
unfolding open_collector open_mutator
opens_noted h = each_process h (λ q. q.sense ≡ false) refl (λ r. refl) refl

pub opens_greying : OpensGreying
unfolding open_collector open_mutator
opens_greying h = each_process h (λ q. q.grey ≡ 0) refl (λ r. refl) refl

pub opens_nobody : OpensNobody
opens_nobody = nobody_at

-- ---- what the heap gives
pub opens_counts : OpensCounts
unfolding opening_of open_memory
opens_counts h = (refl, refl)

pub opens_cells : OpensCells
unfolding opening_of open_memory
opens_cells h = (refl, refl, refl)

pub opens_roots : OpensRoots
unfolding open_mutator
opens_roots h p m = rw (mutator_at h p m) refl
