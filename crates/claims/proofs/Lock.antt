-- The lock is held by a process exactly while it is inside its compare and swap. Assumes nothing.
--     opening_lock, step_lock      at the opening, and after each step
--     lock_free                    the lock is free exactly while nobody is inside
use mathlib.Core.Path.{◌≡◌, refl, sym, ◌∙◌}
use mathlib.Core.Bool.{false}
use mathlib.Core.Logic.{◌↔◌}
use Prim.Native.Nat.{ℕ, zero, suc, ◌+◌, ◌-◌}
use native.Mathlib.Omega.{arith}
use native.Mathlib.Decide.{ℕ_discrete}
use lib.Dec.{ltb}
use Rattle.base.proofs.Picking.{pick_ind}
use Rattle.cells.proofs.Bools.{not_both}
use Rattle.memory.specs.declared.Memory.{Memory}
use Rattle.memory.proofs.Shapes.{Shaped}
use Rattle.memory.proofs.Effects.{write_taken, lock_taken, unlock_taken, commit_taken}
use Rattle.memory_formed.proofs.Shapes.{shaped}
use Rattle.state.specs.declared.Process.{Process}
use Rattle.state.specs.declared.State.{State}
use Rattle.state.specs.declared.Choice.{Choice}
use Rattle.state.specs.declared.opening.Heap.{Heap}
use Rattle.state.specs.States.{process_of}
use Rattle.state.specs.Openings.{open_memory, open_collector, open_mutator, open_process, opening_of}
use Rattle.formed.specs.Fits.{HeapFits, WellFormed}
use Rattle.model.specs.Rows.{Row}
use Rattle.claims.specs.Lock.{inside_at, Inside, Lock, LockFree}
use Rattle.claims.proofs.Moves.{inside_of, Outer, Goes, row_goes, others_inside}

-- ---- the opening
open_out : (h : Heap) (p r : ℕ) → inside_of (open_process h p r) ≡ false
unfolding inside_at open_process open_mutator
open_out h p r = pick_ind (λ q. inside_of q ≡ false) (ltb p h.processes) (λ _. refl) (λ _. refl)

pub opening_outside : (h : Heap) (p : ℕ) → inside_of (process_of (opening_of h) p) ≡ false
unfolding inside_at opening_of open_collector
opening_outside h zero = refl
opening_outside h (suc zero) = open_out h 1 _
opening_outside h (suc (suc zero)) = open_out h 2 _
opening_outside h (suc (suc (suc zero))) = open_out h 3 _
opening_outside h (suc (suc (suc (suc zero)))) = open_out h 4 _
opening_outside h (suc (suc (suc (suc (suc p))))) = refl

open_lock : (h : Heap) → (opening_of h).memory.lock ≡ 0
unfolding opening_of open_memory
open_lock h = refl

pub opening_lock : (h : Heap) → HeapFits h → Lock (opening_of h)
opening_lock h f p = (λ e. let z = open_lock h in absurd (omega arith), λ i. absurd (not_both i (opening_outside h p)))

-- ---- a step: of the process that steps, and of another
abbrev Holds : Memory → ℕ → Process → Type 0
Holds m p q = (m.lock ≡ p + 1) ↔ Inside q

outer_lock : {p : ℕ} {m n : Memory} → Shaped m → Outer p m n → n.lock ≡ m.lock
outer_lock z (Outer.quiet k) = k.lock
outer_lock {p} z (Outer.writes {v} k h e) = (write_taken p (record { store = v }) z e).lock

module _ {p : ℕ} {q : Process} {m : Memory} (z : Shaped m) where
  goes_lock : {o : Process} {n : Memory} → Holds m p q → Goes p q m o n → Holds n p o
  goes_lock l (Goes.locks a b e) = (λ _. b, λ _. (lock_taken p e).after.lock)
  goes_lock l (Goes.looks a u b) = (λ _. b, λ _. l.1 a)
  goes_lock l (Goes.writes a u b v r x e) = (λ _. b, λ _. (write_taken p _ z e).lock ∙ l.1 a)
  goes_lock l (Goes.unlocks a b e) = (λ h. let k = (unlock_taken p z e).after.lock in absurd (omega arith), λ i. absurd (not_both i b))
  goes_lock l (Goes.outside a b e) = (λ h. absurd (not_both (l.0 (sym (outer_lock z e) ∙ h)) a), λ i. absurd (not_both i b))
  goes_lock l (Goes.commits e) = let k = (commit_taken p z e).lock in (λ h. l.0 (sym k ∙ h), λ i. k ∙ l.1 i)

  others_lock : {x : ℕ} (u : Process) {o : Process} {n : Memory} → (x ≡ p → ⊥) → Holds m p q → Holds m x u → Goes p q m o n → Holds n x u
  others_lock {x} y ne l g (Goes.locks a b e) =
      let k = (lock_taken p e).after.lock in
      let f = (lock_taken p e).free in
      (λ h. absurd (ne (omega arith)), λ i. let j = g.1 i in absurd (omega arith))
  others_lock y ne l g (Goes.looks a u b) = g
  others_lock {x} y ne l g (Goes.writes a u b v r d e) = let k = (write_taken p _ z e).lock in (λ h. g.0 (sym k ∙ h), λ i. k ∙ g.1 i)
  others_lock {x} y ne l g (Goes.unlocks a b e) =
      let k = (unlock_taken p z e).after.lock in
      let f = l.1 a in
      (λ h. absurd (omega arith), λ i. let j = g.1 i in absurd (ne (omega arith)))
  others_lock {x} y ne l g (Goes.outside a b e) = let k = outer_lock z e in (λ h. g.0 (sym k ∙ h), λ i. k ∙ g.1 i)
  others_lock {x} y ne l g (Goes.commits e) = let k = (commit_taken p z e).lock in (λ h. g.0 (sym k ∙ h), λ i. k ∙ g.1 i)

pub step_lock : (s : State) (c : Choice) {t : State} → WellFormed s → Lock s → Row s c t → Lock t
step_lock s c {t} w l r p = go (ℕ_discrete p c.process)
  where
    go : Dec (p ≡ c.process) → Holds t.memory p (process_of t p)
    go (yes e) = rw e (goes_lock (shaped s.memory w.memory) (l c.process) (row_goes w r))
    go (no e) =
        let h = others_lock (shaped s.memory w.memory) (process_of s p) e (l c.process) (l p) (row_goes w r) in
        let i = others_inside w r p e in
        (λ k. i ∙ h.0 k, λ k. h.1 (sym i ∙ k))

-- ---- free exactly while nobody is inside
pub lock_free : (s : State) → Lock s → LockFree s
lock_free s l = (λ e p i. let h = (l p).1 i in omega arith, λ f. go f (ℕ_discrete s.memory.lock 0))
  where
    go : ((p : ℕ) → Inside (process_of s p) → ⊥) → Dec (s.memory.lock ≡ 0) → s.memory.lock ≡ 0
    go f (yes e) = e
    go f (no e) = absurd (f (s.memory.lock - 1) ((l (s.memory.lock - 1)).0 (omega arith)))
