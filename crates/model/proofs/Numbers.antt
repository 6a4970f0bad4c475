-- Which number memory gives, and what for, in the words of the reasons of refusal: memory's laws (Refusals, Sights)
-- said again. Assumes nothing.
--     is_blocked, un_blocked           the code's test of a process that is blocked, or is not
--     Looked, mark_looked, field_looked, sense_looked, phase_looked     a look: 7 while blocked, else 11 of a free
--     cell, else 0
--     Unblocked, swept, freed          the sweep's look and a free: 7 while blocked, else 0
--     Granted, allocated               an allocation: 7 while blocked, else 10 of an occupied cell, else 0
--     Lent, locked                     a lock: 7 while anybody holds it, else 0
--     Buffered                         the process is one of those there can be, and memory has its shape
--     Drained, fenced, unlocked        a fence and an unlock: 8 while a store is pending, else 0
--     Roomed, written                  a write: 9 while no room is left, else 0
use mathlib.Core.Path.{◌≡◌, sym, ◌∙◌}
use mathlib.Core.Bool.{true, false, false≢true}
use mathlib.Core.Logic.{⊎_elim}
use mathlib.Core.List.{[]}
use Prim.Native.Nat.{ℕ, ◌≤◌, ◌<◌}
use native.Mathlib.Omega.{arith}
use lib.ListN.{length}
use Rattle.base.specs.Refusals.{as_taken, by_blocked, by_pending, by_full, by_occupied, by_free}
use Rattle.buffers.specs.declared.Spot.{Spot}
use Rattle.buffers.specs.declared.Spot.TheVariants as spot
use Rattle.buffers.specs.declared.Entry.{Entry}
use Rattle.buffers.specs.Buffers.{max_stores, pending_of}
use Rattle.memory.specs.declared.Memory.{Memory}
use Rattle.memory.specs.Memories.{max_processes, used_of, buffer_of, blocked_of}
use Rattle.memory.specs.Steps.{write_of, fence_of, lock_of, unlock_of, allocate_of, free_of}
use Rattle.memory.specs.Looks.{look_mark_of, look_field_of, look_sense_of, look_phase_of, look_swept_of}
use Rattle.memory.specs.Views.{pending_for}
use Rattle.memory.proofs.Shapes.{Shaped, pending_is}
use Rattle.memory.proofs.Blocks.{blocked_is}
use Rattle.memory.proofs.Chains.{One, Two}
use Rattle.memory.proofs.Refusals.{write_no, fence_no, lock_no, unlock_no, allocate_no, free_no}
use Rattle.memory.proofs.Sights.{look_mark_no, look_field_no, look_sense_no, look_phase_no, look_swept_no}
use Rattle.model.specs.Reasons.{Blocked, OnFree}

-- ---- looks, allocation, freeing and the lock
pub data Looked (m : Memory) (p : ℕ) (at : Spot) (n : ℕ) : Type 0 where
  blocked : n ≡ by_blocked → Blocked m p → Looked m p at n
  free : n ≡ by_free → (Blocked m p → ⊥) → OnFree m at → Looked m p at n
  seen : n ≡ as_taken → (Blocked m p → ⊥) → (OnFree m at → ⊥) → Looked m p at n

pub data Unblocked (m : Memory) (p n : ℕ) : Type 0 where
  blocked : n ≡ by_blocked → Blocked m p → Unblocked m p n
  clear : n ≡ as_taken → (Blocked m p → ⊥) → Unblocked m p n

pub data Granted (m : Memory) (p x n : ℕ) : Type 0 where
  blocked : n ≡ by_blocked → Blocked m p → Granted m p x n
  occupied : n ≡ by_occupied → (Blocked m p → ⊥) → used_of m x ≡ true → Granted m p x n
  granted : n ≡ as_taken → (Blocked m p → ⊥) → used_of m x ≡ false → Granted m p x n

pub data Lent (m : Memory) (n : ℕ) : Type 0 where
  held : n ≡ by_blocked → (m.lock ≡ 0 → ⊥) → Lent m n
  lent : n ≡ as_taken → m.lock ≡ 0 → Lent m n

module _ (m : Memory) (p : ℕ) where
  pub is_blocked : blocked_of m p ≡ true → Blocked m p
  is_blocked b = let k = (blocked_is m p).0 b in record { held = k.0; other = k.1 }

  pub un_blocked : blocked_of m p ≡ false → Blocked m p → ⊥
  un_blocked b h = false≢true (sym b ∙ (blocked_is m p).1 (h.held, h.other))

  -- a look at a spot of a cell, and at any other
  of_cell_lem : (r n : ℕ) (at : Spot) → (used_of m r ≡ false → OnFree m at) → (used_of m r ≡ true → OnFree m at → ⊥)
      → Two n by_blocked as_taken by_free (blocked_of m p ≡ true) (blocked_of m p ≡ false) (used_of m r ≡ true) (used_of m r ≡ false) → Looked m p at n
  of_cell_lem r n at f g t =
      ⊎_elim (λ e. blocked e (is_blocked (t.first.0 e)))
      (λ w. ⊎_elim (λ e. let k = t.second.0 e in seen e (un_blocked k.0) (g k.1)) (λ e. let k = t.third.0 e in free e (un_blocked k.0) (f k.1)) w)
      t.only

  of_none : {n : ℕ} (at : Spot) → (OnFree m at → ⊥) → One n by_blocked as_taken (blocked_of m p ≡ true) (blocked_of m p ≡ false) → Looked m p at n
  of_none at f t = ⊎_elim (λ e. blocked e (is_blocked (t.first.0 e))) (λ e. seen e (un_blocked (t.second.0 e)) f) t.only

  pub mark_looked : (r : ℕ) → Looked m p (spot.Mark r) (look_mark_of m p r).no
  mark_looked r = of_cell_lem r (look_mark_of m p r).no (spot.Mark r) (λ e. e) (λ e f. false≢true (sym f ∙ e)) (look_mark_no m p r)

  pub field_looked : (x f : ℕ) → Looked m p (spot.Field x f) (look_field_of m p x f).no
  field_looked x f = of_cell_lem x (look_field_of m p x f).no (spot.Field x f) (λ e. e) (λ e f. false≢true (sym f ∙ e)) (look_field_no m p x f)

  pub sense_looked : Looked m p spot.Sense (look_sense_of m p).no
  sense_looked = of_none spot.Sense (λ f. f) (look_sense_no m p)

  pub phase_looked : Looked m p spot.Phase (look_phase_of m p).no
  phase_looked = of_none spot.Phase (λ f. f) (look_phase_no m p)

  clears : {n : ℕ} → One n by_blocked as_taken (blocked_of m p ≡ true) (blocked_of m p ≡ false) → Unblocked m p n
  clears t = ⊎_elim (λ e. blocked e (is_blocked (t.first.0 e))) (λ e. clear e (un_blocked (t.second.0 e))) t.only

  pub swept : (r : ℕ) → Unblocked m p (look_swept_of m p r).no
  swept r = clears (look_swept_no m p r)

  pub freed : (r : ℕ) → Unblocked m p (free_of m p r).no
  freed r = clears (free_no m p r)

  pub allocated : (x : ℕ) → Granted m p x (allocate_of m p x).no
  allocated x =
      let t = allocate_no m p x in
      ⊎_elim (λ e. blocked e (is_blocked (t.first.0 e)))
      (λ w. ⊎_elim (λ e. let k = t.second.0 e in occupied e (un_blocked k.0) k.1) (λ e. let k = t.third.0 e in granted e (un_blocked k.0) k.1) w)
      t.only

  pub locked : Lent m (lock_of m p).no
  locked = let t = lock_no m p in ⊎_elim (λ e. lent e (t.first.0 e)) (λ e. held e (t.second.0 e)) t.only

-- ---- buffers
pub record Buffered (m : Memory) (p : ℕ) : Type 0 where
  pub process : p < max_processes
  pub shaped : Shaped m

pub data Drained (m : Memory) (p n : ℕ) : Type 0 where
  pending : n ≡ by_pending → (pending_of (buffer_of m p) ≡ [] → ⊥) → Drained m p n
  drained : n ≡ as_taken → pending_of (buffer_of m p) ≡ [] → Drained m p n

pub data Roomed (m : Memory) (p n : ℕ) : Type 0 where
  full : n ≡ by_full → max_stores ≤ length (pending_of (buffer_of m p)) → Roomed m p n
  roomed : n ≡ as_taken → length (pending_of (buffer_of m p)) < max_stores → Roomed m p n

module _ (m : Memory) (p : ℕ) (z : Buffered m p) where
  drains : {n : ℕ} → One n as_taken by_pending (pending_for m p ≡ []) (pending_for m p ≡ [] → ⊥) → Drained m p n
  drains t = ⊎_elim (λ e. drained e (sym (pending_is m p) ∙ t.first.0 e)) (λ e. pending e (λ f. t.second.0 e (pending_is m p ∙ f))) t.only

  pub fenced : Drained m p (fence_of m p).no
  fenced = drains (fence_no m p z.shaped)

  pub unlocked : Drained m p (unlock_of m p).no
  unlocked = drains (unlock_no m p z.shaped)

  pub written : (e : Entry) → Roomed m p (write_of m p e).no
  written e =
      let t = write_no m p e z.shaped in
      ⊎_elim (λ i. absurd (omega (arith, t.first.0 i, z.process)))
      (λ w. ⊎_elim (λ i. roomed i (rw pending_is at (t.second.0 i).1)) (λ i. full i (omega (arith, rw pending_is at (t.third.0 i).1))) w)
      t.only
