-- Which number each step gives, exactly when (specs/Refusals), and what comes with it. Assumes nothing.
--     write_no, commit_no, fence_no, lock_no, unlock_no, allocate_no, free_no                     the numbers of a step
--     write_same, commit_same, lock_same, unlock_same, allocate_same, free_same                   a refused step
--     hands the same memory back
--     fence_same                                                                                  a fence does, taken
--                                                                                                 or refused
--     write_goes, commit_goes, fence_goes, lock_goes, unlock_goes, allocate_goes, free_goes       a step that is
--     asked right is taken
use mathlib.Core.Path.{◌≡◌, refl, sym, ◌∙◌, ap}
use mathlib.Core.Bool.{Bool, true, false}
use mathlib.Core.Logic.{⊎_elim}
use mathlib.Core.List.{List, [], ◌∷◌}
use Prim.Native.Nat.{ℕ, ◌+◌, ◌≤◌, ◌<◌}
use native.Mathlib.Omega.{arith}
use lib.Dec.{eqb, leb}
use lib.ListN.{length}
use borrow.Author.Tests.{leb-true, leb-false, le-leb, lt-leb, eqb-true, eqb-false, eq-eqb, ne_eqb}
use Rattle.base.specs.Pick.{pick}
use Rattle.base.proofs.Picking.{picked}
use Rattle.base.specs.Refusals.{as_taken, by_no_process, by_none_pending, by_blocked, by_pending, by_full, by_occupied, by_free}
use Rattle.buffers.specs.declared.Store.{Store}
use Rattle.buffers.specs.declared.Entry.{Entry}
use Rattle.buffers.specs.Stores.{spot_of}
use Rattle.buffers.specs.Buffers.{max_stores, push_of, pop_of}
use Rattle.buffers.proofs.Fifos.{push_room, push_full, pop_oldest}
use Rattle.memory.specs.declared.Memory.{Memory}
use Rattle.memory.specs.Answers.{Done}
use Rattle.memory.specs.Memories.{max_processes, taken, refused, with_lock, used_of, buffer_of, with_buffer, pending_len_of, blocked_of, there_of, applied_of, allocated_of, freed_of}
use Rattle.memory.specs.Steps.{write_of, commit_of, fence_of, lock_of, unlock_of, allocate_of, free_of}
use Rattle.memory.specs.Views.{pending_for}
use Rattle.memory.specs.Refusals.{HandsBack, WriteNumbers, CommitNumbers, FenceNumbers, LockNumbers, UnlockNumbers, AllocateNumbers, FreeNumbers}
use Rattle.memory.proofs.Shapes.{Shaped, oldest_of, pending_is, pending_empty, pending_absent, there_or_not}
use Rattle.memory.proofs.Effects.{is_taken}
use Rattle.memory.proofs.Chains.{Decides, itself, one, two, three}

-- ---- the number of what is picked
no_pick : (t : Bool) (x y : Done) {a b : ℕ} → x.no ≡ a → y.no ≡ b → (pick t x y).no ≡ pick t a b
no_pick true x y e f = e
no_pick false x y e f = f

-- ---- what the tests say
zero_test : (k : ℕ) → Decides (eqb k 0) (k ≡ 0) (k ≡ 0 → ⊥)
zero_test k = record { holds = (eqb-true k 0, eq-eqb k 0); fails = (eqb-false k 0, ne_eqb k 0) }

process_test : (p : ℕ) → Decides (leb max_processes p) (max_processes ≤ p) (p < max_processes)
process_test p = record { holds = (leb-true max_processes p, le-leb max_processes p); fails = (leb-false max_processes p, lt-leb max_processes p) }

equally : {t u : Bool} → t ≡ u → Decides t (u ≡ true) (u ≡ false)
equally {t} {u} e = record { holds = (λ h. sym e ∙ h, λ h. e ∙ h); fails = (λ h. sym e ∙ h, λ h. e ∙ h) }

module _ (m : Memory) (p : ℕ) where
  pending_test : Shaped m → Decides (eqb (pending_len_of m p) 0) (pending_for m p ≡ []) (pending_for m p ≡ [] → ⊥)
  pending_test z =
      let k = pending_empty m z p in
      record {
        holds = (λ h. k.0 (eqb-true (pending_len_of m p) 0 h), λ h. eq-eqb (pending_len_of m p) 0 (k.1 h));
        fails = (λ h e. eqb-false (pending_len_of m p) 0 h (k.1 e), λ f. ne_eqb (pending_len_of m p) 0 (λ e. f (k.0 e)));
      }

  oldest_is : Shaped m → (pending_for m p ≡ [] → ⊥) → (pop_of (buffer_of m p)).entry.store ≡ oldest_of (pending_for m p)
  unfolding pending_for
  oldest_is z ne = go (pending_for m p) refl
    where
      go : (l : List Entry) → pending_for m p ≡ l → (pop_of (buffer_of m p)).entry.store ≡ oldest_of (pending_for m p)
      go [] e = absurd (ne e)
      go (x ∷ l) e = ⊎_elim (λ i. rw e (ap (λ (k : Entry). k.store) (pop_oldest (buffer_of m p) (z.sized p i) e).1)) (λ i. absurd (ne (pending_absent m z p i))) (there_or_not p)

  pub fence_no : Shaped m → FenceNumbers m p
  unfolding fence_of
  fence_no z = one as_taken by_pending (eqb (pending_len_of m p) 0) (λ x. omega arith) (no_pick (eqb (pending_len_of m p) 0) (taken m) (refused by_pending m) refl refl) (pending_test z)

  pub unlock_no : Shaped m → UnlockNumbers m p
  unfolding unlock_of
  unlock_no z = one as_taken by_pending (eqb (pending_len_of m p) 0) (λ x. omega arith) (no_pick (eqb (pending_len_of m p) 0) (taken (with_lock m 0)) (refused by_pending m) refl refl) (pending_test z)

  pub lock_no : LockNumbers m p
  unfolding lock_of
  lock_no = one as_taken by_blocked (eqb m.lock 0) (λ x. omega arith) (no_pick (eqb m.lock 0) (taken (with_lock m (p + 1))) (refused by_blocked m) refl refl) (zero_test m.lock)

  pub free_no : (c : ℕ) → FreeNumbers m p c
  unfolding free_of
  free_no c = one by_blocked as_taken (blocked_of m p) (λ x. omega arith) (no_pick (blocked_of m p) (refused by_blocked m) (taken (freed_of m c)) refl refl) (itself (blocked_of m p))

  pub allocate_no : (c : ℕ) → AllocateNumbers m p c
  unfolding allocate_of
  allocate_no c =
      two by_blocked by_occupied as_taken (blocked_of m p) (used_of m c) (λ x. omega arith) (λ x. omega arith) (λ x. omega arith)
      (no_pick (blocked_of m p) (refused by_blocked m) _ refl (no_pick (used_of m c) (refused by_occupied m) (taken (allocated_of m c)) refl refl))
      (itself (blocked_of m p))
      (λ x. itself (used_of m c))

  pub write_no : (e : Entry) → Shaped m → WriteNumbers m p e
  unfolding write_of
  write_no e z =
      let b = push_of (buffer_of m p) e in
      two by_no_process as_taken by_full (leb max_processes p) b.taken (λ x. omega arith) (λ x. omega arith) (λ x. omega arith)
      (no_pick (leb max_processes p) (refused by_no_process m) _ refl (no_pick b.taken (taken (with_buffer m p b.buffer)) (refused by_full m) refl refl))
      (process_test p)
      (λ l. rw (pending_is m p) (record { holds = push_room (buffer_of m p) e (z.sized p l); fails = push_full (buffer_of m p) e (z.sized p l) }))

  pub commit_no : Shaped m → CommitNumbers m p
  unfolding commit_of
  commit_no z =
      let b = pop_of (buffer_of m p) in
      three by_none_pending by_blocked as_taken by_free (eqb (pending_len_of m p) 0) (blocked_of m p) (there_of m (spot_of b.entry.store))
      (λ x. omega arith)
      (λ x. omega arith)
      (λ x. omega arith)
      (λ x. omega arith)
      (λ x. omega arith)
      (λ x. omega arith)
      (no_pick (eqb (pending_len_of m p) 0) (refused by_none_pending m) _ refl
      (no_pick (blocked_of m p) (refused by_blocked m) _ refl
      (no_pick (there_of m (spot_of b.entry.store)) (taken (applied_of (with_buffer m p b.buffer) b.entry.store)) (refused by_free m) refl refl)))
      (pending_test z)
      (itself (blocked_of m p))
      (λ ne. equally (ap (λ (s : Store). there_of m (spot_of s)) (oldest_is z ne)))

-- ---- a refused step hands the same memory back
module _ (m : Memory) (p : ℕ) where
  back : (k : ℕ) → HandsBack m (refused k m)
  back k = λ h. refl

  went : (n : Memory) → HandsBack m (taken n)
  went n = λ h. absurd (h refl)

  pub write_same : (e : Entry) → HandsBack m (write_of m p e)
  unfolding write_of
  write_same e = picked (HandsBack m) (leb max_processes p) (back by_no_process) (picked (HandsBack m) (push_of (buffer_of m p) e).taken (went _) (back by_full))

  pub commit_same : HandsBack m (commit_of m p)
  unfolding commit_of
  commit_same =
      picked (HandsBack m) (eqb (pending_len_of m p) 0) (back by_none_pending)
      (picked (HandsBack m) (blocked_of m p) (back by_blocked)
      (picked (HandsBack m) (there_of m (spot_of (pop_of (buffer_of m p)).entry.store)) (went _) (back by_free)))

  -- taken or refused
  pub fence_same : (fence_of m p).memory ≡ m
  unfolding fence_of
  fence_same = picked (λ (d : Done). d.memory ≡ m) (eqb (pending_len_of m p) 0) refl refl

  pub lock_same : HandsBack m (lock_of m p)
  unfolding lock_of
  lock_same = picked (HandsBack m) (eqb m.lock 0) (went _) (back by_blocked)

  pub unlock_same : HandsBack m (unlock_of m p)
  unfolding unlock_of
  unlock_same = picked (HandsBack m) (eqb (pending_len_of m p) 0) (went _) (back by_pending)

  pub allocate_same : (c : ℕ) → HandsBack m (allocate_of m p c)
  unfolding allocate_of
  allocate_same c = picked (HandsBack m) (blocked_of m p) (back by_blocked) (picked (HandsBack m) (used_of m c) (back by_occupied) (went _))

  pub free_same : (c : ℕ) → HandsBack m (free_of m p c)
  unfolding free_of
  free_same c = picked (HandsBack m) (blocked_of m p) (back by_blocked) (went _)

-- ---- a step that is asked right is taken
module _ (m : Memory) (p : ℕ) where
  pub write_goes : (e : Entry) → Shaped m → p < max_processes → length (pending_for m p) < max_stores → write_of m p e ≡ taken (write_of m p e).memory
  write_goes e z l r = is_taken (write_of m p e) ((write_no m p e z).second.1 (l, r))

  pub commit_goes : (e : Entry) (es : List Entry) → Shaped m → pending_for m p ≡ e ∷ es → blocked_of m p ≡ false → there_of m (spot_of e.store) ≡ true → commit_of m p ≡ taken (commit_of m p).memory
  commit_goes e es z h b t = is_taken (commit_of m p) ((commit_no m p z).third.1 (λ q. nothing (sym h ∙ q), b, rw h t))
    where
      nothing : e ∷ es ≡ [] → ⊥
      nothing q = let k : ◌≡◌ {A = ℕ} 0 1 = cc in omega arith

  pub fence_goes : Shaped m → pending_for m p ≡ [] → fence_of m p ≡ taken m
  unfolding fence_of
  fence_goes z h = rw (eq-eqb (pending_len_of m p) 0 ((pending_empty m z p).1 h))

  pub lock_goes : m.lock ≡ 0 → lock_of m p ≡ taken (with_lock m (p + 1))
  unfolding lock_of
  lock_goes h = rw (eq-eqb m.lock 0 h)

  pub unlock_goes : Shaped m → pending_for m p ≡ [] → unlock_of m p ≡ taken (with_lock m 0)
  unfolding unlock_of
  unlock_goes z h = rw (eq-eqb (pending_len_of m p) 0 ((pending_empty m z p).1 h))

  pub allocate_goes : (c : ℕ) → blocked_of m p ≡ false → used_of m c ≡ false → allocate_of m p c ≡ taken (allocated_of m c)
  unfolding allocate_of
  allocate_goes c b u = rw (b, u)

  pub free_goes : (c : ℕ) → blocked_of m p ≡ false → free_of m p c ≡ taken (freed_of m c)
  unfolding free_of
  free_goes c b = rw b
