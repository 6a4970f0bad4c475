-- Every step keeps memory shaped. Assumes nothing.
--     write_shaped, commit_shaped, fence_shaped, lock_shaped, unlock_shaped, allocate_shaped, free_shaped     taken
--     or refused; an allocation, of a cell within the arrays
--     put_length                   a cell put leaves an array its length
--     shaped_like                  so is a memory with the same arrays and occupied cells
--     shaped_buffer, shaped_applied, shaped_lock, shaped_allocated, shaped_freed     so are the memories that the
--     steps are made of
use mathlib.Core.Path.{◌≡◌, refl, ◌∙◌, ap}
use mathlib.Core.Logic.{⊎_elim}
use mathlib.Core.List.{List}
use Prim.Native.Nat.{ℕ, ◌-◌, ◌+◌, ◌≤◌, ◌<◌}
use native.Mathlib.Omega.{arith}
use native.Mathlib.Decide.{ℕ_discrete}
use lib.Dec.{eqb, leb}
use lib.ListN.{length, length-set}
use borrow.Author.Tests.{le-leb, eq-eqb}
use Rattle.base.proofs.Picking.{picked}
use Rattle.cells.proofs.Members.{in_add, in_remove}
use Rattle.buffers.specs.declared.Store.{Store}
use Rattle.buffers.specs.declared.Store.TheVariants as store
use Rattle.buffers.specs.declared.Buffer.{Buffer}
use Rattle.buffers.specs.declared.Entry.{Entry}
use Rattle.buffers.specs.Stores.{spot_of}
use Rattle.buffers.specs.Buffers.{push_of, pop_of}
use Rattle.buffers.proofs.Fifos.{Sized, push_sized, pop_sized}
use Rattle.memory.specs.declared.Memory.{Memory}
use Rattle.memory.specs.Answers.{Done}
use Rattle.memory.specs.Memories.{max_cells, max_processes, with_sense, with_alloc_sense, with_phase, with_lock, put_cell, used_of, buffer_of, with_buffer, pending_len_of, blocked_of, there_of, applied_of, allocated_of, freed_of}
use Rattle.memory.specs.Steps.{write_of, commit_of, fence_of, lock_of, unlock_of, allocate_of, free_of}
use Rattle.memory.proofs.Shapes.{Shaped, buffer_same, buffer_other, there_or_not, buffer_absent}

pub put_length : {A : Type 0} (l : List A) (c : ℕ) (v : A) → length (put_cell l c v) ≡ length l
put_length {A} l c v = picked (λ (k : List A). length k ≡ length l) (eqb c 0) refl (length-set l (c - 1) v)

-- an answer hands back a memory that is shaped
abbrev Kept : Done → Type 0
Kept d = Shaped d.memory

pub shaped_like : (m n : Memory) → Shaped m → n.field0 ≡ m.field0 → n.field1 ≡ m.field1 → n.buffers ≡ m.buffers → n.used ≡ m.used → Shaped n
shaped_like m n z b c d e =
    record {
      field0 = rw b z.field0;
      field1 = rw c z.field1;
      buffers = rw d z.buffers;
      sized = λ p l. rw d (z.sized p l);
      within = λ x h. z.within x (rw e at h);
    }

module _ (m : Memory) (z : Shaped m) where
  pub shaped_buffer : (p : ℕ) (b : Buffer) → Sized b → Shaped (with_buffer m p b)
  shaped_buffer p b k = record { field0 = z.field0; field1 = z.field1; buffers = length-set m.buffers p b ∙ z.buffers; sized = sized; within = z.within }
    where
      sized : (q : ℕ) → q < max_processes → Sized (buffer_of (with_buffer m p b) q)
      sized q l = go (ℕ_discrete q p)
        where
          go : Dec (q ≡ p) → Sized (buffer_of (with_buffer m p b) q)
          go (yes e) = rw (e, buffer_same m z p b (omega arith)) k
          go (no n) = rw (buffer_other m p q b n) (z.sized q l)

  pub shaped_applied : (s : Store) → Shaped (applied_of m s)
  unfolding applied_of
  shaped_applied (store.Mark c b) = record { field0 = z.field0; field1 = z.field1; buffers = z.buffers; sized = z.sized; within = z.within }
  shaped_applied (store.Field c f v) =
      record {
        field0 = picked (λ (l : List ℕ). length l ≡ max_cells) (eqb f 0) (put_length m.field0 c v ∙ z.field0) z.field0;
        field1 = picked (λ (l : List ℕ). length l ≡ max_cells) (eqb f 0) z.field1 (put_length m.field1 c v ∙ z.field1);
        buffers = z.buffers;
        sized = z.sized;
        within = z.within;
      }
  shaped_applied (store.Sense b) = shaped_like m (with_sense m b) z refl refl refl refl
  shaped_applied (store.AllocSense b) = shaped_like m (with_alloc_sense m b) z refl refl refl refl
  shaped_applied (store.Phase x) = shaped_like m (with_phase m x) z refl refl refl refl

  pub shaped_lock : (k : ℕ) → Shaped (with_lock m k)
  shaped_lock k = shaped_like m (with_lock m k) z refl refl refl refl

  pub shaped_allocated : (c : ℕ) → c ≤ max_cells → Shaped (allocated_of m c)
  shaped_allocated c l =
      record {
        field0 = put_length m.field0 c 0 ∙ z.field0;
        field1 = put_length m.field1 c 0 ∙ z.field1;
        buffers = z.buffers;
        sized = z.sized;
        within = λ d h. ⊎_elim (λ i. z.within d i) (λ (e : c ≡ d). rw (← e) l) (in_add m.used c d h);
      }

  pub shaped_freed : (c : ℕ) → Shaped (freed_of m c)
  shaped_freed c =
      record {
        field0 = put_length m.field0 c 0 ∙ z.field0;
        field1 = put_length m.field1 c 0 ∙ z.field1;
        buffers = z.buffers;
        sized = z.sized;
        within = λ d h. z.within d (in_remove m.used c d h).0;
      }

module _ (m : Memory) (z : Shaped m) where
  shaped_apply : (p : ℕ) → p < max_processes → Shaped (applied_of (with_buffer m p (pop_of (buffer_of m p)).buffer) (pop_of (buffer_of m p)).entry.store)
  shaped_apply p l = shaped_applied (with_buffer m p (pop_of (buffer_of m p)).buffer) (shaped_buffer m z p (pop_of (buffer_of m p)).buffer (pop_sized (buffer_of m p) (z.sized p l))) (pop_of (buffer_of m p)).entry.store

  pub write_shaped : (p : ℕ) (e : Entry) → Shaped (write_of m p e).memory
  unfolding write_of
  write_shaped p e =
      ⊎_elim
      (λ l. picked Kept (leb max_processes p) z (picked Kept (push_of (buffer_of m p) e).taken (shaped_buffer m z p (push_of (buffer_of m p) e).buffer (push_sized (buffer_of m p) e (z.sized p l))) z))
      (λ l. rw (le-leb max_processes p l) z)
      (there_or_not p)

  pub commit_shaped : (p : ℕ) → Shaped (commit_of m p).memory
  unfolding commit_of
  commit_shaped p = ⊎_elim there absent (there_or_not p)
    where
      there : p < max_processes → Shaped (commit_of m p).memory
      there l =
          let b = pop_of (buffer_of m p) in
          picked Kept (eqb (pending_len_of m p) 0) z
          (picked Kept (blocked_of m p) z
          (picked Kept (there_of m (spot_of b.entry.store)) (shaped_apply p l) z))

      absent : max_processes ≤ p → Shaped (commit_of m p).memory
      absent l = rw (eq-eqb (pending_len_of m p) 0 (ap (λ (b : Buffer). b.len) (buffer_absent m z p l))) z

  pub fence_shaped : (p : ℕ) → Shaped (fence_of m p).memory
  unfolding fence_of
  fence_shaped p = picked Kept (eqb (pending_len_of m p) 0) z z

  pub lock_shaped : (p : ℕ) → Shaped (lock_of m p).memory
  unfolding lock_of
  lock_shaped p = picked Kept (eqb m.lock 0) (shaped_lock m z (p + 1)) z

  pub unlock_shaped : (p : ℕ) → Shaped (unlock_of m p).memory
  unfolding unlock_of
  unlock_shaped p = picked Kept (eqb (pending_len_of m p) 0) (shaped_lock m z 0) z

  pub allocate_shaped : (p c : ℕ) → c ≤ max_cells → Shaped (allocate_of m p c).memory
  unfolding allocate_of
  allocate_shaped p c l = picked Kept (blocked_of m p) z (picked Kept (used_of m c) z (shaped_allocated m z c l))

  pub free_shaped : (p c : ℕ) → Shaped (free_of m p c).memory
  unfolding free_of
  free_shaped p c = picked Kept (blocked_of m p) z (shaped_freed m z c)
