-- Every step from a well-formed memory gives a well-formed memory, taken or refused. Assumes nothing.
--     write_kept       a write of a store that fits, by a process that there is
--     commit_kept      a commit, by a process that there is
--     fence_kept, lock_kept, unlock_kept
--     allocate_kept    the allocation of a cell of 1 to N
--     free_kept        the freeing of any cell
use mathlib.Core.Path.{◌≡◌, refl, sym, ◌∙◌}
use mathlib.Core.Bool.{Bool, true, false}
use mathlib.Core.List.{List, [], ◌∷◌}
use mathlib.Core.Logic.{◌≢◌, ◌⊎◌, inl, inr, ⊎_elim}
use Prim.Native.Nat.{ℕ, zero, suc, ◌+◌, ◌-◌, ◌≤◌, ◌<◌}
use native.Mathlib.Decide.{ℕ_discrete}
use native.Mathlib.Omega.{arith}
use lib.Dec.{eqb, leb}
use lib.ListN.{length, get_or, set, length-set}
use lib.Seq.{get_or-set_same, get_or-set_other}
use borrow.Author.Tests.{ne_eqb}
use Rattle.base.proofs.Picking.{pick_ind, picked}
use Rattle.cells.specs.Sets.{member_of, add_of, remove_of}
use Rattle.cells.proofs.Bools.{split, not_both}
use Rattle.cells.proofs.Members.{in_add, add_same, add_keeps, in_remove, remove_keeps, remove_gone}
use Rattle.buffers.specs.declared.Store.{Store}
use Rattle.buffers.specs.declared.Store.TheVariants as store
use Rattle.buffers.specs.declared.Entry.{Entry}
use Rattle.buffers.specs.declared.Buffer.{Buffer}
use Rattle.buffers.specs.Stores.{spot_of}
use Rattle.buffers.specs.Buffers.{empty_buffer, push_of, pop_of}
use Rattle.buffers.specs.Fits.{IsCell, StoreFits, BufferFits}
use Rattle.buffers.proofs.Wells.{push_kept, pop_kept}
use Rattle.memory.specs.declared.PhaseWord.{PhaseWord}
use Rattle.memory.specs.declared.Memory.{Memory}
use Rattle.memory.specs.Answers.{Done}
use Rattle.memory.specs.Memories.{max_cells, max_processes, at_cell, put_cell, used_of, marked_of, no_buffer, buffer_of, with_used, with_marks, with_field0, with_field1, with_buffer, pending_len_of, blocked_of, there_of, applied_of, allocated_of, freed_of}
use Rattle.memory.specs.Steps.{write_of, commit_of, fence_of, lock_of, unlock_of, allocate_of, free_of}
use Rattle.memory.proofs.Spots.{mark_other, cell_other, there_used}
use Rattle.memory.proofs.Keeps.{put_length}
use Rattle.memory_formed.specs.WellFormed.{MemoryFormed}

-- an answer hands back a memory that is well formed
abbrev Kept : Done → Type 0
Kept d = MemoryFormed d.memory

-- ---- arrays by cell
module _ {A : Type 0} where
  put_suc : (l : List A) (i : ℕ) (v : A) → put_cell l (suc i) v ≡ set l i v
  put_suc l i v = let q : suc i - 1 ≡ i = omega arith in rw (ne_eqb (suc i) 0 (λ e. omega arith), q) refl

  at_suc : (l : List A) (i : ℕ) (d : A) → at_cell l (suc i) d ≡ get_or l i d
  at_suc l i d = let q : suc i - 1 ≡ i = omega arith in rw (ne_eqb (suc i) 0 (λ e. omega arith), q) refl

  put_zero : (l : List A) (c : ℕ) (d : A) → at_cell (put_cell l c d) c d ≡ d
  put_zero l zero d = refl
  put_zero l (suc i) d = rw (put_suc l i d, at_suc (set l i d) i d) (go l i)
    where
      go : (l : List A) (i : ℕ) → get_or (set l i d) i d ≡ d
      go [] i = refl
      go (a ∷ l) zero = refl
      go (a ∷ l) (suc i) = go l i

-- ---- other cells: what the facts ask of the set and of the arrays
module _ (m : Memory) (w : MemoryFormed m) where
  heap_kept : (s b : ℕ) (vs us : List ℕ) → length vs ≡ max_cells → length us ≡ max_cells →
      ((c : ℕ) → member_of s c ≡ true → IsCell m.cells c) →
      ((c : ℕ) → member_of s c ≡ false → member_of b c ≡ false) →
      ((c : ℕ) → member_of s c ≡ false → at_cell vs c 0 ≡ 0) →
      ((c : ℕ) → member_of s c ≡ false → at_cell us c 0 ≡ 0) →
      MemoryFormed (with_field1 (with_field0 (with_marks (with_used m s) b) vs) us)
  heap_kept s b vs us a d inside marked zero0 zero1 =
      record {
        field0_sized = a;
        field1_sized = d;
        buffers_sized = w.buffers_sized;
        some_cells = w.some_cells;
        few_cells = w.few_cells;
        some_processes = w.some_processes;
        few_processes = w.few_processes;
        used_cells = inside;
        holder = w.holder;
        free_mark = marked;
        free_field = λ c f u. picked (λ v. v ≡ 0) (eqb f 0) (zero0 c u) (zero1 c u);
        buffers = w.buffers;
        process_none = w.process_none;
      }

  -- ---- other senses, phase, lock and buffers
  rest_kept : (a b : Bool) (t : PhaseWord) (k : ℕ) (bs : List Buffer) → length bs ≡ max_processes →
      ((p : ℕ) → k ≡ p + 1 → p < m.processes) →
      ((p : ℕ) → p < m.processes → BufferFits m.cells (get_or bs p no_buffer)) →
      ((p : ℕ) → m.processes ≤ p → p < max_processes → get_or bs p no_buffer ≡ empty_buffer) →
      MemoryFormed
      (record { cells = m.cells; processes = m.processes; used = m.used; marks = m.marks; field0 = m.field0; field1 = m.field1; fm = a; fa = b; phase = t; lock = k; buffers = bs })
  rest_kept a b t k bs e holds fit none =
      record {
        field0_sized = w.field0_sized;
        field1_sized = w.field1_sized;
        buffers_sized = e;
        some_cells = w.some_cells;
        few_cells = w.few_cells;
        some_processes = w.some_processes;
        few_processes = w.few_processes;
        used_cells = w.used_cells;
        holder = holds;
        free_mark = w.free_mark;
        free_field = w.free_field;
        buffers = fit;
        process_none = none;
      }

  buffer_kept : (p : ℕ) (b : Buffer) → p < m.processes → BufferFits m.cells b → MemoryFormed (with_buffer m p b)
  buffer_kept p b mine f =
      rest_kept m.fm m.fa m.phase m.lock (set m.buffers p b) (length-set m.buffers p b ∙ w.buffers_sized) w.holder
      (λ q h. fit q h (ℕ_discrete q p))
      (λ q h l. get_or-set_other m.buffers p q b no_buffer (λ e. omega arith) ∙ w.process_none q h l)
    where
      fit : (q : ℕ) → q < m.processes → Dec (q ≡ p) → BufferFits m.cells (get_or (set m.buffers p b) q no_buffer)
      fit q h (yes e) = rw (e, get_or-set_same m.buffers p b no_buffer (omega (arith, w.buffers_sized, w.few_processes))) f
      fit q h (no e) = rw (get_or-set_other m.buffers p q b no_buffer e) (w.buffers q h)

  -- ---- the cell c alone changed, in arrays whose other cells are as they were
  apart : (c x : ℕ) → used_of m c ≡ true → used_of m x ≡ false → x ≢ c
  apart c x u n e = not_both u (rw e at n)

  mark_kept : (c : ℕ) (b : Bool) → used_of m c ≡ true → MemoryFormed (with_marks m (marked_of m.marks c b))
  mark_kept c b u =
      heap_kept m.used (marked_of m.marks c b) m.field0 m.field1 w.field0_sized w.field1_sized w.used_cells
      (λ x n. mark_other m.marks c x b (apart c x u n) ∙ w.free_mark x n)
      (λ x n. w.free_field x 0 n)
      (λ x n. w.free_field x 1 n)

  field0_kept : (c v : ℕ) → used_of m c ≡ true → MemoryFormed (with_field0 m (put_cell m.field0 c v))
  field0_kept c v u =
      heap_kept m.used m.marks (put_cell m.field0 c v) m.field1 (put_length m.field0 c v ∙ w.field0_sized) w.field1_sized w.used_cells
      w.free_mark
      (λ x n. cell_other m.field0 0 v c x (apart c x u n) ∙ w.free_field x 0 n)
      (λ x n. w.free_field x 1 n)

  field1_kept : (c v : ℕ) → used_of m c ≡ true → MemoryFormed (with_field1 m (put_cell m.field1 c v))
  field1_kept c v u =
      heap_kept m.used m.marks m.field0 (put_cell m.field1 c v) w.field0_sized (put_length m.field1 c v ∙ w.field1_sized) w.used_cells
      w.free_mark
      (λ x n. w.free_field x 0 n)
      (λ x n. cell_other m.field1 0 v c x (apart c x u n) ∙ w.free_field x 1 n)

  applied_kept : (s : Store) → there_of m (spot_of s) ≡ true → MemoryFormed (applied_of m s)
  unfolding there_of applied_of
  applied_kept (store.Mark c b) u = mark_kept c b u
  applied_kept (store.Field c f v) u = ⊎_elim (λ e. rw e (field0_kept c v u)) (λ e. rw e (field1_kept c v u)) (split (eqb f 0))
  applied_kept (store.Sense b) u = rest_kept b m.fa m.phase m.lock m.buffers w.buffers_sized w.holder w.buffers w.process_none
  applied_kept (store.AllocSense b) u = rest_kept m.fm b m.phase m.lock m.buffers w.buffers_sized w.holder w.buffers w.process_none
  applied_kept (store.Phase p) u = rest_kept m.fm m.fa (record { phase = p }) m.lock m.buffers w.buffers_sized w.holder w.buffers w.process_none

  allocated_kept : (c : ℕ) → IsCell m.cells c → MemoryFormed (allocated_of m c)
  allocated_kept c h =
      heap_kept (add_of m.used c) (marked_of m.marks c m.fa) (put_cell m.field0 c 0) (put_cell m.field1 c 0)
      (put_length m.field0 c 0 ∙ w.field0_sized) (put_length m.field1 c 0 ∙ w.field1_sized)
      (λ x u. inside x (in_add m.used c x u))
      (λ x n. mark_other m.marks c x m.fa (other x n) ∙ w.free_mark x (before x n (split (used_of m x))))
      (λ x n. cell_other m.field0 0 0 c x (other x n) ∙ w.free_field x 0 (before x n (split (used_of m x))))
      (λ x n. cell_other m.field1 0 0 c x (other x n) ∙ w.free_field x 1 (before x n (split (used_of m x))))
    where
      inside : (x : ℕ) → (used_of m x ≡ true) ⊎ (c ≡ x) → IsCell m.cells x
      inside x (inl u) = w.used_cells x u
      inside x (inr e) = rw (← e) h

      other : (x : ℕ) → member_of (add_of m.used c) x ≡ false → x ≢ c
      other x n e = not_both (add_same m.used c h.0 (omega (arith, h.1, w.few_cells))) (rw e at n)

      before : (x : ℕ) → member_of (add_of m.used c) x ≡ false → (used_of m x ≡ true) ⊎ (used_of m x ≡ false) → used_of m x ≡ false
      before x n (inl u) = absurd (not_both (add_keeps m.used c x u) n)
      before x n (inr u) = u

  freed_kept : (c : ℕ) → MemoryFormed (freed_of m c)
  freed_kept c =
      heap_kept (remove_of m.used c) (marked_of m.marks c false) (put_cell m.field0 c 0) (put_cell m.field1 c 0)
      (put_length m.field0 c 0 ∙ w.field0_sized) (put_length m.field1 c 0 ∙ w.field1_sized)
      (λ x u. w.used_cells x (in_remove m.used c x u).0)
      (λ x n. unmarked x n (ℕ_discrete x c))
      (λ x n. zero_at m.field0 0 (λ u. w.free_field x 0 u) n (ℕ_discrete x c))
      (λ x n. zero_at m.field1 0 (λ u. w.free_field x 1 u) n (ℕ_discrete x c))
    where
      before : (x : ℕ) → member_of (remove_of m.used c) x ≡ false → x ≢ c → (used_of m x ≡ true) ⊎ (used_of m x ≡ false) → used_of m x ≡ false
      before x n e (inl u) = absurd (not_both (remove_keeps m.used c x u (λ q. e (sym q))) n)
      before x n e (inr u) = u

      unmarked : (x : ℕ) → member_of (remove_of m.used c) x ≡ false → Dec (x ≡ c) → member_of (remove_of m.marks c) x ≡ false
      unmarked x n (yes e) = rw e (remove_gone m.marks c)
      unmarked x n (no e) = mark_other m.marks c x false e ∙ w.free_mark x (before x n e (split (used_of m x)))

      zero_at : {A : Type 0} {x : ℕ} (l : List A) (d : A) → (used_of m x ≡ false → at_cell l x d ≡ d) → member_of (remove_of m.used c) x ≡ false → Dec (x ≡ c) → at_cell (put_cell l c d) x d ≡ d
      zero_at l d z n (yes e) = rw e (put_zero l c d)
      zero_at {x = x} l d z n (no e) = cell_other l d d c x e ∙ z (before x n e (split (used_of m x)))

-- ---- the steps
module _ (m : Memory) (p : ℕ) (w : MemoryFormed m) (mine : p < m.processes) where
  pub write_kept : (e : Entry) → StoreFits m.cells e.store → MemoryFormed (write_of m p e).memory
  unfolding write_of
  write_kept e f =
      pick_ind Kept (leb max_processes p) (λ _. w)
      (λ _. pick_ind Kept (push_of (buffer_of m p) e).taken
      (λ _. buffer_kept m w p (push_of (buffer_of m p) e).buffer mine (push_kept m.cells (buffer_of m p) e (w.buffers p mine) f))
      (λ _. w))

  pub commit_kept : MemoryFormed (commit_of m p).memory
  unfolding commit_of
  commit_kept =
      let b = pop_of (buffer_of m p) in
      let s = b.entry.store in
      pick_ind Kept (eqb (pending_len_of m p) 0) (λ _. w)
      (λ _. pick_ind Kept (blocked_of m p) (λ _. w)
      (λ _. pick_ind Kept (there_of m (spot_of s))
      (λ u. applied_kept (with_buffer m p b.buffer) (buffer_kept m w p b.buffer mine (pop_kept m.cells (buffer_of m p) (w.buffers p mine))) s (there_used m (with_buffer m p b.buffer) (spot_of s) refl ∙ u))
      (λ _. w)))

  pub fence_kept : MemoryFormed (fence_of m p).memory
  unfolding fence_of
  fence_kept = picked Kept (eqb (pending_len_of m p) 0) w w

  pub lock_kept : MemoryFormed (lock_of m p).memory
  unfolding lock_of
  lock_kept =
      pick_ind Kept (eqb m.lock 0)
      (λ _. rest_kept m w m.fm m.fa m.phase (p + 1) m.buffers w.buffers_sized (λ q e. omega arith) w.buffers w.process_none)
      (λ _. w)

  pub unlock_kept : MemoryFormed (unlock_of m p).memory
  unfolding unlock_of
  unlock_kept =
      pick_ind Kept (eqb (pending_len_of m p) 0)
      (λ _. rest_kept m w m.fm m.fa m.phase 0 m.buffers w.buffers_sized (λ q e. omega arith) w.buffers w.process_none)
      (λ _. w)

  pub allocate_kept : (c : ℕ) → IsCell m.cells c → MemoryFormed (allocate_of m p c).memory
  unfolding allocate_of
  allocate_kept c h = pick_ind Kept (blocked_of m p) (λ _. w) (λ _. pick_ind Kept (used_of m c) (λ _. w) (λ _. allocated_kept m w c h))

  pub free_kept : (c : ℕ) → MemoryFormed (free_of m p c).memory
  unfolding free_of
  free_kept c = pick_ind Kept (blocked_of m p) (λ _. w) (λ _. freed_kept m w c)
