-- What a step that is taken asks, what it changes, and what stays: the records of specs/Effects. Assumes nothing.
--     is_taken, is_refused              an answer by its number and its memory
--     write_taken                       Written: the entry is the last of the writer's list
--     commit_taken                      Committed: the oldest leaves the list and is held at its spot
--     fence_taken                       Fenced: nothing was pending, and nothing changes
--     lock_taken, unlock_taken          Locked, Unlocked: the lock alone changes (Relocked)
--     allocate_taken, free_taken        Allocated, Freed: one cell alone changes (Reset)
--     write_settled, commit_settled, lock_settled, unlock_settled     of any memory, shaped or not: the counts and
--     the occupied cells stay
--     allocate_used, free_used, allocate_counts, free_counts          .. the occupied cells change by one, and the
--     counts stay
--     committed_held                    after a commit its store is held at its spot, and every other spot is as
--                                       before; Commits has it by the kind of store
use mathlib.Core.Path.{◌≡◌, refl, sym, ◌∙◌, ap}
use mathlib.Core.Bool.{Bool, true, false}
use mathlib.Core.Logic.{⊎_elim}
use mathlib.Core.List.{List, [], ◌∷◌}
use Prim.Native.Nat.{ℕ, ◌+◌, ◌≤◌, ◌<◌}
use native.Mathlib.Omega.{arith}
use lib.Dec.{eqb, leb}
use borrow.Author.Tests.{leb-false, eqb-true, eqb-false}
use Rattle.base.specs.Pick.{pick}
use Rattle.base.proofs.Picking.{picked}
use Rattle.base.specs.Refusals.{as_taken}
use Rattle.cells.specs.Sets.{member_of, add_of, remove_of}
use Rattle.cells.proofs.Members.{add_same, add_keeps, in_add, remove_gone, in_remove, remove_keeps}
use Rattle.cells.proofs.Bools.{same_test}
use Rattle.buffers.specs.declared.Store.{Store}
use Rattle.buffers.specs.declared.Store.TheVariants as store
use Rattle.buffers.specs.declared.Spot.{Spot}
use Rattle.buffers.specs.declared.Entry.{Entry}
use Rattle.buffers.specs.declared.Buffer.{Buffer}
use Rattle.buffers.specs.Stores.{spot_of, hits_of}
use Rattle.buffers.specs.Buffers.{push_of, pop_of}
use Rattle.buffers.proofs.Fifos.{push_room, push_last, pop_oldest}
use Rattle.memory.specs.declared.Memory.{Memory}
use Rattle.memory.specs.Answers.{Done}
use Rattle.memory.specs.Memories.{max_cells, max_processes, taken, refused, with_used, with_marks, with_field0, with_field1, with_lock, put_cell, used_of, marked_of, buffer_of, with_buffer, pending_len_of, blocked_of, there_of, stands_of, applied_of, allocated_of, freed_of}
use Rattle.memory.specs.Steps.{write_of, commit_of, fence_of, lock_of, unlock_of, allocate_of, free_of}
use Rattle.memory.specs.Views.{pending_for}
pub use Rattle.memory.specs.Effects.{Written, Committed, Fenced, Relocked, Locked, Unlocked, Reset, Allocated, Freed}
use Rattle.memory.proofs.Shapes.{Shaped, pending_empty, pending_absent, there_or_not, buffer_same, buffer_other}
use Rattle.memory.proofs.Spots.{Plain, Alike, Settled, mark_same, mark_other, cell_same, cell_other, held_same, held_applied, applied_settled, applied_lock, applied_buffers}

-- ---- answers
pub is_taken : (d : Done) → d.no ≡ as_taken → d ≡ taken d.memory
is_taken d e = rw (← e)

pub is_refused : (d : Done) (k : ℕ) (m : Memory) → d.no ≡ k → d.memory ≡ m → d ≡ refused k m
is_refused d k m e f = rw (← e, ← f)

no_taken : {k : ℕ} {m n : Memory} → (k ≡ as_taken → ⊥) → refused k m ≡ taken n → ⊥
no_taken h e = h (ap (λ (d : Done). d.no) e)

not_first : {A : Type 0} (t : Bool) {x y r : A} → (x ≡ r → ⊥) → pick t x y ≡ r → (t ≡ false) × (y ≡ r)
not_first true n h = absurd (n h)
not_first false n h = (refl, h)

not_second : {A : Type 0} (t : Bool) {x y r : A} → (y ≡ r → ⊥) → pick t x y ≡ r → (t ≡ true) × (x ≡ r)
not_second true n h = (refl, h)
not_second false n h = absurd (n h)

left : {m n : Memory} → taken m ≡ taken n → m ≡ n
left e = ap (λ (d : Done). d.memory) e

-- ---- the tests that a step passed which is taken, and the memory that it left
module _ (m : Memory) (p : ℕ) {n : Memory} where
  write_went : (e : Entry) → write_of m p e ≡ taken n → (p < max_processes) × ((push_of (buffer_of m p) e).taken ≡ true) × (with_buffer m p (push_of (buffer_of m p) e).buffer ≡ n)
  unfolding write_of
  write_went e h =
      let a = not_first (leb max_processes p) (no_taken (λ x. omega arith)) h in
      let b = not_second (push_of (buffer_of m p) e).taken (no_taken (λ x. omega arith)) a.1 in
      (leb-false max_processes p a.0, b.0, left b.1)

  unlock_went : unlock_of m p ≡ taken n → (pending_len_of m p ≡ 0) × (with_lock m 0 ≡ n)
  unfolding unlock_of
  unlock_went h = let a = not_second (eqb (pending_len_of m p) 0) (no_taken (λ x. omega arith)) h in (eqb-true (pending_len_of m p) 0 a.0, left a.1)

  allocate_went : (c : ℕ) → allocate_of m p c ≡ taken n → (blocked_of m p ≡ false) × (used_of m c ≡ false) × (allocated_of m c ≡ n)
  unfolding allocate_of
  allocate_went c h =
      let a = not_first (blocked_of m p) (no_taken (λ x. omega arith)) h in
      let b = not_first (used_of m c) (no_taken (λ x. omega arith)) a.1 in
      (a.0, b.0, left b.1)

  free_went : (c : ℕ) → free_of m p c ≡ taken n → (blocked_of m p ≡ false) × (freed_of m c ≡ n)
  unfolding free_of
  free_went c h = let a = not_first (blocked_of m p) (no_taken (λ x. omega arith)) h in (a.0, left a.1)

  commit_went : commit_of m p ≡ taken n → (pending_len_of m p ≡ 0 → ⊥) × (blocked_of m p ≡ false) × (there_of m (spot_of (pop_of (buffer_of m p)).entry.store) ≡ true) × (applied_of (with_buffer m p (pop_of (buffer_of m p)).buffer) (pop_of (buffer_of m p)).entry.store ≡ n)
  unfolding commit_of
  commit_went h =
      let a = not_first (eqb (pending_len_of m p) 0) (no_taken (λ x. omega arith)) h in
      let b = not_first (blocked_of m p) (no_taken (λ x. omega arith)) a.1 in
      let c = not_second (there_of m (spot_of (pop_of (buffer_of m p)).entry.store)) (no_taken (λ x. omega arith)) b.1 in
      (eqb-false (pending_len_of m p) 0 a.0, b.0, c.0, left c.1)

-- ---- write
buffered : (m : Memory) (p : ℕ) (b : Buffer) → Alike m (with_buffer m p b)
buffered m p b = record { marks = refl; field0 = refl; field1 = refl; fm = refl; fa = refl; phase = refl }

pub write_taken : {m : Memory} (p : ℕ) (e : Entry) {n : Memory} → Shaped m → write_of m p e ≡ taken n → Written m p e n
unfolding pending_for
write_taken {m} p e {n} z h =
    let a = write_went m p e h in
    let l = a.0 in
    let b = a.1 in
    rw (← a.2)
    (record {
      process = l;
      room = (push_room (buffer_of m p) e (z.sized p l)).0 b;
      own = rw (buffer_same m z p (push_of (buffer_of m p) e).buffer l) (push_last (buffer_of m p) e (z.sized p l) b);
      others = λ k ne. rw (buffer_other m p k (push_of (buffer_of m p) e).buffer ne);
      lock = refl;
      alike = buffered m p (push_of (buffer_of m p) e).buffer;
      settled = record { cells = refl; processes = refl; used = refl };
    })

-- ---- fence, lock, unlock
pub fence_taken : {m : Memory} (p : ℕ) {n : Memory} → Shaped m → fence_of m p ≡ taken n → Fenced m p n
unfolding fence_of
fence_taken {m} p {n} z h =
    let a = not_second (eqb (pending_len_of m p) 0) (no_taken (λ x. omega arith)) h in
    record { empty = (pending_empty m z p).0 (eqb-true (pending_len_of m p) 0 a.0); same = sym (left a.1) }

relocked : {m : Memory} (k : ℕ) {n : Memory} → with_lock m k ≡ n → Relocked m k n
unfolding pending_for
relocked {m} k {n} q =
    rw (← q)
    (record {
      lock = refl;
      pending = λ i. refl;
      alike = record { marks = refl; field0 = refl; field1 = refl; fm = refl; fa = refl; phase = refl };
      settled = record { cells = refl; processes = refl; used = refl };
    })

pub lock_taken : {m : Memory} (p : ℕ) {n : Memory} → lock_of m p ≡ taken n → Locked m p n
unfolding lock_of
lock_taken {m} p {n} h =
    let a = not_second (eqb m.lock 0) (no_taken (λ x. omega arith)) h in
    record { free = eqb-true m.lock 0 a.0; after = relocked (p + 1) (left a.1) }

pub unlock_taken : {m : Memory} (p : ℕ) {n : Memory} → Shaped m → unlock_of m p ≡ taken n → Unlocked m p n
unlock_taken {m} p {n} z h = let a = unlock_went m p h in record { empty = (pending_empty m z p).0 a.0; after = relocked 0 a.1 }

-- ---- allocate, free: one cell is occupied or free from now on, with mark b and null fields
module _ (m : Memory) (z : Shaped m) (c : ℕ) (pos : 0 < c) (l : c ≤ max_cells) where
  reset : (k : ℕ) (u b : Bool) → member_of k c ≡ u → ((d : ℕ) → (d ≡ c → ⊥) → member_of k d ≡ used_of m d) → Reset m c u b (with_field1 (with_field0 (with_marks (with_used m k) (marked_of m.marks c b)) (put_cell m.field0 c 0)) (put_cell m.field1 c 0))
  unfolding pending_for
  reset k u b e f =
      record {
        used = e;
        used_others = f;
        mark = mark_same m.marks c b pos (omega arith);
        marks_others = λ d ne. mark_other m.marks c d b ne;
        fields = λ g. picked (λ v. v ≡ 0) (eqb g 0) (cell_same m.field0 0 0 c pos (omega (arith, z.field0))) (cell_same m.field1 0 0 c pos (omega (arith, z.field1)));
        fields_others = λ d g ne. rw (cell_other m.field0 0 0 c d ne, cell_other m.field1 0 0 c d ne);
        fm = refl;
        fa = refl;
        phase = refl;
        lock = refl;
        cells = refl;
        processes = refl;
        pending = λ q. refl;
      }

  others_added : (d : ℕ) → (d ≡ c → ⊥) → member_of (add_of m.used c) d ≡ used_of m d
  others_added d ne = same_test (member_of (add_of m.used c) d) (used_of m d) (λ i. ⊎_elim (λ k. k) (λ (e : c ≡ d). absurd (ne (sym e))) (in_add m.used c d i)) (add_keeps m.used c d)

  others_removed : (d : ℕ) → (d ≡ c → ⊥) → member_of (remove_of m.used c) d ≡ used_of m d
  others_removed d ne = same_test (member_of (remove_of m.used c) d) (used_of m d) (λ i. (in_remove m.used c d i).0) (λ i. remove_keeps m.used c d i (λ e. ne (sym e)))

module _ {m : Memory} (p c : ℕ) {n : Memory} (z : Shaped m) (pos : 0 < c) (l : c ≤ max_cells) where
  pub allocate_taken : allocate_of m p c ≡ taken n → Allocated m p c n
  allocate_taken h =
      let a = allocate_went m p c h in
      rw (← a.2) (record { unblocked = a.0; free = a.1; used = refl; after = reset m z c pos l (add_of m.used c) true m.fa (add_same m.used c pos (omega arith)) (others_added m z c pos l) })

  pub free_taken : free_of m p c ≡ taken n → Freed m p c n
  free_taken h =
      let a = free_went m p c h in
      rw (← a.1) (record { unblocked = a.0; used = refl; after = reset m z c pos l (remove_of m.used c) false false (remove_gone m.used c) (others_removed m z c pos l) })

-- ---- commit
applied_over : (m : Memory) (p : ℕ) (b : Buffer) (s : Store) → applied_of (with_buffer m p b) s ≡ with_buffer (applied_of m s) p b
unfolding applied_of
applied_over m p b (store.Mark c x) = refl
applied_over m p b (store.Field c f v) = refl
applied_over m p b (store.Sense x) = refl
applied_over m p b (store.AllocSense x) = refl
applied_over m p b (store.Phase x) = refl

module _ {m : Memory} (p : ℕ) {n : Memory} (z : Shaped m) where
  committed : (o : Entry) (es : List Entry) → pending_for m p ≡ o ∷ es → p < max_processes → blocked_of m p ≡ false → there_of m (spot_of (pop_of (buffer_of m p)).entry.store) ≡ true → applied_of (with_buffer m p (pop_of (buffer_of m p)).buffer) (pop_of (buffer_of m p)).entry.store ≡ n → Committed m p n
  unfolding pending_for
  committed o es h l u t q =
      let b = pop_of (buffer_of m p) in
      let x = pop_oldest (buffer_of m p) (z.sized p l) h in
      let k : n.buffers ≡ (with_buffer m p b.buffer).buffers = ap (λ (i : Memory). i.buffers) (sym q) ∙ applied_buffers (with_buffer m p b.buffer) b.entry.store in
      let w = applied_settled (with_buffer m p b.buffer) b.entry.store in
      record {
        oldest = o;
        rest = es;
        process = l;
        unblocked = u;
        there = rw x.1 at t;
        before = h;
        own = rw (k, buffer_same m z p b.buffer l) x.2;
        others = λ i ne. rw (k, buffer_other m p i b.buffer ne);
        lock = ap (λ (i : Memory). i.lock) (sym q) ∙ applied_lock (with_buffer m p b.buffer) b.entry.store;
        settled = rw (← q) (record { cells = w.cells; processes = w.processes; used = w.used });
        alike = rw (← q, ← x.1, applied_over m p b.buffer b.entry.store) (buffered (applied_of m b.entry.store) p b.buffer);
      }

  pub commit_taken : commit_of m p ≡ taken n → Committed m p n
  commit_taken h =
      let a = commit_went m p h in
      go (pending_for m p) refl (λ e. a.0 ((pending_empty m z p).1 e)) a.1 a.2 a.3
    where
      go : (l : List Entry) → pending_for m p ≡ l → (pending_for m p ≡ [] → ⊥) → blocked_of m p ≡ false → there_of m (spot_of (pop_of (buffer_of m p)).entry.store) ≡ true → applied_of (with_buffer m p (pop_of (buffer_of m p)).buffer) (pop_of (buffer_of m p)).entry.store ≡ n → Committed m p n
      go [] e ne u t q = absurd (ne e)
      go (o ∷ es) e ne u t q = ⊎_elim (λ l. committed o es e l u t q) (λ l. absurd (ne (pending_absent m z p l))) (there_or_not p)

module _ {m : Memory} {p : ℕ} {n : Memory} (z : Shaped m) (w : Committed m p n) where
  pub committed_held : (at : Spot) → Plain (spot_of w.oldest.store) → Plain at → stands_of n at ≡ pick (hits_of at w.oldest.store) w.oldest.store (stands_of m at)
  committed_held at j i = held_same (applied_of m w.oldest.store) n at w.alike ∙ held_applied m z w.oldest.store at w.there j i

-- ---- of any memory: "Allocation and freeing act on memory at once", and no other step changes which cells are
-- occupied; no step changes N and M
module _ (m : Memory) (p : ℕ) {n : Memory} where
  pub write_settled : (e : Entry) → write_of m p e ≡ taken n → Settled m n
  write_settled e h = rw (← (write_went m p e h).2) (record { cells = refl; processes = refl; used = refl })

  pub commit_settled : commit_of m p ≡ taken n → Settled m n
  commit_settled h =
      let b = pop_of (buffer_of m p) in
      let w = applied_settled (with_buffer m p b.buffer) b.entry.store in
      rw (← (commit_went m p h).3) (record { cells = w.cells; processes = w.processes; used = w.used })

  pub lock_settled : lock_of m p ≡ taken n → Settled m n
  lock_settled h = (lock_taken p h).after.settled

  pub unlock_settled : unlock_of m p ≡ taken n → Settled m n
  unlock_settled h = (relocked 0 (unlock_went m p h).1).settled

  pub allocate_used : (c : ℕ) → allocate_of m p c ≡ taken n → n.used ≡ add_of m.used c
  allocate_used c h = rw (← (allocate_went m p c h).2) refl

  pub free_used : (c : ℕ) → free_of m p c ≡ taken n → n.used ≡ remove_of m.used c
  free_used c h = rw (← (free_went m p c h).1) refl

  pub allocate_counts : (c : ℕ) → allocate_of m p c ≡ taken n → (n.cells ≡ m.cells) × (n.processes ≡ m.processes)
  allocate_counts c h = rw (← (allocate_went m p c h).2) (refl, refl)

  pub free_counts : (c : ℕ) → free_of m p c ≡ taken n → (n.cells ≡ m.cells) × (n.processes ≡ m.processes)
  free_counts c h = rw (← (free_went m p c h).1) (refl, refl)
