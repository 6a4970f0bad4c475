-- A mark waits in a buffer only at its unlock, and so under the lock, one at most; a mutator has only marks and
-- fields pending. Assumes nothing.
--     opening_marks, step_marks                   MarksWait at the opening, and after each step
--     opening_mutator_stores, step_mutator_stores     MutatorStores likewise
--     others_pending                              what another has pending stays
--     none_waits                                  at the opening nothing waits
--     unlock_inside                               the unlock is inside the compare and swap
--     marks_locked                                with the lock's law: under the lock, and one in all buffers
use mathlib.Core.Path.{◌≡◌, refl, sym, ap, ◌∙◌, subst}
use mathlib.Core.Bool.{Bool, true, false}
use mathlib.Core.Logic.{⊎_elim}
use mathlib.Core.List.Memᴰ
use mathlib.Core.List.{List, [], ◌∷◌, ◌++◌}
use Prim.Native.Nat.{ℕ, zero, suc, ◌+◌, ◌≤◌, ◌<◌}
use native.Mathlib.Omega.{arith}
use native.Mathlib.Decide.{ℕ_discrete}
use Rattle.base.specs.Pick.{pick}
use Rattle.cells.proofs.Bools.{not_both, split}
use Rattle.buffers.specs.declared.Store.{Store}
use Rattle.buffers.specs.declared.Store.TheVariants as store
use Rattle.buffers.specs.declared.Entry.{Entry}
use Rattle.memory.specs.declared.Memory.{Memory}
use Rattle.memory.specs.Views.{pending_for}
use Rattle.memory.proofs.Shapes.{Shaped, pending_is}
use Rattle.memory.proofs.Effects.{write_taken, lock_taken, unlock_taken, commit_taken}
use Rattle.memory_formed.proofs.Shapes.{shaped}
use Rattle.state.specs.declared.Process.{Process}
use Rattle.state.specs.declared.State.{State}
use Rattle.state.specs.declared.Choice.{Choice}
use Rattle.state.specs.declared.opening.Heap.{Heap}
use Rattle.state.specs.States.{process_of}
use Rattle.state.specs.Openings.{open_memory, opening_of}
use Rattle.formed.specs.Fits.{HeapFits, WellFormed}
use Rattle.model.specs.Rows.{Row}
use Rattle.claims.specs.Lock.{Inside, Lock}
use Rattle.claims.specs.Pending.{waiting_of, is_mark, marks_in, OneAtMost, Unlocking, MarksWait, MarksLocked, MarkOrField, MarksAndFields, MutatorStores}
use Rattle.claims.proofs.Moves.{inside_of, unlock_on, Outer, Goes, row_goes, others_unlocking, outside_unlocking}

-- ---- counting marks
count_more : (l : List Entry) (e : Entry) → marks_in (l ++ (e ∷ [])) ≡ marks_in l + pick (is_mark e.store) 1 0
count_more [] e = omega arith
count_more (x ∷ l) e = let k = count_more l e in go (is_mark x.store) k
  where
    go : (b : Bool) → marks_in (l ++ (e ∷ [])) ≡ marks_in l + pick (is_mark e.store) 1 0 → pick b (suc (marks_in (l ++ (e ∷ [])))) (marks_in (l ++ (e ∷ []))) ≡ pick b (suc (marks_in l)) (marks_in l) + pick (is_mark e.store) 1 0
    go true k = omega arith
    go false k = k

count_less : (e : Entry) (l : List Entry) → marks_in l ≤ marks_in (e ∷ l)
count_less e l = go (is_mark e.store)
  where
    go : (b : Bool) → marks_in l ≤ pick b (suc (marks_in l)) (marks_in l)
    go true = omega arith
    go false = omega arith

-- ---- of one process: its pending stores l and q
record Waits (l : List Entry) (q : Process) : Type 0 where
  waits : 0 < marks_in l → Unlocking q
  one : OneAtMost l

-- elsewhere than at the unlock no mark waits
none : {l : List Entry} {q : Process} → Waits l q → unlock_on q ≡ false → marks_in l ≡ 0
none {l} w h = go (ℕ_discrete (marks_in l) 0)
  where
    go : Dec (marks_in l ≡ 0) → marks_in l ≡ 0
    go (yes e) = e
    go (no e) = absurd (not_both (w.waits (omega arith)) h)

no_mark_lem : {l : List Entry} (q : Process) → marks_in l ≡ 0 → Waits l q
no_mark_lem q e = record { waits = λ h. absurd (omega arith); one = omega arith }

-- ---- the pending stores of another process stay
outer_others : {p : ℕ} {m n : Memory} (x : ℕ) → Shaped m → (x ≡ p → ⊥) → Outer p m n → pending_for n x ≡ pending_for m x
outer_others x z ne (Outer.quiet k) = k.pending x
outer_others {p} x z ne (Outer.writes {v} k h e) = (write_taken p (record { store = v }) z e).others x ne

pub others_pending : {p : ℕ} {q o : Process} {m n : Memory} (x : ℕ) → Shaped m → (x ≡ p → ⊥) → Goes p q m o n → pending_for n x ≡ pending_for m x
others_pending {p} x z ne (Goes.locks a b e) = (lock_taken p e).after.pending x
others_pending x z ne (Goes.looks a u b) = refl
others_pending {p} x z ne (Goes.writes a u b v r d e) = (write_taken p _ z e).others x ne
others_pending {p} x z ne (Goes.unlocks a b e) = (unlock_taken p z e).after.pending x
others_pending x z ne (Goes.outside a b e) = outer_others x z ne e
others_pending {p} x z ne (Goes.commits e) = (commit_taken p z e).others x ne

-- ---- the marks of the process that steps
outer_marks : {p : ℕ} {m n : Memory} → Shaped m → marks_in (pending_for m p) ≡ 0 → Outer p m n → marks_in (pending_for n p) ≡ 0
outer_marks {p} z h (Outer.quiet k) = ap marks_in (k.pending p) ∙ h
outer_marks {p} {m} z h (Outer.writes {v} k i e) =
    let g = count_more (pending_for m p) (record { store = v }) in
    ap marks_in (write_taken p (record { store = v }) z e).own ∙ g ∙ rw (k, h) refl

goes_marks : {p : ℕ} {q o : Process} {m n : Memory} → Shaped m → Waits (pending_for m p) q → Goes p q m o n → Waits (pending_for n p) o
goes_marks {p} {q} {o} z w (Goes.locks a b e) = no_mark_lem o (ap marks_in ((lock_taken p e).after.pending p) ∙ none w (outside_unlocking q.place q.stage a))
goes_marks {o = o} z w (Goes.looks a u b) = no_mark_lem o (none w u)
goes_marks {p} {m = m} z w (Goes.writes a u b v r d e) =
    let k = ap marks_in (write_taken p _ z e).own ∙ count_more (pending_for m p) (record { store = store.Mark r d }) in
    let h = none w u in
    record { waits = λ _. v; one = omega arith }
goes_marks {p} {o = o} z w (Goes.unlocks a b e) = let k = unlock_taken p z e in no_mark_lem o (ap marks_in (k.after.pending p ∙ k.empty))
goes_marks {p} {q} {o} z w (Goes.outside a b e) = no_mark_lem o (outer_marks z (none w (outside_unlocking q.place q.stage a)) e)
goes_marks {p} {m = m} {n} z w (Goes.commits e) =
    let k = commit_taken p z e in
    let l : marks_in (pending_for n p) ≤ marks_in (pending_for m p) = rw (k.own, k.before) (count_less k.oldest k.rest) in
    record { waits = λ h. w.waits (omega arith); one = let g = w.one in omega arith }

-- ---- its stores, where it is a mutator
allowed_more : (l : List Entry) (v : Store) → MarksAndFields l → MarkOrField v → MarksAndFields (l ++ (record { store = v } ∷ []))
allowed_more l v f k e i = ⊎_elim (f e) (λ j. subst (λ (x : Entry). MarkOrField x.store) (sym (Memᴰ.eq_of_singleton j)) k) (Memᴰ.append_cases l i)

same_allowed : {l k : List Entry} → k ≡ l → MarksAndFields l → MarksAndFields k
same_allowed e f = rw e f

outer_stores : {p : ℕ} {m n : Memory} → Shaped m → 0 < p → MarksAndFields (pending_for m p) → Outer p m n → MarksAndFields (pending_for n p)
outer_stores {p} z pos f (Outer.quiet k) = same_allowed (k.pending p) f
outer_stores {p} {m} z pos f (Outer.writes {v} k h e) = same_allowed (write_taken p (record { store = v }) z e).own (allowed_more (pending_for m p) v f (h pos))

goes_stores : {p : ℕ} {q o : Process} {m n : Memory} → Shaped m → 0 < p → MarksAndFields (pending_for m p) → Goes p q m o n → MarksAndFields (pending_for n p)
goes_stores {p} z pos f (Goes.locks a b e) = same_allowed ((lock_taken p e).after.pending p) f
goes_stores z pos f (Goes.looks a u b) = f
goes_stores {p} {m = m} z pos f (Goes.writes a u b v r d e) = same_allowed (write_taken p _ z e).own (allowed_more (pending_for m p) (store.Mark r d) f MarkOrField.mark)
goes_stores {p} z pos f (Goes.unlocks a b e) = same_allowed ((unlock_taken p z e).after.pending p) f
goes_stores z pos f (Goes.outside a b e) = outer_stores z pos f e
goes_stores {p} z pos f (Goes.commits e) = let k = commit_taken p z e in same_allowed k.own (λ x i. f x (rw k.before (Memᴰ.tail i)))

-- ---- the opening
pub none_waits : (h : Heap) (p : ℕ) → waiting_of (opening_of h) p ≡ []
unfolding opening_of open_memory
none_waits h zero = refl
none_waits h (suc zero) = refl
none_waits h (suc (suc zero)) = refl
none_waits h (suc (suc (suc zero))) = refl
none_waits h (suc (suc (suc (suc zero)))) = refl
none_waits h (suc (suc (suc (suc (suc p))))) = refl

pub opening_marks : (h : Heap) → HeapFits h → MarksWait (opening_of h)
opening_marks h f = record { waits = λ p l. let k = ap marks_in (none_waits h p) in absurd (omega arith); one = λ p. let k = ap marks_in (none_waits h p) in omega arith }

pub opening_mutator_stores : (h : Heap) → HeapFits h → MutatorStores (opening_of h)
opening_mutator_stores h f p pos e i = absurd (Memᴰ.not-nil (rw (none_waits h p) at i))

-- ---- a step
module _ (s : State) (c : Choice) {t : State} (w : WellFormed s) where
  marks_at : ((p : ℕ) → Waits (pending_for s.memory p) (process_of s p)) → Row s c t → (p : ℕ) → Dec (p ≡ c.process) → Waits (pending_for t.memory p) (process_of t p)
  marks_at k r p (yes e) = rw e (goes_marks (shaped s.memory w.memory) (k c.process) (row_goes w r))
  marks_at k r p (no e) =
      let h = ap marks_in (others_pending p (shaped s.memory w.memory) e (row_goes w r)) in
      let i = k p in
      record { waits = λ l. others_unlocking w r p e ∙ i.waits (omega arith); one = let g = i.one in omega arith }

  pub step_marks : MarksWait s → Row s c t → MarksWait t
  step_marks k r = record { waits = λ p. rw (← pending_is t.memory p) (after p).waits; one = λ p. rw (← pending_is t.memory p) (after p).one }
    where
      before : (p : ℕ) → Waits (pending_for s.memory p) (process_of s p)
      before p = rw (pending_is s.memory p) (record { waits = k.waits p; one = k.one p })

      after : (p : ℕ) → Waits (pending_for t.memory p) (process_of t p)
      after p = marks_at before r p (ℕ_discrete p c.process)

  stores_at : ((p : ℕ) → 0 < p → MarksAndFields (pending_for s.memory p)) → Row s c t → (p : ℕ) → 0 < p → Dec (p ≡ c.process) → MarksAndFields (pending_for t.memory p)
  stores_at k r p pos (yes e) = rw e (goes_stores (shaped s.memory w.memory) (rw e at pos) (k c.process (rw e at pos)) (row_goes w r))
  stores_at k r p pos (no e) = same_allowed (others_pending p (shaped s.memory w.memory) e (row_goes w r)) (k p pos)

  pub step_mutator_stores : MutatorStores s → Row s c t → MutatorStores t
  step_mutator_stores k r p pos = rw (← pending_is t.memory p) (stores_at (λ x l. rw (pending_is s.memory x) (k x l)) r p pos (ℕ_discrete p c.process))

-- ---- under the lock: the unlock is inside
pub unlock_inside : (q : Process) → Unlocking q → Inside q
unlock_inside q u = ⊎_elim (λ i. i) (λ i. absurd (not_both u (outside_unlocking q.place q.stage i))) (split (inside_of q))

pub marks_locked : (s : State) → Lock s → MarksWait s → MarksLocked s
marks_locked s l k =
    record {
      locked = held;
      one = k.one;
      alone = λ p r i j. let a = held p i in let b = held r j in omega arith;
    }
  where
    held : (p : ℕ) → 0 < marks_in (waiting_of s p) → s.memory.lock ≡ p + 1
    held p i = (l p).1 (unlock_inside (process_of s p) (k.waits p i))
