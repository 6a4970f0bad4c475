-- Each step of a mutator's program keeps the state well formed. Assumes nothing.
--     mutator_kept       every row of `Mutator`
use mathlib.Core.Path.{◌≡◌, refl}
use mathlib.Core.Bool.{Bool, true, false}
use mathlib.Core.Logic.{◌⊎◌, inl, inr}
use Prim.Native.Nat.{ℕ, ◌≤◌, ◌<◌}
use native.Mathlib.Omega.{arith}
use Rattle.cells.specs.Sets.{no_cells, below_of, union_of, Member}
use Rattle.cells.proofs.Belows.{below_range, below_empty, below_add, below_remove, below_union}
use Rattle.buffers.specs.declared.Store.TheVariants as store
use Rattle.buffers.specs.declared.Entry.{Entry}
use Rattle.buffers.specs.Fits.{IsCell}
use Rattle.memory.specs.Looks.{look_field_of}
use Rattle.memory_formed.specs.WellFormed.{MemoryFormed}
use Rattle.memory_formed.proofs.Kept.{write_kept, allocate_kept}
use Rattle.state.specs.declared.Handshake.{Handshake}
use Rattle.state.specs.declared.RoundType.{RoundType}
use Rattle.state.specs.declared.Process.{Process}
use Rattle.state.specs.declared.State.{State}
use Rattle.state.specs.declared.Choice.{Choice}
use Rattle.state.specs.Codes.{top, store_mark_old, store_mark_y, store_write, noop_fence, noop_finish, roots_fence, roots_finish, work_fence, work_finish, no_stage, look_stage}
use Rattle.state.specs.States.{next_of, at, noting, listing, shaking, mutators_of, with_process_of, with_system}
use Rattle.formed.specs.Fits.{Among, idle_places, StoreNotes, MarkNotes, Idle, idle, mark_old, mark_y, write, roots_first, roots_rest, MutatorFits, WellFormed}
use Rattle.formed.proofs.Gives.{idle_at, write_at, roots_first_at, mark_begins, mark_looks, lists}
use Rattle.formed.proofs.Keeps.{keeps_mutator, keeps_system}
use Rattle.model.specs.Rows.{sees_value, with_list, Branch, Mutator}
use Rattle.stays_formed.specs.Kept.{Fits, mutates}
use Rattle.stays_formed.proofs.Values.{write_ranged, allocate_ranged, seen_value_lem}
use Rattle.stays_formed.proofs.Frames.{ranged, moved}
use Rattle.stays_formed.proofs.Marking.{running, mark_fits_lem, mark_memory}

-- from a place with no notes to another, with other lists and another part in the handshakes
idle_moved : {n k w l : ℕ} {r i : Bool} {h : Handshake} {q : Process} → Among k idle_places → below_of w n ≡ true → below_of l n ≡ true → Idle q → MutatorFits n (at k no_stage (shaking r i h (listing w l q)))
idle_moved a b c d = record { roots = c; work = b; notes = idle a (record { stage = refl; notes = d.notes; left = d.left; mark = d.mark; sense = d.sense }) }

-- the branch of an answer starts at a place with no notes
branch_idle : {k : ℕ} {t : RoundType} → Branch t k → Among k idle_places
branch_idle Branch.noop = refl
branch_idle Branch.roots = refl
branch_idle Branch.work = refl

-- a store begins
module _ (n x f y v : ℕ) (q : Process) (b : MutatorFits n q) (d : Idle q) (is : StoreNotes n x f y v) where
  first_mark : (c : ℕ) → IsCell n c → MarkNotes n look_stage c q.look q.grey
  first_mark c i = mark_begins i d.mark.no_look d.mark.no_grey

  store_old : (v ≡ 0 → ⊥) → MutatorFits n (at store_mark_old look_stage (noting x f y v q))
  store_old h =
      record { roots = b.roots; work = b.work; notes = mark_old refl (record { notes = is; left = d.left; cell = d.mark.no_cell; mark = first_mark v (omega arith, is.is_old); sense = λ _. d.sense }) }

  store_new : IsCell n y → MutatorFits n (at store_mark_y look_stage (noting x f y v q))
  store_new i = record { roots = b.roots; work = b.work; notes = mark_y refl (record { notes = is; left = d.left; cell = d.mark.no_cell; mark = first_mark y i; sense = λ _. d.sense }) }

  store_write_lem : MutatorFits n (at store_write no_stage (noting x f y v q))
  store_write_lem = record { roots = b.roots; work = b.work; notes = write refl (record { stage = refl; notes = is; left = d.left; mark = d.mark; sense = d.sense }) }

module _ (s : State) (c : Choice) (p : ℕ) (q : Process) (w : WellFormed s) (pos : 0 < p) (mine : p ≤ mutators_of s) (f : MutatorFits s.memory.cells q) where
  here : p < s.memory.processes
  here = omega (arith, w.memory.some_processes)

  -- the value that a look of a field sees
  seen : {v : ℕ} (x i : ℕ) → look_field_of s.memory p x i ≡ sees_value v → v ≤ s.memory.cells
  seen {v} x i e = seen_value_lem (ranged s w) p x i v e

  -- a root is a cell
  rooted : (x : ℕ) → Member q.roots x → IsCell s.memory.cells x
  rooted x m = below_range q.roots s.memory.cells x f.roots m

  goes : (t : Process) → MutatorFits s.memory.cells t → WellFormed (with_process_of s p t)
  goes t k = keeps_mutator s w p t pos mine k

  noted : (x i y v : ℕ) → Member q.roots x → i ≤ 1 → y ≤ s.memory.cells → v ≤ s.memory.cells → StoreNotes s.memory.cells x i y v
  noted x i y v m h j k = record { is_x = rooted x m; is_f = omega arith; is_y = j; is_old = k }

  -- "store y (a root or 0)"
  null_or_root : (y : ℕ) → (y ≡ 0) ⊎ (Member q.roots y) → y ≤ s.memory.cells
  null_or_root y (inl e) = omega arith
  null_or_root y (inr m) = (rooted y m).1

  -- a finish that moves the list to the system's
  finished : (h : Handshake) (k : ℕ) → Among k idle_places → q.place ≡ k →
      WellFormed (with_process_of (with_system s (with_list s.system (union_of s.system.work q.work))) p (at top no_stage (shaking false true h (listing no_cells q.roots q))))
  finished h k a e =
      keeps_mutator (with_system s (with_list s.system (union_of s.system.work q.work)))
      (keeps_system s w (with_list s.system (union_of s.system.work q.work)) (below_union s.system.work q.work s.memory.cells w.system f.work))
      p _ pos mine (idle_moved refl (below_empty s.memory.cells) f.roots (idle_at k a e f))

  pub mutator_kept : {t : State} → Mutator s c p q t → WellFormed t
  mutator_kept (Mutator.allocates a o x l g y {m = m} e) =
      let is : IsCell s.memory.cells c.x = (x, l) in
      let k : MemoryFormed m = rw e at (allocate_kept s.memory p w.memory here c.x is) in
      moved s w m k (allocate_ranged p w.memory k (ranged s w) c.x is e) p _ mine
      (mutates pos (lists q.work _ f f.work (below_add q.roots c.x s.memory.cells l f.roots)))
  mutator_kept (Mutator.drops a o m g y) = goes _ (lists q.work _ f f.work (below_remove q.roots c.x s.memory.cells f.roots))
  mutator_kept (Mutator.reads a o m g y {v = v} e h) = goes _ (lists q.work _ f f.work (below_add q.roots v s.memory.cells (seen c.x c.f e) f.roots))
  mutator_kept (Mutator.reads_null a o m g y e) = goes q f
  mutator_kept (Mutator.stores a o m g y {v = v} e h) =
      goes _ (store_old s.memory.cells c.x c.f c.y v q f (idle_at top refl a.place f) (noted c.x c.f c.y v m g (null_or_root c.y y) (seen c.x c.f e)) h)
  mutator_kept (Mutator.stores_new a o m g y e) =
      goes _ (store_new s.memory.cells c.x c.f c.y 0 q f (idle_at top refl a.place f) (noted c.x c.f c.y 0 m g (rooted c.y y).1 (omega arith)) (rooted c.y y))
  mutator_kept (Mutator.stores_null a o m g y e) =
      goes _ (store_write_lem s.memory.cells c.x c.f 0 0 q f (idle_at top refl a.place f) (noted c.x c.f 0 0 m g (omega arith) (omega arith)))
  mutator_kept (Mutator.fences a o x g y e) = goes q f
  mutator_kept (Mutator.answers a o x g y r b) = goes _ (idle_moved (branch_idle b) f.work f.roots (idle_at top refl a.place f))
  mutator_kept (Mutator.marks b {r = r} k h {m = m} {t = t} e) =
      let z : Fits s.memory.cells (mutators_of s) p q = mutates pos f in
      let u = running s.memory.cells (mutators_of s) p q z k h in
      let v = mark_memory s.memory p r w.memory (ranged s w) here u.notes.cell_named e in
      moved s w m v.0 v.1 p t mine (mark_fits_lem z u e)
  mutator_kept (Mutator.looks_root a o m {b = b} e) =
      let k = roots_first_at a.place a.stage f in
      let is = below_range q.left s.memory.cells c.x k.left m in
      goes _
      (record {
        roots = f.roots;
        work = f.work;
        notes = roots_rest refl
            (record {
              named = omega arith;
              notes = k.notes;
              left = below_remove q.left c.x s.memory.cells k.left;
              mark = mark_looks (mark_begins is k.mark.no_look k.mark.no_grey) refl b;
              sense = λ _. k.sense;
            });
      })
  mutator_kept (Mutator.writes a b {m = m} e) =
      let k = write_at a.place f in
      let v : Entry = record { store = store.Field q.x q.f q.y } in
      let u : MemoryFormed m = rw e at (write_kept s.memory p w.memory here v (k.notes.is_x, k.notes.is_f)) in
      moved s w m u (write_ranged p w.memory u (ranged s w) v k.notes.is_y e) p _ mine
      (mutates pos
      (record {
        roots = f.roots;
        work = f.work;
        notes = idle refl (record { stage = refl; notes = record { no_x = refl; no_f = refl; no_y = refl; no_old = refl }; left = k.left; mark = k.mark; sense = k.sense });
      }))
  mutator_kept (Mutator.fences_noop a b e) = goes _ (idle_moved refl f.work f.roots (idle_at noop_fence refl a.place f))
  mutator_kept (Mutator.fences_work a b e) = goes _ (idle_moved refl f.work f.roots (idle_at work_fence refl a.place f))
  mutator_kept (Mutator.fences_roots a b e h) =
      let d = idle_at roots_fence refl a.place f in
      goes _ (record { roots = f.roots; work = f.work; notes = roots_first refl (record { stage = refl; notes = d.notes; left = f.roots; mark = d.mark; sense = d.sense }) })
  mutator_kept (Mutator.fences_none a b e h) = goes _ (idle_moved refl f.work f.roots (idle_at roots_fence refl a.place f))
  mutator_kept (Mutator.finishes_noop a b) = goes _ (idle_moved refl f.work f.roots (idle_at noop_finish refl a.place f))
  mutator_kept (Mutator.finishes_roots a b) = finished (next_of q.part.phase) roots_finish refl a.place
  mutator_kept (Mutator.finishes_work a b) = finished q.part.phase work_finish refl a.place
