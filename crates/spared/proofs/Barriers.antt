-- B14, B15 and B16: what a mutator stores, what it overwrites and its roots. Assumes nothing.
--     step_barriers     after each step: at the flip nobody inserts, deletes or gives roots; else `Stands` has those
--                       of the places, and here are the pending stores
use mathlib.Core.Path.{◌≡◌, refl, sym, ap, subst, ◌∙◌}
use mathlib.Core.Bool.{true, false≢true}
use mathlib.Core.List.{List}
use mathlib.Core.Logic.{◌⊎◌, inl, inr, ⊎_elim}
use Prim.Native.Nat.{ℕ, ◌≤◌, ◌<◌}
use native.Mathlib.Omega.{arith}
use native.Mathlib.Decide.{ℕ_discrete}
use lib.ListN.{get_or}
use Rattle.cells.proofs.Bools.{not_both}
use Rattle.buffers.specs.declared.Entry.{Entry}
use Rattle.memory.specs.declared.Memory.{Memory}
use Rattle.memory.specs.Memories.{field_of}
use Rattle.state.specs.declared.Handshake.TheVariants as hand
use Rattle.state.specs.declared.Process.{Process}
use Rattle.state.specs.declared.State.{State}
use Rattle.state.specs.declared.Choice.{Choice}
use Rattle.state.specs.Codes.{store_write, noop_finish, roots_finish, no_stage}
use Rattle.state.specs.States.{no_process, mutators_of, process_of}
use Rattle.model.specs.Rows.{At, Row}
use Rattle.claims.specs.Pending.{waiting_of}
use Rattle.claims.proofs.Moves.{marks_place}
use Rattle.spared.specs.Shades.{NullOrMarked, Covered}
use Rattle.spared.specs.Holds.{FieldIn}
use Rattle.spared.specs.Zones.{inserting, deleting}
use Rattle.spared.specs.Barriers.{Barrier, Barriers}
use Rattle.spared.specs.Views.{Fills, Paces, Aside}
use Rattle.spared.specs.Inv.{Spared}
use Rattle.spared.specs.Lemmas.{Flip, RowsKeep}
use Rattle.spared.proofs.Fills.{row_fills, row_waits, came, field_writes}
use Rattle.spared.proofs.Paces.{row_paces, row_aside, row_mutators}
use Rattle.spared.proofs.Flips.{row_sense}
use Rattle.spared.proofs.Stays.{marked_stays}
use Rattle.spared.proofs.Covers.{safe_stays}
use Rattle.spared.proofs.Fields.{FieldAfter, field_after}
use Rattle.spared.proofs.Stands.{Stands, rooting, step_stands}

-- ---- a field store that is pending was so, or q has just written it
data Came (l : List Entry) (q : Process) (x f w : ℕ) : Type 0 where
  was : FieldIn l x f w → Came l q x f w
  now : At store_write no_stage q → q.x ≡ x → q.f ≡ f → q.y ≡ w → Came l q x f w

fills_field : {c : Choice} {q : Process} {n : Memory} {l k : List Entry} (x f w : ℕ) → Fills c q n l k → FieldIn k x f w → Came l q x f w
fills_field x f w k i = ⊎_elim Came.was (λ j. let h = field_writes j.1 in Came.now h.0 h.1.0 h.1.1.0 h.1.1.1) (came k i)

-- ---- of mutator m, where fM stays and the state becomes t
module _ (s t : State) (c : Choice) (v : Spared s) (r : Row s c t) (same : t.memory.fm ≡ s.memory.fm) (m : ℕ) (a : 0 < m) (b : m ≤ mutators_of s) where
  abbrev q : Process
  q = process_of s m

  before : Barrier s.memory (waiting_of s m) q
  before = v.barriers m a b

  came_at : (x f w : ℕ) → FieldIn (waiting_of t m) x f w → Dec (m ≡ c.process) → Came (waiting_of s m) q x f w
  came_at x f w i (yes e) = rw e (fills_field x f w (row_fills s t c v.inv.formed r) (rw e at i))
  came_at x f w i (no e) = Came.was (rw (row_waits s t c v.inv.formed r m e) at i)

  paced : Dec (m ≡ c.process) → Paces q (process_of t m)
  paced (yes e) = rw e (row_paces s t c v.inv.formed r)
  paced (no e) = go (row_aside s t c v.inv.formed r m e)
    where
      go : {o : Process} → Aside q o → Paces q o
      go (Aside.aside i j k) = Paces.keeps (rw k refl)

  -- who finishes an answer has none
  finished : (x f w : ℕ) → (At noop_finish no_stage q) ⊎ (At roots_finish no_stage q) → Came (waiting_of s m) q x f w → ⊥
  finished x f w (inl e) (Came.was i) = v.fenced m a b (rw e.place refl) x f w i
  finished x f w (inl e) (Came.now g h j k) = omega (arith, e.place, g.place)
  finished x f w (inr e) (Came.was i) = v.fenced m a b (rw e.place refl) x f w i
  finished x f w (inr e) (Came.now g h j k) = omega (arith, e.place, g.place)

  -- at the write no mark is on
  at_write : {w : ℕ} → At store_write no_stage q → Covered s.memory q w → NullOrMarked s.memory w
  at_write e (Covered.safe h) = h
  at_write e (Covered.now h) = absurd (false≢true (rw e.place at (marks_place h)))

  inserted_before : inserting q.part.phase ≡ true → (x f w : ℕ) → Came (waiting_of s m) q x f w → NullOrMarked s.memory w
  inserted_before i x f w (Came.was h) = before.inserted i x f w h
  inserted_before i x f w (Came.now e g h k) = subst (NullOrMarked s.memory) k (at_write e (before.inserts i (rw e.place refl)))

  deleted_before : deleting q.part.phase ≡ true → (x f w : ℕ) → Came (waiting_of s m) q x f w → NullOrMarked s.memory (field_of s.memory x f)
  deleted_before i x f w (Came.was h) = before.deleted i x f w h
  deleted_before i x f w (Came.now e g h k) = rw (← g, ← h) (at_write e (before.deletes i (rw e.place refl)))

  inserted_after : {o : Process} → inserting o.part.phase ≡ true → (x f w : ℕ) → Came (waiting_of s m) q x f w → Paces q o → NullOrMarked t.memory w
  inserted_after i x f w k (Paces.keeps e) = safe_stays (marked_stays s t c v r same) (inserted_before (rw e at i) x f w k)
  inserted_after i x f w k (Paces.advances z g h) = absurd (finished x f w z k)

  deleted_after : {o : Process} → deleting o.part.phase ≡ true → (x f w : ℕ) → Came (waiting_of s m) q x f w → Paces q o → FieldAfter s t x f → NullOrMarked t.memory (field_of t.memory x f)
  deleted_after i x f w k (Paces.keeps e) (FieldAfter.same h) = subst (NullOrMarked t.memory) (sym h) (safe_stays (marked_stays s t c v r same) (deleted_before (rw e at i) x f w k))
  deleted_after i x f w k (Paces.keeps e) (FieldAfter.safe h) = h
  deleted_after i x f w k (Paces.keeps e) (FieldAfter.blank h j) = absurd (not_both (rw e at i) (j m a b))
  deleted_after i x f w k (Paces.advances z g h) j = absurd (finished x f w z k)

  stays_barrier : Barrier t.memory (waiting_of t m) (process_of t m)
  stays_barrier =
      record {
        inserts = k.inserts;
        inserted = λ i x f w h. inserted_after i x f w (came_at x f w h d) (paced d);
        deletes = k.deletes;
        deleted = λ i x f w h. deleted_after i x f w (came_at x f w h d) (paced d) (field_after s t c v r same x f);
        roots = k.roots;
      }
    where
      d : Dec (m ≡ c.process)
      d = ℕ_discrete m c.process

      k : Stands t.memory (process_of t m)
      k = step_stands s c v m a b same r

-- ---- at the flip every mutator is in Idle
flip_barrier : (s t : State) → Spared s → Flip s t → (m : ℕ) → 0 < m → m ≤ mutators_of s → Barrier t.memory (waiting_of t m) (process_of t m)
flip_barrier s t v f m a b =
    record {
      inserts = λ i. absurd (false≢true (rw idle at i));
      inserted = λ i. absurd (false≢true (rw idle at i));
      deletes = λ i. absurd (false≢true (rw idle at i));
      deleted = λ i. absurd (false≢true (rw idle at i));
      roots = λ i. absurd (false≢true (ap inserting (sym (f.idle m a b) ∙ rooting s v m a b (rw same at i))));
    }
  where
    same : process_of t m ≡ process_of s m
    same = ap (λ l. get_or l m no_process) f.procs

    idle : (process_of t m).part.phase ≡ hand.Idle
    idle = ap (λ (o : Process). o.part.phase) same ∙ f.idle m a b

pub step_barriers : RowsKeep Barriers
step_barriers s t c v r m a b = go (row_sense s t c v r)
  where
    within : m ≤ mutators_of s
    within = rw (row_mutators s t c r) at b

    go : (t.memory.fm ≡ s.memory.fm) ⊎ Flip s t → Barrier t.memory (waiting_of t m) (process_of t m)
    go (inl e) = stays_barrier s t c v r e m a within
    go (inr f) = flip_barrier s t v f m a within
