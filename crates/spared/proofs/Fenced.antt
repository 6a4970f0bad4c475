-- B1 is kept: an answering mutator past its fence has no field store pending. Assumes nothing.
--     step_fenced     after each step
use mathlib.Core.Path.{◌≡◌, refl, sym, ◌∙◌}
use mathlib.Core.Bool.{false≢true}
use mathlib.Core.List.{List}
use mathlib.Core.Logic.{⊎_elim}
use Prim.Native.Nat.{ℕ, ◌≤◌, ◌<◌}
use native.Mathlib.Omega.{arith}
use native.Mathlib.Decide.{ℕ_discrete}
use Rattle.buffers.specs.declared.Store.TheVariants as store
use Rattle.buffers.specs.declared.Entry.{Entry}
use Rattle.memory.specs.declared.Memory.{Memory}
use Rattle.memory.proofs.Shapes.{pending_is}
use Rattle.state.specs.declared.Process.{Process}
use Rattle.state.specs.declared.State.{State}
use Rattle.state.specs.declared.Choice.{Choice}
use Rattle.state.specs.Codes.{roots_mark}
use Rattle.state.specs.States.{mutators_of, process_of}
use Rattle.formed.specs.Fits.{Among}
use Rattle.model.specs.Rows.{Marks, Row}
use Rattle.model.specs.Reasons.{mover}
use Rattle.stays_formed.specs.Leaves.{Writes}
use Rattle.claims.specs.Pending.{waiting_of}
use Rattle.claims.proofs.Posted.{Leads, Seat, mark_seat}
use Rattle.spared.specs.Holds.{NoField}
use Rattle.spared.specs.Zones.{fenced_places}
use Rattle.spared.specs.Views.{Fills, Aside}
use Rattle.spared.specs.Fenced.{PastFence}
use Rattle.spared.specs.Inv.{Spared}
use Rattle.spared.specs.Lemmas.{RowsKeep}
use Rattle.spared.proofs.Fills.{row_fills, row_waits, came, field_writes}
use Rattle.spared.proofs.Paces.{row_aside, row_mutators}
use Rattle.spared.proofs.Acts.{Acts, row_acts, no_store_lem}

-- a mark that ends or goes on past a fence was past it: it is one of a root
seat_fenced : {q : Process} {r j : ℕ} → Marks q r → Seat q.place j → Among j fenced_places → q.place ≡ roots_mark
seat_fenced (Marks.old e) (Seat.stays f) h = absurd (false≢true (rw (f, e) at h))
seat_fenced (Marks.new e) (Seat.stays f) h = absurd (false≢true (rw (f, e) at h))
seat_fenced (Marks.root e) (Seat.stays f) h = e
seat_fenced (Marks.field e) (Seat.stays f) h = absurd (false≢true (rw (f, e) at h))
seat_fenced i (Seat.leads Leads.write a b) h = absurd (false≢true (rw b at h))
seat_fenced i (Seat.leads Leads.new a b) h = absurd (false≢true (rw b at h))
seat_fenced i (Seat.leads Leads.marked a b) h = absurd (false≢true (rw b at h))
seat_fenced i (Seat.leads Leads.roots a b) h = a
seat_fenced i (Seat.leads Leads.fields a b) h = absurd (false≢true (rw b at h))
seat_fenced i (Seat.leads Leads.field a b) h = absurd (false≢true (rw b at h))

-- what a process in a root's mark writes is no field
writes_none : {q : Process} {x f u : ℕ} → q.place ≡ roots_mark → Writes q (store.Field x f u) → ⊥
writes_none z w = omega (arith, (field_writes w).0.place)

fills_none : {c : Choice} {q : Process} {n : Memory} {l k : List Entry} → (c.kind ≡ 0 → (x f u : ℕ) → Writes q (store.Field x f u) → ⊥) → Fills c q n l k → NoField l → NoField k
fills_none z k h x f u i = ⊎_elim (h x f u) (λ w. z w.0 x f u w.1) (came k i)

module _ (s t : State) (c : Choice) (v : Spared s) (r : Row s c t) where
  -- the mutator that steps
  own : {o : Process} → Acts c c.process (mover s c) o s.memory t.memory → 0 < c.process → c.process ≤ mutators_of s → Among o.place fenced_places → NoField (waiting_of t c.process)
  own (Acts.commits k e) pos mine h x f u = fills_none (λ z _ _ _ _. omega arith) (row_fills s t c v.inv.formed r) (v.fenced c.process pos mine (rw e at h)) x f u
  own (Acts.marks i n e) pos mine h x f u =
      let z = seat_fenced i (mark_seat e) h in
      fills_none (λ _ _ _ _. writes_none z) (row_fills s t c v.inv.formed r) (v.fenced c.process pos mine (rw z refl)) x f u
  own (Acts.roots a i e n z) pos mine h x f u = fills_none (λ _ _ _ _. writes_none a.place) (row_fills s t c v.inv.formed r) (v.fenced c.process pos mine (rw a.place refl)) x f u
  own (Acts.outside k) pos mine h x f u = no_store_lem (sym (pending_is t.memory c.process) ∙ k.fenced pos h)

  aside_place : {o u : Process} → Aside o u → u.place ≡ o.place
  aside_place (Aside.aside a b e) = rw e refl

  at_fenced : (m : ℕ) → 0 < m → m ≤ mutators_of s → Dec (m ≡ c.process) → Among (process_of t m).place fenced_places → NoField (waiting_of t m)
  at_fenced m a b (yes e) h = rw e (own (row_acts s t c v.inv.formed r) (rw e at a) (rw e at b) (rw e at h))
  at_fenced m a b (no e) h = rw (row_waits s t c v.inv.formed r m e) (v.fenced m a b (rw (aside_place (row_aside s t c v.inv.formed r m e)) at h))

pub step_fenced : RowsKeep PastFence
step_fenced s t c v r m a b = at_fenced s t c v r m a (rw (row_mutators s t c r) at b) (ℕ_discrete m c.process)
