-- What every row does to the pending stores. Assumes nothing.
--     row_fills        those of the process that steps: the view
--     row_waits        those of the others stay
--     came             a store that is pending was so, or has just been written
--     field_writes     the store of a field is written at its place alone
use mathlib.Core.Path.{◌≡◌, refl, sym, ap, subst, ◌∙◌}
use mathlib.Core.List.Memᴰ
use mathlib.Core.List.{List}
use mathlib.Core.Logic.{◌⊎◌, inl, inr, ⊎_elim}
use Prim.Native.Nat.{ℕ}
use Rattle.buffers.specs.declared.Store.{Store}
use Rattle.buffers.specs.declared.Store.TheVariants as store
use Rattle.buffers.specs.declared.Entry.{Entry}
use Rattle.buffers.specs.Fits.{IsCell}
use Rattle.memory.specs.declared.Memory.{Memory}
use Rattle.memory.specs.Views.{pending_for}
use Rattle.memory.proofs.Shapes.{pending_is}
use Rattle.memory.proofs.Effects.{write_taken, lock_taken, unlock_taken, commit_taken}
use Rattle.memory.proofs.Commits.{mark_here}
use Rattle.memory_formed.specs.WellFormed.{MemoryFormed}
use Rattle.memory_formed.proofs.Shapes.{shaped}
use Rattle.state.specs.declared.Process.{Process}
use Rattle.state.specs.declared.Choice.{Choice}
use Rattle.state.specs.Codes.{top, store_write, row10_free, no_stage}
use Rattle.model.specs.Rows.{At}
use Rattle.model.specs.Reasons.{mover}
use Rattle.stays_formed.specs.Leaves.{Writes, Stored}
use Rattle.stays_formed.proofs.Leaves.{row_memory}
use Rattle.claims.proofs.Moves.{allocates_quiet, frees_quiet, row_goes}
use Rattle.claims.proofs.Pending.{others_pending}
use Rattle.spared.specs.Holds.{StoreIn}
use Rattle.spared.specs.Views.{Fills}
use Rattle.spared.specs.Lemmas.{RowFills, RowWaits}
use Rattle.spared.proofs.Effects.{allocates_at, frees_at}

module _ (c : Choice) (p : ℕ) (q : Process) (m : Memory) (w : MemoryFormed m) (f : At top no_stage q → c.op ≡ 0 → c.kind ≡ 0 → IsCell m.cells c.x) (g : At row10_free no_stage q → IsCell m.cells q.x) where
  stored_fills : {n : Memory} → Stored c p q m n → Fills c q n (pending_for m p) (pending_for n p)
  stored_fills Stored.same = Fills.keeps refl
  stored_fills (Stored.writes z k e) = Fills.appends z k (write_taken p _ (shaped m w) e).own
  stored_fills (Stored.locks z k i e) = Fills.keeps ((lock_taken p e).after.pending p)
  stored_fills (Stored.unlocks z k i e) = Fills.keeps ((unlock_taken p (shaped m w) e).after.pending p)
  stored_fills (Stored.allocates z a o e) = Fills.keeps ((allocates_quiet m w p c.x (f a o z) e).pending p)
  stored_fills (Stored.frees z a e) = Fills.keeps ((frees_quiet m w p q.x (g a) e).pending p)
  stored_fills (Stored.commits z e) =
      let k = commit_taken p (shaped m w) e in
      Fills.leaves z k.oldest (rw k.before (Memᴰ.head refl)) (λ d i. rw k.before (Memᴰ.tail (rw k.own at i))) (rw (k.before, k.own) refl) (λ x b h. mark_here k (shaped m w) h)

pub row_fills : RowFills
row_fills s t c w r =
    rw (← pending_is s.memory c.process, ← pending_is t.memory c.process) (stored_fills c c.process (mover s c) s.memory w.memory (allocates_at w r) (frees_at w r) (row_memory r))

pub row_waits : RowWaits
row_waits s t c w r p ne = sym (pending_is t.memory p) ∙ others_pending p (shaped s.memory w.memory) ne (row_goes w r) ∙ pending_is s.memory p

pub came : {c : Choice} {q : Process} {n : Memory} {l k : List Entry} {v : Store} → Fills c q n l k → StoreIn k v → (StoreIn l v) ⊎ ((c.kind ≡ 0) × Writes q v)
came (Fills.keeps e) i = inl (rw e at i)
came {q = q} {l = l} (Fills.appends z w e) (StoreIn.pends d i g) =
    ⊎_elim (λ j. inl (StoreIn.pends d j g)) (λ j. inr (z, subst (Writes q) (ap (λ (h : Entry). h.store) (sym (Memᴰ.eq_of_singleton j)) ∙ g) w)) (Memᴰ.append_cases l (rw e at i))
came (Fills.leaves z e i f m a) (StoreIn.pends d j g) = inl (StoreIn.pends d (f d j) g)

pub field_writes : {q : Process} {x f y : ℕ} → Writes q (store.Field x f y) → At store_write no_stage q × ((q.x ≡ x) × ((q.f ≡ f) × (q.y ≡ y)))
field_writes (Writes.field a) = (a, (refl, (refl, refl)))
