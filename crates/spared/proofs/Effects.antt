-- Every row does one of seven things to marks, fields, senses and occupied cells. Assumes nothing.
--     row_effect                   the view
--     allocates_at, frees_at       the cell that is allocated or freed is among N
use mathlib.Core.Path.{◌≡◌, refl, sym, ◌∙◌}
use mathlib.Core.Bool.{false≢true}
use mathlib.Core.List.{List, Memᴰ}
use Prim.Native.Nat.{ℕ}
use native.Mathlib.Omega.{arith}
use native.Mathlib.Decide.{ℕ_discrete}
use Rattle.buffers.specs.declared.Store.{Store}
use Rattle.buffers.specs.declared.Store.TheVariants as store
use Rattle.buffers.specs.declared.Entry.{Entry}
use Rattle.buffers.specs.Fits.{IsCell, StoreFits}
use Rattle.memory.specs.declared.Memory.{Memory}
use Rattle.memory.specs.Memories.{taken}
use Rattle.memory.specs.Steps.{allocate_of, free_of}
use Rattle.memory.specs.Views.{pending_for}
use Rattle.memory.proofs.Shapes.{pending_is}
use Rattle.memory.proofs.Spots.{Alike, Settled, there_mark, there_field, field_same}
use Rattle.memory.proofs.Effects.{Committed, write_taken, lock_taken, unlock_taken, allocate_taken, free_taken, commit_taken}
use Rattle.memory.proofs.Commits.{mark_committed, field_committed, sense_committed, alloc_sense_committed, phase_committed, marks_elsewhere, mark_here, field_here, fields_elsewhere}
use Rattle.memory_formed.specs.WellFormed.{MemoryFormed}
use Rattle.memory_formed.proofs.Shapes.{shaped, pending_stores}
use Rattle.state.specs.declared.Process.{Process}
use Rattle.state.specs.declared.State.{State}
use Rattle.state.specs.declared.Choice.{Choice}
use Rattle.state.specs.Codes.{top, row10_free, no_stage}
use Rattle.state.specs.States.{process_of}
use Rattle.formed.specs.Fits.{WellFormed}
use Rattle.formed.proofs.Gives.{mutator_within, collector_within, sweep_free_at}
use Rattle.model.specs.Rows.{At, Marks, Mutator, Row}
use Rattle.model.specs.Reasons.{mover}
use Rattle.stays_formed.specs.Leaves.{Stored}
use Rattle.stays_formed.proofs.Frames.{named}
use Rattle.stays_formed.proofs.Leaves.{row_memory}
use Rattle.claims.proofs.Moves.{marks_place}
use Rattle.spared.specs.Holds.{StoreIn}
use Rattle.spared.specs.Lemmas.{RowEffect}
use Rattle.spared.specs.Views.{UsedStays, MarksStay, FieldsStay, SensesStay, Effect}

-- ---- what stays
used_stays : {m n : Memory} → Settled m n → UsedStays m n
used_stays k c = rw k.used refl

marks_stay : {m n : Memory} → Alike m n → MarksStay m n
marks_stay k c = rw k.marks refl

fields_stay : {m n : Memory} → Alike m n → FieldsStay m n
fields_stay {m} {n} k c f = field_same m n c f k

senses_stay : {m n : Memory} → Alike m n → SensesStay m n
senses_stay k = record { fm = k.fm; fa = k.fa }

module _ (c : Choice) (q : Process) (l : List Entry) {m n : Memory} where
  calm : Alike m n → Settled m n → Effect c q l m n
  calm a k = Effect.calm (used_stays k) (marks_stay a) (fields_stay a) (senses_stay a)

  -- ---- a commit, by its store
  module _ (w : MemoryFormed m) (p : ℕ) (k : Committed m p n) (i : Memᴰ k.oldest l) where
    fits : StoreFits m.cells k.oldest.store
    fits = pending_stores m w p k.oldest (rw k.before (Memᴰ.head refl))

    committed : (v : Store) → k.oldest.store ≡ v → Effect c q l m n
    committed (store.Mark x b) e =
        let a = mark_committed k e in
        Effect.marks (StoreIn.pends k.oldest i e) (sym (there_mark m x) ∙ (rw e at k.there)) (mark_here k (shaped m w) e) (λ d ne. marks_elsewhere k d e ne) (used_stays k.settled) (fields_stay a) (record { fm = a.fm; fa = a.fa })
    committed (store.Field x f v) e =
        let a = field_committed k e in
        let j = rw e at (fits) in
        Effect.stores (StoreIn.pends k.oldest i e) (sym (there_field m x f) ∙ (rw e at k.there)) j.1 (field_here k (shaped m w) e (omega (arith, j.1))) (λ d g h ne. fields_elsewhere k d g (shaped m w) e (omega (arith, j.1)) (omega arith) ne) (used_stays k.settled) (marks_stay a) (record { fm = a.fm; fa = a.fa })
    committed (store.Sense b) e = let a = sense_committed k e in Effect.flips (StoreIn.pends k.oldest i e) a.fm a.fa (used_stays k.settled) (marks_stay a) (fields_stay a)
    committed (store.AllocSense b) e = let a = alloc_sense_committed k e in Effect.follows (StoreIn.pends k.oldest i e) a.fa a.fm (used_stays k.settled) (marks_stay a) (fields_stay a)
    committed (store.Phase h) e = let a = phase_committed k e in Effect.calm (used_stays k.settled) (marks_stay a) (fields_stay a) (record { fm = a.fm; fa = a.fa })

  -- ---- allocate and free: one cell is reset
  allocated : (p : ℕ) → MemoryFormed m → At top no_stage q → c.op ≡ 0 → IsCell m.cells c.x → allocate_of m p c.x ≡ taken n → Effect c q l m n
  allocated p w a o i e =
      let k = allocate_taken p c.x (shaped m w) i.0 (omega (arith, i.1, w.few_cells)) e in
      let r = k.after in
      Effect.allocates a o i k.free r.used r.mark r.fields r.used_others r.marks_others r.fields_others (record { fm = r.fm; fa = r.fa })

  freed : (p : ℕ) → MemoryFormed m → At row10_free no_stage q → IsCell m.cells q.x → free_of m p q.x ≡ taken n → Effect c q l m n
  freed p w a i e =
      let r = (free_taken p q.x (shaped m w) i.0 (omega (arith, i.1, w.few_cells)) e).after in
      Effect.frees a r.used r.used_others r.marks_others r.fields_others (record { fm = r.fm; fa = r.fa })

-- ---- the cells that are allocated and freed are among N
module _ (s : State) (c : Choice) (p : ℕ) (q : Process) where
  not_top : {r : ℕ} → Marks q r → At top no_stage q → ⊥
  not_top i a = false≢true (rw a.place at (marks_place i))

  allocates_cell : {t : State} → Mutator s c p q t → At top no_stage q → c.op ≡ 0 → IsCell s.memory.cells c.x
  allocates_cell (Mutator.allocates a o x l g y e) b z = (x, l)
  allocates_cell (Mutator.drops a o m g y) b z = absurd (omega arith)
  allocates_cell (Mutator.reads a o m g y e h) b z = absurd (omega arith)
  allocates_cell (Mutator.reads_null a o m g y e) b z = absurd (omega arith)
  allocates_cell (Mutator.stores a o m g y e h) b z = absurd (omega arith)
  allocates_cell (Mutator.stores_new a o m g y e) b z = absurd (omega arith)
  allocates_cell (Mutator.stores_null a o m g y e) b z = absurd (omega arith)
  allocates_cell (Mutator.fences a o x g y e) b z = absurd (omega arith)
  allocates_cell (Mutator.answers a o x g y u k) b z = absurd (omega arith)
  allocates_cell (Mutator.marks k i h e) b z = absurd (not_top i b)
  allocates_cell (Mutator.looks_root a o m e) b z = absurd (omega (arith, a.place, b.place))
  allocates_cell (Mutator.writes a k e) b z = absurd (omega (arith, a.place, b.place))
  allocates_cell (Mutator.fences_noop a k e) b z = absurd (omega (arith, a.place, b.place))
  allocates_cell (Mutator.fences_work a k e) b z = absurd (omega (arith, a.place, b.place))
  allocates_cell (Mutator.fences_roots a k e h) b z = absurd (omega (arith, a.place, b.place))
  allocates_cell (Mutator.fences_none a k e h) b z = absurd (omega (arith, a.place, b.place))
  allocates_cell (Mutator.finishes_noop a k) b z = absurd (omega (arith, a.place, b.place))
  allocates_cell (Mutator.finishes_roots a k) b z = absurd (omega (arith, a.place, b.place))
  allocates_cell (Mutator.finishes_work a k) b z = absurd (omega (arith, a.place, b.place))

abbrev pub FreesCell : State → ℕ → Type 0
FreesCell s p = At row10_free no_stage (process_of s p) → IsCell s.memory.cells (process_of s p).x

module _ {s : State} {c : Choice} (w : WellFormed s) where
  pub allocates_at : {t : State} → Row s c t → At top no_stage (mover s c) → c.op ≡ 0 → c.kind ≡ 0 → IsCell s.memory.cells c.x
  allocates_at (Row.collector k e r) a o z = named (λ i. At top no_stage (process_of s i) → IsCell s.memory.cells c.x) e (λ b. absurd (omega (arith, (collector_within w.collector).0, b.place))) a
  allocates_at (Row.mutator k {p} e pos mine r) a o z = named (λ i. At top no_stage (process_of s i) → IsCell s.memory.cells c.x) e (λ b. allocates_cell s c p (process_of s p) r b o) a
  allocates_at (Row.commits k e mine b h) a o z = absurd (omega arith)

  pub frees_at : {t : State} → Row s c t → FreesCell s c.process
  frees_at (Row.collector k e r) = named (FreesCell s) e (λ a. (sweep_free_at a.place w.collector).is_x)
  frees_at (Row.mutator k {p} e pos mine r) = named (FreesCell s) e (λ a. absurd (omega (arith, mutator_within (w.mutators p pos mine), a.place)))
  frees_at (Row.commits k {p} e mine b h) = named (FreesCell s) e (go (ℕ_discrete p 0))
    where
      go : Dec (p ≡ 0) → FreesCell s p
      go (yes z) = named (FreesCell s) z (λ a. (sweep_free_at a.place w.collector).is_x)
      go (no z) = λ a. absurd (omega (arith, mutator_within (w.mutators p (omega arith) mine), a.place))

-- what is done to memory, by one who is at row 10's free only with a cell to free
stored_effect : (c : Choice) (p : ℕ) (q : Process) (m : Memory) {n : Memory} → MemoryFormed m → (At top no_stage q → c.op ≡ 0 → c.kind ≡ 0 → IsCell m.cells c.x) → (At row10_free no_stage q → IsCell m.cells q.x) →
    Stored c p q m n → Effect c q (pending_for m p) m n
stored_effect c p q m w f g Stored.same = Effect.calm (λ _. refl) (λ _. refl) (λ _ _. refl) (record { fm = refl; fa = refl })
stored_effect c p q m w f g (Stored.writes z k e) = let h = write_taken p _ (shaped m w) e in calm c q _ h.alike h.settled
stored_effect c p q m w f g (Stored.locks z k i e) = let h = (lock_taken p e).after in calm c q _ h.alike h.settled
stored_effect c p q m w f g (Stored.unlocks z k i e) = let h = (unlock_taken p (shaped m w) e).after in calm c q _ h.alike h.settled
stored_effect c p q m w f g (Stored.allocates z a o e) = allocated c q _ p w a o (f a o z) e
stored_effect c p q m w f g (Stored.frees z a e) = freed c q _ p w a (g a) e
stored_effect c p q m w f g (Stored.commits z e) = let k = commit_taken p (shaped m w) e in committed c q _ w p k (rw k.before (Memᴰ.head refl)) k.oldest.store refl

pub row_effect : RowEffect
row_effect s t c w r = rw (← pending_is s.memory c.process) (stored_effect c c.process (mover s c) s.memory w.memory (allocates_at w r) (frees_at w r) (row_memory r))
