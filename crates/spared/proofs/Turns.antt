-- What every row does to the list of the process that steps, to the cell that it greys and to the system's list.
-- Assumes nothing.
--     row_turns     the view
use mathlib.Core.Path.{◌≡◌, refl, sym, ap, ◌∙◌}
use mathlib.Core.List.{List}
use mathlib.Core.Logic.{inl, inr}
use Prim.Native.Nat.{ℕ, ◌≤◌, ◌<◌}
use native.Mathlib.Omega.{arith}
use Rattle.cells.specs.Sets.{no_cells}
use Rattle.memory.specs.declared.Memory.{Memory}
use Rattle.buffers.specs.declared.Entry.{Entry}
use Rattle.memory.specs.Views.{pending_for}
use Rattle.memory.proofs.Shapes.{Shaped, pending_is}
use Rattle.memory.proofs.Effects.{unlock_taken}
use Rattle.memory_formed.proofs.Shapes.{shaped}
use Rattle.state.specs.declared.Process.{Process}
use Rattle.state.specs.declared.System.{System}
use Rattle.state.specs.declared.State.{State}
use Rattle.state.specs.declared.Choice.{Choice}
use Rattle.state.specs.Codes.{roots_mark, look_stage, unlock_stage}
use Rattle.state.specs.States.{mutators_of, process_of, with_process_of, with_memory, with_system}
use Rattle.formed.specs.Fits.{MarkNotes, WellFormed}
use Rattle.formed.proofs.Gives.{collector_within}
use Rattle.model.specs.Rows.{unnoted, Marks, Next, Mark, Mutator, with_list, all_off, with_processes, flagged, Collector}
use Rattle.stays_formed.specs.Kept.{Fits, collects, mutates}
use Rattle.stays_formed.proofs.Marking.{running}
use Rattle.claims.specs.Pending.{waiting_of}
use Rattle.spared.specs.Views.{Turns}
use Rattle.spared.specs.Lemmas.{RowTurns}
use Rattle.spared.proofs.Arrivals.{After, arrives, row_after}

-- where a mark is over the list and the cell being greyed are those that it ends with
next_work : {q t : Process} → Next q t → (t.work ≡ q.work) × (t.grey ≡ q.grey)
next_work (Next.write e z) = (refl, refl)
next_work (Next.new e z) = (refl, refl)
next_work (Next.marked e) = (refl, refl)
next_work (Next.roots e z) = (refl, refl)
next_work (Next.root e z) = (refl, refl)
next_work (Next.fields e z) = (refl, refl)
next_work (Next.field e z) = (refl, refl)

module _ (w : ℕ) (l : List Entry) {q : Process} {r : ℕ} (i : Marks q r) {n : ℕ} (k : MarkNotes n q.stage r q.look q.grey) where
  -- nothing is being greyed before the unlock
  none : {j : ℕ} → q.stage ≡ j → j < unlock_stage → q.grey ≡ 0
  none e l = k.no_grey (omega arith)

  over : {x t : Process} → x.work ≡ q.work → x.grey ≡ 0 → q.grey ≡ 0 → Next x t → Turns w w l q t
  over e f z h = let g = next_work h in Turns.keeps (g.0 ∙ e) (g.1 ∙ f ∙ sym z) refl

  mark_turns : {p : ℕ} {a b : Memory} {t : Process} → Shaped a → l ≡ pending_for a p → Mark a p r q b t → Turns w w l q t
  unfolding unnoted
  mark_turns z y (Mark.looks e g) = Turns.keeps refl refl refl
  mark_turns z y (Mark.equal e g h) = over refl refl (none e (omega arith)) h
  mark_turns z y (Mark.unequal e g) = Turns.keeps refl refl refl
  mark_turns z y (Mark.idle e g h) = over refl refl (none e (omega arith)) h
  mark_turns z y (Mark.busy e g h) = Turns.keeps refl refl refl
  mark_turns z y (Mark.locks e g) = Turns.keeps refl refl refl
  mark_turns z y (Mark.agrees e g) = Turns.keeps refl refl refl
  mark_turns z y (Mark.differs e g) = Turns.keeps refl refl refl
  mark_turns z y (Mark.writes e g) = Turns.greys i e refl (none e (omega arith)) refl refl
  mark_turns {p} z y (Mark.wins e g h v) = let u = next_work v in Turns.wins i e (y ∙ (unlock_taken p z g).empty) h u.0 u.1 refl
  mark_turns z y (Mark.loses e g h v) = over refl refl h v

module _ (s : State) (w : WellFormed s) (c : Choice) where
  -- process p
  abbrev Turn : State → ℕ → Process → Type 0
  Turn t p = Turns s.system.work t.system.work (waiting_of s p) (process_of s p)

  same : {p : ℕ} (x : State) (o : Process) → o.work ≡ (process_of s p).work → o.grey ≡ (process_of s p).grey → x.system.work ≡ s.system.work → After (Turn x p) p (with_process_of x p o)
  same x o e f g = After.after x o (Turns.keeps e f g)

  marked : {p r : ℕ} → Fits s.memory.cells (mutators_of s) p (process_of s p) → Marks (process_of s p) r → ((process_of s p).place ≡ roots_mark → (process_of s p).stage ≡ look_stage → ⊥) →
      {m : Memory} {t : Process} → Mark s.memory p r (process_of s p) m t → Turn s p t
  marked {p} f i h e =
      mark_turns s.system.work (waiting_of s p) i (running s.memory.cells (mutators_of s) p (process_of s p) f i h).notes (shaped s.memory w.memory) (sym (pending_is s.memory p)) e

  mutator_turns : {p : ℕ} {t : State} → 0 < p → p ≤ mutators_of s → Mutator s c p (process_of s p) t → After (Turn t p) p t
  mutator_turns pos mine (Mutator.allocates a o x l g y {m} e) = same (with_memory s m) _ refl refl refl
  mutator_turns pos mine (Mutator.drops a o m g y) = same s _ refl refl refl
  mutator_turns pos mine (Mutator.reads a o m g y e h) = same s _ refl refl refl
  mutator_turns pos mine (Mutator.reads_null a o m g y e) = same s _ refl refl refl
  mutator_turns pos mine (Mutator.stores a o m g y e h) = same s _ refl refl refl
  mutator_turns pos mine (Mutator.stores_new a o m g y e) = same s _ refl refl refl
  mutator_turns pos mine (Mutator.stores_null a o m g y e) = same s _ refl refl refl
  mutator_turns pos mine (Mutator.fences a o x g y e) = same s _ refl refl refl
  mutator_turns pos mine (Mutator.answers a o x g y u b) = same s _ refl refl refl
  mutator_turns {p} pos mine (Mutator.marks b i h {m} {t} e) = After.after (with_memory s m) t (marked (mutates pos (w.mutators p pos mine)) i h e)
  mutator_turns pos mine (Mutator.looks_root a o m e) = same s _ refl refl refl
  mutator_turns pos mine (Mutator.writes a b {m} e) = same (with_memory s m) _ refl refl refl
  mutator_turns pos mine (Mutator.fences_noop a b e) = same s _ refl refl refl
  mutator_turns pos mine (Mutator.fences_work a b e) = same s _ refl refl refl
  mutator_turns pos mine (Mutator.fences_roots a b e h) = same s _ refl refl refl
  mutator_turns pos mine (Mutator.fences_none a b e h) = same s _ refl refl refl
  mutator_turns pos mine (Mutator.finishes_noop a b) = same s _ refl refl refl
  mutator_turns pos mine (Mutator.finishes_roots a b) = After.after (with_system s (with_list s.system _)) _ (Turns.gives (inl a) refl refl refl)
  mutator_turns pos mine (Mutator.finishes_work a b) = After.after (with_system s (with_list s.system _)) _ (Turns.gives (inr a) refl refl refl)

  collector_turns : {t : State} → Collector s c 0 (process_of s 0) t → After (Turn t 0) 0 t
  collector_turns (Collector.fences r a b e) = same s _ refl refl refl
  collector_turns (Collector.types r a b v) = same (with_processes (with_system s _) (all_off s.procs)) _ refl refl refl
  collector_turns (Collector.raises r a b m e) = same (with_process_of s c.x (flagged (process_of s c.x))) _ refl refl refl
  collector_turns (Collector.raises_last r a b m e) = same (with_process_of s c.x (flagged (process_of s c.x))) _ refl refl refl
  collector_turns (Collector.polls_up r a b m e) = same s _ refl refl refl
  collector_turns (Collector.polls r a b m e h) = same s _ refl refl refl
  collector_turns (Collector.polls_last r a b m e h) = same s _ refl refl refl
  collector_turns (Collector.reads_sense a b e) = same s _ refl refl refl
  collector_turns (Collector.writes_sense a b {m} e) = same (with_memory s m) _ refl refl refl
  collector_turns (Collector.writes_init a b {m} e) = same (with_memory s m) _ refl refl refl
  collector_turns (Collector.writes_mark a b {m} e) = same (with_memory s m) _ refl refl refl
  collector_turns (Collector.writes_alloc a b {m} e) = same (with_memory s m) _ refl refl refl
  collector_turns (Collector.takes a b h) = After.after (with_system s (with_list s.system no_cells)) _ (Turns.takes a refl refl refl)
  collector_turns (Collector.takes_none a b h) = After.after (with_system s (with_list s.system no_cells)) _ (Turns.takes a (sym h) refl refl)
  collector_turns (Collector.reads_first a b e h) = same s _ refl refl refl
  collector_turns (Collector.reads_first_null a b e) = same s _ refl refl refl
  collector_turns (Collector.marks b i {m} {t} e) = After.after (with_memory s m) t (marked (collects refl w.collector) i (λ j _. omega (arith, (collector_within w.collector).0)) e)
  collector_turns (Collector.reads_next a b e h) = same s _ refl refl refl
  collector_turns (Collector.reads_next_null a b e h) = same s _ refl refl refl
  collector_turns (Collector.reads_last_null a b e h) = same s _ refl refl refl
  collector_turns (Collector.drops a b h) = After.after s _ (Turns.drops a refl refl refl)
  collector_turns (Collector.drops_last a b h) = After.after s _ (Turns.drops a (sym h) refl refl)
  collector_turns (Collector.writes_sweep a b {m} e) = same (with_memory s m) _ refl refl refl
  collector_turns (Collector.spares a b m e h) = same s _ refl refl refl
  collector_turns (Collector.spares_last a b m e h) = same s _ refl refl refl
  collector_turns (Collector.condemns a b m e) = same s _ refl refl refl
  collector_turns (Collector.frees a b {m} e h) = same (with_memory s m) _ refl refl refl
  collector_turns (Collector.frees_last a b {m} e h) = same (with_memory s m) _ refl refl refl
  collector_turns (Collector.writes_idle a b {m} e) = same (with_memory s m) _ refl refl refl

pub row_turns : RowTurns
row_turns s t c w r = row_after (Turn s w c t) s c w (λ g k. arrives (omega arith) g (collector_turns s w c k)) (λ p. mutator_turns s w c) (λ e. Turns.keeps refl refl (ap (λ (h : System). h.work) e)) r
