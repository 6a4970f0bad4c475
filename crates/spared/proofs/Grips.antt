-- What every row does to the roots of the process that steps and to its old value. Assumes nothing.
--     row_grips     the view
use mathlib.Core.Path.{◌≡◌, refl, sym, ◌∙◌}
use Prim.Native.Nat.{ℕ}
use native.Mathlib.Omega.{arith}
use Rattle.memory.specs.declared.Memory.{Memory}
use Rattle.memory.proofs.Effects.{allocate_taken}
use Rattle.memory_formed.proofs.Shapes.{shaped}
use Rattle.state.specs.declared.Process.{Process}
use Rattle.state.specs.declared.State.{State}
use Rattle.state.specs.declared.Choice.{Choice}
use Rattle.state.specs.States.{process_of, with_process_of, with_memory, with_system}
use Rattle.formed.specs.Fits.{WellFormed}
use Rattle.model.specs.Rows.{unnoted, Next, Mark, Mutator, with_list}
use Rattle.spared.specs.Views.{Grips}
use Rattle.spared.specs.Lemmas.{RowGrips}
use Rattle.spared.proofs.Arrivals.{After, row_after}

-- a mark leaves both
next_roots : {q t : Process} → Next q t → (t.roots ≡ q.roots) × (t.old ≡ q.old)
next_roots (Next.write e z) = (refl, refl)
next_roots (Next.new e z) = (refl, refl)
next_roots (Next.marked e) = (refl, refl)
next_roots (Next.roots e z) = (refl, refl)
next_roots (Next.root e z) = (refl, refl)
next_roots (Next.fields e z) = (refl, refl)
next_roots (Next.field e z) = (refl, refl)

mark_roots : {p r : ℕ} {a b : Memory} {q t : Process} → Mark a p r q b t → (t.roots ≡ q.roots) × (t.old ≡ q.old)
unfolding unnoted
mark_roots (Mark.looks e g) = (refl, refl)
mark_roots (Mark.equal e g h) = next_roots h
mark_roots (Mark.unequal e g) = (refl, refl)
mark_roots (Mark.idle e g h) = next_roots h
mark_roots (Mark.busy e g h) = (refl, refl)
mark_roots (Mark.locks e g) = (refl, refl)
mark_roots (Mark.agrees e g) = (refl, refl)
mark_roots (Mark.differs e g) = (refl, refl)
mark_roots (Mark.writes e g) = (refl, refl)
mark_roots (Mark.wins e g h v) = next_roots v
mark_roots (Mark.loses e g h v) = next_roots v

module _ (s : State) (w : WellFormed s) (c : Choice) {p : ℕ} {q : Process} where
  same : (x : State) (o : Process) → o.roots ≡ q.roots → o.old ≡ q.old → After (Grips s (with_process_of x p o) c p q) p (with_process_of x p o)
  same x o e f = After.after x o (Grips.keeps e f)

  mutator_grips : {t : State} → Mutator s c p q t → After (Grips s t c p q) p t
  mutator_grips (Mutator.allocates a o x l g y {m} e) =
      let k = allocate_taken p c.x (shaped s.memory w.memory) x (omega (arith, w.memory.few_cells)) e in
      After.after (with_memory s m) _ (Grips.allocates a o k.free k.after.used k.after.mark refl refl)
  mutator_grips (Mutator.drops a o m g y) = After.after s _ (Grips.drops a refl refl)
  mutator_grips (Mutator.reads a o m g y e h) = After.after s _ (Grips.reads a m (omega arith) e refl refl)
  mutator_grips (Mutator.reads_null a o m g y e) = same s _ refl refl
  mutator_grips (Mutator.stores a o m g y e h) = After.after s _ (Grips.stores a m (omega arith) e refl refl)
  mutator_grips (Mutator.stores_new a o m g y e) = After.after s _ (Grips.stores a m (omega arith) e refl refl)
  mutator_grips (Mutator.stores_null a o m g y e) = After.after s _ (Grips.stores a m (omega arith) e refl refl)
  mutator_grips (Mutator.fences a o x g y e) = same s _ refl refl
  mutator_grips (Mutator.answers a o x g y u b) = same s _ refl refl
  mutator_grips (Mutator.marks b i h {m} {t} e) = let g = mark_roots e in same (with_memory s m) t g.0 g.1
  mutator_grips (Mutator.looks_root a o m e) = same s _ refl refl
  mutator_grips (Mutator.writes a b {m} e) = After.after (with_memory s m) _ (Grips.writes a refl refl)
  mutator_grips (Mutator.fences_noop a b e) = same s _ refl refl
  mutator_grips (Mutator.fences_work a b e) = same s _ refl refl
  mutator_grips (Mutator.fences_roots a b e h) = same s _ refl refl
  mutator_grips (Mutator.fences_none a b e h) = same s _ refl refl
  mutator_grips (Mutator.finishes_noop a b) = same s _ refl refl
  mutator_grips (Mutator.finishes_roots a b) = same (with_system s (with_list s.system _)) _ refl refl
  mutator_grips (Mutator.finishes_work a b) = same (with_system s (with_list s.system _)) _ refl refl

-- the collector has no roots and no old value
pub row_grips : RowGrips
row_grips s t c w r =
    row_after (λ i. Grips s t c i (process_of s i)) s c w (λ g _. Grips.keeps (g.collector.no_roots ∙ sym w.collector.no_roots) (g.collector.no_old ∙ sym w.collector.no_old)) (λ p _ _. mutator_grips s w c) (λ _. Grips.keeps refl refl) r
