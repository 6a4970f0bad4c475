-- B2 is kept: what a running store or a root answer notes are roots. Assumes nothing.
--     step_notes     after each step
use mathlib.Core.Path.{◌≡◌, refl, ◌∙◌}
use mathlib.Core.Bool.{Bool, false≢true}
use mathlib.Core.Logic.{◌⊎◌, inl, inr}
use Prim.Native.Nat.{ℕ, ◌≤◌, ◌<◌}
use native.Mathlib.Omega.{arith}
use native.Mathlib.Decide.{ℕ_discrete}
use Rattle.cells.specs.Sets.{Member, Sub}
use Rattle.cells.proofs.Members.{in_remove}
use Rattle.memory.specs.declared.Memory.{Memory}
use Rattle.state.specs.declared.RoundType.{RoundType}
use Rattle.state.specs.declared.Process.{Process}
use Rattle.state.specs.declared.State.{State}
use Rattle.state.specs.declared.Choice.{Choice}
use Rattle.state.specs.Codes.{store_mark_old, store_mark_y, store_write, roots_mark, no_stage, look_stage}
use Rattle.state.specs.States.{at, noting, leaving, marking, mutators_of, process_of, with_process_of, with_memory, with_system}
use Rattle.formed.specs.Fits.{Among}
use Rattle.model.specs.Rows.{unnoted, Next, Mark, Branch, Mutator, with_list, Row}
use Rattle.stays_formed.proofs.Frames.{named}
use Rattle.stays_formed.proofs.Kept.{row_kept}
use Rattle.spared.specs.Zones.{store_places}
use Rattle.spared.specs.Notes.{NotesOf, Notes}
use Rattle.spared.specs.Views.{Aside}
use Rattle.spared.specs.Inv.{Spared}
use Rattle.spared.specs.Lemmas.{RowsKeep}
use Rattle.spared.proofs.Arrivals.{After, arrives}
use Rattle.spared.proofs.Paces.{row_aside, row_mutators}

-- at other places nothing is said
none_noted : (q : Process) (k : ℕ) → q.place ≡ k → (Among k store_places → ⊥) → (k ≡ roots_mark → ⊥) → NotesOf q
none_noted q k e f g = record { x = λ h. absurd (f (rw e at h)); y = λ h. absurd (f (rw e at h)); left = λ h. absurd (g (rw e at h)); cell = λ h _. absurd (g (rw e at h)) }

-- a store that begins, at the place k
store_noted : (k j x f y d : ℕ) (q : Process) → (k ≡ roots_mark → ⊥) → Member q.roots x → (y ≡ 0) ⊎ Member q.roots y → NotesOf (at k j (noting x f y d q))
store_noted k j x f y d q n a b = record { x = λ _. a; y = λ _. b; left = λ z. absurd (n z); cell = λ z _. absurd (n z) }

-- ---- a mark goes on
mark_on : (q : Process) (j : ℕ) (l b : Bool) (g : ℕ) → (q.place ≡ roots_mark → look_stage < q.stage) → NotesOf q → NotesOf (at q.place j (marking q.cell l b g q))
mark_on q j l b g h n = record { x = n.x; y = n.y; left = n.left; cell = λ e _. n.cell e (h e) }

-- .. or is over: but for the cell, which is forgotten
record Lasts (q : Process) : Type 0 where
  x : Among q.place store_places → Member q.roots q.x
  y : Among q.place store_places → (q.y ≡ 0) ⊎ Member q.roots q.y
  left : q.place ≡ roots_mark → Sub q.left q.roots

next_noted : {q t : Process} → Next q t → Lasts q → NotesOf t
next_noted (Next.write e z) n = record { x = λ _. n.x (rw e refl); y = λ _. n.y (rw e refl); left = λ h. absurd (omega arith); cell = λ h _. absurd (omega arith) }
next_noted (Next.new e z) n = record { x = λ _. n.x (rw e refl); y = λ _. n.y (rw e refl); left = λ h. absurd (omega arith); cell = λ h _. absurd (omega arith) }
next_noted (Next.marked e) n = record { x = λ _. n.x (rw e refl); y = λ _. n.y (rw e refl); left = λ h. absurd (omega arith); cell = λ h _. absurd (omega arith) }
next_noted {t = t} (Next.roots e z) n = none_noted t _ refl (λ h. false≢true h) (λ h. omega arith)
next_noted (Next.root e z) n = record { x = λ h. absurd (false≢true h); y = λ h. absurd (false≢true h); left = λ _. n.left e; cell = λ _ h. absurd (omega arith) }
next_noted {t = t} (Next.fields e z) n = none_noted t _ refl (λ h. false≢true h) (λ h. omega arith)
next_noted {t = t} (Next.field e z) n = none_noted t _ refl (λ h. false≢true h) (λ h. omega arith)

mark_noted : {m n : Memory} {p r : ℕ} {q t : Process} → (q.place ≡ roots_mark → q.stage ≡ look_stage → ⊥) → Mark m p r q n t → NotesOf q → NotesOf t
unfolding unnoted
mark_noted {q = q} h (Mark.looks e g) n = mark_on q _ _ _ _ (λ i. absurd (h i e)) n
mark_noted h (Mark.equal e g i) n = next_noted i (record { x = n.x; y = n.y; left = n.left })
mark_noted {q = q} h (Mark.unequal e g) n = mark_on q _ _ _ _ (λ i. omega arith) n
mark_noted h (Mark.idle e g i) n = next_noted i (record { x = n.x; y = n.y; left = n.left })
mark_noted {q = q} h (Mark.busy e g i) n = mark_on q _ _ _ _ (λ i. omega arith) n
mark_noted {q = q} h (Mark.locks e g) n = mark_on q _ _ _ _ (λ i. omega arith) n
mark_noted {q = q} h (Mark.agrees e g) n = mark_on q _ _ _ _ (λ i. omega arith) n
mark_noted {q = q} h (Mark.differs e g) n = mark_on q _ _ _ _ (λ i. omega arith) n
mark_noted {q = q} h (Mark.writes e g) n = mark_on q _ _ _ _ (λ i. omega arith) n
mark_noted h (Mark.wins e g i k) n = next_noted k (record { x = n.x; y = n.y; left = n.left })
mark_noted h (Mark.loses e g i k) n = next_noted k (record { x = n.x; y = n.y; left = n.left })

-- ---- a mutator's step: it is o after it
abbrev Ends : ℕ → State → Type 0
Ends = After NotesOf

branch_out : {k : RoundType} {j : ℕ} → Branch k j → (Among j store_places → ⊥) × (j ≡ roots_mark → ⊥)
branch_out Branch.noop = (λ h. false≢true h, λ h. omega arith)
branch_out Branch.roots = (λ h. false≢true h, λ h. omega arith)
branch_out Branch.work = (λ h. false≢true h, λ h. omega arith)

module _ (s : State) (c : Choice) (p : ℕ) where
  abbrev q : Process
  q = process_of s p

  -- it stays at top, or is at a place where nothing is said
  out : {k : ℕ} (x : State) (o : Process) → o.place ≡ k → (Among k store_places → ⊥) → (k ≡ roots_mark → ⊥) → Ends p (with_process_of x p o)
  out x o e f g = After.after x o (none_noted o _ e f g)

  mutator_noted : {t : State} → NotesOf q → Mutator s c p q t → Ends p t
  mutator_noted v (Mutator.allocates a o x l g y {m = n} e) = out (with_memory s n) _ a.place (λ h. false≢true h) (λ h. omega arith)
  mutator_noted v (Mutator.drops a o m g y) = out s _ a.place (λ h. false≢true h) (λ h. omega arith)
  mutator_noted v (Mutator.reads a o m g y e h) = out s _ a.place (λ h. false≢true h) (λ h. omega arith)
  mutator_noted v (Mutator.reads_null a o m g y e) = out s _ a.place (λ h. false≢true h) (λ h. omega arith)
  mutator_noted v (Mutator.stores a o m g y {v = u} e h) = After.after s _ (store_noted store_mark_old look_stage c.x c.f c.y u q (λ z. omega arith) m y)
  mutator_noted v (Mutator.stores_new a o m g y e) = After.after s _ (store_noted store_mark_y look_stage c.x c.f c.y 0 q (λ z. omega arith) m (inr y))
  mutator_noted v (Mutator.stores_null a o m g y e) = After.after s _ (store_noted store_write no_stage c.x c.f 0 0 q (λ z. omega arith) m (inl refl))
  mutator_noted v (Mutator.fences a o x g y e) = out s _ a.place (λ h. false≢true h) (λ h. omega arith)
  mutator_noted v (Mutator.answers a o x g y u b) = out s _ refl (branch_out b).0 (branch_out b).1
  mutator_noted v (Mutator.marks b i h {m = n} {t = t} e) = After.after (with_memory s n) t (mark_noted h e v)
  mutator_noted v (Mutator.looks_root a o m e) =
      After.after s _
      (record {
        x = λ h. absurd (false≢true h);
        y = λ h. absurd (false≢true h);
        left = λ _ z h. v.left a.place z (in_remove q.left c.x z h).0;
        cell = λ _ _. v.left a.place c.x m;
      })
  mutator_noted v (Mutator.writes a b {m = n} e) = out (with_memory s n) _ refl (λ h. false≢true h) (λ h. omega arith)
  mutator_noted v (Mutator.fences_noop a b e) = out s _ refl (λ h. false≢true h) (λ h. omega arith)
  mutator_noted v (Mutator.fences_work a b e) = out s _ refl (λ h. false≢true h) (λ h. omega arith)
  mutator_noted v (Mutator.fences_roots a b e h) = After.after s (at roots_mark look_stage (leaving q.roots q)) (record { x = λ h. absurd (false≢true h); y = λ h. absurd (false≢true h); left = λ _ z i. i; cell = λ _ i. absurd (omega arith) })
  mutator_noted v (Mutator.fences_none a b e h) = out s _ refl (λ h. false≢true h) (λ h. omega arith)
  mutator_noted v (Mutator.finishes_noop a b) = out s _ refl (λ h. false≢true h) (λ h. omega arith)
  mutator_noted v (Mutator.finishes_roots a b) = out (with_system s (with_list s.system _)) _ refl (λ h. false≢true h) (λ h. omega arith)
  mutator_noted v (Mutator.finishes_work a b) = out (with_system s (with_list s.system _)) _ refl (λ h. false≢true h) (λ h. omega arith)

-- ---- a step
aside_noted : {o u : Process} → Aside o u → NotesOf o → NotesOf u
aside_noted (Aside.aside r i e) n = rw e (record { x = n.x; y = n.y; left = n.left; cell = n.cell })

module _ (s : State) (c : Choice) (v : Spared s) where
  step_at : {t : State} → Row s c t → (m : ℕ) → 0 < m → m ≤ mutators_of s → Dec (m ≡ c.process) → NotesOf (process_of t m)
  step_at {t} r m a b (no d) = aside_noted (row_aside s t c v.inv.formed r m d) (v.notes m a b)
  step_at (Row.collector x e r) m a b (yes d) = absurd (omega arith)
  step_at {t} (Row.mutator x {p} e pos mine r) m a b (yes d) =
      let few = v.inv.formed.memory.few_processes in
      named (λ i. NotesOf (process_of t i)) (d ∙ e) (arrives (omega arith) (row_kept s c v.inv.formed (Row.mutator x e pos mine r)) (mutator_noted s c p (v.notes p pos mine) r))
  step_at (Row.commits x e mine y h) m a b (yes d) = v.notes m a b

pub step_notes : RowsKeep Notes
step_notes s t c v r m a b = step_at s c v r m a (rw (row_mutators s t c r) at b) (ℕ_discrete m c.process)
