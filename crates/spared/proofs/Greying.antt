-- B3 and B3a are kept: a pending mark is of the cell being greyed, with the noted fM; and that cell is the one that is
-- marked, at the unlock. Assumes nothing.
--     step_greying, step_of_marks     after each step
use mathlib.Core.Path.{◌≡◌, refl, sym, ◌∙◌}
use mathlib.Core.Bool.{Bool}
use mathlib.Core.List.{List, []}
use mathlib.Core.Logic.{◌⊎◌, inl, inr, ⊎_elim}
use Prim.Native.Nat.{ℕ}
use native.Mathlib.Omega.{arith}
use native.Mathlib.Decide.{ℕ_discrete}
use Rattle.cells.proofs.Bools.{not_both}
use Rattle.buffers.specs.declared.Store.TheVariants as store
use Rattle.buffers.specs.declared.Entry.{Entry}
use Rattle.memory.specs.declared.Memory.{Memory}
use Rattle.memory.specs.Views.{pending_for}
use Rattle.memory.proofs.Shapes.{Shaped, pending_is}
use Rattle.memory.proofs.Effects.{unlock_taken}
use Rattle.memory_formed.proofs.Shapes.{shaped}
use Rattle.state.specs.declared.Process.{Process}
use Rattle.state.specs.declared.State.{State}
use Rattle.state.specs.declared.Choice.{Choice}
use Rattle.state.specs.Codes.{write_stage, unlock_stage}
use Rattle.state.specs.States.{shaking, process_of}
use Rattle.model.specs.Rows.{unnoted, Marks, Mark, Row}
use Rattle.model.specs.Reasons.{mover}
use Rattle.stays_formed.specs.Leaves.{Writes}
use Rattle.claims.specs.Pending.{waiting_of, Unlocking}
use Rattle.claims.proofs.Moves.{Goes, row_goes, marks_place}
use Rattle.claims.proofs.Pending.{unlock_inside}
use Rattle.spared.specs.Holds.{StoreIn}
use Rattle.spared.specs.Greying.{Pends, Greying, GreyOfMark, OfMarks}
use Rattle.spared.specs.Views.{Fills, Aside}
use Rattle.spared.specs.Inv.{Spared}
use Rattle.spared.specs.Lemmas.{RowsKeep}
use Rattle.spared.proofs.Fills.{row_fills, row_waits, came}
use Rattle.spared.proofs.Paces.{row_aside}
use Rattle.spared.proofs.Marks.{marks_same, mark_store}
use Rattle.spared.proofs.Acts.{Acts, row_acts, no_store_lem, marks_stage, next_grey}

-- ---- at its unlock a process stays as it is, or nothing is pending
unlock_stays : {p : ℕ} {q o : Process} {m n : Memory} → Shaped m → Unlocking q → Goes p q m o n → (o ≡ q) ⊎ (pending_for m p ≡ [])
unlock_stays {q = q} z u (Goes.locks a b e) = absurd (not_both (unlock_inside q u) a)
unlock_stays z u (Goes.looks a i b) = absurd (not_both u i)
unlock_stays z u (Goes.writes a i b v r d e) = absurd (not_both u i)
unlock_stays {p} z u (Goes.unlocks a b e) = inr (unlock_taken p z e).empty
unlock_stays {q = q} z u (Goes.outside a b e) = absurd (not_both (unlock_inside q u) a)
unlock_stays z u (Goes.commits e) = inl refl

-- ---- a mark that is written
-- the only store of that kind is the mark's own
writes_mark : {q : Process} {x : ℕ} {b : Bool} → Writes q (store.Mark x b) → Marks q x × ((q.stage ≡ write_stage) × (q.sense ≡ b))
writes_mark (Writes.mark i e) = (i, (e, refl))

-- the step of a mark at that stage
mark_writes : {m n : Memory} {p r : ℕ} {q o : Process} → q.stage ≡ write_stage → Mark m p r q n o → (o.grey ≡ r) × (o.sense ≡ q.sense)
mark_writes h (Mark.looks e g) = absurd (omega arith)
mark_writes h (Mark.equal e g i) = absurd (omega arith)
mark_writes h (Mark.unequal e g) = absurd (omega arith)
mark_writes h (Mark.idle e g i) = absurd (omega arith)
mark_writes h (Mark.busy e g i) = absurd (omega arith)
mark_writes h (Mark.locks e g) = absurd (omega arith)
mark_writes h (Mark.agrees e g) = absurd (omega arith)
mark_writes h (Mark.differs e g) = absurd (omega arith)
mark_writes h (Mark.writes e g) = (refl, refl)
mark_writes h (Mark.wins e g i k) = absurd (omega arith)
mark_writes h (Mark.loses e g i k) = absurd (omega arith)

acts_writes : {c : Choice} {p r : ℕ} {q o : Process} {m n : Memory} → c.kind ≡ 0 → Marks q r → q.stage ≡ write_stage → Acts c p q o m n → (o.grey ≡ r) × (o.sense ≡ q.sense)
acts_writes k i h (Acts.commits e z) = absurd (omega arith)
acts_writes k i h (Acts.marks j n e) = rw (marks_same i j) (mark_writes h e)
acts_writes k i h (Acts.roots a j e n z) = absurd (omega (arith, a.stage))
acts_writes k i h (Acts.outside a) = absurd (not_both (marks_place i) a.from)

-- ---- another process
aside_pends : {l : List Entry} {o u : Process} → Aside o u → Pends l o → Pends l u
aside_pends (Aside.aside r i e) h = rw e h

module _ (s t : State) (c : Choice) (v : Spared s) (r : Row s c t) where
  abbrev p : ℕ
  p = c.process

  -- a mark that was pending before the step
  was : (x : ℕ) (b : Bool) → StoreIn (waiting_of s p) (store.Mark x b) → ((process_of t p).grey ≡ x) × ((process_of t p).sense ≡ b)
  was x b h =
      ⊎_elim (λ z. rw z (v.greying p x b h)) (λ z. absurd (no_store_lem (sym (pending_is s.memory p) ∙ z) h))
      (unlock_stays (shaped s.memory v.inv.formed.memory) (mark_store s v p x b h).unlocking (row_goes v.inv.formed r))

  own : {k : List Entry} → Fills c (mover s c) t.memory (waiting_of s p) k → Pends k (process_of t p)
  own k x b h =
      ⊎_elim (was x b)
      (λ j.
      let g = writes_mark j.1 in
      let f = acts_writes j.0 g.0 g.1.0 (row_acts s t c v.inv.formed r) in
      (f.0, f.1 ∙ g.1.1))
      (came k h)

  greying_at : (m : ℕ) → Dec (m ≡ p) → Pends (waiting_of t m) (process_of t m)
  greying_at m (yes e) = rw e (own (row_fills s t c v.inv.formed r))
  greying_at m (no e) = rw (row_waits s t c v.inv.formed r m e) (aside_pends (row_aside s t c v.inv.formed r m e) (v.greying m))

pub step_greying : RowsKeep Greying
step_greying s t c v r m = greying_at s t c v r m (ℕ_discrete m c.process)

-- ---- B3a
abbrev Of : Process → Type 0
Of q = (q.grey ≡ 0 → ⊥) → GreyOfMark q

aside_of : {o u : Process} → Aside o u → Of o → Of u
aside_of {o} {u} (Aside.aside r i e) h n = let k = h (rw e at n) in rw e (record { marks = go k.marks; stage = k.stage })
  where
    go : {x : ℕ} → Marks o x → Marks (shaking r i o.part.phase o) x
    go (Marks.old f) = Marks.old f
    go (Marks.new f) = Marks.new f
    go (Marks.root f) = Marks.root f
    go (Marks.field f) = Marks.field f

mark_of_lem : {m n : Memory} {p x : ℕ} {q o : Process} → Marks q x → Mark m p x q n o → Of q → Of o
unfolding unnoted
mark_of_lem i (Mark.looks e g) h n = absurd (omega (arith, (h n).stage))
mark_of_lem i (Mark.equal e g k) h n = absurd (n (next_grey k))
mark_of_lem i (Mark.unequal e g) h n = absurd (omega (arith, (h n).stage))
mark_of_lem i (Mark.idle e g k) h n = absurd (n (next_grey k))
mark_of_lem i (Mark.busy e g k) h n = absurd (omega (arith, (h n).stage))
mark_of_lem i (Mark.locks e g) h n = absurd (omega (arith, (h n).stage))
mark_of_lem i (Mark.agrees e g) h n = absurd (omega (arith, (h n).stage))
mark_of_lem i (Mark.differs e g) h n = absurd (omega (arith, (h n).stage))
mark_of_lem i (Mark.writes e g) h n = record { marks = marks_stage unlock_stage _ _ _ i; stage = refl }
mark_of_lem i (Mark.wins e g f k) h n = absurd (n (next_grey k))
mark_of_lem i (Mark.loses e g f k) h n = absurd (n (next_grey k))

acts_of : {c : Choice} {p : ℕ} {q o : Process} {m n : Memory} → Acts c p q o m n → Of q → Of o
acts_of (Acts.commits e z) h n = rw z (h (rw z at n))
acts_of (Acts.marks j k e) h n = mark_of_lem j e h n
acts_of (Acts.roots a j e k z) h n = absurd (omega (arith, a.stage, (h (rw z at n)).stage))
acts_of (Acts.outside a) h n = absurd (not_both (marks_place (h (rw a.grey at n)).marks) a.from)

of_at : (s t : State) (c : Choice) → Spared s → Row s c t → (m : ℕ) → Dec (m ≡ c.process) → Of (process_of t m)
of_at s t c v r m (yes e) = rw e (acts_of (row_acts s t c v.inv.formed r) (v.of_marks c.process))
of_at s t c v r m (no e) = aside_of (row_aside s t c v.inv.formed r m e) (v.of_marks m)

pub step_of_marks : RowsKeep OfMarks
step_of_marks s t c v r m = of_at s t c v r m (ℕ_discrete m c.process)
