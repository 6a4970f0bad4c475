-- What is held after a step. Assumes nothing.
--     held_was     it was held, is named by a field of what was held, or is new (L12)
use mathlib.Core.Path.{◌≡◌, refl, sym, ap, subst, ◌∙◌}
use mathlib.Core.List.{List}
use mathlib.Core.Logic.{⊎_elim}
use Prim.Native.Nat.{ℕ, ◌≤◌, ◌<◌}
use native.Mathlib.Omega.{arith}
use native.Mathlib.Decide.{ℕ_discrete}
use Rattle.cells.specs.Sets.{Member}
use Rattle.cells.proofs.Members.{member_pos, in_add, in_remove}
use Rattle.buffers.specs.declared.Entry.{Entry}
use Rattle.buffers.specs.Fits.{max_fields}
use Rattle.memory.specs.Looks.{look_field_of}
use Rattle.state.specs.declared.Process.{Process}
use Rattle.state.specs.declared.State.{State}
use Rattle.state.specs.declared.Choice.{Choice}
use Rattle.state.specs.Codes.{store_write, no_stage}
use Rattle.state.specs.States.{mutators_of, process_of}
use Rattle.model.specs.Rows.{At, sees_value, Row}
use Rattle.model.specs.Reasons.{mover}
use Rattle.stays_formed.proofs.Frames.{named}
use Rattle.claims.specs.Pending.{waiting_of}
use Rattle.spared.specs.Holds.{FieldIn, HeldBy, HeldAt}
use Rattle.spared.specs.Views.{Grips, Aside}
use Rattle.spared.specs.Inv.{Spared}
use Rattle.spared.specs.Lemmas.{Gained, HeldWas}
use Rattle.spared.proofs.Fills.{row_fills, row_waits, came, field_writes}
use Rattle.spared.proofs.Grips.{row_grips}
use Rattle.spared.proofs.Paces.{row_aside}
use Rattle.spared.proofs.Sights.{look_field_lem}
use Rattle.spared.proofs.Names.{names_by}

-- ---- a process whose roots, old value and pending stores stay
still : {q o : Process} {l k : List Entry} {d : ℕ} → o.roots ≡ q.roots → o.old ≡ q.old → k ≡ l → HeldBy o k d → HeldBy q l d
still e f g (HeldBy.root i) = HeldBy.root (rw e at i)
still e f g (HeldBy.honorary z n) = HeldBy.honorary (sym f ∙ z) n
still e f g (HeldBy.target x y i) = HeldBy.target x y (rw g at i)
still e f g (HeldBy.value x y i n) = HeldBy.value x y (rw g at i) n

aside_held : {o u : Process} {l k : List Entry} {d : ℕ} → Aside o u → k ≡ l → HeldBy u k d → HeldBy o l d
aside_held (Aside.aside r i e) = still (ap (λ (q : Process). q.roots) e) (ap (λ (q : Process). q.old) e)

-- ---- the process that steps
module _ (s t : State) (c : Choice) (v : Spared s) (r : Row s c t) (pos : 0 < c.process) (mine : c.process ≤ mutators_of s) where
  -- a field of a root is read: it sees memory's value, or one that is pending
  seen : (x f w d : ℕ) → Member (mover s c).roots x → f < max_fields → look_field_of s.memory c.process x f ≡ sees_value w → w ≡ d → 0 < d → Gained s t c.process d
  seen x f w d i l e z n =
      ⊎_elim (λ h. Gained.named x (HeldBy.root i) (names_by s.memory x d f l (sym h ∙ z) n)) (λ h. Gained.was (HeldBy.value x f (subst (FieldIn (waiting_of s c.process) x f) z h) n))
      (look_field_lem s c.process x f w l e)

  roots_were : {o : Process} → Grips s t c c.process (mover s c) o → (d : ℕ) → Member o.roots d → 0 < d → Gained s t c.process d
  roots_were (Grips.keeps e f) d i n = Gained.was (HeldBy.root (rw e at i))
  roots_were (Grips.allocates a z u y b e f) d i n = ⊎_elim (λ j. Gained.was (HeldBy.root j)) (λ j. subst (Gained s t c.process) j (Gained.fresh y b)) (in_add (mover s c).roots c.x d (rw e at i))
  roots_were (Grips.drops a e f) d i n = Gained.was (HeldBy.root (in_remove (mover s c).roots c.x d (rw e at i)).0)
  roots_were (Grips.reads a j l {v = w} g e f) d i n = ⊎_elim (λ k. Gained.was (HeldBy.root k)) (λ k. seen c.x c.f w d j l g k n) (in_add (mover s c).roots w d (rw e at i))
  roots_were (Grips.stores a j l g e f) d i n = Gained.was (HeldBy.root (rw e at i))
  roots_were (Grips.writes a e f) d i n = Gained.was (HeldBy.root (rw e at i))

  old_was : {o : Process} → Grips s t c c.process (mover s c) o → (d : ℕ) → o.old ≡ d → 0 < d → Gained s t c.process d
  old_was (Grips.keeps e f) d i n = Gained.was (HeldBy.honorary (sym f ∙ i) n)
  old_was (Grips.allocates a z u y b e f) d i n = Gained.was (HeldBy.honorary (sym f ∙ i) n)
  old_was (Grips.drops a e f) d i n = Gained.was (HeldBy.honorary (sym f ∙ i) n)
  old_was (Grips.reads a j l g e f) d i n = Gained.was (HeldBy.honorary (sym f ∙ i) n)
  old_was (Grips.stores a j l {v = w} g e f) d i n = seen c.x c.f w d j l g (sym f ∙ i) n
  old_was (Grips.writes a e f) d i n = absurd (omega arith)

  -- what is written is a root, into a root
  target_was : (d : ℕ) → At store_write no_stage (mover s c) → (mover s c).x ≡ d → Gained s t c.process d
  target_was d a e = Gained.was (HeldBy.root (subst (Member (mover s c).roots) e ((v.notes c.process pos mine).x (rw a.place refl))))

  value_was : (d : ℕ) → 0 < d → At store_write no_stage (mover s c) → (mover s c).y ≡ d → Gained s t c.process d
  value_was d n a e = ⊎_elim (λ z. absurd (omega arith)) (λ i. Gained.was (HeldBy.root (subst (Member (mover s c).roots) e i))) ((v.notes c.process pos mine).y (rw a.place refl))

  own : (d : ℕ) → HeldAt t c.process d → Gained s t c.process d
  own d (HeldBy.root i) = roots_were (row_grips s t c v.inv.formed r) d i (member_pos (process_of t c.process).roots d i)
  own d (HeldBy.honorary e n) = old_was (row_grips s t c v.inv.formed r) d e n
  own d (HeldBy.target f y i) = ⊎_elim (λ j. Gained.was (HeldBy.target f y j)) (λ j. let h = field_writes j.1 in target_was d h.0 h.1.0) (came (row_fills s t c v.inv.formed r) i)
  own d (HeldBy.value x f i n) = ⊎_elim (λ j. Gained.was (HeldBy.value x f j n)) (λ j. let h = field_writes j.1 in value_was d n h.0 h.1.1.1) (came (row_fills s t c v.inv.formed r) i)

pub held_was : HeldWas
held_was s t c v r p pos mine d h = go (ℕ_discrete p c.process)
  where
    go : Dec (p ≡ c.process) → Gained s t p d
    go (yes e) = named (λ i. 0 < i → i ≤ mutators_of s → HeldAt t i d → Gained s t i d) e (λ a b. own s t c v r a b d) pos mine h
    go (no e) = Gained.was (aside_held (row_aside s t c v.inv.formed r p e) (row_waits s t c v.inv.formed r p e) h)
