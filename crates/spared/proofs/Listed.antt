-- B5: a listed cell is marked. Assumes nothing.
--     step_listed      after each row
use mathlib.Core.Path.{◌≡◌, ap, subst}
use mathlib.Core.Logic.{◌⊎◌, inl, inr, ⊎_elim}
use Prim.Native.Nat.{ℕ}
use native.Mathlib.Decide.{ℕ_discrete}
use Rattle.cells.specs.Sets.{Member}
use Rattle.cells.proofs.Bools.{not_both}
use Rattle.cells.proofs.Members.{member_empty, in_union, in_add, in_remove}
use Rattle.state.specs.declared.Process.{Process}
use Rattle.state.specs.declared.State.{State}
use Rattle.state.specs.declared.Choice.{Choice}
use Rattle.state.specs.States.{process_of}
use Rattle.model.specs.Rows.{Row}
use Rattle.model.specs.Reasons.{mover}
use Rattle.verdict.specs.Colours.{listed, gathered}
use Rattle.claims.specs.Pending.{waiting_of, marks_in}
use Rattle.spared.specs.Shades.{Marked}
use Rattle.spared.specs.Listed.{Listed}
use Rattle.spared.specs.Views.{Turns}
use Rattle.spared.specs.Inv.{Spared}
use Rattle.spared.specs.Lemmas.{Flip, Greyed, RowsKeep}
use Rattle.spared.proofs.Turns.{row_turns}
use Rattle.spared.proofs.Paces.{row_aside}
use Rattle.spared.proofs.Shades.{marked_not_white}
use Rattle.spared.proofs.Flips.{row_sense}
use Rattle.spared.proofs.Stays.{marked_stays}
use Rattle.spared.proofs.Greys.{aside_work, grey_was}

module _ (s t : State) (c : Choice) (v : Spared s) (r : Row s c t) where
  -- what is listed after a step was marked before it: it was listed, or the winner's mark is done
  abbrev Turned : Process → Type 0
  Turned = Turns s.system.work t.system.work (waiting_of s c.process) (mover s c)

  gathered_was : (x : ℕ) {o : Process} → Turned o → Member t.system.work x → Marked s.memory x
  gathered_was x (Turns.keeps e f z) i = v.listed.gathered x (rw z at i)
  gathered_was x (Turns.greys j e f y u z) i = v.listed.gathered x (rw z at i)
  gathered_was x (Turns.wins j e l n f u z) i = v.listed.gathered x (rw z at i)
  gathered_was x (Turns.gives a f u z) i = ⊎_elim (v.listed.gathered x) (v.listed.listed c.process x) (in_union s.system.work (mover s c).work x (rw z at i))
  gathered_was x (Turns.takes a f u z) i = absurd (not_both (rw z at i) (member_empty x))
  gathered_was x (Turns.drops a f u z) i = v.listed.gathered x (rw z at i)

  own_was : (x : ℕ) {o : Process} → Turned o → Member o.work x → Marked s.memory x
  own_was x (Turns.keeps e f g) i = v.listed.listed c.process x (rw e at i)
  own_was x (Turns.greys j e f z u g) i = v.listed.listed c.process x (rw f at i)
  own_was x (Turns.wins {r = d} j e z y f u g) i =
      ⊎_elim (v.listed.listed c.process x) (λ n. subst (Marked s.memory) n ((v.looked c.process).done j e (ap marks_in z))) (in_add (mover s c).work d x (rw f at i))
  own_was x (Turns.gives a f u g) i = absurd (not_both (rw f at i) (member_empty x))
  own_was x (Turns.takes a f u g) i = v.listed.gathered x (rw f at i)
  own_was x (Turns.drops a f u g) i = v.listed.listed c.process x (in_remove (mover s c).work (mover s c).x x (rw f at i)).0

  list_was : (p x : ℕ) → Dec (p ≡ c.process) → Member (process_of t p).work x → Marked s.memory x
  list_was p x (yes e) i = own_was x (row_turns s t c v.inv.formed r) (rw e at i)
  list_was p x (no e) i = v.listed.listed p x (rw (aside_work (row_aside s t c v.inv.formed r p e)).0 at i)

  -- at the flip nothing is grey, and nothing white that could become so
  none : Flip s t → (x : ℕ) → Greyed s c x → ⊥
  none f x (Greyed.was g) = f.none_grey x g
  none f x (Greyed.now i e w l) = marked_not_white (f.marked x w.occupied) w

  after : (t.memory.fm ≡ s.memory.fm) ⊎ Flip s t → Listed t
  after (inl e) =
      record {
        gathered = λ x i. marked_stays s t c v r e x (gathered_was x (row_turns s t c v.inv.formed r) i);
        listed = λ p x i. marked_stays s t c v r e x (list_was p x (ℕ_discrete p c.process) i);
      }
  after (inr f) =
      record {
        gathered = λ x i. absurd (none f x (grey_was s t c v r x (gathered i)));
        listed = λ p x i. absurd (none f x (grey_was s t c v r x (listed p i)));
      }

pub step_listed : RowsKeep Listed
step_listed s t c v r = after s t c v r (row_sense s t c v r)
