-- The flip: where memory's fM changes. Assumes nothing.
--     row_sense     fM stays, or all was marked, nothing was grey, and nothing is marked after (L0)
use mathlib.Core.Path.{◌≡◌, refl, sym, subst, ◌∙◌}
use mathlib.Core.Bool.{Bool, true, false}
use mathlib.Core.List.{List}
use mathlib.Core.Logic.{◌⊎◌, inl, inr}
use Prim.Native.Nat.{ℕ}
use native.Mathlib.Omega.{arith}
use Rattle.base.specs.Pick.{same_bit}
use Rattle.base.proofs.Bits.{same_bit_lem, bit_same}
use Rattle.cells.proofs.Bools.{split, not_both}
use Rattle.buffers.specs.declared.Store.TheVariants as store
use Rattle.buffers.specs.declared.Entry.{Entry}
use Rattle.memory.specs.declared.Memory.{Memory}
use Rattle.memory.proofs.Effects.{write_taken, lock_taken, unlock_taken}
use Rattle.memory_formed.proofs.Shapes.{shaped}
use Rattle.state.specs.declared.Process.{Process}
use Rattle.state.specs.declared.State.{State}
use Rattle.state.specs.declared.Choice.{Choice}
use Rattle.formed.proofs.Gives.{collector_within}
use Rattle.model.specs.Rows.{Row}
use Rattle.model.specs.Reasons.{mover}
use Rattle.stays_formed.specs.Leaves.{Stored}
use Rattle.stays_formed.proofs.Leaves.{row_memory}
use Rattle.claims.specs.Pending.{waiting_of}
use Rattle.claims.proofs.Moves.{frees_quiet}
use Rattle.spared.specs.Holds.{StoreIn}
use Rattle.spared.specs.Views.{UsedStays, MarksStay, FieldsStay, Effect}
use Rattle.spared.specs.Inv.{Spared}
use Rattle.spared.specs.Lemmas.{Flip, RowSense}
use Rattle.spared.proofs.Effects.{row_effect}
use Rattle.spared.proofs.Eras.{flip_waits}

-- a store of fM, pending in l, is committed
record Flipped (l : List Entry) (m n : Memory) : Type 0 where
  pub bit : Bool
  pub waits : StoreIn l (store.Sense bit)
  pub used : UsedStays m n
  pub marks : MarksStay m n
  pub fields : FieldsStay m n

sensed : {c : Choice} {q : Process} {l : List Entry} {m n : Memory} → Effect c q l m n → (n.fm ≡ m.fm) ⊎ Flipped l m n
sensed (Effect.calm u a f s) = inl s.fm
sensed (Effect.marks i o e a u f s) = inl s.fm
sensed (Effect.stores i o b e a u v s) = inl s.fm
sensed (Effect.flips {b} i e f u a v) = inr (record { bit = b; waits = i; used = u; marks = a; fields = v })
sensed (Effect.follows i e f u a v) = inl f
sensed (Effect.allocates a o i f u e v b j w s) = inl s.fm
sensed (Effect.frees a u b j w s) = inl s.fm

module _ (s : State) (c : Choice) (v : Spared s) where
  -- no step of the collector's own changes fM
  own : c.kind ≡ 0 → c.process ≡ 0 → {n : Memory} → Stored c c.process (mover s c) s.memory n → n.fm ≡ s.memory.fm
  own k z Stored.same = refl
  own k z (Stored.writes j {v = x} i e) = (write_taken c.process (record { store = x }) (shaped s.memory v.inv.formed.memory) e).alike.fm
  own k z (Stored.locks j i h e) = (lock_taken c.process e).after.alike.fm
  own k z (Stored.unlocks j i h e) = (unlock_taken c.process (shaped s.memory v.inv.formed.memory) e).after.alike.fm
  own k z (Stored.allocates j a o e) = absurd (let h = rw z at a.place in omega (arith, h, (collector_within v.inv.formed.collector).0))
  own k z (Stored.frees j a e) =
      (frees_quiet s.memory v.inv.formed.memory c.process (mover s c).x (v.inv.formed.memory.used_cells (mover s c).x (rw z (v.swept.white (rw z at a.place)).occupied)) e).fm
  own k z (Stored.commits j e) = absurd (omega arith)

  -- so where it changes the step is a commit, and the processes stay
  procs_stay : {t : State} → Row s c t → c.process ≡ 0 → (t.memory.fm ≡ s.memory.fm → ⊥) → t.procs ≡ s.procs
  procs_stay (Row.collector k e r) z n = absurd (n (own k z (row_memory (Row.collector k e r))))
  procs_stay (Row.mutator k e a b r) z n = absurd (n (own k z (row_memory (Row.mutator k e a b r))))
  procs_stay (Row.commits k e a b h) z n = refl

  flip : (t : State) → Row s c t → Flipped (waiting_of s c.process) s.memory t.memory → (t.memory.fm ≡ s.memory.fm → ⊥) → Flip s t
  flip t r f n =
      let w = flip_waits s v.inv c.process f.bit f.waits in
      let a = v.rested.flip (subst (λ (i : ℕ). StoreIn (waiting_of s i) (store.Sense f.bit)) w.0 f.waits) in
      record {
        idle = w.1.0;
        quiet = w.1.1;
        marked = a;
        none_grey = v.quiet w.1.1;
        none_marked = λ d k. n (sym k.equal ∙ f.marks d ∙ (a d (sym (f.used d) ∙ k.occupied)).equal);
        procs = procs_stay r w.0 n;
        used = f.used;
        fields = f.fields;
      }

pub row_sense : RowSense
row_sense s t c v r = go (sensed (row_effect s t c v.inv.formed r)) (split (same_bit t.memory.fm s.memory.fm))
  where
    go : (t.memory.fm ≡ s.memory.fm) ⊎ Flipped (waiting_of s c.process) s.memory t.memory → (same_bit t.memory.fm s.memory.fm ≡ true) ⊎ (same_bit t.memory.fm s.memory.fm ≡ false) → (t.memory.fm ≡ s.memory.fm) ⊎ Flip s t
    go (inl e) b = inl e
    go (inr f) (inl b) = inl (same_bit_lem t.memory.fm s.memory.fm b)
    go (inr f) (inr b) = inr (flip s c v t r f (λ e. not_both (rw e (bit_same s.memory.fm)) b))
