-- The fields through a step. Assumes nothing.
--     FieldAfter      a field keeps its value, or it is null or marked, or nobody deletes and row 6 is still to come
--     field_after     every one does, while fM stays
use mathlib.Core.Path.{◌≡◌, sym, subst}
use mathlib.Core.Bool.{true, false}
use mathlib.Core.Logic.{◌⊎◌, inl, inr, by_cases}
use Prim.Native.Nat.{ℕ, ◌<◌}
use native.Mathlib.Omega.{arith}
use native.Mathlib.Decide.{ℕ_discrete}
use lib.Dec.{eqb, leb}
use borrow.Author.Tests.{ne_eqb}
use Rattle.buffers.specs.Fits.{max_fields}
use Rattle.memory.specs.Memories.{field_of}
use Rattle.state.specs.declared.State.{State}
use Rattle.state.specs.declared.Choice.{Choice}
use Rattle.state.specs.Codes.{row5_round}
use Rattle.state.specs.States.{process_of}
use Rattle.model.specs.Rows.{Row}
use Rattle.model.specs.Reasons.{mover}
use Rattle.stays_formed.proofs.Kept.{row_kept}
use Rattle.claims.specs.Pending.{waiting_of}
use Rattle.spared.specs.Shades.{NullOrMarked}
use Rattle.spared.specs.Holds.{FieldIn, Every}
use Rattle.spared.specs.Zones.{deleting}
use Rattle.spared.specs.Views.{Effect}
use Rattle.spared.specs.Inv.{Spared}
use Rattle.spared.proofs.Effects.{row_effect}
use Rattle.spared.proofs.Stays.{marked_stays}
use Rattle.spared.proofs.Covers.{safe_stays}
use Rattle.spared.proofs.Overs.{value_safe}

pub data FieldAfter (s t : State) (d g : ℕ) : Type 0 where
  same : field_of t.memory d g ≡ field_of s.memory d g → FieldAfter s t d g
  safe : NullOrMarked t.memory (field_of t.memory d g) → FieldAfter s t d g
  blank : leb (process_of s 0).place row5_round ≡ true → Every s (λ q. deleting q.part.phase ≡ false) → FieldAfter s t d g

module _ (s t : State) (c : Choice) (v : Spared s) (r : Row s c t) (e : t.memory.fm ≡ s.memory.fm) where
  -- a store of w to the field, committed
  stored : (d g w : ℕ) → field_of t.memory d g ≡ w → FieldIn (waiting_of s c.process) d g w → FieldAfter s t d g
  stored d g w k i = go (value_safe s v c.process d g w i)
    where
      go : (NullOrMarked s.memory w) ⊎ ((s.memory.fa ≡ s.memory.fm → ⊥) × ((leb (process_of s 0).place row5_round ≡ true) × Every s (λ q. deleting q.part.phase ≡ false))) → FieldAfter s t d g
      go (inl h) = FieldAfter.safe (subst (NullOrMarked t.memory) (sym k) (safe_stays (marked_stays s t c v r e) h))
      go (inr h) = FieldAfter.blank h.1.0 h.1.1

  of_field : (d g : ℕ) → g < max_fields → Effect c (mover s c) (waiting_of s c.process) s.memory t.memory → FieldAfter s t d g
  of_field d g l (Effect.calm u a f z) = FieldAfter.same (f d g)
  of_field d g l (Effect.marks i o k a u f z) = FieldAfter.same (f d g)
  of_field d g l (Effect.stores {x} {f} {v = w} i o b k a u m z) = go (ℕ_discrete d x) (ℕ_discrete g f)
    where
      go : Dec (d ≡ x) → Dec (g ≡ f) → FieldAfter s t d g
      go (yes y) (yes h) = stored d g w (rw (y, h) k) (rw (y, h) i)
      go (yes y) (no h) = FieldAfter.same (a d g l (λ j. h j.1))
      go (no y) h = FieldAfter.same (a d g l (λ j. y j.0))
  of_field d g l (Effect.flips i k j u a f) = FieldAfter.same (f d g)
  of_field d g l (Effect.follows i k j u a f) = FieldAfter.same (f d g)
  of_field d g l (Effect.allocates a o i f u k z b j w y) = by_cases (ℕ_discrete d c.x) (λ n. FieldAfter.safe (inl (rw n (z g)))) (λ n. FieldAfter.same (w d g n))
  of_field d g l (Effect.frees a u b j w z) =
      by_cases (ℕ_discrete d (mover s c).x) (λ n. FieldAfter.safe (inl ((row_kept s c v.inv.formed r).memory.free_field d g (rw n u)))) (λ n. FieldAfter.same (w d g n))

  -- what is no field is read as the second
  pub field_after : (d g : ℕ) → FieldAfter s t d g
  field_after d g = by_cases (ℕ_discrete g 0) (λ z. of_field d g (omega arith) known) (λ z. go (ne_eqb g 0 z) (of_field d 1 (omega arith) known))
    where
      known : Effect c (mover s c) (waiting_of s c.process) s.memory t.memory
      known = row_effect s t c v.inv.formed r

      go : eqb g 0 ≡ false → FieldAfter s t d 1 → FieldAfter s t d g
      go z (FieldAfter.same h) = FieldAfter.same (rw z h)
      go z (FieldAfter.safe h) = FieldAfter.safe (rw z h)
      go z (FieldAfter.blank h i) = FieldAfter.blank h i
