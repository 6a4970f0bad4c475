-- What a commit leaves in memory, by the kind of store. Occupied cells, lock and counts stay, and so does every part
-- that is not named (Committed, Alike). Assumes nothing.
--     mark_committed, field_committed, sense_committed, alloc_sense_committed, phase_committed     memory is alike to
--     the one with that part replaced
--     mark_here, marks_elsewhere        the mark of that cell alone
--     committed_field                   each field is as before, or has the value of the store
--     field_here, fields_elsewhere      that field of that cell alone
use mathlib.Core.Path.{◌≡◌, refl, sym, ◌∙◌, ap}
use mathlib.Core.Bool.{Bool}
use mathlib.Core.Logic.{◌⊎◌}
use Prim.Native.Nat.{ℕ, ◌≤◌}
use native.Mathlib.Omega.{arith}
use Rattle.cells.proofs.Members.{member_pos}
use Rattle.buffers.specs.declared.Phase.{Phase}
use Rattle.buffers.specs.declared.Store.TheVariants as store
use Rattle.buffers.specs.declared.Spot.TheVariants as spot
use Rattle.buffers.specs.Stores.{value_of, spot_cell_of, spot_field_of}
use Rattle.buffers.proofs.Hits.{hits_own, hits_other}
use Rattle.memory.specs.declared.Memory.{Memory}
use Rattle.memory.specs.Memories.{mark_of, field_of, put_mark_of, put_field_of, with_sense, with_alloc_sense, with_phase, there_of, stands_of, applied_of}
use Rattle.memory.proofs.Shapes.{Shaped}
use Rattle.memory.proofs.Spots.{last_field, Alike, mark_same, mark_other, held_field, field_same, applied_field}
use Rattle.memory.proofs.Effects.{Committed, committed_held}

module _ {m : Memory} {p : ℕ} {n : Memory} (w : Committed m p n) where
  pub mark_committed : {c : ℕ} {b : Bool} → w.oldest.store ≡ store.Mark c b → Alike (put_mark_of m c b) n
  unfolding applied_of
  mark_committed e = rw e at w.alike

  pub field_committed : {c f v : ℕ} → w.oldest.store ≡ store.Field c f v → Alike (put_field_of m c f v) n
  unfolding applied_of
  field_committed e = rw e at w.alike

  pub sense_committed : {b : Bool} → w.oldest.store ≡ store.Sense b → Alike (with_sense m b) n
  unfolding applied_of
  sense_committed e = rw e at w.alike

  pub alloc_sense_committed : {b : Bool} → w.oldest.store ≡ store.AllocSense b → Alike (with_alloc_sense m b) n
  unfolding applied_of
  alloc_sense_committed e = rw e at w.alike

  pub phase_committed : {x : Phase} → w.oldest.store ≡ store.Phase x → Alike (with_phase m x) n
  unfolding applied_of
  phase_committed e = rw e at w.alike

  pub marks_elsewhere : {c : ℕ} {b : Bool} (d : ℕ) → w.oldest.store ≡ store.Mark c b → (d ≡ c → ⊥) → mark_of n d ≡ mark_of m d
  marks_elsewhere {c} {b} d e ne = rw (mark_committed e).marks (mark_other m.marks c d b ne)

  pub mark_here : {c : ℕ} {b : Bool} → Shaped m → w.oldest.store ≡ store.Mark c b → mark_of n c ≡ b
  unfolding there_of
  mark_here {c} {b} z e =
      let t = rw e at w.there in
      rw (mark_committed e).marks (mark_same m.marks c b (member_pos m.used c t) (omega (arith, z.within c t)))

  pub committed_field : (d g : ℕ) → (field_of n d g ≡ field_of m d g) ⊎ (field_of n d g ≡ value_of w.oldest.store)
  committed_field d g = rw (field_same (applied_of m w.oldest.store) n d g w.alike) (applied_field m w.oldest.store d g)

  held_value : (k : Memory) (c f : ℕ) → value_of (stands_of k (spot.Field c f)) ≡ field_of k c f
  held_value k c f = rw (held_field k c f) refl

  pub field_here : {c f v : ℕ} → Shaped m → w.oldest.store ≡ store.Field c f v → f ≤ last_field → field_of n c f ≡ v
  field_here {c} {f} {v} z e l =
      let h = committed_held z w (spot.Field c f) (rw e l) l in
      sym (held_value n c f) ∙ ap value_of h ∙ rw (e, hits_own (store.Field c f v))

  pub fields_elsewhere : {c f v : ℕ} (d g : ℕ) → Shaped m → w.oldest.store ≡ store.Field c f v → f ≤ last_field → g ≤ last_field → ((d ≡ c) × (g ≡ f) → ⊥) → field_of n d g ≡ field_of m d g
  fields_elsewhere {c} {f} {v} d g z e l k ne =
      let h = committed_held z w (spot.Field d g) (rw e l) k in
      sym (held_value n d g) ∙ ap value_of h ∙ rw (e, hits_other (spot.Field d g) (store.Field c f v) (λ q. ne (sym (ap spot_cell_of q), sym (ap spot_field_of q)))) (held_value m d g)
