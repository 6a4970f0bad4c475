-- What a commit does to memory's fM, fA and phase: each is the committed store's or stays. Assumes nothing.
--     sense_after, alloc_after, phase_after_lem     the three after a store
--     fm_after, fa_after, phase_after        so they are after a commit
use mathlib.Core.Path.{◌≡◌, refl, ap}
use mathlib.Core.Bool.{Bool}
use mathlib.Core.List.Memᴰ
use Prim.Native.Nat.{ℕ}
use native.Mathlib.Omega.{arith}
use Rattle.base.specs.Pick.{pick}
use Rattle.buffers.specs.declared.Phase.{Phase}
use Rattle.buffers.specs.declared.Store.{Store}
use Rattle.buffers.specs.declared.Store.TheVariants as store
use Rattle.buffers.specs.declared.Spot.TheVariants as spot
use Rattle.buffers.specs.Stores.{spot_of, kind_of, hits_of, bit_of, phase_of}
use Rattle.buffers.proofs.Hits.{hits_own, hits_apart}
use Rattle.memory.specs.declared.Memory.{Memory}
use Rattle.memory.proofs.Spots.{Plain, held_sense, held_alloc_sense, held_phase}
use Rattle.memory.proofs.Effects.{Committed, committed_held}
use Rattle.memory_formed.specs.WellFormed.{MemoryFormed}
use Rattle.memory_formed.proofs.Shapes.{shaped, pending_plain}

abbrev pub sense_after : Store → Bool → Bool
sense_after (store.Mark c b) x = x
sense_after (store.Field c f v) x = x
sense_after (store.Sense b) x = b
sense_after (store.AllocSense b) x = x
sense_after (store.Phase h) x = x

abbrev pub alloc_after : Store → Bool → Bool
alloc_after (store.Mark c b) x = x
alloc_after (store.Field c f v) x = x
alloc_after (store.Sense b) x = x
alloc_after (store.AllocSense b) x = b
alloc_after (store.Phase h) x = x

abbrev pub phase_after_lem : Store → Phase → Phase
phase_after_lem (store.Mark c b) x = x
phase_after_lem (store.Field c f v) x = x
phase_after_lem (store.Sense b) x = x
phase_after_lem (store.AllocSense b) x = x
phase_after_lem (store.Phase h) x = h

-- ---- what is held at the three spots
-- a store to the spot takes the place of what was held there; one to a spot of another kind leaves it
at_sense : (v : Store) (b : Bool) {d : Bool} → store.Sense d ≡ pick (hits_of spot.Sense v) v (store.Sense b) → d ≡ sense_after v b
at_sense (store.Mark c i) b e = ap bit_of (rw (hits_apart kind_of spot.Sense (store.Mark c i) (λ k. omega arith)) at e)
at_sense (store.Field c f i) b e = ap bit_of (rw (hits_apart kind_of spot.Sense (store.Field c f i) (λ k. omega arith)) at e)
at_sense (store.Sense i) b e = ap bit_of (rw (hits_own (store.Sense i)) at e)
at_sense (store.AllocSense i) b e = ap bit_of (rw (hits_apart kind_of spot.Sense (store.AllocSense i) (λ k. omega arith)) at e)
at_sense (store.Phase i) b e = ap bit_of (rw (hits_apart kind_of spot.Sense (store.Phase i) (λ k. omega arith)) at e)

at_alloc : (v : Store) (b : Bool) {d : Bool} → store.AllocSense d ≡ pick (hits_of spot.AllocSense v) v (store.AllocSense b) → d ≡ alloc_after v b
at_alloc (store.Mark c i) b e = ap bit_of (rw (hits_apart kind_of spot.AllocSense (store.Mark c i) (λ k. omega arith)) at e)
at_alloc (store.Field c f i) b e = ap bit_of (rw (hits_apart kind_of spot.AllocSense (store.Field c f i) (λ k. omega arith)) at e)
at_alloc (store.Sense i) b e = ap bit_of (rw (hits_apart kind_of spot.AllocSense (store.Sense i) (λ k. omega arith)) at e)
at_alloc (store.AllocSense i) b e = ap bit_of (rw (hits_own (store.AllocSense i)) at e)
at_alloc (store.Phase i) b e = ap bit_of (rw (hits_apart kind_of spot.AllocSense (store.Phase i) (λ k. omega arith)) at e)

at_phase : (v : Store) (b : Phase) {d : Phase} → store.Phase d ≡ pick (hits_of spot.Phase v) v (store.Phase b) → d ≡ phase_after_lem v b
at_phase (store.Mark c i) b e = ap phase_of (rw (hits_apart kind_of spot.Phase (store.Mark c i) (λ k. omega arith)) at e)
at_phase (store.Field c f i) b e = ap phase_of (rw (hits_apart kind_of spot.Phase (store.Field c f i) (λ k. omega arith)) at e)
at_phase (store.Sense i) b e = ap phase_of (rw (hits_apart kind_of spot.Phase (store.Sense i) (λ k. omega arith)) at e)
at_phase (store.AllocSense i) b e = ap phase_of (rw (hits_apart kind_of spot.Phase (store.AllocSense i) (λ k. omega arith)) at e)
at_phase (store.Phase i) b e = ap phase_of (rw (hits_own (store.Phase i)) at e)

-- ---- a commit of p
module _ {m n : Memory} (w : MemoryFormed m) (p : ℕ) (k : Committed m p n) where
  plain_oldest : Plain (spot_of k.oldest.store)
  plain_oldest = pending_plain m w p k.oldest (rw k.before (Memᴰ.head refl))

  pub fm_after : n.fm ≡ sense_after k.oldest.store m.fm
  fm_after = at_sense k.oldest.store m.fm (rw (held_sense n, held_sense m) at (committed_held (shaped m w) k spot.Sense plain_oldest (omega arith)))

  pub fa_after : n.fa ≡ alloc_after k.oldest.store m.fa
  fa_after = at_alloc k.oldest.store m.fa (rw (held_alloc_sense n, held_alloc_sense m) at (committed_held (shaped m w) k spot.AllocSense plain_oldest (omega arith)))

  pub phase_after : n.phase.phase ≡ phase_after_lem k.oldest.store m.phase.phase
  phase_after = at_phase k.oldest.store m.phase.phase (rw (held_phase n, held_phase m) at (committed_held (shaped m w) k spot.Phase plain_oldest (omega arith)))
