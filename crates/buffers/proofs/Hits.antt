-- Which spots a store hits: its own, and no other. Assumes nothing.
--     hits_spot, hits_own, hits_other     a store hits a spot exactly if it is the one that it writes
--     hits_is                             the same as one law
--     spots_equal                         the code's `==` of two spots is `same_spot`
--     hits_apart                          two spots that differ in kind, cell or field are not hit by one store
use mathlib.Core.Path.{◌≡◌, refl, sym, ◌∙◌, ap}
use mathlib.Core.Bool.{Bool, true, false, ◌&&◌}
use mathlib.Core.Logic.{◌↔◌}
use Prim.Native.Nat.{ℕ}
use lib.Dec.{eqb}
use borrow.Author.Tests.{eqb-true, eq-eqb}
use Rattle.base.specs.Pick.{pick}
use Rattle.base.specs.Every.{◌and◌}
use Rattle.base.proofs.Everies.{and_both}
use Rattle.buffers.specs.declared.Spot.{Spot}
use Rattle.buffers.specs.declared.Spot.TheVariants as spot
use Rattle.buffers.specs.declared.Store.{Store}
use Rattle.buffers.specs.contracts.SpotPartialEq.TheImpl as spots
use Rattle.buffers.specs.Stores.{spot_of, kind_of, spot_cell_of, spot_field_of, same_spot, hits_of}

-- a spot is named by its kind, its cell and its field
abbrev named : ℕ → ℕ → ℕ → Spot
named k c f = pick (eqb k 0) (spot.Mark c) (pick (eqb k 1) (spot.Field c f) (pick (eqb k 2) spot.Sense (pick (eqb k 3) spot.AllocSense spot.Phase)))

named_is : (a : Spot) → named (kind_of a) (spot_cell_of a) (spot_field_of a) ≡ a
named_is (spot.Mark c) = refl
named_is (spot.Field c f) = refl
named_is spot.Sense = refl
named_is spot.AllocSense = refl
named_is spot.Phase = refl

same_spot_lem : (a b : Spot) → same_spot a b ≡ true → a ≡ b
same_spot_lem a b h =
    let k = and_both (eqb (kind_of a) (kind_of b)) _ h in
    let cf = and_both (eqb (spot_cell_of a) (spot_cell_of b)) _ k.1 in
    sym (named_is a) ∙ rw (eqb-true (kind_of a) (kind_of b) k.0, eqb-true (spot_cell_of a) (spot_cell_of b) cf.0, eqb-true (spot_field_of a) (spot_field_of b) cf.1) (named_is b)

spot_same : (a : Spot) → same_spot a a ≡ true
spot_same a = rw (eq-eqb (kind_of a) (kind_of a) refl, eq-eqb (spot_cell_of a) (spot_cell_of a) refl, eq-eqb (spot_field_of a) (spot_field_of a) refl)

both_ways : (a b : Bool) → (a && b) ≡ (a and b)
both_ways true b = refl
both_ways false b = refl

with_true : (a : Bool) → a ≡ (a and true)
with_true true = refl
with_true false = refl

-- the derived comparison goes by kind, cell and field
pub spots_equal : (a b : Spot) → (spots.ghosts).eq a b ≡ same_spot a b
spots_equal (spot.Mark c) (spot.Mark d) = with_true (eqb c d)
spots_equal (spot.Field c f) (spot.Field d g) = both_ways (eqb c d) (eqb f g)
spots_equal spot.Sense spot.Sense = refl
spots_equal spot.AllocSense spot.AllocSense = refl
spots_equal spot.Phase spot.Phase = refl
spots_equal _ _ = refl

pub hits_spot : (at : Spot) (s : Store) → hits_of at s ≡ true → spot_of s ≡ at
unfolding hits_of
hits_spot at s h = same_spot_lem (spot_of s) at h

pub hits_own : (s : Store) → hits_of (spot_of s) s ≡ true
unfolding hits_of
hits_own s = spot_same (spot_of s)

pub hits_is : (at : Spot) (s : Store) → hits_of at s ≡ true ↔ spot_of s ≡ at
hits_is at s = (hits_spot at s, λ e. rw (← e) (hits_own s))

pub hits_other : (at : Spot) (s : Store) → (spot_of s ≡ at → ⊥) → hits_of at s ≡ false
hits_other at s h = go (hits_of at s) refl
  where
    go : (b : _) → hits_of at s ≡ b → hits_of at s ≡ false
    go true e = absurd (h (hits_spot at s e))
    go false e = e

pub hits_apart : (f : Spot → ℕ) (at : Spot) (s : Store) → (f (spot_of s) ≡ f at → ⊥) → hits_of at s ≡ false
hits_apart f at s ne = hits_other at s (λ e. ne (ap f e))
