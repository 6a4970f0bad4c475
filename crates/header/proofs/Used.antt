-- The occupied cells of a header, by number. Assumes nothing.
--     in_used, used_in     in the set exactly if it is one of the first n, said to be occupied
--     used_below           none above n
use mathlib.Core.Path.{◌≡◌, ap, ◌∙◌}
use mathlib.Core.Bool.{Bool, true, false}
use mathlib.Core.List.{List}
use mathlib.Core.Logic.{◌⊎◌, inl, inr}
use Prim.Native.Nat.{ℕ, zero, suc, ◌+◌, ◌-◌, ◌≤◌, ◌<◌}
use native.Mathlib.Decide.{ℕ_discrete}
use native.Mathlib.Omega.{arith}
use lib.Dec.{eqb}
use borrow.Author.Tests.{eqb-true, eq-eqb}
use Rattle.base.specs.Pick.{pick}
use Rattle.cells.specs.Sets.{max_set, Member, add_of, below_of}
use Rattle.cells.proofs.Bools.{split, not_both}
use Rattle.cells.proofs.Members.{member_empty, in_add, add_same, add_keeps}
use Rattle.cells.proofs.Belows.{below_of_lem}
use Rattle.header.specs.Header.{occupied_at, used_among}

module _ (log : List ℕ) where
  -- one of the first n, said to be occupied
  pub record Among (n c : ℕ) : Type 0 where
    pub some : 0 < c
    pub within : c ≤ n
    pub said : occupied_at log (c - 1) ≡ 1

  pub in_used : (n c : ℕ) → Member (used_among log n) c → Among n c
  in_used zero c p = absurd (not_both p (member_empty c))
  in_used (suc i) c p = go (split (eqb (occupied_at log i) 1)) (in_used i c)
    where
      more : Among i c → Among (suc i) c
      more a = record { some = a.some; within = omega (arith, a.within); said = a.said }

      added : occupied_at log i ≡ 1 → (Member (used_among log i) c → Among i c) → (Member (used_among log i) c) ⊎ (i + 1 ≡ c) → Among (suc i) c
      added e f (inl q) = more (f q)
      added e f (inr q) =
          let k : c - 1 ≡ i = omega arith in
          record { some = omega arith; within = omega arith; said = ap (occupied_at log) k ∙ e }

      go : (eqb (occupied_at log i) 1 ≡ true) ⊎ (eqb (occupied_at log i) 1 ≡ false) → (Member (used_among log i) c → Among i c) → Among (suc i) c
      go (inl t) f = added (eqb-true (occupied_at log i) 1 t) f (in_add (used_among log i) (i + 1) c (rw t at p))
      go (inr t) f = more (f (rw t at p))

  pub used_in : (n c : ℕ) → n ≤ max_set → 0 < c → c ≤ n → occupied_at log (c - 1) ≡ 1 → Member (used_among log n) c
  used_in zero c m s l e = absurd (omega arith)
  used_in (suc i) c m s l e = go (ℕ_discrete c (i + 1)) (used_in i c)
    where
      kept : (b : Bool) → Member (used_among log i) c → Member (pick b (add_of (used_among log i) (i + 1)) (used_among log i)) c
      kept true q = add_keeps (used_among log i) (i + 1) c q
      kept false q = q

      go : Dec (c ≡ i + 1) → (i ≤ max_set → 0 < c → c ≤ i → occupied_at log (c - 1) ≡ 1 → Member (used_among log i) c) → Member (used_among log (suc i)) c
      go (yes q) f =
          let k : i ≡ c - 1 = omega arith in
          let t = eq-eqb (occupied_at log i) 1 (ap (occupied_at log) k ∙ e) in
          rw (t, q) (add_same (used_among log i) (i + 1) (omega arith) (omega arith))
      go (no q) f = kept (eqb (occupied_at log i) 1) (f (omega arith) s (omega arith) e)

  pub used_below : (n : ℕ) → below_of (used_among log n) n ≡ true
  used_below n = below_of_lem (used_among log n) n (λ x p. (in_used n x p).within)
