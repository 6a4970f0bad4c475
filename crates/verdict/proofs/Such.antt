-- The set of the numbers from 1 to n of which a test holds: `such_of`. Assumes nothing.
--     such_turn           one number more of the loop that makes it
--     such_from, such_has     its members
use mathlib.Core.Path.{◌≡◌, ap, ◌∙◌}
use mathlib.Core.Bool.{Bool, true, false}
use mathlib.Core.Logic.{◌⊎◌, inl, inr}
use Prim.Native.Nat.{ℕ, zero, suc, ◌-◌, ◌≤◌, ◌<◌}
use native.Mathlib.Omega.{arith}
use native.Mathlib.Decide.{ℕ_discrete}
use Rattle.cells.specs.Sets.{max_set, Member}
use Rattle.cells.proofs.Bools.{split, not_both}
use Rattle.cells.proofs.Members.{member_empty, in_add, add_same, add_keeps}
use Rattle.verdict.specs.Colours.{with_if_of, such_of}

module _ (test : ℕ → Bool) where
  -- a turn of the loop, which adds c where the test holds
  pub such_turn : {r s : ℕ} {b : Bool} (c : ℕ) → 1 ≤ c → r ≡ such_of (c - 1) test → b ≡ test c → s ≡ with_if_of r c b → s ≡ such_of c test
  such_turn zero l e q k = absurd (omega arith)
  such_turn {r} {s} {b} (suc i) l e q k =
      let p : suc i - 1 ≡ i = omega arith in
      let f : r ≡ such_of i test = e ∙ ap (λ j. such_of j test) p in
      rw (← q, ← f) k

  -- a number in the set is one of 1 to n of which the test holds
  pub such_from : (n c : ℕ) → Member (such_of n test) c → (c ≤ n) × (test c ≡ true)
  such_from zero c p = absurd (not_both p (member_empty c))
  such_from (suc n) c p = go (split (test (suc n))) (such_from n c)
    where
      later : (c ≤ n) × (test c ≡ true) → (c ≤ suc n) × (test c ≡ true)
      later r = (omega (arith, r.0), r.1)

      new : test (suc n) ≡ true → (Member (such_of n test) c → (c ≤ n) × (test c ≡ true)) → (Member (such_of n test) c) ⊎ (suc n ≡ c) → (c ≤ suc n) × (test c ≡ true)
      new t ih (inl q) = later (ih q)
      new t ih (inr e) = (omega arith, rw (← e) t)

      go : (test (suc n) ≡ true) ⊎ (test (suc n) ≡ false) → (Member (such_of n test) c → (c ≤ n) × (test c ≡ true)) → (c ≤ suc n) × (test c ≡ true)
      go (inl t) ih = new t ih (in_add (such_of n test) (suc n) c (rw t at p))
      go (inr t) ih = later (ih (rw t at p))

  -- and each such number, up to 64, is in it
  such_keeps : (n c : ℕ) → Member (such_of n test) c → Member (such_of (suc n) test) c
  such_keeps n c p = go (split (test (suc n)))
    where
      go : (test (suc n) ≡ true) ⊎ (test (suc n) ≡ false) → Member (such_of (suc n) test) c
      go (inl t) = rw t (add_keeps (such_of n test) (suc n) c p)
      go (inr t) = rw t p

  pub such_has : (n c : ℕ) → 0 < c → c ≤ n → c ≤ max_set → test c ≡ true → Member (such_of n test) c
  such_has zero c z l m t = absurd (omega arith)
  such_has (suc n) c z l m t = go (ℕ_discrete c (suc n)) (λ k. such_has n c z k m t)
    where
      go : Dec (c ≡ suc n) → (c ≤ n → Member (such_of n test) c) → Member (such_of (suc n) test) c
      go (yes e) ih = let t' : test (suc n) ≡ true = (rw e at t) in rw (t', e) (add_same (such_of n test) (suc n) (omega arith) (omega arith))
      go (no q) ih = such_keeps n c (ih (omega arith))
