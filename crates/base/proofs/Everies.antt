-- A test of every number below n: that it fails at one, and what is known of each.
use Prim.Native.Nat.{ℕ, zero, suc, ◌<◌}
use native.Mathlib.Decide.{ℕ_discrete}
use native.Mathlib.Omega.{arith}
use mathlib.Core.Path.{◌≡◌, refl, sym}
use mathlib.Core.Bool.{Bool, true, false, false≢true}
use Rattle.base.specs.Pick.{pick}
use Rattle.base.specs.Every.{◌and◌, every}

pub and_both : (a b : Bool) → a and b ≡ true → (a ≡ true) × (b ≡ true)
and_both true b e = (refl, e)
and_both false b e = absurd (false≢true e)

-- a test that must fail before the rest
pub unless : (a b : Bool) → pick a false b ≡ true → (a ≡ false) × (b ≡ true)
unless true b e = absurd (false≢true e)
unless false b e = (refl, e)

pub and-false : (a : Bool) → a and false ≡ false
and-false true = refl
and-false false = refl

module _ (t : ℕ → Bool) where
  pub every_fails : (n i : ℕ) (b : Bool) → i < n → b ≡ t i → b ≡ false → false ≡ every n t
  every_fails zero i b l e h = absurd (omega arith)
  every_fails (suc n) i b l e h = go (λ k. every_fails n i b k e h) (ℕ_discrete i n)
    where
      go : (i < n → false ≡ every n t) → Dec (i ≡ n) → false ≡ every n t and t n
      go f (yes q) = rw (← q, ← e, h) (sym (and-false (every i t)))
      go f (no q) = rw (← f (omega arith)) refl

  pub every_at : (n i : ℕ) → every n t ≡ true → i < n → t i ≡ true
  every_at zero i h l = absurd (omega arith)
  every_at (suc n) i h l = go (every_at n i (and_both (every n t) (t n) h).0) (ℕ_discrete i n)
    where
      go : (i < n → t i ≡ true) → Dec (i ≡ n) → t i ≡ true
      go f (yes q) = rw q (and_both (every n t) (t n) h).1
      go f (no q) = f (omega arith)

  pub every_all : (n : ℕ) → ((i : ℕ) → i < n → t i ≡ true) → every n t ≡ true
  every_all zero h = refl
  every_all (suc n) h = rw (every_all n (λ i l. h i (omega arith)), h n (omega arith)) refl
