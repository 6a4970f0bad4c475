-- The lock. Assumes nothing.
--     blocked_is, unblocked_is    a process is blocked exactly while another holds the lock
--     blocked_lock                nothing but the lock decides it
--     free_unblocked              with the lock free nobody is blocked
--     own_unblocked               nobody is blocked by its own lock
--     other_blocked               and everybody else is by it
use mathlib.Core.Path.{◌≡◌, refl, sym, ◌∙◌}
use mathlib.Core.Bool.{Bool, true, false, false≢true}
use mathlib.Core.Logic.{◌⊎◌, inl, inr}
use Prim.Native.Nat.{ℕ, ◌+◌}
use native.Mathlib.Omega.{arith}
use lib.Dec.{eqb}
use borrow.Author.Tests.{eqb-true, eqb-false, eq-eqb, ne_eqb}
use Rattle.memory.specs.declared.Memory.{Memory}
use Rattle.memory.specs.Memories.{blocked_of}
use Rattle.memory.specs.Laws.{BlockedExactly, UnblockedExactly}

pub blocked_lock : (m n : Memory) (p : ℕ) → n.lock ≡ m.lock → blocked_of n p ≡ blocked_of m p
unfolding blocked_of
blocked_lock m n p e = rw e

module _ (m : Memory) (p : ℕ) where
  pub free_unblocked : m.lock ≡ 0 → blocked_of m p ≡ false
  unfolding blocked_of
  free_unblocked e = rw (eq-eqb m.lock 0 e)

  pub own_unblocked : m.lock ≡ p + 1 → blocked_of m p ≡ false
  unfolding blocked_of
  own_unblocked e = rw (ne_eqb m.lock 0 (λ q. omega arith), eq-eqb m.lock (p + 1) e)

  pub other_blocked : (m.lock ≡ 0 → ⊥) → (m.lock ≡ p + 1 → ⊥) → blocked_of m p ≡ true
  unfolding blocked_of
  other_blocked e n = rw (ne_eqb m.lock 0 e, ne_eqb m.lock (p + 1) n)

pub blocked_is : BlockedExactly
blocked_is m p = (λ b. (λ e. false≢true (sym (free_unblocked m p e) ∙ b), λ e. false≢true (sym (own_unblocked m p e) ∙ b)), λ k. other_blocked m p k.0 k.1)

pub unblocked_is : UnblockedExactly
unblocked_is m p = (λ b. go b (eqb m.lock 0) refl (eqb m.lock (p + 1)) refl, λ k. back k)
  where
    go : blocked_of m p ≡ false → (t : Bool) → eqb m.lock 0 ≡ t → (u : Bool) → eqb m.lock (p + 1) ≡ u → (m.lock ≡ 0) ⊎ (m.lock ≡ p + 1)
    go b true e u f = inl (eqb-true m.lock 0 e)
    go b false e true f = inr (eqb-true m.lock (p + 1) f)
    go b false e false f = absurd (false≢true (sym b ∙ other_blocked m p (eqb-false m.lock 0 e) (eqb-false m.lock (p + 1) f)))

    back : (m.lock ≡ 0) ⊎ (m.lock ≡ p + 1) → blocked_of m p ≡ false
    back (inl e) = free_unblocked m p e
    back (inr e) = own_unblocked m p e
