-- What holds of a `pick` holds of what it picks. Assumes nothing.
--     pick_ind      by the test
--     picked        of both, so of either
--     pick_no       the test is that a number is k: with what each side knows
--     pick_from     the same of a number that is k at least: past k it is more
use mathlib.Core.Path.{◌≡◌, refl}
use mathlib.Core.Bool.{Bool, true, false}
use Prim.Native.Nat.{ℕ, ◌≤◌, ◌<◌}
use native.Mathlib.Omega.{arith}
use lib.Dec.{eqb}
use borrow.Author.Tests.{eqb-true, eqb-false}
use Rattle.base.specs.Pick.{pick}

pub pick_ind : {A : Type 0} (P : A → Type 0) (t : Bool) {x y : A} → (t ≡ true → P x) → (t ≡ false → P y) → P (pick t x y)
pick_ind P true f g = f refl
pick_ind P false f g = g refl

pub picked : {A : Type 0} (P : A → Type 0) (t : Bool) {x y : A} → P x → P y → P (pick t x y)
picked P t a b = pick_ind P t (λ _. a) (λ _. b)

pub pick_no : {A : Type 0} (P : A → Type 0) (n k : ℕ) {x y : A} → (n ≡ k → P x) → ((n ≡ k → ⊥) → P y) → P (pick (eqb n k) x y)
pick_no P n k {x} {y} f g = pick_ind P (eqb n k) (λ t. f (eqb-true n k t)) (λ t. g (eqb-false n k t))

pub pick_from : {A : Type 0} (P : A → Type 0) (n k : ℕ) {x y : A} → k ≤ n → (n ≡ k → P x) → (k < n → P y) → P (pick (eqb n k) x y)
pick_from P n k l f g = pick_no P n k f (λ h. g (omega arith))
