-- What a value is equal to a `pick` by: the test, as a branch of the code tells it, and the value picked.
--     picks      the set, for `search (rules, picks)` and `#[tactic(auto, using(base::proofs::Picks::picks), unfolding(..))]`
use Prim.Native.Nat.{ℕ, ◌≤◌, ◌<◌}
use mathlib.Core.Bool.{Bool, true, false, not}
use mathlib.Core.Path.{◌≡◌, sym, ◌∙◌}
use lib.Dec.{leb, ltb, eqb}
use borrow.Author.Tests.{le-leb, lt-leb, lt-ltb, le-ltb, eq-eqb, ne_eqb, not-true, not-false}
use Rattle.base.specs.Pick.{pick}

pub when_true : (A : Type 0) (b : Bool) (r x y : A) → b ≡ true → r ≡ x → r ≡ pick b x y
when_true A b r x y h e = rw h e

pub when_false : (A : Type 0) (b : Bool) (r x y : A) → b ≡ false → r ≡ y → r ≡ pick b x y
when_false A b r x y h e = rw h e

pub when_le : (A : Type 0) (m n : ℕ) (r x y : A) → m ≤ n → r ≡ x → r ≡ pick (leb m n) x y
when_le A m n r x y h e = when_true A (leb m n) r x y (le-leb m n h) e

pub when_gt : (A : Type 0) (m n : ℕ) (r x y : A) → n < m → r ≡ y → r ≡ pick (leb m n) x y
when_gt A m n r x y h e = when_false A (leb m n) r x y (lt-leb m n h) e

pub when_eq : (A : Type 0) (m n : ℕ) (r x y : A) → m ≡ n → r ≡ x → r ≡ pick (eqb m n) x y
when_eq A m n r x y h e = when_true A (eqb m n) r x y (eq-eqb m n h) e

pub when_ne : (A : Type 0) (m n : ℕ) (r x y : A) → (m ≡ n → ⊥) → r ≡ y → r ≡ pick (eqb m n) x y
when_ne A m n r x y h e = when_false A (eqb m n) r x y (ne_eqb m n h) e

-- the test is what a call answered
pub when_yes : (A : Type 0) (t b : Bool) (r x y : A) → t ≡ b → t ≡ true → r ≡ x → r ≡ pick b x y
when_yes A t b r x y c h e = when_true A b r x y (sym c ∙ h) e

pub when_no : (A : Type 0) (t b : Bool) (r x y : A) → t ≡ b → t ≡ false → r ≡ y → r ≡ pick b x y
when_no A t b r x y c h e = when_false A b r x y (sym c ∙ h) e

pub when_not : (A : Type 0) (t b : Bool) (r x y : A) → t ≡ b → not t ≡ true → r ≡ y → r ≡ pick b x y
when_not A t b r x y c h e = when_no A t b r x y c (not-true t h) e

pub when_not_not : (A : Type 0) (t b : Bool) (r x y : A) → t ≡ b → not t ≡ false → r ≡ x → r ≡ pick b x y
when_not_not A t b r x y c h e = when_yes A t b r x y c (not-false t h) e

pub when_lt : (A : Type 0) (m n : ℕ) (r x y : A) → m < n → r ≡ x → r ≡ pick (ltb m n) x y
when_lt A m n r x y h e = when_true A (ltb m n) r x y (lt-ltb m n h) e

pub when_ge : (A : Type 0) (m n : ℕ) (r x y : A) → n ≤ m → r ≡ y → r ≡ pick (ltb m n) x y
when_ge A m n r x y h e = when_false A (ltb m n) r x y (le-ltb m n h) e

pub ruleset picks = (when_le, when_gt, when_lt, when_ge, when_eq, when_ne, when_yes, when_no, when_not, when_not_not, when_true, when_false)
