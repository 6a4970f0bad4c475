-- What std's `all` answers, of an array or of the numbers a to b, is `every`.
-- Assumes nothing.
--     every_listed, every_ranged     the test of each element, as the test of each number below n
--     YieldsList-from_inclusive      what `a..=b` gives
use Prim.Native.Nat.{ℕ, zero, suc, ◌+◌, ◌-◌, ◌≤◌, ◌<◌}
use native.Mathlib.Numerals.{add-one}
use native.Mathlib.Omega.{arith}
use mathlib.Core.Path.{◌≡◌, refl, sym, ◌∙◌, ap}
use mathlib.Core.Bool.{Bool, true, false, ◌&&◌}
use mathlib.Core.List.{List}
use lib.ListN.{length, get_or, take}
use lib.Seq.{take_all}
use Rattle.std.specs.Iterator.{AlwaysYields}
use Rattle.std.specs.List.{list_all, range_with_len}
use Rattle.std.specs.Prelude.{Option}
use Rattle.std.specs.Range.{range_inclusive_start, range_inclusive_end, range_inclusive_exhausted, range_inclusive_left, range_inclusive_steps}
use Rattle.std.specs.declared.ops.RangeInclusive.{RangeInclusive}
use Rattle.std.proofs.lemmas.Iterator.{YieldsList}
use Rattle.std.proofs.lemmas.List.Folds.{list_all_more}
use Rattle.std.proofs.lemmas.List.FromFn.{length-range_with_len, get_or-range_with_len}
use Rattle.base.specs.Every.{◌and◌, every}

and_is : (a b : Bool) → (a && b) ≡ a and b
and_is true b = refl
and_is false b = refl

module _ {A : Type 0} (f : A → Bool) (d : A) (l : List A) (t : ℕ → Bool) where
  taken : (n : ℕ) → n ≤ length l → ((i : ℕ) → i < n → f (get_or l i d) ≡ t i) → list_all f (take n l) ≡ every n t
  taken zero h e = refl
  taken (suc n) h e =
      rw add-one at (list_all_more f l n d (omega arith)) ∙ rw (taken n (omega arith) (λ i k. e i (omega arith)), e n (omega arith)) (and_is (every n t) (t n))

  pub every_listed : (n : ℕ) → length l ≡ n → ((i : ℕ) → i < n → f (get_or l i d) ≡ t i) → list_all f l ≡ every n t
  every_listed n h e = ap (list_all f) (sym (take_all n l (omega arith))) ∙ taken n (omega arith) e

pub every_ranged : (f : ℕ → Bool) (a : ℕ) (t : ℕ → Bool) (n : ℕ) → ((i : ℕ) → i < n → f (a + i) ≡ t i) → list_all f (range_with_len a n) ≡ every n t
every_ranged f a t n e =
    every_listed f 0 (range_with_len a n) t n (length-range_with_len a n) (λ i k. ap f (get_or-range_with_len a n i 0 k) ∙ e i k)

-- ---- the numbers a to b
abbrev left : RangeInclusive ℕ → ℕ
left = range_inclusive_left (λ a b. b - a)

abbrev pub inclusive_steps : RangeInclusive ℕ → Option ℕ → RangeInclusive ℕ → Type 0
inclusive_steps = range_inclusive_steps (λ a b. b - a) (λ a b. b ≡ a + 1)

gives : (n a : ℕ) (s : RangeInclusive ℕ) → left s ≡ n → (0 < n → range_inclusive_start s ≡ a) → AlwaysYields inclusive_steps (λ x. x) s (range_with_len a n)
gives zero a s l e = λ x j p. absurd (omega (arith, p.1.1))
gives (suc n) a s l e = (
  λ j p. absurd (omega (arith, p.1.0)),
  λ x j p. (p.1.0 ∙ e (omega arith), gives n (a + 1) j (omega (arith, p.1.1)) (next j p.1.1 p.1.2 (range_inclusive_exhausted j) refl)),
)
  where
    next : (j : RangeInclusive ℕ) → left j + 1 ≡ left s → (range_inclusive_exhausted j ≡ false → range_inclusive_start j ≡ range_inclusive_start s + 1) → (b : Bool) → range_inclusive_exhausted j ≡ b → 0 < n → range_inclusive_start j ≡ a + 1
    next j m f true q h = let z : left j ≡ 0 = rw q refl in absurd (omega arith)
    next j m f false q h = omega (arith, f q, e (omega arith))

pub YieldsList-from_inclusive : {s : RangeInclusive ℕ} (a b n : ℕ) → range_inclusive_start s ≡ a → range_inclusive_end s ≡ b → range_inclusive_exhausted s ≡ false → b + 1 - a ≡ n → YieldsList inclusive_steps (λ x. x) s (range_with_len a n)
YieldsList-from_inclusive {s} a b n e f g h = record { runs = gives n a s (rw (e, f, g) (omega arith)) (λ k. e) }
