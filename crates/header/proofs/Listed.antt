-- Lists that are known element by element. Assumes nothing.
--     listed_all     a list of n elements, each what h gives
--     listed_calls   what `array::from_fn` gives, where each call gives what h gives
--     every_range    a test of each number of a range
use mathlib.Core.Path.{◌≡◌, refl, sym, ap, ◌∙◌}
use mathlib.Core.Bool.{Bool, true, false}
use mathlib.Core.List.{List}
use Prim.Native.Nat.{ℕ, zero, suc, ◌+◌, ◌≤◌, ◌<◌}
use native.Mathlib.Decide.{ℕ_discrete}
use native.Mathlib.Omega.{arith}
use lib.ListN.{length, get_or}
use lib.Seq.{ext_get_or}
use denote.Param.Members.{Mut, Called}
use Rattle.std.specs.Array.{IsFromFnResult, IsFromFnResultFrom}
use Rattle.std.specs.Prelude.{◌&&◌}
use Rattle.std.specs.List.{list_all, range_with_len}
use Rattle.base.specs.Pick.{listed}
use Rattle.base.specs.Every.{◌and◌, every}
use Rattle.base.proofs.Lists.{length_listed, listed_at}

pub listed_all : (h : ℕ → ℕ) (l : List ℕ) (n : ℕ) → length l ≡ n → ((i : ℕ) → i < n → get_or l i 0 ≡ h i) → l ≡ listed n h
listed_all h l n s e = ext_get_or 0 l (listed n h) (s ∙ sym (length_listed h n)) (λ i b. let k : i < n = omega (arith, s) in e i k ∙ sym (listed_at h n i 0 k))

module _ {F : Type 0} (g : Mut F (ℕ × Unit {0}) ℕ) (f : F) (h : ℕ → ℕ) (l : List ℕ) (gives : (i y : ℕ) (q : F) → Called g f (i, tt) y q → (q ≡ f) × (y ≡ h i)) where
  each : (n i : ℕ) (p : F) → p ≡ f → IsFromFnResultFrom g p l i n → (j : ℕ) → i ≤ j → j < i + n → get_or l j 0 ≡ h j
  each zero i p e r j a b = absurd (omega arith)
  each (suc n) i p e r j a b =
      let call : (r.0 ≡ f) × (r.1 ≡ h i) = gives i r.1 r.0 (rw e at r.3) in
      go (r.2.1 0 ∙ call.1) (each n (i + 1) r.0 call.0 r.4 j) (ℕ_discrete j i)
    where
      go : get_or l i 0 ≡ h i → (i + 1 ≤ j → j < i + 1 + n → get_or l j 0 ≡ h j) → Dec (j ≡ i) → get_or l j 0 ≡ h j
      go here next (yes q) = rw q here
      go here next (no q) = next (omega arith) (omega arith)

pub listed_calls : {F : Type 0} {g : Mut F (ℕ × Unit {0}) ℕ} {f : F} {l : List ℕ} {n : ℕ} (h : ℕ → ℕ) → IsFromFnResult g f l n → ((i y : ℕ) (q : F) → Called g f (i, tt) y q → (q ≡ f) × (y ≡ h i)) → l ≡ listed n h
listed_calls {g = g} {f} {l} {n} h r gives = listed_all h l n r.long (λ i b. each g f h l gives n 0 f refl r.each i (omega arith) (omega arith))

-- ---- the numbers of a range, from the first on and up to the last
module _ (t : ℕ → Bool) where
  one : (a b : Bool) → a ≡ b → a && true ≡ true and b
  one true b e = e
  one false b e = e

  joined : (a b c : Bool) → a && (b and c) ≡ (a && b) and c
  joined true b c = refl
  joined false b c = refl

  all_more : (a n : ℕ) → list_all t (range_with_len a (suc n)) ≡ list_all t (range_with_len a n) and t (a + n)
  all_more a zero = let e : a ≡ a + 0 = omega arith in one (t a) (t (a + 0)) (ap t e)
  all_more a (suc n) =
      let e : a + 1 + n ≡ a + suc n = omega arith in
      ap (λ (b : Bool). t a && b) (all_more (a + 1) n)
      ∙ joined (t a) (list_all t (range_with_len (a + 1) n)) (t (a + 1 + n))
      ∙ ap (λ (k : ℕ). (t a && list_all t (range_with_len (a + 1) n)) and t k) e

  pub every_range : (n : ℕ) → list_all t (range_with_len 0 n) ≡ every n t
  every_range zero = refl
  every_range (suc n) = let e : 0 + n ≡ n = omega arith in rw e at (all_more 0 n) ∙ ap (λ (b : Bool). b and t n) (every_range n)
