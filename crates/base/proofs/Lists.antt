-- Lists as code over arrays knows them: lengths, a list made element by element, what stands past the end. Assumes
-- nothing.
--     carried                   the length of a field that is an array of structs
--     take_clamped              a count past the end takes the whole
--     length_listed, listed_at  how many elements were made, and each of them
--     beyond, unset, past       nothing is read or written past the end
use Prim.Native.Nat.{ℕ, zero, suc, ◌≤◌, ◌<◌, min}
use native.Mathlib.Nat.{not-suc-le-zero}
use native.Mathlib.Omega.{arith, min_cases}
use mathlib.Core.Path.{◌≡◌, refl, ap, sym, ◌∙◌}
use mathlib.Core.List.{List, [], ◌∷◌, ◌++◌, map}
use native.Mathlib.Decide.{ℕ_discrete}
use lib.ListN.{length, length-map, length-append, get_or-append, take, get_or, set, get_or-eq_default}
use lib.Seq.{get_or_at, take_all, set_out}
use Rattle.base.specs.Pick.{listed}

-- what owning a struct tells of the length of a field that is an array of structs
pub carried : (X Y : Type 0) (f : X → Y) (l : List X) (n : ℕ) → length (map f l) ≡ n → length l ≡ n
carried X Y f l n p = sym (length-map l f) ∙ p

module _ {A : Type 0} where
  -- a count past the end takes the whole
  pub take_clamped : (n m k : ℕ) (l : List A) → length l ≡ m → k ≡ min n m → take k l ≡ take n l
  take_clamped n m k l h e =
      min_cases n m (take k l ≡ take n l)
      (λ p q. ap (λ (j : ℕ). take j l) (e ∙ q))
      (λ p q. take_all k l (omega arith) ∙ sym (take_all n l (omega arith)))

-- a list made element by element
module _ {A : Type 0} (f : ℕ → A) where
  pub length_listed : (n : ℕ) → length (listed n f) ≡ n
  length_listed zero = refl
  length_listed (suc n) = rw (length-append, length_listed n) (omega arith)

  pub listed_at : (n i : ℕ) (d : A) → i < n → get_or (listed n f) i d ≡ f i
  listed_at zero i d h = absurd (not-suc-le-zero h)
  listed_at (suc n) i d h = go (listed_at n i d) (ℕ_discrete i n)
    where
      go : (i < n → get_or (listed n f) i d ≡ f i) → Dec (i ≡ n) → get_or (listed n f ++ (f n ∷ [])) i d ≡ f i
      go t (yes q) = get_or_at (listed n f) (f n) [] d i (length_listed n ∙ sym q) ∙ ap f (sym q)
      go t (no q) = get_or-append (listed n f) (f n ∷ []) d i (omega (arith, length_listed n)) ∙ t (omega arith)

-- past an array's end
pub beyond : {X : Type 0} (l : List X) (d : X) (i n : ℕ) → length l ≡ n → n ≤ i → get_or l i d ≡ d
beyond l d i n e h = get_or-eq_default l d {n = i} (omega arith)

pub unset : {X : Type 0} (l : List X) (i n : ℕ) (a : X) → length l ≡ n → n ≤ i → set l i a ≡ l
unset l i n a e h = set_out l i a (omega arith)

pub past : (X : Type 0) (l : List X) (d : X) (i n : ℕ) → length l ≡ n → n ≤ i → d ≡ get_or l i d
past X l d i n e h = sym (beyond l d i n e h)
