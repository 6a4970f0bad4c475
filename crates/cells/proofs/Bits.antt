-- The binary digits of a number, by place from 0: the ground of the laws by number; the crates above use those.
-- Assumes nothing.
--     has s i                        the digit i of s is 1
--     has_empty, has_power, has_union, has_inter, has_minus, has_full       the digits of each operation's result
--     none_empty, ext                the digits decide the number
--     has_above, lt_of_places        below 2 ^ k exactly if no digit from place k on is 1
--     lowest_in, lowest_least        the lowest 1
--     ones_in_lem, none_in, power_in, minus_in, union_in, in_le, in_max, in_zero        how many of the w lowest digits
--     are 1
use mathlib.Core.Path.{◌≡◌, refl, sym, ap, ap₂, ◌∙◌}
use mathlib.Core.Bool.{Bool, true, false, not, ◌&&◌, ◌||◌, false≢true}
use mathlib.Core.Logic.{◌⊎◌, inl, inr}
use Prim.Native.Nat.{ℕ, zero, suc, ◌+◌, ◌-◌, ◌*◌, ◌/◌, ◌%◌, ◌^◌, ◌≤◌, ◌<◌, min, max}
use native.Mathlib.Nat.{div-one, pow-suc}
use native.Mathlib.Numerals.{one-add}
use native.Mathlib.Omega.{arith}
use lib.Arith.{bin_ind}
use lib.Count.{ones, ones_step, ones_in, count_trailing_zeros, under}
use lib.Dec.{eqb, ltb, leb-zero, leb-suc-zero, leb-suc-suc, eqb-zero-suc, eqb-suc-zero, eqb-suc-suc}
use lib.Pow.{shr-shr, pow_pos}
use lib.Bits.{and_step, or_step, and_le_l}
use Rattle.cells.specs.Sets.{union_of, inter_of, minus_of}
use Rattle.cells.proofs.Bools.{split}

unfoldable pub has : ℕ → ℕ → Bool
has s i = eqb (s / 2 ^ i % 2) 1

-- ---- the lowest digit, and the others

has_zero : (s : ℕ) → has s zero ≡ eqb (s % 2) 1
unfolding has
has_zero s = ap (λ (x : ℕ). eqb (x % 2) 1) (div-one s)

has_suc : (s i : ℕ) → has s (suc i) ≡ has (s / 2) i
unfolding has
has_suc s i = ap (λ (x : ℕ). eqb (x % 2) 1) (ap (λ (x : ℕ). s / 2 ^ x) (sym (one-add i)) ∙ sym (shr-shr s 1 i))

-- the digit d below the digits of x
has_low : (x d : ℕ) → d < 2 → has (x * 2 + d) zero ≡ eqb d 1
has_low x d h =
    let e : (x * 2 + d) % 2 ≡ d = omega arith in
    has_zero (x * 2 + d) ∙ ap (λ (y : ℕ). eqb y 1) e

has_high : (x d i : ℕ) → d < 2 → has (x * 2 + d) (suc i) ≡ has x i
has_high x d i h =
    let e : (x * 2 + d) / 2 ≡ x = omega arith in
    has_suc (x * 2 + d) i ∙ ap (λ (y : ℕ). has y i) e

digit : (n : ℕ) → (n % 2 ≡ 0) ⊎ (n % 2 ≡ 1)
digit n = go (n % 2) (omega arith)
  where
    go : (d : ℕ) → d < 2 → (d ≡ 0) ⊎ (d ≡ 1)
    go zero h = inl refl
    go (suc zero) h = inr refl
    go (suc (suc d)) h = absurd (omega arith)

-- an operation on digits, told by its four cases
by_digits : (f : ℕ → ℕ → ℕ) (g : Bool → Bool → Bool) → eqb (f 0 0) 1 ≡ g false false → eqb (f 0 1) 1 ≡ g false true → eqb (f 1 0) 1 ≡ g true false → eqb (f 1 1) 1 ≡ g true true → (a b : ℕ) → eqb (f (a % 2) (b % 2)) 1 ≡ g (eqb (a % 2) 1) (eqb (b % 2) 1)
by_digits f g c d e k a b = go (digit a) (digit b)
  where
    go : (a % 2 ≡ 0) ⊎ (a % 2 ≡ 1) → (b % 2 ≡ 0) ⊎ (b % 2 ≡ 1) → eqb (f (a % 2) (b % 2)) 1 ≡ g (eqb (a % 2) 1) (eqb (b % 2) 1)
    go (inl p) (inl q) = rw (p, q) c
    go (inl p) (inr q) = rw (p, q) d
    go (inr p) (inl q) = rw (p, q) e
    go (inr p) (inr q) = rw (p, q) k

-- an operation that goes digit by digit
module _ (op f : ℕ → ℕ → ℕ) (g : Bool → Bool → Bool)
    (step : (s t : ℕ) → op s t ≡ op (s / 2) (t / 2) * 2 + f (s % 2) (t % 2)) (small : (s t : ℕ) → f (s % 2) (t % 2) < 2)
    (rule : (a b : ℕ) → eqb (f (a % 2) (b % 2)) 1 ≡ g (eqb (a % 2) 1) (eqb (b % 2) 1)) where
  has_op : (s t i : ℕ) → has (op s t) i ≡ g (has s i) (has t i)
  has_op s t zero = rw (step s t, has_low (op (s / 2) (t / 2)) (f (s % 2) (t % 2)) (small s t), has_zero s, has_zero t) (rule s t)
  has_op s t (suc i) = rw (step s t, has_high (op (s / 2) (t / 2)) (f (s % 2) (t % 2)) i (small s t), has_suc s i, has_suc t i) (has_op (s / 2) (t / 2) i)

-- ---- the operations, digit by digit

pub has_empty : (i : ℕ) → has 0 i ≡ false
has_empty zero = has_zero 0
has_empty (suc i) = has_suc 0 i ∙ has_empty i

pub has_power : (i j : ℕ) → has (2 ^ i) j ≡ eqb i j
has_power zero zero = has_zero 1
has_power zero (suc j) = has_suc 1 j ∙ has_empty j ∙ sym (eqb-zero-suc j)
has_power (suc i) zero =
    let e : 2 ^ suc i % 2 ≡ 0 = omega (arith, pow-suc 2 i) in
    has_zero (2 ^ suc i) ∙ ap (λ (y : ℕ). eqb y 1) e ∙ sym (eqb-suc-zero i)
has_power (suc i) (suc j) =
    let e : 2 ^ suc i / 2 ≡ 2 ^ i = omega (arith, pow-suc 2 i) in
    has_suc (2 ^ suc i) j ∙ ap (λ (y : ℕ). has y j) e ∙ has_power i j ∙ sym (eqb-suc-suc i j)

union_step : (s t : ℕ) → union_of s t ≡ union_of (s / 2) (t / 2) * 2 + max (s % 2) (t % 2)
unfolding union_of
union_step s t = or_step s t

inter_step : (s t : ℕ) → inter_of s t ≡ inter_of (s / 2) (t / 2) * 2 + min (s % 2) (t % 2)
unfolding inter_of
inter_step s t = and_step s t

minus_step : (s t : ℕ) → minus_of s t ≡ minus_of (s / 2) (t / 2) * 2 + (s % 2 - min (s % 2) (t % 2))
unfolding minus_of
minus_step s t = omega (arith, and_step s t, and_le_l (s / 2) (t / 2))

pub has_union : (s t i : ℕ) → has (union_of s t) i ≡ (has s i || has t i)
has_union = has_op union_of max ◌||◌ union_step (λ s t. omega arith) (by_digits max ◌||◌ refl refl refl refl)

pub has_inter : (s t i : ℕ) → has (inter_of s t) i ≡ (has s i && has t i)
has_inter = has_op inter_of min ◌&&◌ inter_step (λ s t. omega arith) (by_digits min ◌&&◌ refl refl refl refl)

pub has_minus : (s t i : ℕ) → has (minus_of s t) i ≡ (has s i && not (has t i))
has_minus = has_op minus_of (λ a b. a - min a b) (λ a b. a && not b) minus_step (λ s t. omega arith) (by_digits (λ a b. a - min a b) (λ a b. a && not b) refl refl refl refl)

pub has_full : (n i : ℕ) → has (2 ^ n - 1) i ≡ ltb i n
has_full zero i = has_empty i ∙ sym (leb-suc-zero i)
has_full (suc n) zero =
    let e : (2 ^ suc n - 1) % 2 ≡ 1 = omega (arith, pow-suc 2 n, pow_pos n) in
    has_zero (2 ^ suc n - 1) ∙ ap (λ (y : ℕ). eqb y 1) e ∙ sym (leb-suc-suc zero n ∙ leb-zero n)
has_full (suc n) (suc i) =
    let e : (2 ^ suc n - 1) / 2 ≡ 2 ^ n - 1 = omega (arith, pow-suc 2 n, pow_pos n) in
    has_suc (2 ^ suc n - 1) i ∙ ap (λ (y : ℕ). has y i) e ∙ has_full n i ∙ sym (leb-suc-suc (suc i) n)

-- ---- the digits decide the number

same_digit : (a b : ℕ) → eqb (a % 2) 1 ≡ eqb (b % 2) 1 → a % 2 ≡ b % 2
same_digit a b e = go (digit a) (digit b)
  where
    no_eq : {x y : ℕ} → x ≡ 0 → y ≡ 1 → eqb x 1 ≡ eqb y 1 → ⊥
    no_eq p q h = let z : false ≡ true = sym (ap (λ (n : ℕ). eqb n 1) p) ∙ h ∙ ap (λ (n : ℕ). eqb n 1) q in false≢true z

    go : (a % 2 ≡ 0) ⊎ (a % 2 ≡ 1) → (b % 2 ≡ 0) ⊎ (b % 2 ≡ 1) → a % 2 ≡ b % 2
    go (inl p) (inl q) = p ∙ sym q
    go (inl p) (inr q) = absurd (no_eq p q e)
    go (inr p) (inl q) = absurd (no_eq q p (sym e))
    go (inr p) (inr q) = p ∙ sym q

halves_eq : (a b : ℕ) → a / 2 ≡ b / 2 → a % 2 ≡ b % 2 → a ≡ b
halves_eq a b p q = omega arith

low_same : (s t : ℕ) → has s zero ≡ has t zero → s % 2 ≡ t % 2
low_same s t h = same_digit s t (sym (has_zero s) ∙ h ∙ has_zero t)

high_same : (s t i : ℕ) → has s (suc i) ≡ has t (suc i) → has (s / 2) i ≡ has (t / 2) i
high_same s t i h = sym (has_suc s i) ∙ h ∙ has_suc t i

pub none_empty : (s : ℕ) → ((i : ℕ) → has s i ≡ false) → s ≡ 0
none_empty =
    bin_ind (λ (n : ℕ). ((i : ℕ) → has n i ≡ false) → n ≡ 0) (λ h. refl)
    (λ n ih h. halves_eq n 0 (ih (λ i. sym (has_suc n i) ∙ h (suc i))) (low_same n 0 (h zero ∙ sym (has_empty zero))))

pub ext : (s t : ℕ) → ((i : ℕ) → has s i ≡ has t i) → s ≡ t
ext =
    bin_ind (λ (n : ℕ). (t : ℕ) → ((i : ℕ) → has n i ≡ has t i) → n ≡ t)
    (λ t h. sym (none_empty t (λ i. sym (h i) ∙ has_empty i)))
    (λ n ih t h. halves_eq n t (ih (t / 2) (λ i. high_same n t i (h (suc i)))) (low_same n t (h zero)))

-- ---- bounds

pub has_above : (k s i : ℕ) → s < 2 ^ k → k ≤ i → has s i ≡ false
has_above zero s i h l = let e : s ≡ 0 = omega arith in ap (λ (x : ℕ). has x i) e ∙ has_empty i
has_above (suc k) s zero h l = absurd (omega arith)
has_above (suc k) s (suc i) h l = has_suc s i ∙ has_above k (s / 2) i (omega (arith, pow-suc 2 k)) (omega arith)

pub lt_of_places : (k s : ℕ) → ((i : ℕ) → has s i ≡ true → i < k) → s < 2 ^ k
lt_of_places zero s h = let e : s ≡ 0 = none_empty s (λ i. none i (split (has s i))) in omega arith
  where
    none : (i : ℕ) → (has s i ≡ true) ⊎ (has s i ≡ false) → has s i ≡ false
    none i (inl p) = let l : i < 0 = h i p in absurd (omega arith)
    none i (inr q) = q
lt_of_places (suc k) s h =
    let r : s / 2 < 2 ^ k = lt_of_places k (s / 2) (λ i p. let l : suc i < suc k = h (suc i) (has_suc s i ∙ p) in omega arith) in
    omega (arith, pow-suc 2 k)

-- ---- the lowest 1

pub lowest_in : (k s : ℕ) → 0 < s → s < 2 ^ k → has s (count_trailing_zeros k s) ≡ true
unfolding count_trailing_zeros
lowest_in zero s p h = absurd (omega arith)
lowest_in (suc k) s p h = go (digit s) (lowest_in k (s / 2))
  where
    go : (s % 2 ≡ 0) ⊎ (s % 2 ≡ 1) → (0 < s / 2 → s / 2 < 2 ^ k → has (s / 2) (count_trailing_zeros k (s / 2)) ≡ true) → has s (under (s % 2) (count_trailing_zeros k (s / 2))) ≡ true
    go (inl e) ih = rw (e, has_suc s (count_trailing_zeros k (s / 2))) (ih (omega arith) (omega (arith, pow-suc 2 k)))
    go (inr e) ih = rw (e, has_zero s, e)

pub lowest_least : (k s j : ℕ) → j < count_trailing_zeros k s → has s j ≡ false
unfolding count_trailing_zeros
lowest_least zero s j h = absurd (omega arith)
lowest_least (suc k) s j h = go j (digit s) h (λ i. lowest_least k (s / 2) i)
  where
    go : (j : ℕ) → (s % 2 ≡ 0) ⊎ (s % 2 ≡ 1) → j < under (s % 2) (count_trailing_zeros k (s / 2)) → ((i : ℕ) → i < count_trailing_zeros k (s / 2) → has (s / 2) i ≡ false) → has s j ≡ false
    go zero (inl e) l ih = rw (has_zero s, e)
    go (suc j) (inl e) l ih = let l' : suc j < suc (count_trailing_zeros k (s / 2)) = rw e at l in has_suc s j ∙ ih j (omega arith)
    go zero (inr e) l ih = let l' : zero < 0 = rw e at l in absurd (omega arith)
    go (suc j) (inr e) l ih = let l' : suc j < 0 = rw e at l in absurd (omega arith)

-- ---- how many of the w lowest digits are 1

pub ones_in_lem : (w s : ℕ) → s < 2 ^ w → ones s ≡ ones_in w s
unfolding ones_in ones
ones_in_lem zero s h = let e : s ≡ 0 = omega arith in ap ones e
ones_in_lem (suc w) s h = ones_step s ∙ ap (λ (x : ℕ). s % 2 + x) (ones_in_lem w (s / 2) (omega (arith, pow-suc 2 w)))

digits_in : (w x d : ℕ) → d < 2 → ones_in (suc w) (x * 2 + d) ≡ d + ones_in w x
unfolding ones_in
digits_in w x d h =
    let e : (x * 2 + d) % 2 ≡ d = omega arith in
    let f : (x * 2 + d) / 2 ≡ x = omega arith in
    ap₂ (λ (y z : ℕ). y + ones_in w z) e f

next_in : (w s : ℕ) → ones_in (suc w) s ≡ s % 2 + ones_in w (s / 2)
unfolding ones_in
next_in w s = refl

pub none_in : (w : ℕ) → ones_in w 0 ≡ 0
unfolding ones_in
none_in zero = refl
none_in (suc w) = omega (arith, none_in w)

pub power_in : (w i : ℕ) → i < w → ones_in w (2 ^ i) ≡ 1
power_in zero i h = absurd (omega arith)
power_in (suc w) zero h = next_in w 1 ∙ ap (λ (x : ℕ). 1 + x) (none_in w)
power_in (suc w) (suc i) h =
    let e : 2 ^ suc i ≡ 2 ^ i * 2 + 0 = omega (arith, pow-suc 2 i) in
    let f : ones_in (suc w) (2 ^ suc i) ≡ 0 + ones_in w (2 ^ i) = ap (ones_in (suc w)) e ∙ digits_in w (2 ^ i) 0 (omega arith) in
    omega (arith, power_in w i (omega arith))

pub minus_in : (w s t : ℕ) → ones_in w (minus_of s t) + ones_in w (inter_of s t) ≡ ones_in w s
unfolding ones_in
minus_in zero s t = refl
minus_in (suc w) s t =
    let a : ones_in (suc w) (minus_of s t) ≡ (s % 2 - min (s % 2) (t % 2)) + ones_in w (minus_of (s / 2) (t / 2)) = ap (ones_in (suc w)) (minus_step s t) ∙ digits_in w (minus_of (s / 2) (t / 2)) (s % 2 - min (s % 2) (t % 2)) (omega arith) in
    let b : ones_in (suc w) (inter_of s t) ≡ min (s % 2) (t % 2) + ones_in w (inter_of (s / 2) (t / 2)) = ap (ones_in (suc w)) (inter_step s t) ∙ digits_in w (inter_of (s / 2) (t / 2)) (min (s % 2) (t % 2)) (omega arith) in
    omega (arith, next_in w s, minus_in w (s / 2) (t / 2))

pub union_in : (w s t : ℕ) → ones_in w (union_of s t) + ones_in w (inter_of s t) ≡ ones_in w s + ones_in w t
unfolding ones_in
union_in zero s t = refl
union_in (suc w) s t =
    let a : ones_in (suc w) (union_of s t) ≡ max (s % 2) (t % 2) + ones_in w (union_of (s / 2) (t / 2)) = ap (ones_in (suc w)) (union_step s t) ∙ digits_in w (union_of (s / 2) (t / 2)) (max (s % 2) (t % 2)) (omega arith) in
    let b : ones_in (suc w) (inter_of s t) ≡ min (s % 2) (t % 2) + ones_in w (inter_of (s / 2) (t / 2)) = ap (ones_in (suc w)) (inter_step s t) ∙ digits_in w (inter_of (s / 2) (t / 2)) (min (s % 2) (t % 2)) (omega arith) in
    omega (arith, next_in w s, next_in w t, union_in w (s / 2) (t / 2))

pub in_le : (w n s : ℕ) → s < 2 ^ n → ones_in w s ≤ n
unfolding ones_in
in_le zero n s h = omega arith
in_le (suc w) zero s h = let e : s ≡ 0 = omega arith in omega (arith, ap (ones_in (suc w)) e, none_in (suc w))
in_le (suc w) (suc n) s h = omega (arith, in_le w n (s / 2) (omega (arith, pow-suc 2 n)))

pub in_max : (w s : ℕ) → ones_in w s ≤ w
unfolding ones_in
in_max zero s = omega arith
in_max (suc w) s = omega (arith, in_max w (s / 2))

pub in_zero : (w s : ℕ) → s < 2 ^ w → ones_in w s ≡ 0 → s ≡ 0
unfolding ones_in
in_zero zero s h e = omega arith
in_zero (suc w) s h e = halves_eq s 0 (in_zero w (s / 2) (omega (arith, pow-suc 2 w)) (omega arith)) (omega arith)
