-- Sets with no number above n: `below_of s n`. Assumes nothing.
--     below_lt, lt_below             exactly the numbers less than 2 ^ n
--     below_member, below_none, below_of_lem         exactly if every member is at most n
--     below_range                    the members are among 1 to n
--     below_more, below_sub          kept for a greater n, and for a subset
--     below_empty, below_one, below_add, below_remove, below_union, below_inter, below_inter_right, below_minus,
--     below_full      kept by every operation
--     same_under                     two sets below n are one where the numbers 1 to n agree
--     sub_full, full_sub             the sets below n are the subsets of 1 to n
--     union_lt, add_lt, remove_le, inter_le, inter_le_right, minus_le, full_lt        results stay below 2 ^ n, or 2
--     ^ 64
use mathlib.Core.Path.{◌≡◌, ◌∙◌}
use mathlib.Core.Bool.{true, false}
use mathlib.Core.Logic.{⊎_elim}
use Prim.Native.Nat.{ℕ, suc, ◌^◌, ◌≤◌, ◌<◌}
use native.Mathlib.Nat.{lt_of_lt_of_le}
use native.Mathlib.Omega.{arith}
use native.Mathlib.Decide.{dec_lt}
use borrow.Author.Tests.{ltb-true, lt-ltb}
use lib.Bits.{and_le_l, and_le_r}
use lib.Pow.{pow_mono, pow_pos}
use Rattle.cells.specs.Sets.{max_set, no_cells, member_of, Member, Sub, one_of, union_of, inter_of, minus_of, add_of, remove_of, full_of, below_of}
use Rattle.cells.proofs.Bools.{not_both}
use Rattle.cells.proofs.Bits.{lt_of_places}
use Rattle.cells.proofs.Members.{member_digit, member_pos, above_none, same_below, in_union, in_one, in_add, in_full, full_has, add_above}
use Rattle.cells.proofs.Subsets.{remove_sub, inter_sub_left, inter_sub_right, minus_sub}

pub below_lt : (s n : ℕ) → below_of s n ≡ true → s < 2 ^ n
unfolding below_of
below_lt s n e = ltb-true s (2 ^ n) e

pub lt_below : (s n : ℕ) → s < 2 ^ n → below_of s n ≡ true
unfolding below_of
lt_below s n h = lt-ltb s (2 ^ n) h

-- ---- exactly if every member is at most n

pub below_none : (s n x : ℕ) → below_of s n ≡ true → n < x → member_of s x ≡ false
below_none s n x e l = above_none n s x (below_lt s n e) l

pub below_member : (s n x : ℕ) → below_of s n ≡ true → Member s x → x ≤ n
below_member s n x e p = go (dec_lt n x)
  where
    go : Dec (n < x) → x ≤ n
    go (yes l) = absurd (not_both p (below_none s n x e l))
    go (no l) = omega arith

pub below_range : (s n x : ℕ) → below_of s n ≡ true → Member s x → (0 < x) × (x ≤ n)
below_range s n x e p = (member_pos s x p, below_member s n x e p)

pub below_of_lem : (s n : ℕ) → ((x : ℕ) → Member s x → x ≤ n) → below_of s n ≡ true
below_of_lem s n h = lt_below s n (lt_of_places n s (λ i p. let l : suc i ≤ n = h (suc i) (member_digit s i ∙ p) in omega arith))

pub below_more : (s m n : ℕ) → m ≤ n → below_of s m ≡ true → below_of s n ≡ true
below_more s m n h e = lt_below s n (lt_of_lt_of_le (below_lt s m e) (pow_mono h))

pub below_sub : (s t n : ℕ) → Sub s t → below_of t n ≡ true → below_of s n ≡ true
below_sub s t n h e = below_of_lem s n (λ x p. below_member t n x e (h x p))

-- ---- kept by every operation

pub below_empty : (n : ℕ) → below_of no_cells n ≡ true
below_empty n = lt_below no_cells n (pow_pos n)

pub below_one : (x n : ℕ) → x ≤ n → below_of (one_of x) n ≡ true
below_one x n h = below_of_lem (one_of x) n (λ y p. let e : x ≡ y = in_one x y p in omega arith)

pub below_union : (s t n : ℕ) → below_of s n ≡ true → below_of t n ≡ true → below_of (union_of s t) n ≡ true
below_union s t n a b = below_of_lem (union_of s t) n (λ x p. ⊎_elim (below_member s n x a) (below_member t n x b) (in_union s t x p))

pub below_add : (s x n : ℕ) → x ≤ n → below_of s n ≡ true → below_of (add_of s x) n ≡ true
below_add s x n h a = below_of_lem (add_of s x) n (λ y p. ⊎_elim (below_member s n y a) (λ e. omega arith) (in_add s x y p))

pub below_remove : (s x n : ℕ) → below_of s n ≡ true → below_of (remove_of s x) n ≡ true
below_remove s x n a = below_sub (remove_of s x) s n (remove_sub s x) a

pub below_inter : (s t n : ℕ) → below_of s n ≡ true → below_of (inter_of s t) n ≡ true
below_inter s t n a = below_sub (inter_of s t) s n (inter_sub_left s t) a

pub below_inter_right : (s t n : ℕ) → below_of t n ≡ true → below_of (inter_of s t) n ≡ true
below_inter_right s t n a = below_sub (inter_of s t) t n (inter_sub_right s t) a

pub below_minus : (s t n : ℕ) → below_of s n ≡ true → below_of (minus_of s t) n ≡ true
below_minus s t n a = below_sub (minus_of s t) s n (minus_sub s t) a

pub below_full : (n : ℕ) → below_of (full_of n) n ≡ true
below_full n = below_of_lem (full_of n) n (λ x p. (in_full n x p).1)

-- ---- the numbers 1 to n decide

pub same_under : (n s t : ℕ) → below_of s n ≡ true → below_of t n ≡ true → ((x : ℕ) → 0 < x → x ≤ n → member_of s x ≡ member_of t x) → s ≡ t
same_under n s t a b h = same_below n s t (below_lt s n a) (below_lt t n b) h

pub sub_full : (s n : ℕ) → n ≤ max_set → below_of s n ≡ true → Sub s (full_of n)
sub_full s n h e x p = let l : x ≤ n = below_member s n x e p in full_has n x (member_pos s x p) l (omega arith)

pub full_sub : (s n : ℕ) → Sub s (full_of n) → below_of s n ≡ true
full_sub s n h = below_sub s (full_of n) n h (below_full n)

-- ---- results stay below 2 ^ n

pub union_lt : (n s t : ℕ) → s < 2 ^ n → t < 2 ^ n → union_of s t < 2 ^ n
union_lt n s t a b = below_lt (union_of s t) n (below_union s t n (lt_below s n a) (lt_below t n b))

pub add_lt : (s x : ℕ) → s < 2 ^ max_set → add_of s x < 2 ^ max_set
add_lt s x a = go (dec_lt max_set x)
  where
    go : Dec (max_set < x) → add_of s x < 2 ^ max_set
    go (yes l) = rw (add_above s x l) a
    go (no l) = below_lt (add_of s x) max_set (below_add s x max_set (omega arith) (lt_below s max_set a))

pub inter_le : (s t : ℕ) → inter_of s t ≤ s
unfolding inter_of
inter_le s t = and_le_l s t

pub inter_le_right : (s t : ℕ) → inter_of s t ≤ t
unfolding inter_of
inter_le_right s t = and_le_r s t

pub minus_le : (s t : ℕ) → minus_of s t ≤ s
unfolding minus_of
minus_le s t = omega (arith, and_le_l s t)

pub remove_le : (s x : ℕ) → remove_of s x ≤ s
unfolding remove_of
remove_le s x = minus_le s (one_of x)

pub full_lt : (n : ℕ) → full_of n < 2 ^ max_set
full_lt n = below_lt (full_of n) max_set (below_of_lem (full_of n) max_set (λ x p. (in_full n x p).2))
