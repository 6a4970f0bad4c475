-- A set's own number, a measure for loops, and its count. Assumes nothing.
--     remove_is, remove_less         without a member: less by 2 ^ (x - 1)
--     add_sum, add_more              with a number that it lacks: more by as much
--     sub_number, sub_less           a subset's number is at most the set's, and less where a member is left out
--     count_empty, count_one, count_full, count_union, count_minus
--     count_remove, count_add        one less, one more
--     count_zero, count_member       0 exactly if empty
--     count_max, count_below         at most 64; at most n, where there is no number above n
--     count_sub                      a subset has no more
use mathlib.Core.Path.{◌≡◌, sym, ap, ◌∙◌}
use mathlib.Core.Bool.{true, false}
use Prim.Native.Nat.{ℕ, zero, suc, ◌+◌, ◌^◌, ◌≤◌, ◌<◌, min}
use native.Mathlib.Omega.{arith}
use lib.Bits.{and_le_l, or_add_and}
use lib.Count.{ones-ones}
use lib.Pow.{pow_pos}
use Rattle.cells.specs.Sets.{max_set, no_cells, member_of, Member, Sub, one_of, union_of, inter_of, minus_of, add_of, remove_of, full_of, below_of, count_of}
use Rattle.cells.proofs.Bools.{not_both}
use Rattle.cells.proofs.Bits.{ones_in_lem, none_in, power_in, minus_in, union_in, in_le, in_max, in_zero}
use Rattle.cells.proofs.Members.{member_pos, in_inter, in_one, one_power, add_is}
use Rattle.cells.proofs.Subsets.{sub_same, sub_inter, empty_sub, inter_of_sub, inter_sub_right}
use Rattle.cells.proofs.Algebra.{inter_comm}
use Rattle.cells.proofs.Belows.{below_lt, full_lt}

-- a set and one of its numbers; a set and a number that it lacks
inter_one : (s x : ℕ) → Member s x → inter_of s (one_of x) ≡ one_of x
inter_one s x p = sub_same (inter_of s (one_of x)) (one_of x) (inter_sub_right s (one_of x)) (sub_inter s (one_of x) (one_of x) (λ y q. rw (in_one x y q) at p) (λ y q. q))

inter_other : (s x : ℕ) → member_of s x ≡ false → inter_of s (one_of x) ≡ no_cells
inter_other s x n = empty_sub (inter_of s (one_of x)) (λ y q. let r = in_inter s (one_of x) y q in absurd (not_both r.0 (rw (in_one x y r.1) at n)))

minus_is : (s t : ℕ) → minus_of s t + inter_of s t ≡ s
unfolding minus_of inter_of
minus_is s t = omega (arith, and_le_l s t)

union_is : (s t : ℕ) → union_of s t + inter_of s t ≡ s + t
unfolding union_of inter_of
union_is s t = or_add_and s t

one_more : (x : ℕ) → 0 < x → 0 < one_of x
unfolding one_of
one_more zero p = absurd (omega arith)
one_more (suc i) p = rw (one_power i) (pow_pos i)

-- ---- the set's own number

pub remove_is : (s x : ℕ) → Member s x → remove_of s x + one_of x ≡ s
unfolding remove_of
remove_is s x p = omega (arith, minus_is s (one_of x), inter_one s x p)

pub remove_less : (s x : ℕ) → Member s x → remove_of s x < s
remove_less s x p = omega (arith, remove_is s x p, one_more x (member_pos s x p))

pub add_sum : (s x : ℕ) → x ≤ max_set → member_of s x ≡ false → add_of s x ≡ s + one_of x
add_sum s x h n = omega (arith, add_is s x h, union_is s (one_of x), inter_other s x n)

pub add_more : (s x : ℕ) → 0 < x → x ≤ max_set → member_of s x ≡ false → s < add_of s x
add_more s x p h n = omega (arith, add_sum s x h n, one_more x p)

pub sub_number : (s t : ℕ) → Sub s t → s ≤ t
sub_number s t h = omega (arith, minus_is t s, inter_comm t s, inter_of_sub s t h)

pub sub_less : (s t x : ℕ) → Sub s t → Member t x → member_of s x ≡ false → s < t
sub_less s t x h p n = let ne : s ≡ t → ⊥ = (λ e. not_both p (rw e at n)) in omega (arith, sub_number s t h)

-- ---- its count

pub count_empty : count_of no_cells ≡ 0
unfolding count_of
count_empty = none_in max_set

pub count_one : (x : ℕ) → 0 < x → x ≤ max_set → count_of (one_of x) ≡ 1
unfolding count_of
count_one zero p h = absurd (omega arith)
count_one (suc i) p h = rw (one_power i) (power_in max_set i (omega arith))

pub count_full : (n : ℕ) → n ≤ max_set → count_of (full_of n) ≡ n
unfolding count_of full_of
count_full n h = let e : min n max_set ≡ n = omega arith in sym (ones_in_lem max_set (full_of n) (full_lt n)) ∙ rw e (ones-ones n)

pub count_union : (s t : ℕ) → count_of (union_of s t) + count_of (inter_of s t) ≡ count_of s + count_of t
unfolding count_of
count_union s t = union_in max_set s t

pub count_minus : (s t : ℕ) → count_of (minus_of s t) + count_of (inter_of s t) ≡ count_of s
unfolding count_of
count_minus s t = minus_in max_set s t

pub count_remove : (s x : ℕ) → x ≤ max_set → Member s x → count_of (remove_of s x) + 1 ≡ count_of s
unfolding remove_of
count_remove s x h p = omega (arith, count_minus s (one_of x), ap count_of (inter_one s x p), count_one x (member_pos s x p) h)

pub count_add : (s x : ℕ) → 0 < x → x ≤ max_set → member_of s x ≡ false → count_of (add_of s x) ≡ count_of s + 1
count_add s x p h n = omega (arith, ap count_of (add_is s x h), count_union s (one_of x), ap count_of (inter_other s x n), count_empty, count_one x p h)

pub count_zero : (s : ℕ) → s < 2 ^ max_set → count_of s ≡ 0 → s ≡ no_cells
unfolding count_of
count_zero s h e = in_zero max_set s h e

pub count_member : (s x : ℕ) → x ≤ max_set → Member s x → 0 < count_of s
count_member s x h p = omega (arith, count_remove s x h p)

pub count_max : (s : ℕ) → count_of s ≤ max_set
unfolding count_of
count_max s = in_max max_set s

pub count_below : (s n : ℕ) → below_of s n ≡ true → count_of s ≤ n
unfolding count_of
count_below s n e = in_le max_set n s (below_lt s n e)

pub count_sub : (s t : ℕ) → Sub s t → count_of s ≤ count_of t
count_sub s t h = omega (arith, count_minus t s, ap count_of (inter_comm t s ∙ inter_of_sub s t h))
