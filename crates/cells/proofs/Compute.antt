-- The definitions compute on numerals of 64 binary digits. Assumes nothing.
use mathlib.Core.Path.{◌≡◌, refl}
use mathlib.Core.Bool.{true, false}
use Prim.Native.Nat.{◌+◌, ◌-◌, ◌^◌}
use lib.Count.{count_trailing_zeros, ones_in}
use Rattle.cells.specs.Sets.{no_cells, is_none, member_of, one_of, add_of, remove_of, union_of, inter_of, minus_of, full_of, below_of, first_of, count_of}

is_none_yes : is_none no_cells ≡ true
unfolding is_none
is_none_yes = refl

is_none_no : is_none (2 ^ 63) ≡ false
unfolding is_none
is_none_no = refl

member_top : member_of (2 ^ 63) 64 ≡ true
unfolding member_of
member_top = refl

member_lacks : member_of (2 ^ 63 - 1) 64 ≡ false
unfolding member_of
member_lacks = refl

member_no_null : member_of (2 ^ 64 - 1) 0 ≡ false
unfolding member_of
member_no_null = refl

one_top : one_of 64 ≡ 2 ^ 63
unfolding one_of
one_top = refl

add_top : add_of (2 ^ 62) 64 ≡ 2 ^ 63 + 2 ^ 62
unfolding add_of union_of one_of
add_top = refl

add_none : add_of (2 ^ 62) 65 ≡ 2 ^ 62
unfolding add_of
add_none = refl

remove_low : remove_of (2 ^ 64 - 1) 1 ≡ 2 ^ 64 - 2
unfolding remove_of minus_of one_of
remove_low = refl

remove_lacks : remove_of (2 ^ 63) 1 ≡ 2 ^ 63
unfolding remove_of minus_of one_of
remove_lacks = refl

union_top : union_of (2 ^ 63 + 1) 3 ≡ 2 ^ 63 + 3
unfolding union_of
union_top = refl

inter_top : inter_of (2 ^ 63 + 1) 3 ≡ 1
unfolding inter_of
inter_top = refl

minus_top : minus_of (2 ^ 64 - 1) (2 ^ 63) ≡ 2 ^ 63 - 1
unfolding minus_of
minus_top = refl

full_all : full_of 65 ≡ 2 ^ 64 - 1
unfolding full_of
full_all = refl

full_some : full_of 5 ≡ 31
unfolding full_of
full_some = refl

below_yes : below_of (2 ^ 63 - 1) 63 ≡ true
unfolding below_of
below_yes = refl

below_no : below_of (2 ^ 63) 63 ≡ false
unfolding below_of
below_no = refl

first_top : first_of (2 ^ 63) ≡ 64
unfolding first_of count_trailing_zeros
first_top = refl

first_none : first_of no_cells ≡ 0
unfolding first_of
first_none = refl

count_all : count_of (2 ^ 64 - 1) ≡ 64
unfolding count_of ones_in
count_all = refl

count_some : count_of (2 ^ 63 + 5) ≡ 3
unfolding count_of ones_in
count_some = refl
