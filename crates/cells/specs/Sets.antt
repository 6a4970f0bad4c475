-- Sets of cells (and of mutators) as one number each, by the cells' numbers: "Cells 1..N", "0 is null."
-- The number x, from 1, is in a set where the binary digit x - 1 of the set is 1: "a 32-bit root set, bit 0 for cell
-- 1".
-- A set of the program is a u64, so it holds no number above 64. The laws of proofs/ say the same of each operation,
-- by membership. Assumes nothing.
use Rattle.std.specs.Prelude.{◌≡◌, Bool, true, false, ℕ, ◌+◌, ◌-◌, ◌/◌, ◌%◌, ◌^◌, min, eqb, ltb}
use Rattle.std.specs.Int.Bits.{bit_and, bit_or}
use Rattle.std.specs.Int.Count.{count_trailing_zeros, ones_in}
use Rattle.base.specs.Pick.{pick}

-- the greatest number that a set of the program can hold
abbrev pub max_set : ℕ
max_set = 64

-- the empty set
abbrev pub no_cells : ℕ
no_cells = 0

-- s is empty
unfoldable pub is_none : ℕ → Bool
is_none s = eqb s no_cells

-- x is in s: the digit x - 1 of s is 1; null is in no set
unfoldable pub member_of : ℕ → ℕ → Bool
member_of s x = pick (eqb x 0) false (eqb (s / 2 ^ (x - 1) % 2) 1)

-- the same, as a fact
abbrev pub Member : ℕ → ℕ → Type 0
Member s x = member_of s x ≡ true

-- every number of s is in t
abbrev pub Sub : ℕ → ℕ → Type 0
Sub s t = (x : ℕ) → Member s x → Member t x

-- the set of x alone; of null, the empty set
unfoldable pub one_of : ℕ → ℕ
one_of x = pick (eqb x 0) no_cells (2 ^ (x - 1))

-- the numbers of s and those of t
unfoldable pub union_of : ℕ → ℕ → ℕ
union_of s t = bit_or s t

-- the numbers in both
unfoldable pub inter_of : ℕ → ℕ → ℕ
inter_of s t = bit_and s t

-- the numbers of s that are not in t
unfoldable pub minus_of : ℕ → ℕ → ℕ
minus_of s t = s - bit_and s t

-- s with x too; s itself where x is above 64
unfoldable pub add_of : ℕ → ℕ → ℕ
add_of s x = pick (ltb max_set x) s (union_of s (one_of x))

-- s without x
unfoldable pub remove_of : ℕ → ℕ → ℕ
remove_of s x = minus_of s (one_of x)

-- the numbers 1 to n; 1 to 64 where n is above 64
unfoldable pub full_of : ℕ → ℕ
full_of n = 2 ^ min n max_set - 1

-- no number of s is above n
unfoldable pub below_of : ℕ → ℕ → Bool
below_of s n = ltb s (2 ^ n)

-- the least number of s, one more than the zeros below its lowest 1; 0 of the empty set
unfoldable pub first_of : ℕ → ℕ
first_of s = pick (eqb s no_cells) 0 (count_trailing_zeros max_set s + 1)

-- how many numbers s holds: how many of its 64 digits are 1
unfoldable pub count_of : ℕ → ℕ
count_of s = ones_in max_set s
