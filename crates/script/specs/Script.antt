-- What is read of a stored input: digits, changes of the ground, and how far a line goes on. Assumes nothing.
use Rattle.std.specs.Prelude.{ℕ, ◌+◌, ◌*◌, ◌-◌, List, [], ◌∷◌, eqb, ltb}
use Rattle.base.specs.Pick.{pick}
use Rattle.header.specs.Bytes.{byte_at}
use Rattle.script.specs.declared.Change.{Change}

-- ---- the bytes that have a meaning: `*`, `0`, the end of a line
abbrev pub star : ℕ
star = 42

abbrev pub zero_digit : ℕ
zero_digit = 48

abbrev pub line_end : ℕ
line_end = 10

-- ---- digits

-- a star stands for the greatest byte, out of every range
abbrev pub starred : ℕ
starred = 255

-- what a byte counts as a digit; below the digits it counts 0
unfoldable pub digit_of : ℕ → ℕ
digit_of b = pick (eqb b star) starred (pick (ltb b zero_digit) 0 (b - zero_digit))

-- the digit at a place; past the end of the input it is 0
abbrev pub digit_at : List ℕ → ℕ → ℕ
digit_at s at = digit_of (byte_at s at)

-- how many digits there are
abbrev pub digits : ℕ
digits = 10

-- two digits as a number; 0 where one of them is no digit
unfoldable pub number_of : ℕ → ℕ → ℕ
number_of tens ones = pick (ltb tens digits) (pick (ltb ones digits) (tens * digits + ones) 0) 0

-- ---- changes and lines

-- a change: its sign, a letter, and four digits
unfoldable pub change_of : List ℕ → Change
change_of s = record { letter = byte_at s 1; p = digit_at s 2; c = digit_at s 3; f = digit_at s 4; v = digit_at s 5 }

-- how many bytes stand before the first end of a line; all of them where there is none
unfoldable pub rest_of : List ℕ → ℕ
rest_of [] = 0
rest_of (b ∷ bs) = pick (eqb b line_end) 0 (1 + rest_of bs)
