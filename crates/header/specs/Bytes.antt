-- The bytes of a log, by their places from 0, and the numbers made of several: "little-endian, as all here".
-- Assumes nothing.
use Rattle.std.specs.Prelude.{ℕ, zero, suc, ◌+◌, ◌*◌, List, get_or}

-- the byte at a place; past the end of the log there is none, and this is 0
abbrev pub byte_at : List ℕ → ℕ → ℕ
byte_at log at = get_or log at 0

-- how much more a byte counts than the one before it
abbrev pub per_byte : ℕ
per_byte = 256

-- 16 bits, of two bytes and at a place
abbrev pub joined_of : ℕ → ℕ → ℕ
joined_of low high = low + per_byte * high

unfoldable pub pair_at : List ℕ → ℕ → ℕ
pair_at log at = joined_of (byte_at log at) (byte_at log (at + 1))

-- the bytes of 32 bits and of 64
abbrev pub word_size : ℕ
word_size = 4

abbrev pub wide_size : ℕ
wide_size = 8

-- a number of w bytes, from the place on
abbrev pub little_at : ℕ → List ℕ → ℕ → ℕ
little_at zero log at = 0
little_at (suc w) log at = byte_at log at + per_byte * little_at w log (at + 1)
