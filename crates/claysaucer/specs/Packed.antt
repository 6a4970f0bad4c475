-- The four numbers in one: bits 0 to 7 the verdict, 8 to 15 the stop, 16 to 23 the last read, 24 to 31 zero, 32 to 63
-- the steps. Assumes nothing.
use Rattle.std.specs.Prelude.{ℕ, ◌+◌, ◌*◌, ◌/◌, ◌%◌}
use Rattle.runlog.specs.Answers.{Outcome}

-- how many numbers 8, 16, 24, 32 and 64 bits have
abbrev pub of8_bits : ℕ
of8_bits = 256

abbrev pub of16_bits : ℕ
of16_bits = of8_bits * of8_bits

abbrev pub of24_bits : ℕ
of24_bits = of8_bits * of16_bits

abbrev pub of32_bits : ℕ
of32_bits = of16_bits * of16_bits

abbrev pub of64_bits : ℕ
of64_bits = of32_bits * of32_bits

abbrev pub packed_of : Outcome → ℕ
packed_of o = o.verdict + of8_bits * o.stop + of16_bits * o.read + of32_bits * o.steps

-- ---- taken apart again
abbrev pub verdict_of : ℕ → ℕ
verdict_of n = n % of8_bits

abbrev pub stop_of : ℕ → ℕ
stop_of n = n / of8_bits % of8_bits

abbrev pub last_read_of : ℕ → ℕ
last_read_of n = n / of16_bits % of8_bits

-- bits 24 to 31
abbrev pub between_of : ℕ → ℕ
between_of n = n / of24_bits % of8_bits

abbrev pub steps_of : ℕ → ℕ
steps_of n = n / of32_bits
