-- What is proved of the packed number, each statement by its name. Assumes nothing.
use Rattle.std.specs.Prelude.{◌≡◌, List, ℕ, ◌/◌, ◌≤◌, ◌<◌, ◌⊎◌}
use Rattle.base.specs.Refusals.{few_left}
use Rattle.buffers.specs.Buffers.{max_stores}
use Rattle.buffers.specs.Sources.{nothing_read}
use Rattle.verdict.specs.Judged.{is_malformed}
use Rattle.header.specs.Header.{max_log}
use Rattle.runlog.specs.Answers.{Outcome}
use Rattle.runlog.specs.Records.{record_size}
use Rattle.runlog.specs.Runs.{judge_of}
use Rattle.claysaucer.specs.Packed.{of8_bits, of32_bits, of64_bits, packed_of, verdict_of, stop_of, last_read_of, between_of, steps_of}

-- each number fits its bits
pub record Fitting (o : Outcome) : Type 0 where
  pub verdict : o.verdict < of8_bits
  pub stop : o.stop < of8_bits
  pub read : o.read < of8_bits
  pub steps : o.steps < of32_bits

-- the number unpacks to the outcome, and has 64 bits, with zeros in bits 24 to 31
pub record Unpacked (o : Outcome) (n : ℕ) : Type 0 where
  pub verdict : verdict_of n ≡ o.verdict
  pub stop : stop_of n ≡ o.stop
  pub read : last_read_of n ≡ o.read
  pub between : between_of n ≡ 0
  pub steps : steps_of n ≡ o.steps
  pub within : n < of64_bits

abbrev pub Unpacks : Type 0
Unpacks = (o : Outcome) → Fitting o → Unpacked o (packed_of o)

-- of every log: the verdict is at most 4, the stop at most 14, the last read one of a buffer's places or memory if it
-- is not "255 if nothing was read", and there are no more steps than a log has room for records
pub record OutcomeRanged (o : Outcome) : Type 0 where
  pub verdict : o.verdict ≤ is_malformed
  pub stop : o.stop ≤ few_left
  pub read : (o.read ≤ max_stores) ⊎ (o.read ≡ nothing_read)
  pub steps : o.steps ≤ max_log / record_size

abbrev pub JudgedRanged : Type 0
JudgedRanged = (log : List ℕ) → OutcomeRanged (judge_of log)

-- "The C test bench gives the log as bytes and gets the same three numbers", and "a fourth number for the C bench"
abbrev pub SameNumbers : Type 0
SameNumbers = (log : List ℕ) → Unpacked (judge_of log) (packed_of (judge_of log))
