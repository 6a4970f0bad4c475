-- A record of the log: "Records of 8 bytes: process, kind, operation, x, f, y, and a 16-bit check equal to the sum of
-- those six plus 1". Assumes nothing.
use Rattle.std.specs.Prelude.{Bool, List, ℕ, ◌+◌, eqb}
use Rattle.state.specs.declared.Choice.{Choice}
use Rattle.header.specs.Bytes.{byte_at, pair_at}
use Rattle.runlog.specs.declared.record.Record.{Record}

-- "Records of 8 bytes"
abbrev pub record_size : ℕ
record_size = 8

-- where its check stands
abbrev pub check_place : ℕ
check_place = 6

-- "process, kind, operation, x, f, y", from the place on
unfoldable pub choice_at : List ℕ → ℕ → Choice
choice_at log at =
    record { process = byte_at log at; kind = byte_at log (at + 1); op = byte_at log (at + 2); x = byte_at log (at + 3); f = byte_at log (at + 4); y = byte_at log (at + 5) }

unfoldable pub record_at : List ℕ → ℕ → Record
record_at log at = record { choice = choice_at log at; check = pair_at log (at + check_place) }

-- "the sum of those six plus 1"
unfoldable pub check_sum_of : Choice → ℕ
check_sum_of c = c.process + c.kind + c.op + c.x + c.f + c.y + 1

-- the check is right
abbrev pub right_check_of : Record → Bool
right_check_of r = eqb r.check (check_sum_of r.choice)
