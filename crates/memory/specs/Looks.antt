-- "A read gives the newest matching store of the reader's own buffer, else memory, and needs the reader unblocked."
-- Assumes nothing.
use Rattle.std.specs.Prelude.{Bool, true, false, ℕ, eqb, Option, Some, None, Result, Ok, Err, unwrap_or}
use Rattle.base.specs.Pick.{pick}
use Rattle.base.specs.declared.Refusal.{Refusal}
use Rattle.base.specs.Refusals.{as_taken, by_blocked, by_free, refusal_number}
use Rattle.buffers.specs.declared.Phase.{Phase}
use Rattle.buffers.specs.declared.Phase.TheVariants as phase
use Rattle.buffers.specs.declared.Store.{Store}
use Rattle.buffers.specs.declared.Spot.{Spot}
use Rattle.buffers.specs.declared.Spot.TheVariants as spot
use Rattle.buffers.specs.declared.sources.Source.{Source}
use Rattle.buffers.specs.declared.sources.Source.TheVariants as source
use Rattle.buffers.specs.Stores.{bit_of, value_of, phase_of}
use Rattle.buffers.specs.Buffers.{pending_of, newest_of}
use Rattle.buffers.specs.Sources.{source_in}
use Rattle.memory.specs.declared.Memory.{Memory}
use Rattle.memory.specs.declared.Look.{Look}
use Rattle.memory.specs.Answers.{Seen, SeenBit, SeenValue, SeenPhase, Swept, Read, ReadBit, ReadValue, ReadPhase, ReadSwept}
use Rattle.memory.specs.Memories.{unseen, buffer_of, blocked_of, there_of, stands_of}

-- "the newest matching store of the reader's own buffer"
abbrev pub own_newest_of : Memory → ℕ → Spot → Option Store
own_newest_of m p at = newest_of at (pending_of (buffer_of m p))

-- ".. else memory"
abbrev pub seen_of : Memory → ℕ → Spot → Store
seen_of m p at = unwrap_or (own_newest_of m p at) (stands_of m at)

-- ".. and needs the reader unblocked"; "a look, field read, .. on a free cell" is refused
unfoldable pub look_of : Memory → ℕ → Spot → Seen
look_of m p at =
    pick (blocked_of m p) (unseen by_blocked)
    (pick (there_of m at) (record { no = as_taken; store = seen_of m p at }) (unseen by_free))

-- what a look saw, as a bit, a field's value, a phase
abbrev pub seen_bit : Seen → SeenBit
seen_bit s = record { no = s.no; bit = bit_of s.store }

abbrev pub seen_value : Seen → SeenValue
seen_value s = record { no = s.no; value = value_of s.store }

abbrev pub seen_phase : Seen → SeenPhase
seen_phase s = record { no = s.no; phase = phase_of s.store }

-- "look at r's mark"
unfoldable pub look_mark_of : Memory → ℕ → ℕ → SeenBit
look_mark_of m p c = seen_bit (look_of m p (spot.Mark c))

-- "reads the old value"; "read field 0"
unfoldable pub look_field_of : Memory → ℕ → ℕ → ℕ → SeenValue
look_field_of m p c f = seen_value (look_of m p (spot.Field c f))

-- "read fM"
unfoldable pub look_sense_of : Memory → ℕ → SeenBit
look_sense_of m p = seen_bit (look_of m p spot.Sense)

-- "read phase"
unfoldable pub look_phase_of : Memory → ℕ → SeenPhase
look_phase_of m p = seen_phase (look_of m p spot.Phase)

-- "the sweep's look excepted": a look at a mark that is not refused for a free cell, and tells whether the cell is
-- occupied
abbrev pub swept_of : SeenBit → Swept
swept_of s =
    pick (eqb s.no by_free)
    (record { no = as_taken; used = false; bit = false })
    (record { no = s.no; used = eqb s.no as_taken; bit = s.bit })

unfoldable pub look_swept_of : Memory → ℕ → ℕ → Swept
look_swept_of m p c = swept_of (look_mark_of m p c)

-- ---- "whether it saw the reader's own pending store or memory, with the place in the buffer, oldest counted as 0"
abbrev pub source_of : Memory → ℕ → Spot → Source
source_of m p at = source_in at (pending_of (buffer_of m p))

-- by the newest store of one's own: the place counts only where there is one
abbrev pub source_by_of : Option Store → Source → Source
source_by_of None place = source.Memory
source_by_of (Some s) place = place

-- a refused look has read nothing; the sweep's look is refused by 7 alone, and "is a read like any other" at a free
-- cell too
unfoldable pub from_of : Memory → ℕ → Spot → Source
from_of m p at = pick (blocked_of m p) source.Nothing (pick (there_of m at) (source_of m p at) source.Nothing)

unfoldable pub swept_from_of : Memory → ℕ → ℕ → Source
swept_from_of m p c = pick (blocked_of m p) source.Nothing (source_of m p (spot.Mark c))

-- ---- each look with where its value came from
abbrev pub unread : ℕ → Read
unread n = record { seen = unseen n; from = source.Nothing }

unfoldable pub read_of : Memory → ℕ → Spot → Read
read_of m p at = record { seen = look_of m p at; from = from_of m p at }

unfoldable pub read_mark_of : Memory → ℕ → ℕ → ReadBit
read_mark_of m p c = record { seen = look_mark_of m p c; from = from_of m p (spot.Mark c) }

unfoldable pub read_field_of : Memory → ℕ → ℕ → ℕ → ReadValue
read_field_of m p c f = record { seen = look_field_of m p c f; from = from_of m p (spot.Field c f) }

unfoldable pub read_sense_of : Memory → ℕ → ReadBit
read_sense_of m p = record { seen = look_sense_of m p; from = from_of m p spot.Sense }

unfoldable pub read_phase_of : Memory → ℕ → ReadPhase
read_phase_of m p = record { seen = look_phase_of m p; from = from_of m p spot.Phase }

unfoldable pub read_swept_of : Memory → ℕ → ℕ → ReadSwept
read_swept_of m p c = record { seen = look_swept_of m p c; from = swept_from_of m p c }

-- ---- the code's answers
abbrev pub seen_as : Result (Look Store) Refusal → Seen
seen_as (Ok l) = record { no = as_taken; store = l.saw }
seen_as (Err r) = unseen (refusal_number r)

-- where the value came from that a look saw
abbrev pub came_as : {A : Type 0} → Result (Look A) Refusal → Source
came_as (Ok l) = l.from
came_as (Err r) = source.Nothing

abbrev pub read_as : Result (Look Store) Refusal → Read
read_as k = record { seen = seen_as k; from = came_as k }

abbrev pub bit_as : Result (Look Bool) Refusal → SeenBit
bit_as (Ok l) = record { no = as_taken; bit = l.saw }
bit_as (Err r) = record { no = refusal_number r; bit = false }

abbrev pub read_bit_as : Result (Look Bool) Refusal → ReadBit
read_bit_as k = record { seen = bit_as k; from = came_as k }

abbrev pub value_as : Result (Look ℕ) Refusal → SeenValue
value_as (Ok l) = record { no = as_taken; value = l.saw }
value_as (Err r) = record { no = refusal_number r; value = 0 }

abbrev pub read_value_as : Result (Look ℕ) Refusal → ReadValue
read_value_as k = record { seen = value_as k; from = came_as k }

abbrev pub phase_as : Result (Look Phase) Refusal → SeenPhase
phase_as (Ok l) = record { no = as_taken; phase = l.saw }
phase_as (Err r) = record { no = refusal_number r; phase = phase.Idle }

abbrev pub read_phase_as : Result (Look Phase) Refusal → ReadPhase
read_phase_as k = record { seen = phase_as k; from = came_as k }

-- no bit: the cell is free
abbrev pub swept_bit_as : Option Bool → Swept
swept_bit_as (Some b) = record { no = as_taken; used = true; bit = b }
swept_bit_as None = record { no = as_taken; used = false; bit = false }

abbrev pub swept_as : Result (Look (Option Bool)) Refusal → Swept
swept_as (Ok l) = swept_bit_as l.saw
swept_as (Err r) = record { no = refusal_number r; used = false; bit = false }

abbrev pub read_swept_as : Result (Look (Option Bool)) Refusal → ReadSwept
read_swept_as k = record { seen = swept_as k; from = came_as k }
