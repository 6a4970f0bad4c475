-- Memory's parts: limits, a step's answers, setters, and what stands at a spot, as functions of the whole memory.
-- Assumes nothing.
use Rattle.std.specs.Prelude.{Bool, true, false, not, ℕ, ◌+◌, ◌-◌, List, [], eqb, get_or, set, Result, Ok, Err}
use Rattle.base.specs.Pick.{pick}
use Rattle.base.specs.declared.Refusal.{Refusal}
use Rattle.base.specs.Refusals.{as_taken, refusal_number}
use Rattle.cells.specs.Sets.{member_of, add_of, remove_of}
use Rattle.buffers.specs.declared.Phase.{Phase}
use Rattle.buffers.specs.declared.Store.{Store}
use Rattle.buffers.specs.declared.Store.TheVariants as store
use Rattle.buffers.specs.declared.Spot.{Spot}
use Rattle.buffers.specs.declared.Spot.TheVariants as spot
use Rattle.buffers.specs.declared.Buffer.{Buffer}
use Rattle.buffers.specs.Stores.{no_store}
use Rattle.memory.specs.declared.Memory.{Memory}
use Rattle.memory.specs.Answers.{Done, Seen}

-- "Cells 1..N", "Raise N to 64"; "Processes 0 (collector) and 1..M (mutators), M from 1 to 4"
abbrev pub max_cells : ℕ
max_cells = 64

abbrev pub max_mutators : ℕ
max_mutators = 4

abbrev pub max_processes : ℕ
max_processes = max_mutators + 1

-- answers; a refused look sees the empty store
abbrev pub taken : Memory → Done
taken m = record { no = as_taken; memory = m }

abbrev pub refused : ℕ → Memory → Done
refused n m = record { no = n; memory = m }

-- the code's answer of a step from m
abbrev pub done_as : Memory → Result Memory Refusal → Done
done_as m (Ok n) = taken n
done_as m (Err r) = refused (refusal_number r) m

abbrev pub unseen : ℕ → Seen
unseen n = record { no = n; store = no_store }

-- ---- memory with one part replaced
abbrev pub with_used : Memory → ℕ → Memory
with_used m s = record { cells = m.cells; processes = m.processes; used = s; marks = m.marks; field0 = m.field0; field1 = m.field1; fm = m.fm; fa = m.fa; phase = m.phase; lock = m.lock; buffers = m.buffers }

abbrev pub with_marks : Memory → ℕ → Memory
with_marks m s = record { cells = m.cells; processes = m.processes; used = m.used; marks = s; field0 = m.field0; field1 = m.field1; fm = m.fm; fa = m.fa; phase = m.phase; lock = m.lock; buffers = m.buffers }

abbrev pub with_field0 : Memory → List ℕ → Memory
with_field0 m vs = record { cells = m.cells; processes = m.processes; used = m.used; marks = m.marks; field0 = vs; field1 = m.field1; fm = m.fm; fa = m.fa; phase = m.phase; lock = m.lock; buffers = m.buffers }

abbrev pub with_field1 : Memory → List ℕ → Memory
with_field1 m vs = record { cells = m.cells; processes = m.processes; used = m.used; marks = m.marks; field0 = m.field0; field1 = vs; fm = m.fm; fa = m.fa; phase = m.phase; lock = m.lock; buffers = m.buffers }

abbrev pub with_sense : Memory → Bool → Memory
with_sense m b = record { cells = m.cells; processes = m.processes; used = m.used; marks = m.marks; field0 = m.field0; field1 = m.field1; fm = b; fa = m.fa; phase = m.phase; lock = m.lock; buffers = m.buffers }

abbrev pub with_alloc_sense : Memory → Bool → Memory
with_alloc_sense m b = record { cells = m.cells; processes = m.processes; used = m.used; marks = m.marks; field0 = m.field0; field1 = m.field1; fm = m.fm; fa = b; phase = m.phase; lock = m.lock; buffers = m.buffers }

abbrev pub with_phase : Memory → Phase → Memory
with_phase m p = record { cells = m.cells; processes = m.processes; used = m.used; marks = m.marks; field0 = m.field0; field1 = m.field1; fm = m.fm; fa = m.fa; phase = record { phase = p }; lock = m.lock; buffers = m.buffers }

abbrev pub with_lock : Memory → ℕ → Memory
with_lock m k = record { cells = m.cells; processes = m.processes; used = m.used; marks = m.marks; field0 = m.field0; field1 = m.field1; fm = m.fm; fa = m.fa; phase = m.phase; lock = k; buffers = m.buffers }

abbrev pub with_buffers : Memory → List Buffer → Memory
with_buffers m bs = record { cells = m.cells; processes = m.processes; used = m.used; marks = m.marks; field0 = m.field0; field1 = m.field1; fm = m.fm; fa = m.fa; phase = m.phase; lock = m.lock; buffers = bs }

-- ---- cells by number: the occupied ones and those whose mark is 1 are sets; the fields of cell c stand at c - 1 of
-- each array. For null, and for a number past the end, nothing is read and nothing is changed.
abbrev pub at_cell : {A : Type 0} → List A → ℕ → A → A
at_cell l c zero = pick (eqb c 0) zero (get_or l (c - 1) zero)

abbrev pub put_cell : {A : Type 0} → List A → ℕ → A → List A
put_cell l c v = pick (eqb c 0) l (set l (c - 1) v)

-- "A cell is free, or occupied with a mark bit and two fields."
abbrev pub used_of : Memory → ℕ → Bool
used_of m c = member_of m.used c

abbrev pub mark_of : Memory → ℕ → Bool
mark_of m c = member_of m.marks c

abbrev pub marked_of : ℕ → ℕ → Bool → ℕ
marked_of s c b = pick b (add_of s c) (remove_of s c)

-- field 0 is field 0, and any other number is field 1
abbrev pub field_of : Memory → ℕ → ℕ → ℕ
field_of m c f = pick (eqb f 0) (at_cell m.field0 c 0) (at_cell m.field1 c 0)

abbrev pub put_mark_of : Memory → ℕ → Bool → Memory
put_mark_of m c b = with_marks m (marked_of m.marks c b)

abbrev pub put_field_of : Memory → ℕ → ℕ → ℕ → Memory
put_field_of m c f v =
    with_field1 (with_field0 m (pick (eqb f 0) (put_cell m.field0 c v) m.field0))
    (pick (eqb f 0) m.field1 (put_cell m.field1 c v))

-- ---- buffers by process: a process that is not there has none pending
abbrev pub no_buffer : Buffer
no_buffer = record { entries = []; len = 0 }

abbrev pub buffer_of : Memory → ℕ → Buffer
buffer_of m p = get_or m.buffers p no_buffer

abbrev pub with_buffer : Memory → ℕ → Buffer → Memory
with_buffer m p b = with_buffers m (set m.buffers p b)

-- how many stores of p are pending
abbrev pub pending_len_of : Memory → ℕ → ℕ
pending_len_of m p = (buffer_of m p).len

-- "A process is blocked while another holds the lock." The lock is 0 with nobody and p + 1 with process p.
unfoldable pub blocked_of : Memory → ℕ → Bool
blocked_of m p = pick (eqb m.lock 0) false (not (eqb m.lock (p + 1)))

-- ---- spots: one of a cell is there while the cell is occupied, any other always
unfoldable pub there_of : Memory → Spot → Bool
there_of m (spot.Mark c) = used_of m c
there_of m (spot.Field c f) = used_of m c
there_of m spot.Sense = true
there_of m spot.AllocSense = true
there_of m spot.Phase = true

-- what memory holds at the spot, said as the store that would write it
unfoldable pub stands_of : Memory → Spot → Store
stands_of m (spot.Mark c) = store.Mark c (mark_of m c)
stands_of m (spot.Field c f) = store.Field c f (field_of m c f)
stands_of m spot.Sense = store.Sense m.fm
stands_of m spot.AllocSense = store.AllocSense m.fa
stands_of m spot.Phase = store.Phase m.phase.phase

-- memory with the store applied
unfoldable pub applied_of : Memory → Store → Memory
applied_of m (store.Mark c b) = put_mark_of m c b
applied_of m (store.Field c f v) = put_field_of m c f v
applied_of m (store.Sense b) = with_sense m b
applied_of m (store.AllocSense b) = with_alloc_sense m b
applied_of m (store.Phase p) = with_phase m p

-- memory with the cell occupied: "mark = memory's fA, null fields"
abbrev pub allocated_of : Memory → ℕ → Memory
allocated_of m c =
    with_field1
    (with_field0 (with_marks (with_used m (add_of m.used c)) (marked_of m.marks c m.fa)) (put_cell m.field0 c 0))
    (put_cell m.field1 c 0)

-- memory with the cell free: "a free cell's mark and fields" are unused, and "a step zeroes what it stops using"
abbrev pub freed_of : Memory → ℕ → Memory
freed_of m c =
    with_field1
    (with_field0 (with_marks (with_used m (remove_of m.used c)) (marked_of m.marks c false)) (put_cell m.field0 c 0))
    (put_cell m.field1 c 0)
