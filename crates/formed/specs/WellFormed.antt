-- Refusal 1 as the test that the code makes: "the state is malformed: a count, cell, process, set, place or buffer
-- length out of range, or something unused not zero". `Fits` says the same as facts; proofs/Whole has that the two
-- agree. Assumes nothing.
use Rattle.std.specs.Prelude.{Bool, true, false, ℕ, List, eqb, ltb, leb, length, get_or}
use Rattle.base.specs.Pick.{pick}
use Rattle.base.specs.Every.{◌and◌, every}
use Rattle.cells.specs.Sets.{no_cells, below_of}
use Rattle.buffers.specs.declared.Buffer.{Buffer}
use Rattle.buffers.specs.Stores.{value_of}
use Rattle.buffers.specs.Buffers.{max_stores}
use Rattle.buffers.specs.Fits.{max_fields, is_cell_of, entry_of}
use Rattle.memory.specs.declared.Memory.{Memory}
use Rattle.memory.specs.Memories.{max_cells, max_processes, no_buffer}
use Rattle.memory_formed.specs.WellFormed.{memory_formed_of}
use Rattle.state.specs.declared.Part.{Part}
use Rattle.state.specs.declared.Process.{Process}
use Rattle.state.specs.declared.State.{State}
use Rattle.state.specs.Codes.{top, work_finish, row1_round, row11_write, no_stage, look_stage, sense_stage, phase_stage, unlock_stage, raise_stage, poll_stage}
use Rattle.state.specs.States.{no_process, phase_number, mutators_of}
use Rattle.formed.specs.declared.table.Notes.{Notes}
use Rattle.formed.specs.declared.table.Notes.TheVariants as note
use Rattle.formed.specs.declared.table.Left.{Left}
use Rattle.formed.specs.declared.table.Left.TheVariants as left
use Rattle.formed.specs.declared.table.Stages.{Stages}
use Rattle.formed.specs.declared.table.Stages.TheVariants as stage
use Rattle.formed.specs.Uses.{uses_of}

-- ---- field values, in memory and pending: "Cells 1..N"; "0 is null"
abbrev pub field_fits_at : ℕ → List ℕ → ℕ → Bool
field_fits_at n l i = leb (get_or l i 0) n

unfoldable pub fields_fit_of : ℕ → List ℕ → Bool
fields_fit_of n l = every max_cells (field_fits_at n l)

abbrev pub store_fits_at : ℕ → Buffer → ℕ → Bool
store_fits_at n b i = leb (value_of (entry_of b i).store) n

unfoldable pub stores_fit_of : ℕ → Buffer → Bool
stores_fit_of n b = every max_stores (store_fits_at n b)

abbrev pub buffer_fits_at : ℕ → List Buffer → ℕ → Bool
buffer_fits_at n bs p = stores_fit_of n (get_or bs p no_buffer)

unfoldable pub pending_fit_of : ℕ → List Buffer → Bool
pending_fit_of n bs = every max_processes (buffer_fits_at n bs)

unfoldable pub values_fit_of : Memory → Bool
values_fit_of m = fields_fit_of m.cells m.field0 and fields_fit_of m.cells m.field1 and pending_fit_of m.cells m.buffers

-- ---- the notes of an operation or a row
unfoldable pub store_notes_fit_of : ℕ → Process → Bool
store_notes_fit_of n q = is_cell_of n q.x and ltb q.f max_fields and leb q.y n and leb q.old n

unfoldable pub no_store_of : Process → Bool
no_store_of q = eqb q.f 0 and eqb q.y 0 and eqb q.old 0

unfoldable pub notes_fit_of : Notes → ℕ → Process → Bool
notes_fit_of note.Store n q = store_notes_fit_of n q
notes_fit_of note.Cell n q = is_cell_of n q.x and no_store_of q
notes_fit_of note.Nothing n q = eqb q.x 0 and no_store_of q

-- ---- what is left
unfoldable pub left_fits_of : Left → ℕ → ℕ → Process → Bool
left_fits_of left.Cells n m q = below_of q.left n
left_fits_of left.Mutators n m q = pick (leb raise_stage q.stage) (below_of q.left m) (eqb q.left no_cells)
left_fits_of left.Fields n m q = below_of q.left max_fields
left_fits_of left.Nothing n m q = eqb q.left no_cells

-- ---- the stage, and the notes of a mark: none; of the cell c, the first look from stage 2 and a cell being greyed
-- at stage 7 alone
unfoldable pub no_mark_of : Process → Bool
no_mark_of q = eqb q.cell 0 and pick q.look false (eqb q.grey 0)

unfoldable pub look_fits_of : Process → Bool
look_fits_of q = pick q.look (leb sense_stage q.stage) true

unfoldable pub grey_fits_of : ℕ → Process → Bool
grey_fits_of n q = pick (eqb q.stage unlock_stage) (leb q.grey n) (eqb q.grey 0)

unfoldable pub mark_fits_of : ℕ → ℕ → Process → Bool
mark_fits_of n c q = ltb 0 q.stage and leb q.stage unlock_stage and is_cell_of n c and look_fits_of q and grey_fits_of n q

unfoldable pub named_fits_of : ℕ → Process → Bool
named_fits_of n q = pick (eqb q.stage look_stage) (no_mark_of q) (mark_fits_of n q.cell q)

unfoldable pub round_fits_of : Process → Bool
round_fits_of q = ltb 0 q.stage and leb q.stage poll_stage and no_mark_of q

unfoldable pub stage_fits_of : Stages → ℕ → Process → Bool
stage_fits_of stage.Old n q = eqb q.cell 0 and mark_fits_of n q.old q
stage_fits_of stage.Y n q = eqb q.cell 0 and mark_fits_of n q.y q
stage_fits_of stage.Cell n q = mark_fits_of n q.cell q
stage_fits_of stage.Named n q = named_fits_of n q
stage_fits_of stage.Round n q = round_fits_of q
stage_fits_of stage.Nothing n q = eqb q.stage no_stage and no_mark_of q

unfoldable pub place_fits_of : ℕ → ℕ → Process → Bool
place_fits_of n m q =
    notes_fit_of (uses_of q.place).notes n q and left_fits_of (uses_of q.place).left n m q and stage_fits_of (uses_of q.place).stage n q

-- ---- a mutator, the collector, and nobody
unfoldable pub sense_fits_of : Process → Bool
sense_fits_of q = pick q.sense (leb phase_stage q.stage) true

unfoldable pub mutator_fits_of : ℕ → ℕ → Process → Bool
mutator_fits_of n m q = leb q.place work_finish and place_fits_of n m q and below_of q.roots n and below_of q.work n and sense_fits_of q

unfoldable pub no_part_of : Part → Bool
no_part_of h = pick h.raised false (pick h.in_step false (eqb (phase_number h.phase) 0))

unfoldable pub collector_fits_of : ℕ → ℕ → Process → Bool
collector_fits_of n m q =
    leb row1_round q.place and leb q.place row11_write and place_fits_of n m q and below_of q.work n and eqb q.roots no_cells and no_part_of q.part

unfoldable pub nobody_of : Process → Bool
nobody_of q =
    eqb q.place top and place_fits_of 0 0 q and eqb q.work no_cells and eqb q.roots no_cells and pick q.sense false (no_part_of q.part)

unfoldable pub process_fits_of : ℕ → ℕ → ℕ → Process → Bool
process_fits_of n m p q = pick (ltb m p) (nobody_of q) (pick (eqb p 0) (collector_fits_of n m q) (mutator_fits_of n m q))

abbrev pub process_at : ℕ → ℕ → List Process → ℕ → Bool
process_at n m qs p = process_fits_of n m p (get_or qs p no_process)

unfoldable pub procs_fit_of : ℕ → ℕ → List Process → Bool
procs_fit_of n m qs = eqb (length qs) max_processes and every max_processes (process_at n m qs)

-- ---- the whole: memory by itself, the values in it, the processes, the system's work list
unfoldable pub well_formed_of : State → Bool
well_formed_of s =
    memory_formed_of s.memory and values_fit_of s.memory and procs_fit_of s.memory.cells (mutators_of s) s.procs
    and below_of s.system.work s.memory.cells
