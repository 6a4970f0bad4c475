-- What the cases change of the ground that they start from. Assumes nothing.
use Rattle.std.specs.Prelude.{true, not, ℕ, leb, eqb, set, replicate}
use Rattle.base.specs.Pick.{pick}
use Rattle.buffers.specs.declared.Store.{Store}
use Rattle.buffers.specs.declared.Store.TheVariants as store
use Rattle.buffers.specs.declared.Buffer.{Buffer}
use Rattle.buffers.specs.Buffers.{max_stores}
use Rattle.memory.specs.Memories.{max_cells, max_mutators}
use Rattle.state.specs.declared.Process.{Process}
use Rattle.state.specs.declared.opening.Heap.{Heap}
use Rattle.state.specs.Codes.{sense_stage, phase_stage, unlock_stage}
use Rattle.state.specs.States.{marking}
use Rattle.script.specs.declared.Change.{Change}

-- a store of a field, and of a mark, by a change's digits
abbrev pub field_store_of : Change → Store
field_store_of a = store.Field a.c a.f a.v

abbrev pub mark_store_of : Change → Store
mark_store_of a = store.Mark a.c (not (eqb a.v 0))

-- no cell occupied, and no roots
abbrev pub bare_heap : ℕ → ℕ → Heap
bare_heap cells processes =
    record { cells = cells; processes = processes; used = 0; field0 = replicate max_cells 0; field1 = replicate max_cells 0; roots = replicate max_mutators 0 }

-- stores of fM at every place, of which len are pending
abbrev pub full_buffer : ℕ → Buffer
full_buffer len = record { entries = replicate max_stores (record { store = store.Sense true }); len = len }

-- one entry replaced; past the last there is none
abbrev pub with_entry_of : Buffer → ℕ → Store → Buffer
with_entry_of b place s = record { entries = set b.entries place (record { store = s }); len = b.len }

-- "Each of these seven is one step": the first look from the second on, the noted fM from the third, grey at the last
abbrev pub marking_at : ℕ → ℕ → ℕ → Process → Process
marking_at stage cell grey q =
    marking cell (leb sense_stage stage) (leb phase_stage stage) (pick (eqb stage unlock_stage) grey q.grey) q
