-- What a step changes, and so what it leaves alone: a table of changes over all rows. c is the choice, p the process
-- that steps and q that process before the step. Assumes nothing.
use Rattle.std.specs.Prelude.{◌≡◌, not, ◌⊎◌, ℕ}
use Rattle.cells.specs.Sets.{no_cells, Member, add_of, remove_of, union_of}
use Rattle.buffers.specs.declared.Phase.TheVariants as phase
use Rattle.buffers.specs.declared.Store.{Store}
use Rattle.buffers.specs.declared.Store.TheVariants as store
use Rattle.memory.specs.declared.Memory.{Memory}
use Rattle.memory.specs.Memories.{taken}
use Rattle.memory.specs.Steps.{write_of, commit_of, lock_of, unlock_of, allocate_of, free_of}
use Rattle.state.specs.declared.Handshake.{Handshake}
use Rattle.state.specs.declared.RoundType.{RoundType}
use Rattle.state.specs.declared.Process.{Process}
use Rattle.state.specs.declared.System.{System}
use Rattle.state.specs.declared.State.{State}
use Rattle.state.specs.declared.Choice.{Choice}
use Rattle.state.specs.Codes.{top, store_write, roots_finish, work_finish, row2_write, row4_write, row5_phase, row5_alloc, row6_take, row8_take, row9_write, row10_free, row11_write, no_stage, lock_stage, write_stage, unlock_stage, type_stage, raise_stage}
use Rattle.state.specs.States.{process_of, with_process_of, with_memory, with_system}
use Rattle.model.specs.Rows.{At, Marks, with_list, Round, Advance, step_out, all_off, with_processes, flagged}

-- ---- memory
-- the store that a process writes: "write mark := noted fM"; "write the field"; "read fM, then write its opposite";
-- "write phase Init"; "write phase Mark, write fA := noted fM";
-- "write phase Sweep"; "write phase Idle"
pub data Writes (q : Process) : Store → Type 0 where
  mark : {r : ℕ} → Marks q r → q.stage ≡ write_stage → Writes q (store.Mark r q.sense)
  field : At store_write no_stage q → Writes q (store.Field q.x q.f q.y)
  sense : At row2_write no_stage q → Writes q (store.Sense (not q.sense))
  init : At row4_write no_stage q → Writes q (store.Phase phase.Init)
  marking : At row5_phase no_stage q → Writes q (store.Phase phase.Mark)
  alloc : At row5_alloc no_stage q → Writes q (store.AllocSense q.sense)
  sweep : At row9_write no_stage q → Writes q (store.Phase phase.Sweep)
  idle : At row11_write no_stage q → Writes q (store.Phase phase.Idle)

-- "A write appends."; "Lock ..", "Unlock .."; "Allocation and freeing act on memory at once"; "A commit applies one's
-- oldest store"
pub data Stored (c : Choice) (p : ℕ) (q : Process) (m : Memory) : Memory → Type 0 where
  same : Stored c p q m m
  writes : c.kind ≡ 0 → {v : Store} → Writes q v → {n : Memory} → write_of m p (record { store = v }) ≡ taken n → Stored c p q m n
  locks : c.kind ≡ 0 → {r : ℕ} → Marks q r → q.stage ≡ lock_stage → {n : Memory} → lock_of m p ≡ taken n → Stored c p q m n
  unlocks : c.kind ≡ 0 → {r : ℕ} → Marks q r → q.stage ≡ unlock_stage → {n : Memory} → unlock_of m p ≡ taken n → Stored c p q m n
  allocates : c.kind ≡ 0 → At top no_stage q → c.op ≡ 0 → {n : Memory} → allocate_of m p c.x ≡ taken n → Stored c p q m n
  frees : c.kind ≡ 0 → At row10_free no_stage q → {n : Memory} → free_of m p q.x ≡ taken n → Stored c p q m n
  commits : c.kind ≡ 1 → {n : Memory} → commit_of m p ≡ taken n → Stored c p q m n

-- the set of occupied cells
pub data Occupied (c : Choice) (q : Process) (u : ℕ) : ℕ → Type 0 where
  same : Occupied c q u u
  more : c.kind ≡ 0 → At top no_stage q → c.op ≡ 0 → Occupied c q u (add_of u c.x)
  less : c.kind ≡ 0 → At row10_free no_stage q → Occupied c q u (remove_of u q.x)

-- ---- the system's part: a finish moves a list to it, a round sets its type, a take empties its list
pub data Handed (q : Process) (h : System) : System → Type 0 where
  same : Handed q h h
  finishes : (At roots_finish no_stage q) ⊎ (At work_finish no_stage q) → Handed q h (with_list h (union_of h.work q.work))
  types : {k j l : ℕ} {t : RoundType} → Round k t j l → At k type_stage q → {a : Handshake} → Advance t h.phase a → Handed q h (record { kind = t; phase = a; work = h.work })
  takes : (At row6_take no_stage q) ⊎ (At row8_take no_stage q) → Handed q h (with_list h no_cells)

-- ---- process x, which is not the one that steps and is o before the step: "set type (all in-step bits off ..);
-- raise each flag once, x naming the mutator"
pub data Beside (c : Choice) (q : Process) (x : ℕ) (o : Process) : Process → Type 0 where
  same : Beside c q x o o
  raises : {k j l : ℕ} {t : RoundType} → Round k t j l → At k raise_stage q → x ≡ c.x → Beside c q x o (flagged o)
  types : {k j l : ℕ} {t : RoundType} → Round k t j l → At k type_stage q → Beside c q x o (step_out o)

-- ---- the whole: the process that steps becomes o, and besides memory changes, or the system's part; or a type is
-- set, or a flag raised. A commit changes memory alone.
pub data Changed (s : State) (c : Choice) (p : ℕ) (q : Process) : State → Type 0 where
  stores : {m : Memory} → Stored c p q s.memory m → (o : Process) → Changed s c p q (with_process_of (with_memory s m) p o)
  system : {h : System} → Handed q s.system h → (o : Process) → Changed s c p q (with_process_of (with_system s h) p o)
  types : p ≡ 0 → {k j l : ℕ} {t : RoundType} → Round k t j l → At k type_stage q → {a : Handshake} → Advance t s.system.phase a → (o : Process)
      → Changed s c p q (with_process_of (with_processes (with_system s (record { kind = t; phase = a; work = s.system.work })) (all_off s.procs)) p o)
  raises : p ≡ 0 → {k j l : ℕ} {t : RoundType} → Round k t j l → At k raise_stage q → Member q.left c.x → (o : Process)
      → Changed s c p q (with_process_of (with_process_of s c.x (flagged (process_of s c.x))) p o)
  commits : c.kind ≡ 1 → {m : Memory} → commit_of s.memory p ≡ taken m → Changed s c p q (with_memory s m)
