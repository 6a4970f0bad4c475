-- The published model as document 01 condenses it: a row for each step of the two programs and of memory, with its
-- guards and the state after it. Each row stands under the sentence that it carries. `Row s c t` says that the choice
-- c takes the state s to t. Assumes nothing.
use Rattle.std.specs.Prelude.{◌≡◌, ◌⊎◌, Bool, true, false, not, List, [], ◌∷◌, map, ℕ, ◌≤◌, ◌<◌, eqb}
use Rattle.base.specs.Pick.{pick}
use Rattle.base.specs.Refusals.{as_taken}
use Rattle.cells.specs.Sets.{no_cells, Member, add_of, remove_of, union_of, full_of}
use Rattle.buffers.specs.declared.Phase.{Phase}
use Rattle.buffers.specs.declared.Phase.TheVariants as phase
use Rattle.buffers.specs.declared.Store.TheVariants as store
use Rattle.memory.specs.declared.Memory.{Memory}
use Rattle.memory.specs.Answers.{SeenBit, SeenValue, SeenPhase, Swept}
use Rattle.memory.specs.Memories.{taken}
use Rattle.memory.specs.Looks.{look_mark_of, look_field_of, look_sense_of, look_phase_of, look_swept_of}
use Rattle.memory.specs.Steps.{write_of, commit_of, fence_of, lock_of, unlock_of, allocate_of, free_of}
use Rattle.state.specs.declared.Handshake.{Handshake}
use Rattle.state.specs.declared.RoundType.{RoundType}
use Rattle.state.specs.declared.RoundType.TheVariants as round
use Rattle.state.specs.declared.Process.{Process}
use Rattle.state.specs.declared.System.{System}
use Rattle.state.specs.declared.State.{State}
use Rattle.state.specs.declared.Choice.{Choice}
use Rattle.state.specs.Codes.{top, store_mark_old, store_mark_y, store_write, noop_fence, noop_finish, roots_fence, roots_mark, roots_finish, work_fence, work_finish, row1_round, row2_read, row2_write, row3_round, row4_write, row4_round, row5_phase, row5_alloc, row5_round, row6_round, row6_take, row7_first, row7_mark, row7_next, row7_drop, row8_round, row8_take, row9_write, row10_look, row10_free, row11_write, no_stage, look_stage, sense_stage, phase_stage, lock_stage, again_stage, write_stage, unlock_stage, fence_stage, type_stage, raise_stage, poll_stage}
use Rattle.state.specs.States.{next_of, at, noting, leaving, marking, listing, shaking, mutators_of, process_of, with_process_of, with_memory, with_system}
use Rattle.state.specs.Choices.{all_fields, field_left_of}
use Rattle.model.specs.Offers.{Bare, OnlyX, Scans, ScansOn}

-- ---- words
-- process q stands at place k, stage j
pub record At (k j : ℕ) (q : Process) : Type 0 where
  pub place : q.place ≡ k
  pub stage : q.stage ≡ j

-- memory takes the look, and it sees this
abbrev pub sees_bit : Bool → SeenBit
sees_bit b = record { no = as_taken; bit = b }

abbrev pub sees_value : ℕ → SeenValue
sees_value v = record { no = as_taken; value = v }

abbrev pub sees_phase : Phase → SeenPhase
sees_phase h = record { no = as_taken; phase = h }

abbrev pub finds_free : Swept
finds_free = record { no = as_taken; used = false; bit = false }

abbrev pub finds_mark : Bool → Swept
finds_mark b = record { no = as_taken; used = true; bit = b }

-- the system's part with another list
abbrev pub with_list : System → ℕ → System
with_list h w = record { kind = h.kind; phase = h.phase; work = w }

-- ---- marking: its sites
-- q is at a marking place, and the cell being marked is r
pub data Marks (q : Process) : ℕ → Type 0 where
  old : q.place ≡ store_mark_old → Marks q q.old
  new : q.place ≡ store_mark_y → Marks q q.y
  root : q.place ≡ roots_mark → Marks q q.cell
  field : q.place ≡ row7_mark → Marks q q.cell

-- the notes of a mark zeroed; "not the collector's noted fM"
unfoldable pub unnoted : ℕ → Process → Process
unnoted p q = marking 0 false (pick (eqb p 0) q.sense false) 0 q

-- where the program goes on after a mark: "then mark the old; mark y; write the field"; "mark each root"; to "a field
-- not yet scanned", then "drop x"
pub data Next (q : Process) : Process → Type 0 where
  write : q.place ≡ store_mark_old → q.y ≡ 0 → Next q (at store_write no_stage q)
  new : q.place ≡ store_mark_old → (q.y ≡ 0 → ⊥) → Next q (at store_mark_y look_stage q)
  marked : q.place ≡ store_mark_y → Next q (at store_write no_stage q)
  roots : q.place ≡ roots_mark → q.left ≡ no_cells → Next q (at roots_finish no_stage q)
  root : q.place ≡ roots_mark → (q.left ≡ no_cells → ⊥) → Next q (at roots_mark look_stage q)
  fields : q.place ≡ row7_mark → q.left ≡ no_cells → Next q (at row7_drop no_stage q)
  field : q.place ≡ row7_mark → (q.left ≡ no_cells → ⊥) → Next q (at row7_next no_stage q)

-- a step of a mark of r by p, which is q: memory and the process after it
pub data Mark (m : Memory) (p r : ℕ) (q : Process) : Memory → Process → Type 0 where
  -- "look at r's mark"
  looks : q.stage ≡ look_stage → {b : Bool} → look_mark_of m p r ≡ sees_bit b → Mark m p r q m (at q.place sense_stage (marking q.cell b q.sense q.grey q))
  -- "read fM, stop if equal"; "The collector's read of fM here renews its one noted fM."
  equal : q.stage ≡ sense_stage → {t : Process} → look_sense_of m p ≡ sees_bit q.look → Next (unnoted p (marking q.cell q.look q.look q.grey q)) t → Mark m p r q m t
  unequal : q.stage ≡ sense_stage → look_sense_of m p ≡ sees_bit (not q.look) → Mark m p r q m (at q.place phase_stage (marking q.cell q.look (not q.look) q.grey q))
  -- "read phase, stop if Idle"
  idle : q.stage ≡ phase_stage → {t : Process} → look_phase_of m p ≡ sees_phase phase.Idle → Next (unnoted p q) t → Mark m p r q m t
  busy : q.stage ≡ phase_stage → {h : Phase} → look_phase_of m p ≡ sees_phase h → (h ≡ phase.Idle → ⊥) → Mark m p r q m (at q.place lock_stage q)
  -- "lock"
  locks : q.stage ≡ lock_stage → {n : Memory} → lock_of m p ≡ taken n → Mark m p r q n (at q.place again_stage q)
  -- "look again; if the two looks agree, write .."
  agrees : q.stage ≡ again_stage → look_mark_of m p r ≡ sees_bit q.look → Mark m p r q m (at q.place write_stage q)
  differs : q.stage ≡ again_stage → look_mark_of m p r ≡ sees_bit (not q.look) → Mark m p r q m (at q.place unlock_stage q)
  -- ".. mark := noted fM (r is now being greyed)"
  writes : q.stage ≡ write_stage → {n : Memory} → write_of m p (record { store = store.Mark r q.sense }) ≡ taken n
      → Mark m p r q n (at q.place unlock_stage (marking q.cell q.look q.sense r q))
  -- "unlock. The unlock also puts a winner's r on its list and ends its greying."
  wins : q.stage ≡ unlock_stage → {n : Memory} {t : Process} → unlock_of m p ≡ taken n → (q.grey ≡ 0 → ⊥)
      → Next (unnoted p (listing (add_of q.work r) q.roots q)) t → Mark m p r q n t
  loses : q.stage ≡ unlock_stage → {n : Memory} {t : Process} → unlock_of m p ≡ taken n → q.grey ≡ 0 → Next (unnoted p q) t → Mark m p r q n t

-- ---- a mutator's steps: process p of the state s, which is q
-- "Answer: read the type": the branch
pub data Branch : RoundType → ℕ → Type 0 where
  noop : Branch round.Noop noop_fence
  roots : Branch round.Roots roots_fence
  work : Branch round.Work work_fence

pub data Mutator (s : State) (c : Choice) (p : ℕ) (q : Process) : State → Type 0 where
  -- "0 allocate free cell x (mark = memory's fA, null fields, x becomes a root)"
  allocates : At top no_stage q → c.op ≡ 0 → 0 < c.x → c.x ≤ s.memory.cells → c.f ≡ 0 → c.y ≡ 0 → {m : Memory} → allocate_of s.memory p c.x ≡ taken m
      → Mutator s c p q (with_process_of (with_memory s m) p (listing q.work (add_of q.roots c.x) q))
  -- "1 drop root x"
  drops : At top no_stage q → c.op ≡ 1 → Member q.roots c.x → c.f ≡ 0 → c.y ≡ 0 → Mutator s c p q (with_process_of s p (listing q.work (remove_of q.roots c.x) q))
  -- "2 read field f of root x, a non-null value becomes a root"
  reads : At top no_stage q → c.op ≡ 2 → Member q.roots c.x → c.f ≤ 1 → c.y ≡ 0 → {v : ℕ} → look_field_of s.memory p c.x c.f ≡ sees_value v → (v ≡ 0 → ⊥)
      → Mutator s c p q (with_process_of s p (listing q.work (add_of q.roots v) q))
  reads_null : At top no_stage q → c.op ≡ 2 → Member q.roots c.x → c.f ≤ 1 → c.y ≡ 0 → look_field_of s.memory p c.x c.f ≡ sees_value 0 → Mutator s c p q (with_process_of s p q)
  -- "3 store y (a root or 0) in field f of root x": "the first step reads the old value; then mark the old; mark y;
  -- write the field"
  stores : At top no_stage q → c.op ≡ 3 → Member q.roots c.x → c.f ≤ 1 → (c.y ≡ 0) ⊎ (Member q.roots c.y) → {v : ℕ} → look_field_of s.memory p c.x c.f ≡ sees_value v → (v ≡ 0 → ⊥)
      → Mutator s c p q (with_process_of s p (at store_mark_old look_stage (noting c.x c.f c.y v q)))
  stores_new : At top no_stage q → c.op ≡ 3 → Member q.roots c.x → c.f ≤ 1 → Member q.roots c.y → look_field_of s.memory p c.x c.f ≡ sees_value 0
      → Mutator s c p q (with_process_of s p (at store_mark_y look_stage (noting c.x c.f c.y 0 q)))
  stores_null : At top no_stage q → c.op ≡ 3 → Member q.roots c.x → c.f ≤ 1 → c.y ≡ 0 → look_field_of s.memory p c.x c.f ≡ sees_value 0
      → Mutator s c p q (with_process_of s p (at store_write no_stage (noting c.x c.f 0 0 q)))
  -- "4 fence"
  fences : At top no_stage q → c.op ≡ 4 → c.x ≡ 0 → c.f ≡ 0 → c.y ≡ 0 → fence_of s.memory p ≡ taken s.memory → Mutator s c p q (with_process_of s p q)
  -- "5 answer a raised handshake": "read the type"
  answers : At top no_stage q → c.op ≡ 5 → c.x ≡ 0 → c.f ≡ 0 → c.y ≡ 0 → q.part.raised ≡ true → {k : ℕ} → Branch s.system.kind k → Mutator s c p q (with_process_of s p (at k no_stage q))
  -- "mark the old; mark y"; from the second step also "mark each root"
  marks : Bare c → {r : ℕ} → Marks q r → (q.place ≡ roots_mark → q.stage ≡ look_stage → ⊥) → {m : Memory} {t : Process} → Mark s.memory p r q m t → Mutator s c p q (with_process_of (with_memory s m) p t)
  -- "for roots, mark each root, the choice x naming which remaining one at its first look"
  looks_root : At roots_mark look_stage q → OnlyX c → Member q.left c.x → {b : Bool} → look_mark_of s.memory p c.x ≡ sees_bit b
      → Mutator s c p q (with_process_of s p (at roots_mark sense_stage (leaving (remove_of q.left c.x) (marking c.x b q.sense q.grey q))))
  -- "write the field, clearing the honorary root"
  writes : At store_write no_stage q → Bare c → {m : Memory} → write_of s.memory p (record { store = store.Field q.x q.f q.y }) ≡ taken m
      → Mutator s c p q (with_process_of (with_memory s m) p (at top no_stage (noting 0 0 0 0 q)))
  -- "Answer: read the type; fence; for roots, mark each root"
  fences_noop : At noop_fence no_stage q → Bare c → fence_of s.memory p ≡ taken s.memory → Mutator s c p q (with_process_of s p (at noop_finish no_stage q))
  fences_work : At work_fence no_stage q → Bare c → fence_of s.memory p ≡ taken s.memory → Mutator s c p q (with_process_of s p (at work_finish no_stage q))
  fences_roots : At roots_fence no_stage q → Bare c → fence_of s.memory p ≡ taken s.memory → (q.roots ≡ no_cells → ⊥)
      → Mutator s c p q (with_process_of s p (at roots_mark look_stage (leaving q.roots q)))
  fences_none : At roots_fence no_stage q → Bare c → fence_of s.memory p ≡ taken s.memory → q.roots ≡ no_cells → Mutator s c p q (with_process_of s p (at roots_finish no_stage q))
  -- "then one step lowers the flag, sets in step, and, for roots or work, moves its list to the system's (joining
  -- what is there; a no-op answer moves nothing). That step advances the mutator's handshake phase for no-op and
  -- roots."
  finishes_noop : At noop_finish no_stage q → Bare c → Mutator s c p q (with_process_of s p (at top no_stage (shaking false true (next_of q.part.phase) q)))
  finishes_roots : At roots_finish no_stage q → Bare c
      → Mutator s c p q (with_process_of (with_system s (with_list s.system (union_of s.system.work q.work))) p (at top no_stage (shaking false true (next_of q.part.phase) (listing no_cells q.roots q))))
  finishes_work : At work_finish no_stage q → Bare c
      → Mutator s c p q (with_process_of (with_system s (with_list s.system (union_of s.system.work q.work))) p (at top no_stage (shaking false true q.part.phase (listing no_cells q.roots q))))

-- ---- the collector's steps: process p of the state s, which is q
-- the rounds of the table: place, type, and the place and stage after it
pub data Round : ℕ → RoundType → ℕ → ℕ → Type 0 where
  row1 : Round row1_round round.Noop row2_read no_stage
  row3 : Round row3_round round.Noop row4_write no_stage
  row4 : Round row4_round round.Noop row5_phase no_stage
  row5 : Round row5_round round.Noop row6_round fence_stage
  row6 : Round row6_round round.Roots row6_take no_stage
  row8 : Round row8_round round.Work row8_take no_stage

-- "the system's handshake phase advances for no-op and roots"
pub data Advance : RoundType → Handshake → Handshake → Type 0 where
  noop : {h : Handshake} → Advance round.Noop h (next_of h)
  roots : {h : Handshake} → Advance round.Roots h (next_of h)
  work : {h : Handshake} → Advance round.Work h h

-- "all in-step bits off": of every process but the collector
abbrev pub step_out : Process → Process
step_out q = shaking q.part.raised false q.part.phase q

abbrev pub all_off : List Process → List Process
all_off [] = []
all_off (q ∷ qs) = q ∷ map step_out qs

abbrev pub with_processes : State → List Process → State
with_processes s qs = record { memory = s.memory; procs = qs; system = s.system }

-- mutator x with its flag up
abbrev pub flagged : Process → Process
flagged q = shaking true q.part.in_step q.part.phase q

pub data Collector (s : State) (c : Choice) (p : ℕ) (q : Process) : State → Type 0 where
  -- "A round is: fence;"
  fences : {k j l : ℕ} {t : RoundType} → Round k t j l → At k fence_stage q → Bare c → fence_of s.memory p ≡ taken s.memory → Collector s c p q (with_process_of s p (at k type_stage q))
  -- "set type (all in-step bits off; the system's handshake phase advances for no-op and roots);"
  types : {k j l : ℕ} {t : RoundType} → Round k t j l → At k type_stage q → Bare c → {h : Handshake} → Advance t s.system.phase h
      → Collector s c p q (with_process_of (with_processes (with_system s (record { kind = t; phase = h; work = s.system.work })) (all_off s.procs)) p (at k raise_stage (leaving (full_of (mutators_of s)) q)))
  -- "raise each flag once, x naming the mutator;"
  raises : {k j l : ℕ} {t : RoundType} → Round k t j l → At k raise_stage q → OnlyX c → Member q.left c.x → (remove_of q.left c.x ≡ no_cells → ⊥)
      → Collector s c p q (with_process_of (with_process_of s c.x (flagged (process_of s c.x))) p (leaving (remove_of q.left c.x) q))
  raises_last : {k j l : ℕ} {t : RoundType} → Round k t j l → At k raise_stage q → OnlyX c → Member q.left c.x → remove_of q.left c.x ≡ no_cells
      → Collector s c p q (with_process_of (with_process_of s c.x (flagged (process_of s c.x))) p (at k poll_stage (leaving (full_of (mutators_of s)) q)))
  -- "poll, x naming one still awaited, until none is." "A poll that finds the flag up is taken and changes nothing."
  polls_up : {k j l : ℕ} {t : RoundType} → Round k t j l → At k poll_stage q → OnlyX c → Member q.left c.x → (process_of s c.x).part.raised ≡ true → Collector s c p q (with_process_of s p q)
  polls : {k j l : ℕ} {t : RoundType} → Round k t j l → At k poll_stage q → OnlyX c → Member q.left c.x → (process_of s c.x).part.raised ≡ false → (remove_of q.left c.x ≡ no_cells → ⊥)
      → Collector s c p q (with_process_of s p (leaving (remove_of q.left c.x) q))
  polls_last : {k j l : ℕ} {t : RoundType} → Round k t j l → At k poll_stage q → OnlyX c → Member q.left c.x → (process_of s c.x).part.raised ≡ false → remove_of q.left c.x ≡ no_cells
      → Collector s c p q (with_process_of s p (at j l (leaving no_cells q)))
  -- row 2: "read fM, then write its opposite, which becomes the noted fM"
  reads_sense : At row2_read no_stage q → Bare c → {b : Bool} → look_sense_of s.memory p ≡ sees_bit b → Collector s c p q (with_process_of s p (at row2_write no_stage (marking q.cell q.look b q.grey q)))
  writes_sense : At row2_write no_stage q → Bare c → {m : Memory} → write_of s.memory p (record { store = store.Sense (not q.sense) }) ≡ taken m
      → Collector s c p q (with_process_of (with_memory s m) p (at row3_round fence_stage (marking q.cell q.look (not q.sense) q.grey q)))
  -- row 4: "write phase Init, no-op round"
  writes_init : At row4_write no_stage q → Bare c → {m : Memory} → write_of s.memory p (record { store = store.Phase phase.Init }) ≡ taken m
      → Collector s c p q (with_process_of (with_memory s m) p (at row4_round fence_stage q))
  -- row 5: "write phase Mark, write fA := noted fM, no-op round"
  writes_mark : At row5_phase no_stage q → Bare c → {m : Memory} → write_of s.memory p (record { store = store.Phase phase.Mark }) ≡ taken m
      → Collector s c p q (with_process_of (with_memory s m) p (at row5_alloc no_stage q))
  writes_alloc : At row5_alloc no_stage q → Bare c → {m : Memory} → write_of s.memory p (record { store = store.AllocSense q.sense }) ≡ taken m
      → Collector s c p q (with_process_of (with_memory s m) p (at row5_round fence_stage q))
  -- rows 6 and 8: "take the system's list (one step, emptying it; it replaces the collector's own); empty: row 9";
  -- "not empty: row 7, else row 9"
  takes : (At row6_take no_stage q) ⊎ (At row8_take no_stage q) → Bare c → (s.system.work ≡ no_cells → ⊥)
      → Collector s c p q (with_process_of (with_system s (with_list s.system no_cells)) p (at row7_first no_stage (listing s.system.work q.roots q)))
  takes_none : (At row6_take no_stage q) ⊎ (At row8_take no_stage q) → Bare c → s.system.work ≡ no_cells
      → Collector s c p q (with_process_of (with_system s (with_list s.system no_cells)) p (at row9_write no_stage (listing no_cells q.roots q)))
  -- row 7: "x from its list, named at the first read: .., drop x (one step); until empty"; "at each field read in row
  -- 7 the choice's f names a field not yet scanned, and x keeps its use at the first"
  reads_first : At row7_first no_stage q → Scans c q.work → {v : ℕ} → look_field_of s.memory p c.x c.f ≡ sees_value v → (v ≡ 0 → ⊥)
      → Collector s c p q (with_process_of s p (at row7_mark look_stage (marking v q.look q.sense q.grey (leaving (remove_of all_fields (field_left_of c.f)) (noting c.x q.f q.y q.old q)))))
  reads_first_null : At row7_first no_stage q → Scans c q.work → look_field_of s.memory p c.x c.f ≡ sees_value 0
      → Collector s c p q (with_process_of s p (at row7_next no_stage (leaving (remove_of all_fields (field_left_of c.f)) (noting c.x q.f q.y q.old q))))
  marks : Bare c → {r : ℕ} → Marks q r → {m : Memory} {t : Process} → Mark s.memory p r q m t → Collector s c p q (with_process_of (with_memory s m) p t)
  reads_next : At row7_next no_stage q → ScansOn c q.left → {v : ℕ} → look_field_of s.memory p q.x c.f ≡ sees_value v → (v ≡ 0 → ⊥)
      → Collector s c p q (with_process_of s p (at row7_mark look_stage (marking v q.look q.sense q.grey (leaving (remove_of q.left (field_left_of c.f)) q))))
  reads_next_null : At row7_next no_stage q → ScansOn c q.left → look_field_of s.memory p q.x c.f ≡ sees_value 0 → (remove_of q.left (field_left_of c.f) ≡ no_cells → ⊥)
      → Collector s c p q (with_process_of s p (at row7_next no_stage (leaving (remove_of q.left (field_left_of c.f)) q)))
  reads_last_null : At row7_next no_stage q → ScansOn c q.left → look_field_of s.memory p q.x c.f ≡ sees_value 0 → remove_of q.left (field_left_of c.f) ≡ no_cells
      → Collector s c p q (with_process_of s p (at row7_drop no_stage (leaving no_cells q)))
  drops : At row7_drop no_stage q → Bare c → (remove_of q.work q.x ≡ no_cells → ⊥)
      → Collector s c p q (with_process_of s p (at row7_first no_stage (noting 0 q.f q.y q.old (listing (remove_of q.work q.x) q.roots q))))
  drops_last : At row7_drop no_stage q → Bare c → remove_of q.work q.x ≡ no_cells
      → Collector s c p q (with_process_of s p (at row8_round fence_stage (noting 0 q.f q.y q.old (listing no_cells q.roots q))))
  -- row 9: "write phase Sweep"
  writes_sweep : At row9_write no_stage q → Bare c → {m : Memory} → write_of s.memory p (record { store = store.Phase phase.Sweep }) ≡ taken m
      → Collector s c p q (with_process_of (with_memory s m) p (at row10_look no_stage (leaving (full_of s.memory.cells) q)))
  -- row 10: "for each cell number, x naming one left: look at the mark; occupied and unequal to noted fM: free it, as
  -- a further step"
  spares : At row10_look no_stage q → OnlyX c → Member q.left c.x → (look_swept_of s.memory p c.x ≡ finds_free) ⊎ (look_swept_of s.memory p c.x ≡ finds_mark q.sense)
      → (remove_of q.left c.x ≡ no_cells → ⊥) → Collector s c p q (with_process_of s p (leaving (remove_of q.left c.x) q))
  spares_last : At row10_look no_stage q → OnlyX c → Member q.left c.x → (look_swept_of s.memory p c.x ≡ finds_free) ⊎ (look_swept_of s.memory p c.x ≡ finds_mark q.sense)
      → remove_of q.left c.x ≡ no_cells → Collector s c p q (with_process_of s p (at row11_write no_stage (leaving no_cells q)))
  condemns : At row10_look no_stage q → OnlyX c → Member q.left c.x → look_swept_of s.memory p c.x ≡ finds_mark (not q.sense)
      → Collector s c p q (with_process_of s p (at row10_free no_stage (noting c.x q.f q.y q.old (leaving (remove_of q.left c.x) q))))
  frees : At row10_free no_stage q → Bare c → {m : Memory} → free_of s.memory p q.x ≡ taken m → (q.left ≡ no_cells → ⊥)
      → Collector s c p q (with_process_of (with_memory s m) p (at row10_look no_stage (noting 0 q.f q.y q.old q)))
  frees_last : At row10_free no_stage q → Bare c → {m : Memory} → free_of s.memory p q.x ≡ taken m → q.left ≡ no_cells
      → Collector s c p q (with_process_of (with_memory s m) p (at row11_write no_stage (noting 0 q.f q.y q.old q)))
  -- row 11: "write phase Idle, row 1"
  writes_idle : At row11_write no_stage q → Bare c → {m : Memory} → write_of s.memory p (record { store = store.Phase phase.Idle }) ≡ taken m
      → Collector s c p q (with_process_of (with_memory s m) p (at row1_round fence_stage q))

-- ---- the whole: "Processes 0 (collector) and 1..M (mutators)"; a commit is a step of memory
pub data Row (s : State) (c : Choice) : State → Type 0 where
  collector : c.kind ≡ 0 → c.process ≡ 0 → {t : State} → Collector s c 0 (process_of s 0) t → Row s c t
  mutator : c.kind ≡ 0 → {p : ℕ} → c.process ≡ p → 0 < p → p ≤ mutators_of s → {t : State} → Mutator s c p (process_of s p) t → Row s c t
  -- "A commit applies one's oldest store, unblocked."
  commits : c.kind ≡ 1 → {p : ℕ} → c.process ≡ p → p ≤ mutators_of s → Bare c → {m : Memory} → commit_of s.memory p ≡ taken m → Row s c (with_memory s m)
