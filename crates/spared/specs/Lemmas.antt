-- The lemmas of the published claim, as statements: S of a state, L of a step. Assumes nothing.
use Rattle.std.specs.Prelude.{◌≡◌, Bool, true, false, [], ◌∷◌, ◌⊎◌, ℕ, ◌+◌, ◌≤◌, ◌<◌, leb}
use Rattle.buffers.specs.declared.Phase.TheVariants as phase
use Rattle.buffers.specs.declared.Store.TheVariants as store
use Rattle.buffers.specs.Fits.{max_fields}
use Rattle.memory.specs.declared.Memory.{Memory}
use Rattle.memory.specs.Memories.{taken, used_of, mark_of, field_of}
use Rattle.memory.specs.Looks.{look_mark_of, look_field_of, look_sense_of, look_phase_of, look_swept_of}
use Rattle.memory.specs.Steps.{unlock_of}
use Rattle.state.specs.declared.Handshake.TheVariants as hand
use Rattle.state.specs.declared.Process.{Process}
use Rattle.state.specs.declared.State.{State}
use Rattle.state.specs.declared.Choice.{Choice}
use Rattle.state.specs.Codes.{roots_mark, roots_fence, roots_finish, row5_round, row6_round, row7_drop, row9_write, row10_look, row10_free, no_stage, look_stage, sense_stage, phase_stage, write_stage, unlock_stage}
use Rattle.state.specs.States.{mutators_of, process_of}
use Rattle.formed.specs.Fits.{Among, WellFormed}
use Rattle.model.specs.Rows.{At, sees_bit, sees_value, sees_phase, finds_free, finds_mark, Marks, Row}
use Rattle.model.specs.Reasons.{mover}
use Rattle.reach.specs.Reach.{Names}
use Rattle.reach.specs.Held.{Held}
use Rattle.verdict.specs.Colours.{White, Grey, Black}
use Rattle.claims.specs.Pending.{waiting_of, Unlocking}
use Rattle.claims.specs.Inv.{Inv}
use Rattle.spared.specs.Shades.{Marked, NullOrMarked, AllMarked, NoGrey, Snap}
use Rattle.spared.specs.Holds.{StoreIn, FieldIn, HeldAt, Every}
use Rattle.spared.specs.Zones.{rests, quiet, region, in_scan, inserting, deleting}
use Rattle.spared.specs.Views.{Effect, Fills, Turns, Grips, Paces, Aside}
use Rattle.spared.specs.Seats.{Seated}
use Rattle.spared.specs.Inv.{Spared}

-- every row keeps P, given the whole
abbrev pub RowsKeep : (State → Type 0) → Type 0
RowsKeep P = (s t : State) (c : Choice) → Spared s → Row s c t → P t

-- ---- views: every row is of one of the kinds
abbrev pub RowEffect : Type 0
RowEffect = (s t : State) (c : Choice) → WellFormed s → Row s c t → Effect c (mover s c) (waiting_of s c.process) s.memory t.memory

abbrev pub RowFills : Type 0
RowFills = (s t : State) (c : Choice) → WellFormed s → Row s c t → Fills c (mover s c) t.memory (waiting_of s c.process) (waiting_of t c.process)

abbrev pub RowTurns : Type 0
RowTurns = (s t : State) (c : Choice) → WellFormed s → Row s c t → Turns s.system.work t.system.work (waiting_of s c.process) (mover s c) (process_of t c.process)

abbrev pub RowGrips : Type 0
RowGrips = (s t : State) (c : Choice) → WellFormed s → Row s c t → Grips s t c c.process (mover s c) (process_of t c.process)

abbrev pub RowPaces : Type 0
RowPaces = (s t : State) (c : Choice) → WellFormed s → Row s c t → Paces (mover s c) (process_of t c.process)

abbrev pub RowSeated : Type 0
RowSeated = (s t : State) (c : Choice) → WellFormed s → Row s c t → Seated c (process_of s 0) (process_of t 0)

-- the others, and what they have pending
abbrev pub RowAside : Type 0
RowAside = (s t : State) (c : Choice) → WellFormed s → Row s c t → (p : ℕ) → (p ≡ c.process → ⊥) → Aside (process_of s p) (process_of t p)

abbrev pub RowWaits : Type 0
RowWaits = (s t : State) (c : Choice) → WellFormed s → Row s c t → (p : ℕ) → (p ≡ c.process → ⊥) → waiting_of t p ≡ waiting_of s p

abbrev pub RowMutators : Type 0
RowMutators = (s t : State) (c : Choice) → Row s c t → mutators_of t ≡ mutators_of s

-- ---- looks: what is seen is memory's, where the process has no such store pending
-- the collector's looks at marks, fields and the sweep's
abbrev pub ScanField : Type 0
ScanField = (s : State) → Inv s → (c f v : ℕ) → look_field_of s.memory 0 c f ≡ sees_value v → v ≡ field_of s.memory c f

abbrev pub SweepMark : Type 0
SweepMark = (s : State) → Inv s → (process_of s 0).place ≡ row10_look → (c : ℕ) (b : Bool) → look_swept_of s.memory 0 c ≡ finds_mark b → (used_of s.memory c ≡ true) × (mark_of s.memory c ≡ b)

abbrev pub SweptFree : Type 0
SweptFree = (m : Memory) (p c : ℕ) → look_swept_of m p c ≡ finds_free → used_of m c ≡ false

-- anybody's look at a mark, but at its unlock
abbrev pub LookMark : Type 0
LookMark = (s : State) → Inv s → (p c : ℕ) (b : Bool) → (Unlocking (process_of s p) → ⊥) → look_mark_of s.memory p c ≡ sees_bit b → mark_of s.memory c ≡ b

-- a look that is taken is at an occupied cell
abbrev pub LookUsed : Type 0
LookUsed = (m : Memory) (p c : ℕ) (b : Bool) → look_mark_of m p c ≡ sees_bit b → used_of m c ≡ true

-- a field read sees memory's value, or a value that one has pending for the field
abbrev pub LookField : Type 0
LookField = (s : State) (p c f v : ℕ) → f < max_fields → look_field_of s.memory p c f ≡ sees_value v → (v ≡ field_of s.memory c f) ⊎ FieldIn (waiting_of s p) c f v

-- fM and the phase: a mutator's reads, and the collector's in row 7
abbrev pub LookSense : Type 0
LookSense = (s : State) → Inv s → (p r : ℕ) → Marks (process_of s p) r → p ≤ mutators_of s → (b : Bool) → look_sense_of s.memory p ≡ sees_bit b → s.memory.fm ≡ b

abbrev pub LookIdle : Type 0
LookIdle = (s : State) → Inv s → (p r : ℕ) → Marks (process_of s p) r → p ≤ mutators_of s → look_phase_of s.memory p ≡ sees_phase phase.Idle → (0 < p) × (s.memory.phase.phase ≡ phase.Idle)

-- ---- what holds in a state
-- S3: a pending mark is under the lock, of the cell being greyed and marked, with memory's fM
pub record Pended (s : State) (p c : ℕ) (b : Bool) : Type 0 where
  pub lock : s.memory.lock ≡ p + 1
  pub unlocking : Unlocking (process_of s p)
  pub grey : (process_of s p).grey ≡ c
  pub marks : Marks (process_of s p) c
  pub sense : b ≡ s.memory.fm

abbrev pub MarkStore : Type 0
MarkStore = (s : State) → Spared s → (p c : ℕ) (b : Bool) → StoreIn (waiting_of s p) (store.Mark c b) → Pended s p c b

-- S4: where nothing is grey, what is reached from marked cells is marked
abbrev pub SnapMarked : Type 0
SnapMarked = (s : State) → Spared s → NoGrey s → (c : ℕ) → Snap s.memory c → Marked s.memory c

-- S5: all is marked; or fA is to follow and nobody deletes; or everybody inserts
pub data Era (s : State) : Type 0 where
  rested : AllMarked s.memory → Era s
  blank : (s.memory.fa ≡ s.memory.fm → ⊥) → leb (process_of s 0).place row5_round ≡ true → Every s (λ q. deleting q.part.phase ≡ false) → Era s
  marking : Every s (λ q. inserting q.part.phase ≡ true) → Era s

abbrev pub EraOf : Type 0
EraOf = (s : State) → Spared s → Era s

-- S6: in phase Idle all is marked, or nobody inserts
abbrev pub IdleMarked : Type 0
IdleMarked = (s : State) → Spared s → s.memory.phase.phase ≡ phase.Idle → AllMarked s.memory ⊎ Every s (λ q. inserting q.part.phase ≡ false)

-- S8, S10, S12, S14: by the collector's place
abbrev pub Scanning : Type 0
Scanning = (s : State) → Inv s → in_scan (process_of s 0).place ≡ true → Every s (λ q. q.part.phase ≡ hand.IdleMarkSweep)

pub record Rooting (s : State) (q : Process) : Type 0 where
  pub handshake : q.part.phase ≡ hand.Mark
  pub memory : s.memory.phase.phase ≡ phase.Mark

abbrev pub RootsAsked : Type 0
RootsAsked = (s : State) → Inv s → Every s (λ q. Among q.place (roots_fence ∷ roots_mark ∷ roots_finish ∷ []) → Rooting s q)

abbrev pub AllocFollows : Type 0
AllocFollows = (s : State) → Inv s → (leb row6_round (process_of s 0).place ≡ true) ⊎ (rests (process_of s 0).place ≡ true) → s.memory.fa ≡ s.memory.fm

abbrev pub RegionDeletes : Type 0
RegionDeletes = (s : State) → Inv s → region (process_of s 0).place (process_of s 0).stage ≡ true → Every s (λ q. deleting q.part.phase ≡ true)

-- the collector in rows 7 to 10 has noted memory's fM
abbrev pub ScanNoted : Type 0
ScanNoted = (s : State) → Inv s → leb row6_round (process_of s 0).place ≡ true → (process_of s 0).sense ≡ s.memory.fm

-- S1: while fM waits every mutator is in Idle, and the collector is at row 3's fence
abbrev pub FlipWaits : Type 0
FlipWaits = (s : State) → Inv s → (p : ℕ) (b : Bool) → StoreIn (waiting_of s p) (store.Sense b) → (p ≡ 0) × (Every s (λ q. q.part.phase ≡ hand.Idle) × (quiet (process_of s 0).place (process_of s 0).stage ≡ true))

-- while fA waits it is memory's fM, and the collector is at row 5's fence
abbrev pub AllocWaits : Type 0
AllocWaits = (s : State) → Inv s → (p : ℕ) (b : Bool) → StoreIn (waiting_of s p) (store.AllocSense b) → (p ≡ 0) × (b ≡ s.memory.fm)

-- the collector has no field store pending
abbrev pub CollectorFields : Type 0
CollectorFields = (s : State) → Inv s → (p c f v : ℕ) → FieldIn (waiting_of s p) c f v → (0 < p) × (p ≤ mutators_of s)

-- S9: the cell being marked is held
abbrev pub MarkHeld : Type 0
MarkHeld = (s : State) → Spared s → (m : ℕ) → 0 < m → m ≤ mutators_of s → (r : ℕ) → Marks (process_of s m) r → ((process_of s m).place ≡ roots_mark → (process_of s m).stage ≡ look_stage → ⊥) → HeldAt s m r

-- S11: from row 9's write on every phase is IdleMarkSweep until row 1's type, and no mark is pending
abbrev pub SweepingEnded : Type 0
SweepingEnded = (s : State) → Spared s → leb row9_write (process_of s 0).place ≡ true → Every s (λ q. q.part.phase ≡ hand.IdleMarkSweep) × ((p c : ℕ) (b : Bool) → StoreIn (waiting_of s p) (store.Mark c b) → ⊥)

-- S13: in the quiet zone what a mutator past Idle holds is marked
abbrev pub QuietHeld : Type 0
QuietHeld = (s : State) → Spared s → quiet (process_of s 0).place (process_of s 0).stage ≡ true → (m : ℕ) → 0 < m → m ≤ mutators_of s → ((process_of s m).part.phase ≡ hand.Idle → ⊥) → (c : ℕ) → HeldAt s m c → Marked s.memory c

-- held is held by a mutator, and back
abbrev pub HeldSomewhere : Type 0
HeldSomewhere = (s : State) → Inv s → (c : ℕ) → Held s c → (p : ℕ) × ((0 < p) × ((p ≤ mutators_of s) × HeldAt s p c))

abbrev pub HeldThere : Type 0
HeldThere = (s : State) → WellFormed s → (p c : ℕ) → HeldAt s p c → Held s c

-- ---- what a step does
-- L0: fM stays, or it is the flip
pub record Flip (s t : State) : Type 0 where
  pub idle : Every s (λ q. q.part.phase ≡ hand.Idle)
  pub quiet : quiet (process_of s 0).place (process_of s 0).stage ≡ true
  pub marked : AllMarked s.memory
  pub none_grey : NoGrey s
  pub none_marked : (c : ℕ) → Marked t.memory c → ⊥
  -- the processes, the occupied cells, the marks and the fields stay
  pub procs : t.procs ≡ s.procs
  pub used : (c : ℕ) → used_of t.memory c ≡ used_of s.memory c
  pub fields : (c f : ℕ) → field_of t.memory c f ≡ field_of s.memory c f

abbrev pub RowSense : Type 0
RowSense = (s t : State) (c : Choice) → Spared s → Row s c t → (t.memory.fm ≡ s.memory.fm) ⊎ Flip s t

-- L1, L2, L4
abbrev pub MarkedStays : Type 0
MarkedStays = (s t : State) (c : Choice) → Spared s → Row s c t → t.memory.fm ≡ s.memory.fm → (d : ℕ) → Marked s.memory d → Marked t.memory d

abbrev pub UsedOrFreed : Type 0
UsedOrFreed = (s t : State) (c : Choice) → Spared s → Row s c t → (d : ℕ) → used_of s.memory d ≡ true → (used_of t.memory d ≡ true) ⊎ (At row10_free no_stage (mover s c) × (((mover s c).x ≡ d) × (c.process ≡ 0)))

-- a white cell was white, or is new and fA was not fM
abbrev pub WhiteWas : Type 0
WhiteWas = (s t : State) (c : Choice) → Spared s → Row s c t → t.memory.fm ≡ s.memory.fm → (d : ℕ) → White t.memory d → (White s.memory d) ⊎ ((used_of s.memory d ≡ false) × (s.memory.fa ≡ s.memory.fm → ⊥))

-- L3: in the region the snapshot loses nothing
abbrev pub SnapStays : Type 0
SnapStays = (s t : State) (c : Choice) → Spared s → Row s c t → region (process_of s 0).place (process_of s 0).stage ≡ true → (d : ℕ) → Snap s.memory d → Snap t.memory d

-- L5, L8: a grey cell stays grey but for a drop; a black one was black, is the one dropped, or is new
abbrev pub GreyStays : Type 0
GreyStays = (s t : State) (c : Choice) → Spared s → Row s c t → (d : ℕ) → Grey s d → (Grey t d) ⊎ (At row7_drop no_stage (mover s c) × (((mover s c).x ≡ d) × (c.process ≡ 0)))

abbrev pub BlackWas : Type 0
BlackWas = (s t : State) (c : Choice) → Spared s → Row s c t → (d : ℕ) → Black t d → (Black s d) ⊎ ((At row7_drop no_stage (mover s c) × (((mover s c).x ≡ d) × (c.process ≡ 0))) ⊎ ((used_of s.memory d ≡ false) × ((f : ℕ) → field_of t.memory d f ≡ 0)))

-- a grey cell was grey, or its mark has just been written, in stage `write` of a mark
pub data Greyed (s : State) (c : Choice) (d : ℕ) : Type 0 where
  was : Grey s d → Greyed s c d
  now : Marks (mover s c) d → (mover s c).stage ≡ write_stage → White s.memory d → c.process ≤ mutators_of s → Greyed s c d

abbrev pub GreyWas : Type 0
GreyWas = (s t : State) (c : Choice) → Spared s → Row s c t → (d : ℕ) → Grey t d → Greyed s c d

-- L10: at the end of a mark by p its cell is marked, of a mutator from InitMark on: "stop if equal", "stop if Idle",
-- "unlock"
pub record Over (m : Memory) (p r : ℕ) (q : Process) : Type 0 where
  pub equal : q.stage ≡ sense_stage → look_sense_of m p ≡ sees_bit q.look → Marked m r
  pub idle : q.stage ≡ phase_stage → look_phase_of m p ≡ sees_phase phase.Idle → Marked m r
  pub unlocks : q.stage ≡ unlock_stage → {n : Memory} → unlock_of m p ≡ taken n → Marked m r

abbrev pub MarkOver : Type 0
MarkOver = (s : State) → Spared s → (p r : ℕ) → p ≤ mutators_of s → (0 < p → inserting (process_of s p).part.phase ≡ true) → Marks (process_of s p) r → ((process_of s p).place ≡ roots_mark → (process_of s p).stage ≡ look_stage → ⊥) → Over s.memory p r (process_of s p)

-- L11: the value of a field store is null or marked, or the era is blank
abbrev pub ValueSafe : Type 0
ValueSafe = (s : State) → Spared s → (p c f v : ℕ) → FieldIn (waiting_of s p) c f v → (NullOrMarked s.memory v) ⊎ ((s.memory.fa ≡ s.memory.fm → ⊥) × ((leb (process_of s 0).place row5_round ≡ true) × Every s (λ q. deleting q.part.phase ≡ false)))

-- L12: what is held was held, is named by a field of what was held, or is new
pub data Gained (s t : State) (p d : ℕ) : Type 0 where
  was : HeldAt s p d → Gained s t p d
  named : (r : ℕ) → HeldAt s p r → Names s.memory r d → Gained s t p d
  fresh : used_of t.memory d ≡ true → mark_of t.memory d ≡ s.memory.fa → Gained s t p d

abbrev pub HeldWas : Type 0
HeldWas = (s t : State) (c : Choice) → Spared s → Row s c t → (p : ℕ) → 0 < p → p ≤ mutators_of s → (d : ℕ) → HeldAt t p d → Gained s t p d
