-- What the collector has written and memory has not got yet, and what memory holds, told by where the collector
-- stands. Assumes nothing.
use Rattle.std.specs.Prelude.{Bool, not, List, [], ◌∷◌, ℕ, eqb, leb}
use Rattle.base.specs.Pick.{pick}
use Rattle.base.specs.Every.{◌and◌}
use Rattle.buffers.specs.declared.Phase.{Phase}
use Rattle.buffers.specs.declared.Phase.TheVariants as phase
use Rattle.buffers.specs.declared.Store.{Store}
use Rattle.buffers.specs.declared.Store.TheVariants as store
use Rattle.buffers.specs.declared.Entry.{Entry}
use Rattle.state.specs.declared.State.{State}
use Rattle.state.specs.Codes.{row2_read, row2_write, row4_write, row5_phase, row5_alloc, row5_round, row9_write, fence_stage, unlock_stage}
use Rattle.state.specs.States.{process_of}
use Rattle.formed.specs.Fits.{among_of, round_places}
use Rattle.model.specs.Offers.{mark_place}
use Rattle.claims.specs.Pending.{waiting_of}

-- the stretches of the collector's table between its writes
pub data Stretch : Type 0 where
  -- row 1, and row 2 up to its read of fM
  rests : Stretch
  -- row 2's write
  flips : Stretch
  -- row 3, and row 4's write
  flipped : Stretch
  -- row 4's round, and row 5's first write
  opens : Stretch
  -- row 5's second write
  allocates : Stretch
  -- row 5's round
  allocated : Stretch
  -- rows 6 to 9
  marks : Stretch
  -- rows 10 and 11
  sweeps : Stretch

abbrev pub stretch_of : ℕ → Stretch
stretch_of place =
    pick (leb place row2_read) Stretch.rests
    (pick (leb place row2_write) Stretch.flips
    (pick (leb place row4_write) Stretch.flipped
    (pick (leb place row5_phase) Stretch.opens
    (pick (leb place row5_alloc) Stretch.allocates
    (pick (leb place row5_round) Stretch.allocated
    (pick (leb place row9_write) Stretch.marks
    Stretch.sweeps))))))

-- the next step waits for the collector's stores: "A round is: fence"; "unlock"
pub data Moment : Type 0 where
  fences : Moment
  unlocks : Moment
  goes : Moment

abbrev pub moment_of : ℕ → ℕ → Moment
moment_of place stage =
    pick (among_of place round_places and eqb stage fence_stage) Moment.fences
    (pick (mark_place place and eqb stage unlock_stage) Moment.unlocks
    Moment.goes)

abbrev pub entry_for : Store → Entry
entry_for v = record { store = v }

-- the stretch and the moment; the collector's pending stores, "oldest store first"; memory's fM, fA and phase. n is
-- the collector's noted fM.
pub data Wrote (n : Bool) : Stretch → Moment → List Entry → Bool → Bool → Phase → Type 0 where
  -- rows 9 and 11: "write phase Sweep", "write phase Idle, row 1"
  both_idle : Wrote n Stretch.rests Moment.fences (entry_for (store.Phase phase.Sweep) ∷ entry_for (store.Phase phase.Idle) ∷ []) n n phase.Mark
  idle : Wrote n Stretch.rests Moment.fences (entry_for (store.Phase phase.Idle) ∷ []) n n phase.Sweep
  -- row 1: the noted fM is free, "0 at the opening"
  rests : {w : Moment} {b : Bool} → Wrote n Stretch.rests w [] b b phase.Idle
  -- row 2: "read fM, then write its opposite, which becomes the noted fM"
  flips : {w : Moment} → Wrote n Stretch.flips w [] n n phase.Idle
  sense : Wrote n Stretch.flipped Moment.fences (entry_for (store.Sense n) ∷ []) (not n) (not n) phase.Idle
  flipped : {w : Moment} → Wrote n Stretch.flipped w [] n (not n) phase.Idle
  -- row 4: "write phase Init, no-op round"
  init : Wrote n Stretch.opens Moment.fences (entry_for (store.Phase phase.Init) ∷ []) n (not n) phase.Idle
  opens : {w : Moment} → Wrote n Stretch.opens w [] n (not n) phase.Init
  -- row 5: "write phase Mark, write fA := noted fM, no-op round"
  marking : {w : Moment} → Wrote n Stretch.allocates w (entry_for (store.Phase phase.Mark) ∷ []) n (not n) phase.Init
  marked : {w : Moment} → Wrote n Stretch.allocates w [] n (not n) phase.Mark
  both_alloc : Wrote n Stretch.allocated Moment.fences (entry_for (store.Phase phase.Mark) ∷ entry_for (store.AllocSense n) ∷ []) n (not n) phase.Init
  alloc : Wrote n Stretch.allocated Moment.fences (entry_for (store.AllocSense n) ∷ []) n (not n) phase.Mark
  -- not on x86-TSO, whose buffers keep the order: fA first
  overtaken : Wrote n Stretch.allocated Moment.fences (entry_for (store.Phase phase.Mark) ∷ []) n n phase.Init
  allocated : {w : Moment} → Wrote n Stretch.allocated w [] n n phase.Mark
  -- rows 6 to 9: "write mark := noted fM", committed before the unlock
  marks : {w : Moment} → Wrote n Stretch.marks w [] n n phase.Mark
  mark : {c : ℕ} → Wrote n Stretch.marks Moment.unlocks (entry_for (store.Mark c n) ∷ []) n n phase.Mark
  -- row 9: "write phase Sweep"
  sweep : {w : Moment} → Wrote n Stretch.sweeps w (entry_for (store.Phase phase.Sweep) ∷ []) n n phase.Mark
  sweeps : {w : Moment} → Wrote n Stretch.sweeps w [] n n phase.Sweep

-- so it is of the state
abbrev pub CollectorWrote : State → Type 0
CollectorWrote s =
    Wrote (process_of s 0).sense (stretch_of (process_of s 0).place) (moment_of (process_of s 0).place (process_of s 0).stage) (waiting_of s 0) s.memory.fm s.memory.fa
    s.memory.phase.phase
