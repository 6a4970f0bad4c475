-- What a step does with memory, as a table over places and stages: this decides which of the checks 7 to 11 it has to
-- pass. Assumes nothing.
use Rattle.std.specs.Prelude.{not, ◌||◌, ℕ, eqb}
use Rattle.base.specs.Pick.{pick}
use Rattle.buffers.specs.declared.Phase.TheVariants as phase
use Rattle.buffers.specs.declared.Store.{Store}
use Rattle.buffers.specs.declared.Store.TheVariants as store
use Rattle.buffers.specs.declared.Spot.{Spot}
use Rattle.buffers.specs.declared.Spot.TheVariants as spot
use Rattle.state.specs.declared.Process.{Process}
use Rattle.state.specs.declared.Choice.{Choice}
use Rattle.state.specs.Codes.{top, store_mark_old, store_mark_y, store_write, noop_fence, roots_fence, roots_mark, work_fence, row2_read, row2_write, row4_write, row5_phase, row5_alloc, row7_first, row7_next, row9_write, row10_look, row10_free, row11_write, look_stage, sense_stage, phase_stage, lock_stage, again_stage, write_stage, fence_stage}
use Rattle.model.specs.Offers.{mark_place, round_place}

pub data Deed : Type 0 where
  -- a look, a field read, a read of fM or of phase
  reads : Spot → Deed
  -- the sweep's look at a cell
  sweeps : ℕ → Deed
  writes : Store → Deed
  fences : Deed
  locks : Deed
  unlocks : Deed
  allocates : ℕ → Deed
  frees : ℕ → Deed
  -- nothing: "Handshake and list steps", an answer's read of the type, a root dropped
  apart : Deed

-- the cell being marked: the old value, y, a root or a field's value; a root is named by x at its first look
unfoldable pub cell_of : Choice → Process → ℕ
cell_of c q =
    pick (eqb q.place store_mark_old) q.old
    (pick (eqb q.place store_mark_y) q.y
    (pick (eqb q.place roots_mark) (pick (eqb q.stage look_stage) c.x q.cell)
    q.cell))

-- at top, by the operation: allocate, drop, read, store (which reads the old value), fence, answer
unfoldable pub top_deed : Choice → Deed
top_deed c =
    pick (eqb c.op 0) (allocates c.x)
    (pick (eqb c.op 2) (reads (spot.Field c.x c.f))
    (pick (eqb c.op 3) (reads (spot.Field c.x c.f))
    (pick (eqb c.op 4) fences
    apart)))

-- "look at r's mark; read fM, ..; read phase, ..; lock; look again; .. write mark := noted fM ..; unlock"
unfoldable pub mark_deed : Choice → Process → Deed
mark_deed c q =
    pick (eqb q.stage look_stage) (reads (spot.Mark (cell_of c q)))
    (pick (eqb q.stage sense_stage) (reads spot.Sense)
    (pick (eqb q.stage phase_stage) (reads spot.Phase)
    (pick (eqb q.stage lock_stage) locks
    (pick (eqb q.stage again_stage) (reads (spot.Mark (cell_of c q)))
    (pick (eqb q.stage write_stage) (writes (store.Mark (cell_of c q) q.sense))
    unlocks)))))

-- the places outside top, marks and rounds
unfoldable pub row_deed : Choice → Process → Deed
row_deed c q =
    pick (eqb q.place store_write) (writes (store.Field q.x q.f q.y))
    (pick (eqb q.place noop_fence || eqb q.place roots_fence || eqb q.place work_fence) fences
    (pick (eqb q.place row2_read) (reads spot.Sense)
    (pick (eqb q.place row2_write) (writes (store.Sense (not q.sense)))
    (pick (eqb q.place row4_write) (writes (store.Phase phase.Init))
    (pick (eqb q.place row5_phase) (writes (store.Phase phase.Mark))
    (pick (eqb q.place row5_alloc) (writes (store.AllocSense q.sense))
    (pick (eqb q.place row7_first) (reads (spot.Field c.x c.f))
    (pick (eqb q.place row7_next) (reads (spot.Field q.x c.f))
    (pick (eqb q.place row9_write) (writes (store.Phase phase.Sweep))
    (pick (eqb q.place row10_look) (sweeps c.x)
    (pick (eqb q.place row10_free) (frees q.x)
    (pick (eqb q.place row11_write) (writes (store.Phase phase.Idle))
    apart))))))))))))

unfoldable pub deed_of : Choice → Process → Deed
deed_of c q =
    pick (eqb q.place top) (top_deed c)
    (pick (mark_place q.place) (mark_deed c q)
    (pick (round_place q.place) (pick (eqb q.stage fence_stage) fences apart)
    (row_deed c q)))
