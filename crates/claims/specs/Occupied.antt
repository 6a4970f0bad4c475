-- "each cell is occupied exactly as its opening, allocations and frees say": the events of a cell are told from the
-- choices taken and the places they were taken at, not from the set of occupied cells. Assumes nothing.
use Rattle.std.specs.Prelude.{◌≡◌, Bool, true, false, ◌&&◌, List, [], ◌∷◌, ℕ, eqb}
use Rattle.base.specs.Pick.{pick}
use Rattle.base.specs.Refusals.{as_taken}
use Rattle.cells.specs.Sets.{member_of}
use Rattle.buffers.specs.Fits.{IsCell}
use Rattle.memory.specs.Memories.{used_of}
use Rattle.state.specs.declared.Process.{Process}
use Rattle.state.specs.declared.State.{State}
use Rattle.state.specs.declared.Choice.{Choice}
use Rattle.state.specs.declared.opening.Heap.{Heap}
use Rattle.state.specs.Codes.{top, row10_free}
use Rattle.state.specs.Openings.{opening_of}
use Rattle.formed.specs.Fits.{HeapFits}
use Rattle.model.specs.Reasons.{mover}
use Rattle.engine.specs.Steps.{step_of}
use Rattle.claims.specs.Runs.{run_of}

-- what a choice does to a cell, or what the last of several did
pub data Event : Type 0 where
  none : Event
  allocated : Event
  freed : Event

-- an own step of q (only a mutator stands at top, only the collector at row 10's free): "0 allocate free cell x";
-- "occupied and unequal to noted fM: free it, as a further step"
unfoldable pub own_event : Choice → Process → ℕ → Event
own_event c q x =
    pick (eqb q.place top && eqb c.op 0 && eqb c.x x) allocated
    (pick (eqb q.place row10_free && eqb q.x x) freed
    none)

-- the choice is taken, and it is an own step; a refused choice and a commit do nothing to what is occupied
unfoldable pub event_of : State → Choice → ℕ → Event
event_of s c x = pick (eqb (step_of s c).no as_taken && eqb c.kind 0) (own_event c (mover s c) x) none

-- the later of two, where there is one
abbrev pub later : Event → Event → Event
later e none = e
later e allocated = allocated
later e freed = freed

-- the last event of cell x in the run, e standing for what was before
abbrev pub last_of : State → List Choice → ℕ → Event → Event
last_of s [] x e = e
last_of s (c ∷ cs) x e = last_of (step_of s c).state cs x (later e (event_of s c x))

-- the last event is an allocation, or there is none and the cell was occupied at the opening
abbrev pub occupied_by : Event → Bool → Bool
occupied_by none b = b
occupied_by allocated b = true
occupied_by freed b = false

-- over any choices from any opening, for each cell
abbrev pub RunOccupied : Type 0
RunOccupied = (h : Heap) → HeapFits h → (cs : List Choice) (x : ℕ) → IsCell h.cells x → used_of (run_of (opening_of h) cs).memory x ≡ occupied_by (last_of (opening_of h) cs x none) (member_of h.used x)
