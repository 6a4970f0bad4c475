-- What holds after any choices. Assumes nothing.
use Rattle.std.specs.Prelude.{List}
use Rattle.state.specs.declared.State.{State}
use Rattle.state.specs.declared.Choice.{Choice}
use Rattle.state.specs.declared.opening.Heap.{Heap}
use Rattle.state.specs.Openings.{opening_of}
use Rattle.formed.specs.Fits.{HeapFits}
pub use Rattle.engine.specs.Runs.{run_of}

-- P holds after any choices from the opening of any heap that keeps the header's rules
abbrev pub Always : (State → Type 0) → Type 0
Always P = (h : Heap) → HeapFits h → (cs : List Choice) → P (run_of (opening_of h) cs)
