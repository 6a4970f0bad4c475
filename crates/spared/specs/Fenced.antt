-- B1: what an answering mutator has pending. Assumes nothing.
use Rattle.std.specs.Prelude.{ℕ, ◌≤◌, ◌<◌}
use Rattle.state.specs.declared.State.{State}
use Rattle.state.specs.States.{mutators_of, process_of}
use Rattle.formed.specs.Fits.{Among}
use Rattle.claims.specs.Pending.{waiting_of}
use Rattle.spared.specs.Holds.{NoField}
use Rattle.spared.specs.Zones.{fenced_places}

-- "Answer: read the type; fence": past its fence an answering mutator has no field store pending
abbrev pub PastFence : State → Type 0
PastFence s = (m : ℕ) → 0 < m → m ≤ mutators_of s → Among (process_of s m).place fenced_places → NoField (waiting_of s m)
