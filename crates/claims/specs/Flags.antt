-- The flags, told by where the collector's round stands. o is the collector, m a mutator. Assumes nothing.
use Rattle.std.specs.Prelude.{◌≡◌, true, false, ◌↔◌, ℕ, ◌≤◌, ◌<◌}
use Rattle.cells.specs.Sets.{member_of, Member}
use Rattle.state.specs.declared.Part.{Part}
use Rattle.state.specs.declared.Process.{Process}
use Rattle.state.specs.declared.State.{State}
use Rattle.state.specs.Codes.{raise_stage, poll_stage}
use Rattle.state.specs.States.{mutators_of, process_of}
use Rattle.formed.specs.Fits.{Among, round_places}

-- "raise each flag once, x naming the mutator": the flag of m is still to be raised
pub record Due (o : Process) (m : ℕ) : Type 0 where
  pub round : Among o.place round_places
  pub stage : o.stage ≡ raise_stage
  pub left : Member o.left m

-- the flag of m was raised in this round, and m is not known to have answered: "poll, x naming one still awaited,
-- until none is"
pub data Awaited (o : Process) (m : ℕ) : Type 0 where
  raised : Among o.place round_places → o.stage ≡ raise_stage → member_of o.left m ≡ false → Awaited o m
  polled : Among o.place round_places → o.stage ≡ poll_stage → Member o.left m → Awaited o m

-- a mutator is out of step with its flag down exactly while the flag is still to be raised, and a flag is up only
-- while it is awaited
pub record Flagged (o : Process) (m : ℕ) (p : Part) : Type 0 where
  pub down : ((p.raised ≡ false) × (p.in_step ≡ false)) ↔ Due o m
  pub up : p.raised ≡ true → Awaited o m

-- so it is of every mutator
abbrev pub Flags : State → Type 0
Flags s = (m : ℕ) → 0 < m → m ≤ mutators_of s → Flagged (process_of s 0) m (process_of s m).part
