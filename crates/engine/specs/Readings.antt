-- R-6, "Go through all steps that read memory": what a taken step has read, and where that came from. Assumes nothing.
use Rattle.std.specs.Prelude.{◌≡◌, ℕ}
use Rattle.buffers.specs.declared.Spot.{Spot}
use Rattle.buffers.specs.declared.Spot.TheVariants as spot
use Rattle.buffers.specs.declared.sources.Source.{Source}
use Rattle.buffers.specs.declared.sources.Source.TheVariants as source
use Rattle.buffers.specs.Sources.{source_in}
use Rattle.memory.specs.Asks.{sight_of}
use Rattle.state.specs.declared.State.{State}
use Rattle.state.specs.declared.Choice.{Choice}
use Rattle.state.specs.States.{process_of, taken_of}
use Rattle.model.specs.Deeds.{reads, sweeps}
use Rattle.model.specs.Reasons.{waiting, Own}
use Rattle.engine.specs.Steps.{ask_of, step_of}

-- where the value came from that the step was told: nothing was read where it asks for no look
unfoldable pub read_by : State → Choice → Source
read_by s c = (sight_of s.memory c.process (ask_of c (process_of s c.process))).from

-- ---- the same by the model's table of deeds
pub data ReadFrom (s : State) (c : Choice) : Source → Type 0 where
  -- a look, a field read, a read of fM or of phase: by the mover's pending stores
  reading : (at : Spot) → Own s c (reads at) → ReadFrom s c (source_in at (waiting s c))
  -- the sweep's look at a cell's mark
  sweeping : (x : ℕ) → Own s c (sweeps x) → ReadFrom s c (source_in (spot.Mark x) (waiting s c))
  -- every other step reads nothing: a write, a fence, a lock, an unlock, an allocation, a free, a commit, a step apart
  nothing : ((at : Spot) → Own s c (reads at) → ⊥) → ((x : ℕ) → Own s c (sweeps x) → ⊥) → ReadFrom s c source.Nothing

-- ---- what is proved of it
-- a taken step has read what its deed says
abbrev pub ReadTold : Type 0
ReadTold = (s : State) (c : Choice) (t : State) → step_of s c ≡ taken_of t → ReadFrom s c (read_by s c)

-- and a deed says one thing
abbrev pub ReadOne : Type 0
ReadOne = (s : State) (c : Choice) (a b : Source) → ReadFrom s c a → ReadFrom s c b → a ≡ b
