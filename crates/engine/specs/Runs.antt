-- The run of a list of choices. Assumes nothing.
use Rattle.std.specs.Prelude.{◌≡◌, List, [], ◌∷◌, ◌++◌}
use Rattle.state.specs.declared.State.{State}
use Rattle.state.specs.declared.Choice.{Choice}
use Rattle.formed.specs.Fits.{WellFormed}
use Rattle.engine.specs.Steps.{step_of}

-- the state after the choices, each taken or refused: "A step refusal returns the number and the same state."
abbrev pub run_of : State → List Choice → State
run_of s [] = s
run_of s (c ∷ cs) = run_of (step_of s c).state cs

-- ---- what is proved of it
-- one choice more is one step more
abbrev pub RunMore : Type 0
RunMore = (s : State) (cs : List Choice) (c : Choice) → run_of s (cs ++ c ∷ []) ≡ (step_of (run_of s cs) c).state

-- every state of a run from a well-formed state is well formed
abbrev pub RunKept : Type 0
RunKept = (s : State) (cs : List Choice) → WellFormed s → WellFormed (run_of s cs)
