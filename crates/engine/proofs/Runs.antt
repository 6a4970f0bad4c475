-- The run of a list of choices. Assumes nothing.
--     run_more     one choice more is one step more
--     run_kept     it stays well formed
use mathlib.Core.Path.{refl}
use mathlib.Core.List.{[], ◌∷◌}
use Rattle.engine.specs.Steps.{step_of}
use Rattle.engine.specs.Runs.{RunMore, RunKept}
use Rattle.engine.proofs.Theorems.{kept}

pub run_more : RunMore
run_more s [] d = refl
run_more s (c ∷ cs) d = run_more (step_of s c).state cs d

pub run_kept : RunKept
run_kept s [] w = w
run_kept s (c ∷ cs) w = run_kept (step_of s c).state cs (kept s c w)
