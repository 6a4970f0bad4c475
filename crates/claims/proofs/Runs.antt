-- What every row keeps holds after any choices. Assumes nothing.
--     taken_row      a step that is taken is a row
--     step_keeps     what every row keeps, a step keeps, taken or refused
--     run_keeps      and so does a run
use mathlib.Core.Path.{◌≡◌, ap, sym, subst}
use mathlib.Core.List.{List, [], ◌∷◌}
use mathlib.Core.Logic.{⊎_elim}
use Rattle.state.specs.declared.State.{State}
use Rattle.state.specs.declared.Choice.{Choice}
use Rattle.state.specs.States.{Answer, taken_of}
use Rattle.model.specs.Rows.{Row}
use Rattle.engine.specs.Steps.{step_of}
use Rattle.engine.proofs.Theorems.{answered, exact}
use Rattle.claims.specs.Runs.{run_of}

pub taken_row : (s : State) (c : Choice) → step_of s c ≡ taken_of (step_of s c).state → Row s c (step_of s c).state
taken_row s c e = ((exact s c (step_of s c).state).0 e).1

module _ (P : State → Type 0) (keeps : (s : State) (c : Choice) (t : State) → P s → Row s c t → P t) where
  pub step_keeps : (s : State) (c : Choice) → P s → P (step_of s c).state
  step_keeps s c a = ⊎_elim (λ e. keeps s c (step_of s c).state a (taken_row s c e)) (λ h. subst P (sym (ap (λ (k : Answer). k.state) h.1)) a) (answered s c)

  pub run_keeps : (s : State) (cs : List Choice) → P s → P (run_of s cs)
  run_keeps s [] a = a
  run_keeps s (c ∷ cs) a = run_keeps (step_of s c).state cs (step_keeps s c a)
