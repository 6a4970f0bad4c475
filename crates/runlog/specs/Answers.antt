-- What a run and a log come to, with document 01's numbers: the rule and the statements are said of these; `run_as` and
-- `outcome_as` tell what the code's answers are. Assumes nothing.
use Rattle.std.specs.Prelude.{ℕ}
use Rattle.buffers.specs.declared.sources.Source.{Source}
use Rattle.state.specs.declared.State.{State}

-- the state, the records taken, the stop, 0 while there is none, and where the last value read came from
pub record Run : Type 0 where
  pub state : State
  pub steps : ℕ
  pub stop : ℕ
  pub read : Source

-- the four numbers of a log
pub record Outcome : Type 0 where
  pub steps : ℕ
  pub stop : ℕ
  pub verdict : ℕ
  pub read : ℕ
