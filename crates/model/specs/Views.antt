-- What the answer to an own step is, against the reasons of refusal and the rows: a number that is the first reason
-- that holds, or a state that a row leads to. The checks 1 to 3 are made before a program's step: here are those from
-- 4. Assumes nothing.
use Rattle.std.specs.Prelude.{ℕ, ◌<◌}
use Rattle.base.specs.Refusals.{by_no_kind}
use Rattle.state.specs.declared.State.{State}
use Rattle.state.specs.declared.Choice.{Choice}
use Rattle.state.specs.States.{Answer, refused_of, taken_of}
use Rattle.model.specs.Reasons.{Reason}

-- "Checks run in number order": n is the first reason of those from 4 that holds
abbrev pub OwnFirst : State → Choice → ℕ → Type 0
OwnFirst s c n = Reason s c n × ((k : ℕ) → by_no_kind < k → k < n → Reason s c k → ⊥)

-- none of them holds
abbrev pub OwnClear : State → Choice → Type 0
OwnClear s c = (k : ℕ) → by_no_kind < k → Reason s c k → ⊥

-- refused for the first reason, with the state as it came; or taken, for no reason holds, to a state that a row R
-- leads to
pub data View (R : State → Type 0) (s : State) (c : Choice) : Answer → Type 0 where
  stops : (n : ℕ) → by_no_kind < n → OwnFirst s c n → View R s c (refused_of n s)
  goes : {t : State} → OwnClear s c → R t → View R s c (taken_of t)
