-- The whole invariant: what holds of the state after any choices. Each part is a definition of its own file, where
-- its sentence stands. Assumes nothing.
use Rattle.state.specs.declared.State.{State}
use Rattle.formed.specs.Fits.{WellFormed}
use Rattle.claims.specs.Runs.{Always}
use Rattle.claims.specs.Handshakes.{Handshakes}
use Rattle.claims.specs.Lock.{Lock}
use Rattle.claims.specs.Pending.{MarksWait, MutatorStores}
use Rattle.claims.specs.Written.{CollectorWrote}
use Rattle.claims.specs.Noted.{Noted}

pub record Inv (s : State) : Type 0 where
  -- nothing is out of range, and what is unused is zero
  pub formed : WellFormed s
  -- the system's handshake phase and type are told by the collector's place; each mutator is in the handshake table;
  -- the flags are told by the collector's round; a mutator that answers answers the type that is asked
  pub handshakes : Handshakes s
  -- the lock is with a process exactly while it is inside its compare and swap
  pub lock : Lock s
  -- a mark waits only at its process's unlock, one in a buffer
  pub marks : MarksWait s
  -- a mutator has only marks and fields pending
  pub stores : MutatorStores s
  -- the collector's pending stores and memory's fM, fA and phase are told by the collector's place
  pub written : CollectorWrote s
  -- past its read of fM a mutator that has left Idle has noted memory's fM, and past the read of the phase it has
  -- left Idle
  pub noted : Noted s

-- after any choices
abbrev pub RunInv : Type 0
RunInv = Always Inv
