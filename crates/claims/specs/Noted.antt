-- "whoever holds the lock has noted the mark sense that stands in memory". Assumes nothing.
use Rattle.std.specs.Prelude.{◌≡◌, Bool, true, ◌&&◌, ℕ, ◌+◌, ◌≤◌, ◌<◌, leb}
use Rattle.state.specs.declared.Handshake.TheVariants as hand
use Rattle.state.specs.declared.Process.{Process}
use Rattle.state.specs.declared.State.{State}
use Rattle.state.specs.Codes.{phase_stage, lock_stage}
use Rattle.state.specs.States.{mutators_of, process_of}
use Rattle.model.specs.Offers.{mark_place}
use Rattle.claims.specs.Runs.{Always}

-- of a mark, the stage j or a later one
abbrev pub reached_at : ℕ → ℕ → ℕ → Bool
reached_at j place stage = mark_place place && leb j stage

abbrev pub Reached : ℕ → Process → Type 0
Reached j q = reached_at j q.place q.stage ≡ true

-- "read fM, stop if equal; read phase, stop if Idle; lock": past its read of fM a mutator that has left Idle has
-- noted memory's fM, b; and past the read of the phase it has left Idle
pub record NotedBy (b : Bool) (q : Process) : Type 0 where
  pub sense : Reached phase_stage q → (q.part.phase ≡ hand.Idle → ⊥) → q.sense ≡ b
  pub left : Reached lock_stage q → q.part.phase ≡ hand.Idle → ⊥

-- so it is of every mutator
abbrev pub Noted : State → Type 0
Noted s = (m : ℕ) → 0 < m → m ≤ mutators_of s → NotedBy s.memory.fm (process_of s m)

-- the lock is p + 1 with process p: it has noted memory's fM
abbrev pub HolderNoted : State → Type 0
HolderNoted s = (p : ℕ) → s.memory.lock ≡ p + 1 → (process_of s p).sense ≡ s.memory.fm

-- after any choices
abbrev pub RunNoted : Type 0
RunNoted = Always HolderNoted
