-- "the memory lock is held by a process exactly while it is inside its compare and swap". Assumes nothing.
use Rattle.std.specs.Prelude.{◌≡◌, Bool, true, ◌&&◌, ◌||◌, ◌↔◌, ℕ, ◌+◌, eqb}
use Rattle.state.specs.declared.Process.{Process}
use Rattle.state.specs.declared.State.{State}
use Rattle.state.specs.Codes.{again_stage, write_stage, unlock_stage}
use Rattle.state.specs.States.{process_of}
use Rattle.model.specs.Offers.{mark_place}
use Rattle.claims.specs.Runs.{Always}

-- "A process is inside its compare and swap exactly while its place is the second look, the write or the unlock,
-- whatever the lock says."
unfoldable pub inside_at : ℕ → ℕ → Bool
inside_at place stage = mark_place place && (eqb stage again_stage || eqb stage write_stage || eqb stage unlock_stage)

abbrev pub Inside : Process → Type 0
Inside q = inside_at q.place q.stage ≡ true

-- the lock is p + 1 with process p, and 0 with nobody
abbrev pub Lock : State → Type 0
Lock s = (p : ℕ) → (s.memory.lock ≡ p + 1) ↔ Inside (process_of s p)

-- and so it is free exactly while nobody is inside
abbrev pub LockFree : State → Type 0
LockFree s = (s.memory.lock ≡ 0) ↔ ((p : ℕ) → Inside (process_of s p) → ⊥)

-- after any choices
abbrev pub RunLock : Type 0
RunLock = Always Lock

abbrev pub RunLockFree : Type 0
RunLockFree = Always LockFree
