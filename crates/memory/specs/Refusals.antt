-- "When the judge says no", as far as memory goes: the number of each look and each step, exactly when it is given.
-- "Checks run in number order": One, Two and Three read so (Numbers).
-- Assumes nothing.
use Rattle.std.specs.Prelude.{◌≡◌, true, false, [], ℕ, ◌≤◌, ◌<◌, length}
use Rattle.base.specs.Refusals.{as_taken, by_no_process, by_none_pending, by_blocked, by_pending, by_full, by_occupied, by_free}
use Rattle.buffers.specs.declared.Spot.{Spot}
use Rattle.buffers.specs.declared.Entry.{Entry}
use Rattle.buffers.specs.Stores.{spot_of}
use Rattle.buffers.specs.Buffers.{max_stores}
use Rattle.memory.specs.declared.Memory.{Memory}
use Rattle.memory.specs.Answers.{Done}
use Rattle.memory.specs.Memories.{max_processes, used_of, blocked_of, there_of}
use Rattle.memory.specs.Looks.{look_of}
use Rattle.memory.specs.Steps.{write_of, commit_of, fence_of, lock_of, unlock_of, allocate_of, free_of}
use Rattle.memory.specs.Views.{pending_for}
use Rattle.memory.specs.Shapes.{oldest_of}
use Rattle.memory.specs.Numbers.{One, Two, Three}

-- "A step refusal returns the number and the same state."
abbrev pub HandsBack : Memory → Done → Type 0
HandsBack m d = (d.no ≡ as_taken → ⊥) → d.memory ≡ m

-- 7: "a memory or own-buffer read .. while blocked". 11: "a look, field read .. on a free cell"
abbrev pub LookNumbers : Memory → ℕ → Spot → Type 0
LookNumbers m p at =
    Two (look_of m p at).no by_blocked as_taken by_free
    (blocked_of m p ≡ true) (blocked_of m p ≡ false)
    (there_of m at ≡ true) (there_of m at ≡ false)

-- 2: "the process is above M", here above the most there can be. 9: "a write, 8 stores pending"
abbrev pub WriteNumbers : Memory → ℕ → Entry → Type 0
WriteNumbers m p e =
    Two (write_of m p e).no by_no_process as_taken by_full
    (max_processes ≤ p) (p < max_processes)
    (length (pending_for m p) < max_stores) (length (pending_for m p) ≡ max_stores)

-- 5: "a commit with an empty buffer". 7: "a .. commit .. while blocked". 11: "a .. commit of a mark or field on a
--    free cell"
abbrev pub CommitNumbers : Memory → ℕ → Type 0
CommitNumbers m p =
    Three (commit_of m p).no by_none_pending by_blocked as_taken by_free
    (pending_for m p ≡ []) (pending_for m p ≡ [] → ⊥)
    (blocked_of m p ≡ true) (blocked_of m p ≡ false)
    (there_of m (spot_of (oldest_of (pending_for m p))) ≡ true) (there_of m (spot_of (oldest_of (pending_for m p))) ≡ false)

-- 8: "fence or unlock, own buffer not empty"
abbrev pub FenceNumbers : Memory → ℕ → Type 0
FenceNumbers m p = One (fence_of m p).no as_taken by_pending (pending_for m p ≡ []) (pending_for m p ≡ [] → ⊥)

abbrev pub UnlockNumbers : Memory → ℕ → Type 0
UnlockNumbers m p = One (unlock_of m p).no as_taken by_pending (pending_for m p ≡ []) (pending_for m p ≡ [] → ⊥)

-- 7: "a lock step while any process holds the lock"
abbrev pub LockNumbers : Memory → ℕ → Type 0
LockNumbers m p = One (lock_of m p).no as_taken by_blocked (m.lock ≡ 0) (m.lock ≡ 0 → ⊥)

-- 7: "a .. allocation or free while blocked". 10: "allocation of an occupied cell"
abbrev pub AllocateNumbers : Memory → ℕ → ℕ → Type 0
AllocateNumbers m p c =
    Two (allocate_of m p c).no by_blocked by_occupied as_taken
    (blocked_of m p ≡ true) (blocked_of m p ≡ false)
    (used_of m c ≡ true) (used_of m c ≡ false)

abbrev pub FreeNumbers : Memory → ℕ → ℕ → Type 0
FreeNumbers m p c = One (free_of m p c).no by_blocked as_taken (blocked_of m p ≡ true) (blocked_of m p ≡ false)
