-- The steps that change memory, each with the checks in number order. A refusal hands the same memory back. Assumes
-- nothing.
use Rattle.std.specs.Prelude.{ℕ, ◌+◌, leb, eqb}
use Rattle.base.specs.Pick.{pick}
use Rattle.base.specs.Refusals.{by_no_process, by_none_pending, by_blocked, by_pending, by_full, by_occupied, by_free}
use Rattle.buffers.specs.declared.Entry.{Entry}
use Rattle.buffers.specs.Stores.{spot_of}
use Rattle.buffers.specs.Buffers.{push_of, pop_of}
use Rattle.memory.specs.declared.Memory.{Memory}
use Rattle.memory.specs.Answers.{Done}
use Rattle.memory.specs.Memories.{max_processes, taken, refused, with_lock, used_of, buffer_of, with_buffer, pending_len_of, blocked_of, there_of, applied_of, allocated_of, freed_of}

-- "A write appends."
unfoldable pub write_of : Memory → ℕ → Entry → Done
write_of m p e =
    pick (leb max_processes p) (refused by_no_process m)
    (let b = push_of (buffer_of m p) e in
    pick b.taken (taken (with_buffer m p b.buffer)) (refused by_full m))

-- "A commit applies one's oldest store, unblocked."
unfoldable pub commit_of : Memory → ℕ → Done
commit_of m p =
    pick (eqb (pending_len_of m p) 0) (refused by_none_pending m)
    (pick (blocked_of m p) (refused by_blocked m)
    (let b = pop_of (buffer_of m p) in
    pick (there_of m (spot_of b.entry.store))
    (taken (applied_of (with_buffer m p b.buffer) b.entry.store))
    (refused by_free m)))

-- "A fence needs one's own buffer empty."
unfoldable pub fence_of : Memory → ℕ → Done
fence_of m p = pick (eqb (pending_len_of m p) 0) (taken m) (refused by_pending m)

-- "Lock needs the lock free."
unfoldable pub lock_of : Memory → ℕ → Done
lock_of m p = pick (eqb m.lock 0) (taken (with_lock m (p + 1))) (refused by_blocked m)

-- "Unlock needs one's own buffer empty and leaves the lock with nobody", whoever held it.
unfoldable pub unlock_of : Memory → ℕ → Done
unlock_of m p = pick (eqb (pending_len_of m p) 0) (taken (with_lock m 0)) (refused by_pending m)

-- "Allocation and freeing act on memory at once, unblocked." Null is no cell: allocating or freeing it is taken and
-- changes nothing.
-- A number above `max_cells` changes no array, only the set of occupied cells. Freeing a free cell is taken.
unfoldable pub allocate_of : Memory → ℕ → ℕ → Done
allocate_of m p c =
    pick (blocked_of m p) (refused by_blocked m)
    (pick (used_of m c) (refused by_occupied m) (taken (allocated_of m c)))

unfoldable pub free_of : Memory → ℕ → ℕ → Done
free_of m p c = pick (blocked_of m p) (refused by_blocked m) (taken (freed_of m c))
