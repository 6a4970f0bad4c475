-- What each deed of the table of deeds does to memory. Assumes nothing.
use Rattle.std.specs.Prelude.{◌≡◌, ℕ}
use Rattle.memory.specs.declared.Memory.{Memory}
use Rattle.memory.specs.Memories.{taken}
use Rattle.memory.specs.Steps.{write_of, fence_of, lock_of, unlock_of, allocate_of, free_of}
use Rattle.model.specs.Deeds.{Deed}

-- process p does the deed, and takes memory from m to n: reads, and what is apart from memory, leave it as it is
abbrev pub Does : Deed → ℕ → Memory → Memory → Type 0
Does (Deed.reads at) p m n = n ≡ m
Does (Deed.sweeps x) p m n = n ≡ m
Does (Deed.writes v) p m n = write_of m p (record { store = v }) ≡ taken n
Does Deed.fences p m n = fence_of m p ≡ taken n
Does Deed.locks p m n = lock_of m p ≡ taken n
Does Deed.unlocks p m n = unlock_of m p ≡ taken n
Does (Deed.allocates x) p m n = allocate_of m p x ≡ taken n
Does (Deed.frees x) p m n = free_of m p x ≡ taken n
Does Deed.apart p m n = n ≡ m
