-- What a process has pending, and what it sees: the two names that memory's laws are said in. Assumes nothing.
use Rattle.std.specs.Prelude.{ℕ, List}
use Rattle.buffers.specs.declared.Store.{Store}
use Rattle.buffers.specs.declared.Spot.{Spot}
use Rattle.buffers.specs.declared.Entry.{Entry}
use Rattle.buffers.specs.Buffers.{pending_of}
use Rattle.memory.specs.declared.Memory.{Memory}
use Rattle.memory.specs.Memories.{buffer_of}
use Rattle.memory.specs.Looks.{seen_of}

-- "Each owns a FIFO buffer of at most 8 pending stores", "oldest store first": the stores of the process as a list
unfoldable pub pending_for : Memory → ℕ → List Entry
pending_for m p = pending_of (buffer_of m p)

-- "the newest matching store of the reader's own buffer, else memory": what the process sees at the spot, whether or
-- not a read is taken
unfoldable pub view_of : Memory → ℕ → Spot → Store
view_of m p at = seen_of m p at
