-- `buffers::Buffer::source` meets its contract. Assumes nothing.
use mathlib.Core.Path.{sym}
use Rattle.buffers.specs.Buffers.{pending_of}
use Rattle.buffers.proofs.Nearest.{own_exactly, memory_exactly}
use Rattle.buffers.proofs.Buffer.source.Goals as goal

pub returns-in-Some : goal.returns-in-Some
returns-in-Some c = sym ((own_exactly c.args.at (pending_of c.args.self) c.in-Some.place).1 c.in-Some.ensures.found)

pub returns-in-None : goal.returns-in-None
returns-in-None c = sym ((memory_exactly c.args.at (pending_of c.args.self)).1 c.in-None.ensures.none)
