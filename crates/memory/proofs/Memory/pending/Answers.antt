-- `memory::Memory::pending` meets its contract. Assumes nothing.
use mathlib.Core.Path.{refl}
use borrow.Author.Rules.{rules}
use Rattle.base.proofs.Lists.{beyond, carried}
use Rattle.memory.specs.Memories.{max_processes, no_buffer}
use Rattle.memory.proofs.Memory.pending.Goals as goal

pub returns-then-i-ge-PROCESSES : goal.returns-then-i-ge-PROCESSES
returns-then-i-ge-PROCESSES c = let a = c.args in rw (beyond a.self.buffers no_buffer a.p max_processes (search (rules, carried)) c.if-i-ge-PROCESSES.true) refl
