-- `memory::heap::byte_at` meets its contract. Assumes nothing.
use mir.Syntax.{w8}
use borrow.Author.Rules.{rules}
use borrow.Kind.Array.{good_length, e_int}
use Rattle.base.proofs.Picks.{picks}
use Rattle.memory.specs.Memories.{max_cells}
use Rattle.memory.proofs.Ends.{read_past}
use Rattle.memory.proofs.heap.byte_at.Goals as goal

pub returns-then-c-eq0 : goal.returns-then-c-eq0
returns-then-c-eq0 c = search (rules, picks)

pub returns-then-i-ge-CELLS : goal.returns-then-i-ge-CELLS
returns-then-i-ge-CELLS c =
    let a = c.args in
    read_past a.bytes a.c max_cells (good_length (e_int w8) max_cells a.bytes _ c.well_formed.0) c.if-c-eq0.false c.if-i-ge-CELLS.true 0

pub returns : goal.returns
returns c = search (rules, picks)
