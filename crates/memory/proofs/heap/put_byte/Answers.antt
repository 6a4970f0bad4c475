-- `memory::heap::put_byte` meets its contract. Assumes nothing.
use mir.Syntax.{w8}
use borrow.Author.Rules.{rules}
use borrow.Kind.Array.{good_length, e_int}
use Rattle.base.proofs.Picks.{picks}
use Rattle.memory.specs.Memories.{max_cells}
use Rattle.memory.proofs.Ends.{put_past}
use Rattle.memory.proofs.heap.put_byte.Goals as goal

pub returns-then-c-eq0 : goal.returns-then-c-eq0
returns-then-c-eq0 c = search (rules, picks)

pub returns-then-i-ge-CELLS : goal.returns-then-i-ge-CELLS
returns-then-i-ge-CELLS c =
    let a = c.args in
    put_past a.bytes a.c max_cells (good_length (e_int w8) max_cells a.bytes _ c.well_formed.0) c.if-c-eq0.false c.if-i-ge-CELLS.true a.byte

pub returns : goal.returns
returns c = search (rules, picks)
