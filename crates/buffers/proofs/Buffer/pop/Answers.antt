-- `buffers::Buffer::pop` meets its contract. Assumes nothing.
use mathlib.Core.Path.{◌≡◌}
use lib.ListN.{length}
use borrow.Author.Rules.{rules}
use borrow.Author.Tests.{ne_eqb}
use Rattle.base.proofs.Lists.{carried}
use Rattle.buffers.specs.Stores.{no_entry}
use Rattle.buffers.specs.Buffers.{max_stores, pop_of}
use Rattle.buffers.proofs.Fifos.{turned}
use Rattle.buffers.proofs.Buffer.pop.Goals as goal

pub returns : goal.returns
unfolding pop_of
returns c =
    let l = c.args.self.entries in
    let e : length l ≡ max_stores = search (rules, carried) in
    simp (ne_eqb _ _ c.if-self-eq0.false, c.empty.ensures, c.rotate_left.ensures.after, turned l 7 no_entry e)
