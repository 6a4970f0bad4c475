-- `buffers::Entry::fits` meets its contract. Assumes nothing.
use mathlib.Core.Path.{◌∙◌}
use borrow.Author.Tests.{le-ltb}
use Rattle.buffers.proofs.Wells.{unused_equal}
use Rattle.buffers.proofs.Entry.fits.Goals as goal

pub returns-else-i-len : goal.returns-else-i-len
returns-else-i-len c =
    c.eq.ensures ∙ unused_equal c.args.self c.empty.result c.empty.ensures ∙ rw (le-ltb c.args.i c.args.len c.if-i-len.false)
