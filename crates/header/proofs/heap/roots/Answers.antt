-- `header::heap::roots` meets its contract: each call gives the root set that the definition has at its place.
use Rattle.std.proofs.Common.{rules}
use Rattle.header.specs.Header.{cells_said, mutators_said, roots_in_of, roots_of}
use Rattle.header.proofs.Listed.{listed_calls}
use Rattle.header.proofs.heap.roots.Goals as goal

pub returns : goal.returns
unfolding roots_of
returns c =
    let log = c.args.log.now in
    listed_calls (roots_in_of log (cells_said log) (mutators_said log)) c.from_fn.ensures.items (λ i y q k. (search rules, search rules))
