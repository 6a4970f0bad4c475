-- `header::heap::fields` meets its contract: each call gives the field that the definition has at its place.
use Rattle.std.proofs.Common.{rules}
use Rattle.header.specs.Header.{cells_said, field_in_of, fields_of}
use Rattle.header.proofs.Listed.{listed_calls}
use Rattle.header.proofs.heap.fields.Goals as goal

pub returns : goal.returns
unfolding fields_of
returns c =
    let log = c.args.log.now in
    listed_calls (field_in_of log (cells_said log) c.args.f) c.from_fn.ensures.items (λ i y q k. (search rules, search rules))
