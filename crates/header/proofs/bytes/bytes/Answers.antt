-- `header::bytes::bytes` meets its contract.
use Rattle.std.proofs.Common.{rules, ◌+◌}
use Rattle.std.proofs.lemmas.List.{get_or-drop}
use Rattle.header.specs.Bytes.{byte_at}
use Rattle.header.proofs.Listed.{listed_calls}
use Rattle.header.proofs.bytes.bytes.Goals as goal

pub returns : goal.returns
returns g c =
    listed_calls (λ i. byte_at c.args.log.now (c.args.at + i)) c.from_fn.ensures.items
    (λ i y q k. (search rules, rw (← get_or-drop c.args.at c.args.log.now i 0, ← c.from-rest.ensures) (search rules)))
