-- `buffers::Buffer::newest_place` meets its contract. Assumes nothing.
use mathlib.Core.Path.{◌≡◌}
use lib.ListN.{take}
use borrow.Author.Rules.{rules}
use Rattle.std.proofs.iter.runs.Made.{chains}
use Rattle.base.proofs.Lists.{carried, take_clamped}
use Rattle.buffers.specs.Buffers.{max_stores, pending_of}
use Rattle.buffers.proofs.Nearest.{place_found, place_none}
use Rattle.buffers.proofs.Buffer.newest_place.Goals as goal

pub returns : goal.returns
returns c =
    let b = c.args.self in
    let e : take c.pending.result b.entries ≡ pending_of b = take_clamped b.len max_stores c.pending.result b.entries (search (rules, carried)) c.pending.ensures in
    record {
      none = rw (← e) (place_none c.args.at (take c.pending.result b.entries) c.rposition.result (search (rules, chains)));
      found = rw (← e) (place_found c.args.at (take c.pending.result b.entries) c.rposition.result (search (rules, chains)) (search (rules, chains)) (search (rules, chains)));
    }
