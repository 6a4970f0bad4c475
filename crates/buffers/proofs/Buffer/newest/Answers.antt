-- `buffers::Buffer::newest` meets its contract. Assumes nothing.
use native.Mathlib.Omega.{arith}
use lib.ListN.{length-take}
use Rattle.std.proofs.lemmas.List.{get_or-take}
use borrow.Author.Rules.{rules}
use Rattle.buffers.specs.Stores.{no_entry}
use Rattle.buffers.specs.Buffers.{pending_of}
use Rattle.buffers.proofs.Nearest.{newest_found, newest_missed}
use Rattle.buffers.proofs.Buffer.newest.Goals as goal

pub returns-in_err-place : goal.returns-in_err-place
returns-in_err-place c =
    rw (newest_missed c.args.at (pending_of c.args.self) c.in_err-place.ensures.none) (search rules)

pub returns : goal.returns
returns c =
    let b = c.args.self in
    let i = c.in_ok-place.place in
    let h = c.in_ok-place.ensures.found in
    rw (newest_found c.args.at (pending_of b) i h, get_or-take b.len b.entries i no_entry (let t = h.there in omega (arith, length-take b.len b.entries)))
