-- `header::heap::used` meets its contract: after i turns of the loop the set is that of the first i cells.
use Rattle.std.proofs.Common.{◌≡◌}
use Rattle.header.specs.Header.{used_among}
use Rattle.header.proofs.heap.used.Given as goal

abbrev pub invariant-loop-i : goal.invariant-loop-i
invariant-loop-i l = l.used ≡ used_among l.log l.i
