-- What an opened log is known by. Assumes nothing.
--     open_admitted, open_refused    `open_of` where the tests hold, and where one fails
--     long_enough, not_long          its size
use mathlib.Core.Path.{◌≡◌, refl}
use mathlib.Core.Bool.{true, false}
use mathlib.Core.List.{List}
use Prim.Native.Nat.{ℕ, ◌≤◌}
use lib.ListN.{length}
use borrow.Author.Tests.{leb-true}
use Rattle.header.specs.Header.{max_log, size_of, admitted_of, heap_of, opened, unopened, open_of}
use Rattle.header.proofs.Agrees.{tests}

pub open_admitted : (log : List ℕ) → admitted_of log ≡ true → open_of log ≡ opened (heap_of log)
unfolding open_of
open_admitted log e = rw e refl

pub open_refused : (log : List ℕ) → admitted_of log ≡ false → open_of log ≡ unopened
unfolding open_of
open_refused log e = rw e refl

pub long_enough : (log : List ℕ) → admitted_of log ≡ true → size_of log ≤ length log
long_enough log e = leb-true (size_of log) (length log) (tests log e).short

pub not_long : (log : List ℕ) → admitted_of log ≡ true → length log ≤ max_log
not_long log e = leb-true (length log) max_log (tests log e).long
