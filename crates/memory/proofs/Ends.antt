-- Past the end of an array: a cell whose number is too large for it. Assumes nothing.
--     read_past     such a cell reads as zero
--     put_past      nothing is put there
use Prim.Native.Nat.{ℕ, ◌-◌, ◌≤◌}
use mathlib.Core.Path.{◌≡◌, sym}
use mathlib.Core.List.{List}
use lib.ListN.{length}
use borrow.Author.Tests.{ne_eqb}
use Rattle.base.proofs.Lists.{past, unset}
use Rattle.memory.specs.Memories.{at_cell, put_cell}

module _ {A : Type 0} (l : List A) (c n : ℕ) (e : length l ≡ n) (some : c ≡ 0 → ⊥) (h : n ≤ c - 1) where
  pub read_past : (zero : A) → zero ≡ at_cell l c zero
  read_past zero = rw (ne_eqb c 0 some) (past A l zero (c - 1) n e h)

  pub put_past : (v : A) → l ≡ put_cell l c v
  put_past v = rw (ne_eqb c 0 some) (sym (unset l (c - 1) n v e h))
