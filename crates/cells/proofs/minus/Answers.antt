-- `cells::minus` meets its contract. Assumes nothing.
use Prim.Native.Nat.{◌-◌, ◌^◌}
use native.Mathlib.Omega.{arith}
use lib.Bits.{and_comm}
use Rattle.std.proofs.lemmas.Nat.{and-not}
use Rattle.cells.specs.Sets.{minus_of}
use Rattle.cells.proofs.minus.Goals as goal

pub returns : goal.returns
unfolding minus_of
returns c =
    let s = c.args.s in
    let t = c.args.t in
    omega (arith, and-not 64 t s c.ranges.t.fits c.ranges.s.fits, and_comm s t, and_comm s (2 ^ 64 - 1 - t))
