-- `buffers::Buffer::well_formed` meets its contract. Assumes nothing.
use mathlib.Core.Bool.{true, false}
use mathlib.Core.Path.{◌≡◌, refl}
use Prim.Native.Nat.{ℕ, ◌<◌}
use lib.ListN.{length}
use borrow.Author.Rules.{rules}
use borrow.Author.Tests.{le-leb, lt-leb, eq-eqb}
use Rattle.std.proofs.iter.runs.Made.{chains}
use Rattle.base.proofs.Lists.{carried}
use Rattle.buffers.proofs.Wells.{every_is}
use Rattle.buffers.specs.Buffers.{max_stores}
use Rattle.buffers.specs.Fits.{entry_at_of, buffer_fits_of}
use Rattle.buffers.proofs.Buffer.well_formed.Goals as goal

pub returns-then-self-gt-MAX : goal.returns-then-self-gt-MAX
unfolding buffer_fits_of
returns-then-self-gt-MAX c =
    let b = c.args.self in
    let e : length b.entries ≡ max_stores = search (rules, carried) in
    rw (eq-eqb _ _ e, lt-leb _ _ c.if-self-gt-MAX.true) refl

pub returns : goal.returns
unfolding buffer_fits_of
returns c =
    let a = c.args in
    let e : length a.self.entries ≡ max_stores = search (rules, carried) in
    let all : c.all.result ≡ true → (k : ℕ) → k < length a.self.entries → true ≡ entry_at_of a.n a.self k = search (rules, chains) in
    let some : c.all.result ≡ false → (k : ℕ) × (k < length a.self.entries) × (false ≡ entry_at_of a.n a.self k) = search (rules, chains) in
    rw (eq-eqb _ _ e, le-leb _ _ c.if-self-gt-MAX.false) (every_is (entry_at_of a.n a.self) c.all.result max_stores (rw e at all) (rw e at some))
