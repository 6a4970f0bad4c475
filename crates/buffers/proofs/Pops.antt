-- Whether a pop is taken, as the test of the length. Assumes nothing.
use Rattle.std.proofs.Common.{◌≡◌, ◌∙◌, refl, Bool, true, false}
use Rattle.std.specs.Prelude.{not, eqb}
use Rattle.base.specs.Pick.{pick}
use Rattle.buffers.specs.declared.Buffer.{Buffer}
use Rattle.buffers.specs.Buffers.{Popped, pop_of}

told : (t : Bool) (x y : Popped) → x.taken ≡ false → y.taken ≡ true → (pick t x y).taken ≡ not t
told true x y e f = e
told false x y e f = f

module _ (b : Buffer) where
  pub pop_taken : (pop_of b).taken ≡ not (eqb b.len 0)
  unfolding pop_of
  pop_taken = told (eqb b.len 0) _ _ refl refl

  -- of nothing it is refused; of something it is taken
  pub pop_none_pending : false ≡ (pop_of b).taken → eqb b.len 0 ≡ true
  pop_none_pending e = go (eqb b.len 0) (e ∙ pop_taken)
    where
      go : (t : Bool) → false ≡ not t → t ≡ true
      go true e = refl
      go false e = e

  pub pop_some_pending : true ≡ (pop_of b).taken → eqb b.len 0 ≡ false
  pop_some_pending e = go (eqb b.len 0) (e ∙ pop_taken)
    where
      go : (t : Bool) → true ≡ not t → t ≡ false
      go false e = refl
      go true e = e
