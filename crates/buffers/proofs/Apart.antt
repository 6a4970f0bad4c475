-- The views of what a push and a pop come to tell any two answers apart. Assumes nothing.
use Rattle.std.proofs.Common.{◌≡◌, refl}
use Rattle.std.specs.Prelude.{Option, Some, None}
use Rattle.base.specs.Pick.{pick}
use Rattle.base.specs.Answers.{TellsApart}
use Rattle.base.proofs.Answers.{undone}
use Rattle.buffers.specs.declared.Entry.{Entry}
use Rattle.buffers.specs.declared.Buffer.{Buffer}
use Rattle.buffers.specs.Buffers.{pushed_as, popped_as}

-- of the buffer b
module _ (b : Buffer) where
  pub pushed_as_apart : TellsApart (pushed_as b)
  pushed_as_apart = undone (pushed_as b) (λ k. pick k.taken (Some k.buffer) None) back
    where
      back : (r : Option Buffer) → pick (pushed_as b r).taken (Some (pushed_as b r).buffer) None ≡ r
      back None = refl
      back (Some n) = refl

  pub popped_as_apart : TellsApart (popped_as b)
  popped_as_apart = undone (popped_as b) (λ k. pick k.taken (Some (k.entry, k.buffer)) None) back
    where
      back : (r : Option (Entry × Buffer)) → pick (popped_as b r).taken (Some ((popped_as b r).entry, (popped_as b r).buffer)) None ≡ r
      back None = refl
      back (Some (e, n)) = refl
