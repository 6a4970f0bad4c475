-- What opening a log gives tells any two answers apart: a heap, or "stop 12". Assumes nothing.
use Rattle.std.proofs.Common.{◌≡◌, refl}
use Rattle.std.specs.Prelude.{Option, Some, None, eqb}
use Rattle.base.specs.Pick.{pick}
use Rattle.base.specs.Answers.{TellsApart}
use Rattle.base.proofs.Answers.{undone}
use Rattle.state.specs.declared.opening.Heap.{Heap}
use Rattle.header.specs.Header.{Opened, told}

abbrev heap_in : Opened → Option Heap
heap_in k = pick (eqb k.no 0) (Some k.heap) None

heap_back : (h : Option Heap) → heap_in (told h) ≡ h
heap_back (Some h) = refl
heap_back None = refl

pub told_apart : TellsApart told
told_apart = undone told heap_in heap_back
