-- B6 and B7: from the sweep's end to the flip, and from the flip until fA follows. Assumes nothing.
use Rattle.std.specs.Prelude.{◌≡◌, Bool, true}
use Rattle.buffers.specs.declared.Store.TheVariants as store
use Rattle.state.specs.declared.State.{State}
use Rattle.state.specs.States.{process_of}
use Rattle.claims.specs.Pending.{waiting_of}
use Rattle.spared.specs.Shades.{AllMarked, NoBlack}
use Rattle.spared.specs.Holds.{StoreIn}
use Rattle.spared.specs.Zones.{rests}

-- B6: every occupied cell is marked from the sweep's end to the flip: at those places, and while a store of fM waits
pub record Rested (s : State) : Type 0 where
  pub at : rests (process_of s 0).place ≡ true → AllMarked s.memory
  pub flip : {b : Bool} → StoreIn (waiting_of s 0) (store.Sense b) → AllMarked s.memory

-- B7: from the flip until fA follows, what is marked is grey
abbrev pub Blank : State → Type 0
Blank s = (s.memory.fa ≡ s.memory.fm → ⊥) → NoBlack s
