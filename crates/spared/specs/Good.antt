-- B11 and B12: what is held and what it leads to. Assumes nothing.
use Rattle.std.specs.Prelude.{◌≡◌, true, ℕ}
use Rattle.memory.specs.Memories.{used_of}
use Rattle.state.specs.declared.State.{State}
use Rattle.state.specs.States.{process_of}
use Rattle.reach.specs.Held.{Held}
use Rattle.reach.specs.Reach.{Names}
use Rattle.spared.specs.Shades.{Marked}
use Rattle.spared.specs.Zones.{in_sweep}

-- occupied, and marked while the sweep runs
pub record Good (s : State) (c : ℕ) : Type 0 where
  pub occupied : used_of s.memory c ≡ true
  pub marked : in_sweep (process_of s 0).place ≡ true → Marked s.memory c

-- B11: no held reference is free, and none is white while the sweep runs
abbrev pub HeldGood : State → Type 0
HeldGood s = (c : ℕ) → Held s c → Good s c

-- B12: good cells lead to good cells
abbrev pub Closed : State → Type 0
Closed s = (c d : ℕ) → Good s c → Names s.memory c d → Good s d
