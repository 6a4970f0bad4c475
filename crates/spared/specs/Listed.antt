-- B5 and B9: the work lists. Assumes nothing.
use Rattle.std.specs.Prelude.{◌≡◌, false, ℕ}
use Rattle.cells.specs.Sets.{no_cells, Member}
use Rattle.state.specs.declared.State.{State}
use Rattle.state.specs.States.{process_of}
use Rattle.spared.specs.Shades.{Marked}
use Rattle.spared.specs.Zones.{in_scan}

-- B5: a listed cell is marked
pub record Listed (s : State) : Type 0 where
  pub gathered : (c : ℕ) → Member s.system.work c → Marked s.memory c
  pub listed : (p c : ℕ) → Member (process_of s p).work c → Marked s.memory c

-- B9: outside row 7 the collector's list is empty
abbrev pub Unlisted : State → Type 0
Unlisted s = in_scan (process_of s 0).place ≡ false → (process_of s 0).work ≡ no_cells
