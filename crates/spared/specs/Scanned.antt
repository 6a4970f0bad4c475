-- B18: the cell in hand of row 7. Assumes nothing.
use Rattle.std.specs.Prelude.{◌≡◌, true, false, ℕ, ◌<◌}
use Rattle.cells.specs.Sets.{Member, member_of}
use Rattle.buffers.specs.Fits.{max_fields}
use Rattle.memory.specs.declared.Memory.{Memory}
use Rattle.memory.specs.Memories.{used_of, field_of}
use Rattle.state.specs.declared.Process.{Process}
use Rattle.state.specs.declared.State.{State}
use Rattle.state.specs.States.{process_of}
use Rattle.state.specs.Choices.{field_left_of}
use Rattle.model.specs.Rows.{Marks}
use Rattle.spared.specs.Shades.{Covered}
use Rattle.spared.specs.Zones.{in_hand}

-- the collector q: its x is on its list, the cell that it marks is occupied, and each field of x that is not left is
-- null, marked or the cell that it marks
pub record ScannedBy (m : Memory) (q : Process) : Type 0 where
  pub listed : in_hand q.place ≡ true → Member q.work q.x
  pub occupied : {r : ℕ} → Marks q r → used_of m r ≡ true
  pub scanned : in_hand q.place ≡ true → (g : ℕ) → g < max_fields → member_of q.left (field_left_of g) ≡ false → Covered m q (field_of m q.x g)

abbrev pub Scanned : State → Type 0
Scanned s = ScannedBy s.memory (process_of s 0)
