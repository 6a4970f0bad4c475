-- The words of the published claim about marks: marked, safe, covered; the snapshot. Assumes nothing.
use Rattle.std.specs.Prelude.{◌≡◌, true, ◌⊎◌, ℕ}
use Rattle.memory.specs.declared.Memory.{Memory}
use Rattle.memory.specs.Memories.{used_of, mark_of}
use Rattle.state.specs.declared.Process.{Process}
use Rattle.state.specs.declared.State.{State}
use Rattle.model.specs.Rows.{Marks}
use Rattle.reach.specs.Reach.{Reach}
use Rattle.verdict.specs.Colours.{Grey, Black}

-- occupied, and its mark is memory's fM: neither free nor white
pub record Marked (m : Memory) (c : ℕ) : Type 0 where
  pub occupied : used_of m c ≡ true
  pub equal : mark_of m c ≡ m.fm

-- null or marked
abbrev pub NullOrMarked : Memory → ℕ → Type 0
NullOrMarked m v = (v ≡ 0) ⊎ Marked m v

-- null, marked, or the cell that q is marking
pub data Covered (m : Memory) (q : Process) (v : ℕ) : Type 0 where
  safe : NullOrMarked m v → Covered m q v
  now : Marks q v → Covered m q v

-- of all cells
abbrev pub AllMarked : Memory → Type 0
AllMarked m = (c : ℕ) → used_of m c ≡ true → Marked m c

abbrev pub NoGrey : State → Type 0
NoGrey s = (c : ℕ) → Grey s c → ⊥

abbrev pub NoBlack : State → Type 0
NoBlack s = (c : ℕ) → Black s c → ⊥

-- reached from the marked cells through memory's fields: marked, or still protected by a marked one
abbrev pub Snap : Memory → ℕ → Type 0
Snap m = Reach m (Marked m)
