-- B8 and B10: the end of marking. Assumes nothing.
use Rattle.std.specs.Prelude.{◌≡◌, true, false}
use Rattle.cells.specs.Sets.{no_cells}
use Rattle.state.specs.declared.Process.{Process}
use Rattle.state.specs.declared.State.{State}
use Rattle.state.specs.States.{process_of}
use Rattle.spared.specs.Shades.{NoGrey}
use Rattle.spared.specs.Holds.{Every}
use Rattle.spared.specs.Zones.{quiet, gathers}

-- B8: from the end of marking to the fence of row 3 no cell is grey
abbrev pub QuietZone : State → Type 0
QuietZone s = quiet (process_of s 0).place (process_of s 0).stage ≡ true → NoGrey s

-- nothing listed and nothing being greyed
pub record Empty (q : Process) : Type 0 where
  pub work : q.work ≡ no_cells
  pub grey : q.grey ≡ 0

-- B10: in the rounds of rows 6 and 8, if the system has got nothing and those not in step have nothing, nobody has
abbrev pub MarkingEnds : State → Type 0
MarkingEnds s =
    gathers (process_of s 0).place (process_of s 0).stage ≡ true → s.system.work ≡ no_cells →
    Every s (λ q. q.part.in_step ≡ false → Empty q) → Every s Empty
