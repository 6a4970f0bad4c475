-- B2: what a running store or a root answer notes. Assumes nothing.
use Rattle.std.specs.Prelude.{◌≡◌, ◌⊎◌, ◌<◌}
use Rattle.cells.specs.Sets.{Member, Sub}
use Rattle.state.specs.declared.Process.{Process}
use Rattle.state.specs.declared.State.{State}
use Rattle.state.specs.Codes.{roots_mark, look_stage}
use Rattle.formed.specs.Fits.{Among}
use Rattle.spared.specs.Holds.{Every}
use Rattle.spared.specs.Zones.{store_places}

-- "store y (a root or 0) in field f of root x"; "mark each root, the choice x naming which remaining one"
pub record NotesOf (q : Process) : Type 0 where
  pub x : Among q.place store_places → Member q.roots q.x
  pub y : Among q.place store_places → (q.y ≡ 0) ⊎ Member q.roots q.y
  pub left : q.place ≡ roots_mark → Sub q.left q.roots
  pub cell : q.place ≡ roots_mark → look_stage < q.stage → Member q.roots q.cell

abbrev pub Notes : State → Type 0
Notes s = Every s NotesOf
