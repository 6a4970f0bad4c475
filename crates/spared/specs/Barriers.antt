-- B14, B15 and B16: what a mutator stores, what it overwrites, and its roots. Assumes nothing.
use Rattle.std.specs.Prelude.{◌≡◌, true, false, List, ℕ, ◌≤◌, ◌<◌}
use Rattle.cells.specs.Sets.{Member, member_of}
use Rattle.buffers.specs.declared.Entry.{Entry}
use Rattle.memory.specs.declared.Memory.{Memory}
use Rattle.memory.specs.Memories.{field_of}
use Rattle.state.specs.declared.Process.{Process}
use Rattle.state.specs.declared.State.{State}
use Rattle.state.specs.States.{mutators_of, process_of}
use Rattle.formed.specs.Fits.{Among}
use Rattle.claims.specs.Pending.{waiting_of}
use Rattle.spared.specs.Shades.{NullOrMarked, Covered}
use Rattle.spared.specs.Holds.{FieldIn}
use Rattle.spared.specs.Zones.{store_places, insert_places, root_places, inserting, deleting}

-- of mutator q, whose pending stores are l
pub record Barrier (m : Memory) (l : List Entry) (q : Process) : Type 0 where
  -- B14, "mark y": what it stores is marked, from InitMark on
  pub inserts : inserting q.part.phase ≡ true → Among q.place insert_places → Covered m q q.y
  pub inserted : inserting q.part.phase ≡ true → (c f v : ℕ) → FieldIn l c f v → NullOrMarked m v
  -- B15, "mark the old": what it overwrites is marked, from Mark on
  pub deletes : deleting q.part.phase ≡ true → Among q.place store_places → Covered m q (field_of m q.x q.f)
  pub deleted : deleting q.part.phase ≡ true → (c f v : ℕ) → FieldIn l c f v → NullOrMarked m (field_of m c f)
  -- B16, "for roots, mark each root": those gone through are marked
  pub roots : Among q.place root_places → (c : ℕ) → Member q.roots c → member_of q.left c ≡ false → Covered m q c

abbrev pub Barriers : State → Type 0
Barriers s = (m : ℕ) → 0 < m → m ≤ mutators_of s → Barrier s.memory (waiting_of s m) (process_of s m)
