-- Check 4: "an argument this place doesn't use isn't zero, or one it uses isn't offered: operation above 5, cell 0 or
-- above N, field above 1, not a root, not among those left". What each place offers, as a table over places and
-- stages, and when a choice is among it. Assumes nothing.
use Rattle.std.specs.Prelude.{◌≡◌, ◌⊎◌, Bool, ◌||◌, ◌&&◌, ℕ, ◌≤◌, ◌<◌, eqb}
use Rattle.base.specs.Pick.{pick}
use Rattle.cells.specs.Sets.{Member}
use Rattle.buffers.specs.Fits.{max_fields}
use Rattle.state.specs.declared.Process.{Process}
use Rattle.state.specs.declared.Choice.{Choice}
use Rattle.state.specs.Codes.{top, store_mark_old, store_mark_y, roots_mark, row1_round, row3_round, row4_round, row5_round, row6_round, row7_first, row7_mark, row7_next, row8_round, row10_look, look_stage, raise_stage, poll_stage}
use Rattle.state.specs.Choices.{field_left_of}

-- the places of a mark, and of a round
abbrev pub mark_place : ℕ → Bool
mark_place k = eqb k store_mark_old || eqb k store_mark_y || eqb k roots_mark || eqb k row7_mark

abbrev pub round_place : ℕ → Bool
round_place k = eqb k row1_round || eqb k row3_round || eqb k row4_round || eqb k row5_round || eqb k row6_round || eqb k row8_round

-- what a place offers: no argument at all, x from a set, x from a set and a field, a field from a set, or an operation
-- with its own arguments
pub data Offer : Type 0 where
  nothing : Offer
  one_of : ℕ → Offer
  scan : ℕ → Offer
  field : ℕ → Offer
  operation : Offer

-- "the choice x naming which remaining one at its first look"; "raise each flag once, x naming the mutator; poll, x
-- naming one still awaited"; "x from its list, named at the first read", "the choice's f names a field not yet
-- scanned"; "for each cell number, x naming one left"
unfoldable pub offer_of : Process → Offer
offer_of q =
    pick (eqb q.place top) operation
    (pick (eqb q.place roots_mark && eqb q.stage look_stage) (one_of q.left)
    (pick (round_place q.place && (eqb q.stage raise_stage || eqb q.stage poll_stage)) (one_of q.left)
    (pick (eqb q.place row7_first) (scan q.work)
    (pick (eqb q.place row7_next) (field q.left)
    (pick (eqb q.place row10_look) (one_of q.left)
    nothing)))))

-- every argument is zero; every argument but x is
pub record Bare (c : Choice) : Type 0 where
  pub op : c.op ≡ 0
  pub x : c.x ≡ 0
  pub f : c.f ≡ 0
  pub y : c.y ≡ 0

pub record OnlyX (c : Choice) : Type 0 where
  pub op : c.op ≡ 0
  pub f : c.f ≡ 0
  pub y : c.y ≡ 0

-- row 7's first read of a cell of s: any of its fields; the next: one of the fields left
pub record Scans (c : Choice) (s : ℕ) : Type 0 where
  pub op : c.op ≡ 0
  pub y : c.y ≡ 0
  pub field : c.f < max_fields
  pub cell : Member s c.x

pub record ScansOn (c : Choice) (l : ℕ) : Type 0 where
  pub op : c.op ≡ 0
  pub x : c.x ≡ 0
  pub y : c.y ≡ 0
  pub field : Member l (field_left_of c.f)

-- "At top the choice names an operation", of process q among n cells
pub data Operation (n : ℕ) (c : Choice) (q : Process) : Type 0 where
  allocates : c.op ≡ 0 → 0 < c.x → c.x ≤ n → c.f ≡ 0 → c.y ≡ 0 → Operation n c q
  drops : c.op ≡ 1 → Member q.roots c.x → c.f ≡ 0 → c.y ≡ 0 → Operation n c q
  reads : c.op ≡ 2 → Member q.roots c.x → c.f ≤ 1 → c.y ≡ 0 → Operation n c q
  stores : c.op ≡ 3 → Member q.roots c.x → c.f ≤ 1 → (c.y ≡ 0) ⊎ (Member q.roots c.y) → Operation n c q
  fences : c.op ≡ 4 → c.x ≡ 0 → c.f ≡ 0 → c.y ≡ 0 → Operation n c q
  answers : c.op ≡ 5 → c.x ≡ 0 → c.f ≡ 0 → c.y ≡ 0 → Operation n c q

-- the choice is among what is offered
abbrev pub AmongOffered : ℕ → Choice → Process → Offer → Type 0
AmongOffered n c q nothing = Bare c
AmongOffered n c q (one_of s) = OnlyX c × Member s c.x
AmongOffered n c q (scan s) = Scans c s
AmongOffered n c q (field l) = ScansOn c l
AmongOffered n c q operation = Operation n c q
