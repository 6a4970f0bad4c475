-- What is in use at each place, in three columns: a row for each place of the two programs. Assumes nothing.
use Rattle.std.specs.Prelude.{List, [], ◌∷◌, ℕ, get_or}
use Rattle.formed.specs.declared.table.Notes.{Notes}
use Rattle.formed.specs.declared.table.Notes.TheVariants as note
use Rattle.formed.specs.declared.table.Left.{Left}
use Rattle.formed.specs.declared.table.Left.TheVariants as left
use Rattle.formed.specs.declared.table.Stages.{Stages}
use Rattle.formed.specs.declared.table.Stages.TheVariants as stage
use Rattle.formed.specs.declared.table.Uses.{Uses}

-- a row: the notes of an operation or a row of the program, what is left to be named, the stage
abbrev pub row : Notes → Left → Stages → Uses
row n l s = record { notes = n; left = l; stage = s }

-- the rows that stand at several places
abbrev pub nothing_row : Uses
nothing_row = row note.Nothing left.Nothing stage.Nothing

abbrev pub round_row : Uses
round_row = row note.Nothing left.Mutators stage.Round

abbrev pub uses_table : List Uses
uses_table =
    nothing_row ∷  -- 0 top
    row note.Store left.Nothing stage.Old ∷  -- 1 store: mark the old
    row note.Store left.Nothing stage.Y ∷  -- 2 store: mark y
    row note.Store left.Nothing stage.Nothing ∷  -- 3 store: write
    nothing_row ∷ nothing_row ∷  -- 4, 5 no-op: fence, finish
    nothing_row ∷ row note.Nothing left.Cells stage.Named ∷ nothing_row ∷  -- 6, 7, 8 roots: fence, mark each, finish
    nothing_row ∷ nothing_row ∷  -- 9, 10 work: fence, finish
    round_row ∷  -- 11 row 1: round
    nothing_row ∷ nothing_row ∷  -- 12, 13 row 2: read fM, write fM
    round_row ∷  -- 14 row 3: round
    nothing_row ∷ round_row ∷  -- 15, 16 row 4: write phase, round
    nothing_row ∷ nothing_row ∷ round_row ∷  -- 17, 18, 19 row 5: write phase, write fA, round
    round_row ∷ nothing_row ∷  -- 20, 21 row 6: round, take
    nothing_row ∷ row note.Cell left.Fields stage.Cell ∷ row note.Cell left.Fields stage.Nothing ∷ row note.Cell left.Nothing stage.Nothing ∷  -- 22 to 25 row 7: first read, mark, next read, drop
    round_row ∷ nothing_row ∷  -- 26, 27 row 8: round, take
    nothing_row ∷  -- 28 row 9
    row note.Nothing left.Cells stage.Nothing ∷ row note.Cell left.Cells stage.Nothing ∷  -- 29, 30 row 10: look, free
    nothing_row ∷  -- 31 row 11
    []

-- the mutator's places are 0 to 10, the collector's 11 to 31
abbrev pub max_places : ℕ
max_places = 32

abbrev pub uses_of : ℕ → Uses
uses_of place = get_or uses_table place nothing_row
