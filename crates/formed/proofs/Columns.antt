-- Each column of the table of uses: the test and the facts agree. Assumes nothing.
--     late_told, late_test           a bit that is noted from a stage on
--     store_told, store_test         the notes of a store
--     unnoted_told, unnoted_test     no notes
--     noted_told, noted_test         a cell x alone
--     mark_told, mark_test           the notes of a mark of the cell c
--     unmarked_told, unmarked_test   no mark
--     left_told, left_test           mutators left, from a round's third stage
--     columns, joined                the three columns of a place's row, apart and together
use mathlib.Core.Path.{◌≡◌}
use mathlib.Core.Bool.{Bool, true, false}
use Prim.Native.Nat.{ℕ, ◌<◌}
use native.Mathlib.Omega.{arith}
use lib.Dec.{eqb, leb}
use Rattle.base.specs.Pick.{pick}
use Rattle.base.specs.Every.{◌and◌}
use Rattle.base.proofs.Choices.{choices}
use Rattle.base.proofs.Everies.{and_both}
use Rattle.cells.specs.Sets.{no_cells, below_of}
use Rattle.cells.proofs.Belows.{below_empty}
use Rattle.buffers.specs.Fits.{IsCell, is_cell_of}
use Rattle.buffers.proofs.Wells.{cell_told, cell_test}
use Rattle.state.specs.declared.Process.{Process}
use Rattle.state.specs.Codes.{raise_stage}
use Rattle.formed.specs.declared.table.Uses.{Uses}
use Rattle.formed.specs.declared.table.Left.TheVariants as left
use Rattle.formed.specs.Uses.{uses_of}
use Rattle.formed.specs.Fits.{StoreNotes, Unnoted, MarkNotes, Unmarked}
use Rattle.formed.specs.WellFormed.{store_notes_fit_of, no_store_of, notes_fit_of, left_fits_of, no_mark_of, look_fits_of, grey_fits_of, mark_fits_of, stage_fits_of, place_fits_of}

pub late_told : (b : Bool) (k s : ℕ) → pick b (leb k s) true ≡ true → s < k → b ≡ false
late_told b k s e h = grind (arith, choices)

pub late_test : (b : Bool) (k s : ℕ) → (s < k → b ≡ false) → pick b (leb k s) true ≡ true
late_test b k s h = grind (arith, choices)

module _ (n : ℕ) (q : Process) where
  -- ---- the notes of an operation or a row
  pub store_told : store_notes_fit_of n q ≡ true → StoreNotes n q.x q.f q.y q.old
  unfolding store_notes_fit_of
  store_told e = grind (arith, choices, cell_told)

  pub store_test : StoreNotes n q.x q.f q.y q.old → store_notes_fit_of n q ≡ true
  unfolding store_notes_fit_of
  store_test w = grind (arith, choices, cell_test)

  -- f, y and old are zero
  pub record NoStore : Type 0 where
    pub no_f : q.f ≡ 0
    pub no_y : q.y ≡ 0
    pub no_old : q.old ≡ 0

  no_store_told : no_store_of q ≡ true → NoStore
  unfolding no_store_of
  no_store_told e = grind (arith, choices)

  no_store_test : NoStore → no_store_of q ≡ true
  unfolding no_store_of
  no_store_test w = grind (arith, choices)

  pub unnoted_told : eqb q.x 0 and no_store_of q ≡ true → Unnoted q.x q.f q.y q.old
  unnoted_told e = grind (arith, choices, no_store_told)

  pub unnoted_test : Unnoted q.x q.f q.y q.old → eqb q.x 0 and no_store_of q ≡ true
  unnoted_test w = grind (arith, choices, no_store_test)

  pub noted_told : is_cell_of n q.x and no_store_of q ≡ true → IsCell n q.x × NoStore
  noted_told e = let a = and_both (is_cell_of n q.x) (no_store_of q) e in (cell_told n q.x a.0, no_store_told a.1)

  pub noted_test : IsCell n q.x → NoStore → is_cell_of n q.x and no_store_of q ≡ true
  noted_test h w = rw (cell_test n q.x h) (no_store_test w)

  -- ---- the notes of a mark
  pub mark_told : (c : ℕ) → mark_fits_of n c q ≡ true → MarkNotes n q.stage c q.look q.grey
  unfolding mark_fits_of look_fits_of grey_fits_of
  mark_told c e = record {
    cell_named = cell_told n c (grind (arith, choices));
    begun = grind (arith, choices);
    running = grind (arith, choices);
    no_look = λ l. grind (arith, choices);
    no_grey = λ l. grind (arith, choices);
    is_grey = grind (arith, choices);
  }

  pub mark_test : (c : ℕ) → MarkNotes n q.stage c q.look q.grey → mark_fits_of n c q ≡ true
  unfolding mark_fits_of look_fits_of grey_fits_of
  mark_test c w = grind (arith, choices, cell_test)

  pub unmarked_told : no_mark_of q ≡ true → Unmarked q.cell q.look q.grey
  unfolding no_mark_of
  unmarked_told e = grind (arith, choices)

  pub unmarked_test : Unmarked q.cell q.look q.grey → no_mark_of q ≡ true
  unfolding no_mark_of
  unmarked_test w = grind (arith, choices)

  -- ---- mutators left
  pub left_told : (m : ℕ) → left_fits_of left.Mutators n m q ≡ true → (q.stage < raise_stage → q.left ≡ no_cells) × (below_of q.left m ≡ true)
  unfolding left_fits_of
  left_told m e = (λ l. grind (arith, choices), grind (arith, choices, below_empty))

  pub left_test : (m : ℕ) → (q.stage < raise_stage → q.left ≡ no_cells) → below_of q.left m ≡ true → left_fits_of left.Mutators n m q ≡ true
  unfolding left_fits_of
  left_test m z h = grind (arith, choices)

  -- ---- a place's row
  pub record Columns (m : ℕ) (u : Uses) : Type 0 where
    pub notes : notes_fit_of u.notes n q ≡ true
    pub left : left_fits_of u.left n m q ≡ true
    pub stage : stage_fits_of u.stage n q ≡ true

  pub columns : (m : ℕ) (u : Uses) → uses_of q.place ≡ u → place_fits_of n m q ≡ true → Columns m u
  unfolding place_fits_of
  columns m u h e = grind (arith, choices)

  pub joined : (m : ℕ) (u : Uses) → uses_of q.place ≡ u → Columns m u → place_fits_of n m q ≡ true
  unfolding place_fits_of
  joined m u h w = grind (arith, choices)
