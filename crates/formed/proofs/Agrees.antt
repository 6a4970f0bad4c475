-- Each process: the test and the facts agree. Assumes nothing.
--     mutator_told, mutator_test         a mutator
--     collector_told, collector_test     the collector
--     nobody_told, nobody_test           a process above M
use mathlib.Core.Path.{◌≡◌, refl, ap}
use mathlib.Core.Bool.{true, false}
use mathlib.Core.Logic.{◌⊎◌, inl, inr, ⊎_elim}
use Prim.Native.Nat.{ℕ, ◌<◌}
use native.Mathlib.Decide.{ℕ_discrete}
use native.Mathlib.Omega.{arith}
use lib.Dec.{eqb, ltb, leb}
use borrow.Author.Tests.{leb-true, ltb-true, eqb-true, lt-ltb, le-leb, eq-eqb, ne_eqb}
use Rattle.base.specs.Pick.{pick}
use Rattle.base.specs.Every.{◌and◌}
use Rattle.base.proofs.Choices.{choices}
use Rattle.base.proofs.Everies.{and_both, unless}
use Rattle.cells.specs.Sets.{no_cells}
use Rattle.state.specs.declared.Handshake.{Handshake}
use Rattle.state.specs.declared.Handshake.TheVariants as hand
use Rattle.state.specs.declared.Part.{Part}
use Rattle.state.specs.declared.Process.{Process}
use Rattle.state.specs.Codes.{top, work_finish, row1_round, row11_write, no_stage, look_stage, phase_stage, poll_stage}
use Rattle.state.specs.States.{no_part, no_process, phase_number}
use Rattle.formed.specs.declared.table.Notes.TheVariants as note
use Rattle.formed.specs.declared.table.Left.TheVariants as left
use Rattle.formed.specs.declared.table.Stages.TheVariants as stage
use Rattle.formed.specs.Uses.{row, nothing_row, round_row, uses_of}
use Rattle.formed.specs.Fits.{Unnoted, Unmarked, StoreMark, RootsFirst, RootsRest, MutatorAt, idle, mark_old, mark_y, write, roots_first, roots_rest, MutatorFits, CollectorAt, plain, round, scan_mark, scan, drop, sweep, sweep_free, CollectorFits}
use Rattle.formed.specs.WellFormed.{no_store_of, notes_fit_of, left_fits_of, no_mark_of, mark_fits_of, named_fits_of, round_fits_of, stage_fits_of, place_fits_of, sense_fits_of, mutator_fits_of, no_part_of, collector_fits_of, nobody_of}
use Rattle.formed.proofs.Columns.{late_told, late_test, store_told, store_test, NoStore, unnoted_told, unnoted_test, noted_told, noted_test, mark_told, mark_test, unmarked_told, unmarked_test, left_told, left_test, columns, joined}
use Rattle.formed.proofs.Places.{MutatorPlace, is_idle_lem, is_mark_old, is_mark_y, is_write, is_roots, mutator_place, CollectorPlace, is_plain, is_round_lem, is_scan_mark, is_scan, is_drop, is_sweep, is_sweep_free, collector_place, uses_idle, uses_plain, uses_round, idle_mutator, is_collectors, plain_collector, round_collector}

-- ---- a mutator
module _ (n m : ℕ) (q : Process) where
  -- a place with no stage
  resting : stage_fits_of stage.Nothing n q ≡ true → (q.stage ≡ no_stage) × Unmarked q.cell q.look q.grey
  unfolding stage_fits_of
  resting e = grind (arith, choices, unmarked_told)

  resting_test : q.stage ≡ no_stage → Unmarked q.cell q.look q.grey → stage_fits_of stage.Nothing n q ≡ true
  unfolding stage_fits_of
  resting_test z w = grind (arith, choices, unmarked_test)

  -- the mark of a cell that is kept elsewhere
  storing : (c : ℕ) → eqb q.cell 0 and mark_fits_of n c q ≡ true → notes_fit_of note.Store n q ≡ true → left_fits_of left.Nothing n m q ≡ true → (q.stage < phase_stage → q.sense ≡ false) → StoreMark n c q
  unfolding notes_fit_of left_fits_of
  storing c e a l s = record { notes = store_told n q a; left = grind (arith, choices); cell = grind (arith, choices); mark = mark_told n q c (grind (arith, choices)); sense = s }

  naming : named_fits_of n q ≡ true → notes_fit_of note.Nothing n q ≡ true → left_fits_of left.Cells n m q ≡ true → (q.stage < phase_stage → q.sense ≡ false) → RootsFirst n q ⊎ RootsRest n q
  unfolding notes_fit_of left_fits_of named_fits_of
  naming e a l s = go (ℕ_discrete q.stage look_stage)
    where
      go : Dec (q.stage ≡ look_stage) → RootsFirst n q ⊎ RootsRest n q
      go (yes h) = inl (record { stage = h; notes = unnoted_told n q a; left = l; mark = unmarked_told n q (rw (eq-eqb _ _ h) at e); sense = s (omega arith) })
      go (no h) =
          let w = mark_told n q q.cell (rw (ne_eqb _ _ h) at e) in
          inr (record { named = omega arith; notes = unnoted_told n q a; left = l; mark = w; sense = s })

  at_told : leb q.place work_finish ≡ true → place_fits_of n m q ≡ true → sense_fits_of q ≡ true → MutatorAt n q
  unfolding notes_fit_of left_fits_of stage_fits_of sense_fits_of
  at_told l e s = go (late_told q.sense phase_stage q.stage s) (mutator_place q.place (leb-true _ _ l))
    where
      go : (q.stage < phase_stage → q.sense ≡ false) → MutatorPlace q.place → MutatorAt n q
      go f (is_idle_lem h) =
          let w = columns n q m nothing_row (uses_idle q.place h) e in
          let a = resting w.stage in
          idle h (record { stage = a.0; notes = unnoted_told n q w.notes; left = eqb-true _ _ w.left; mark = a.1; sense = f (omega arith) })
      go f (is_mark_old h) = let w = columns n q m (row note.Store left.Nothing stage.Old) (rw h refl) e in mark_old h (storing q.old w.stage w.notes w.left f)
      go f (is_mark_y h) = let w = columns n q m (row note.Store left.Nothing stage.Y) (rw h refl) e in mark_y h (storing q.y w.stage w.notes w.left f)
      go f (is_write h) =
          let w = columns n q m (row note.Store left.Nothing stage.Nothing) (rw h refl) e in
          let a = resting w.stage in
          write h (record { stage = a.0; notes = store_told n q w.notes; left = eqb-true _ _ w.left; mark = a.1; sense = f (omega arith) })
      go f (is_roots h) = let w = columns n q m (row note.Nothing left.Cells stage.Named) (rw h refl) e in ⊎_elim (roots_first h) (roots_rest h) (naming w.stage w.notes w.left f)

  pub mutator_told : mutator_fits_of n m q ≡ true → MutatorFits n q
  unfolding mutator_fits_of
  mutator_told e = record { roots = grind (arith, choices); work = grind (arith, choices); notes = at_told (grind (arith, choices)) (grind (arith, choices)) (grind (arith, choices)) }

  store_mark_test : (c : ℕ) → StoreMark n c q → eqb q.cell 0 and mark_fits_of n c q ≡ true
  store_mark_test c w = grind (arith, choices, mark_test)

  -- the place, what is in use there, and the sense
  record Tests : Type 0 where
    pub place : leb q.place work_finish ≡ true
    pub fits : place_fits_of n m q ≡ true
    pub sense : sense_fits_of q ≡ true

  at_test : MutatorAt n q → Tests
  unfolding notes_fit_of left_fits_of stage_fits_of named_fits_of sense_fits_of
  at_test (idle h w) =
      record {
        place = idle_mutator q.place h;
        fits = joined n q m nothing_row (uses_idle q.place h) (record { notes = unnoted_test n q w.notes; left = eq-eqb _ _ w.left; stage = resting_test w.stage w.mark });
        sense = late_test q.sense phase_stage q.stage (λ l. w.sense);
      }
  at_test (mark_old h w) =
      record {
        place = rw h refl;
        fits = joined n q m (row note.Store left.Nothing stage.Old) (rw h refl) (record { notes = store_test n q w.notes; left = eq-eqb _ _ w.left; stage = store_mark_test q.old w });
        sense = late_test q.sense phase_stage q.stage w.sense;
      }
  at_test (mark_y h w) =
      record {
        place = rw h refl;
        fits = joined n q m (row note.Store left.Nothing stage.Y) (rw h refl) (record { notes = store_test n q w.notes; left = eq-eqb _ _ w.left; stage = store_mark_test q.y w });
        sense = late_test q.sense phase_stage q.stage w.sense;
      }
  at_test (write h w) =
      record {
        place = rw h refl;
        fits = joined n q m (row note.Store left.Nothing stage.Nothing) (rw h refl) (record { notes = store_test n q w.notes; left = eq-eqb _ _ w.left; stage = resting_test w.stage w.mark });
        sense = late_test q.sense phase_stage q.stage (λ l. w.sense);
      }
  at_test (roots_first h w) =
      record {
        place = rw h refl;
        fits = joined n q m (row note.Nothing left.Cells stage.Named) (rw h refl) (record { notes = unnoted_test n q w.notes; left = w.left; stage = rw (eq-eqb _ _ w.stage) (unmarked_test n q w.mark) });
        sense = late_test q.sense phase_stage q.stage (λ l. w.sense);
      }
  at_test (roots_rest h w) =
      record {
        place = rw h refl;
        fits = joined n q m (row note.Nothing left.Cells stage.Named) (rw h refl) (record { notes = unnoted_test n q w.notes; left = w.left; stage = rw (ne_eqb q.stage look_stage (λ e. omega arith)) (mark_test n q q.cell w.mark) });
        sense = late_test q.sense phase_stage q.stage w.sense;
      }

  pub mutator_test : MutatorFits n q → mutator_fits_of n m q ≡ true
  unfolding mutator_fits_of
  mutator_test w = let a = at_test w.notes in grind (arith, choices)

  -- ---- the collector
  collector_at : is_collectors q.place ≡ true → place_fits_of n m q ≡ true → CollectorAt n m q × NoStore n q
  unfolding notes_fit_of left_fits_of stage_fits_of round_fits_of
  collector_at l e = go (collector_place q.place (leb-true _ _ (and_both (leb row1_round q.place) (leb q.place row11_write) l).0) (leb-true _ _ (and_both (leb row1_round q.place) (leb q.place row11_write) l).1))
    where
      bare : Unnoted q.x q.f q.y q.old → NoStore n q
      bare w = record { no_f = w.no_f; no_y = w.no_y; no_old = w.no_old }

      go : CollectorPlace q.place → CollectorAt n m q × NoStore n q
      go (is_plain h) =
          let w = columns n q m nothing_row (uses_plain q.place h) e in
          let a = resting w.stage in
          let b = unnoted_told n q w.notes in
          (plain h (record { stage = a.0; no_x = b.no_x; left = eqb-true _ _ w.left; mark = a.1 }), bare b)
      go (is_round_lem h) =
          let w = columns n q m round_row (uses_round q.place h) e in
          let a = and_both (ltb 0 q.stage) (leb q.stage poll_stage and no_mark_of q) w.stage in
          let d = and_both (leb q.stage poll_stage) (no_mark_of q) a.1 in
          let b = unnoted_told n q w.notes in
          let f = left_told n q m w.left in
          (round h (record { begun = ltb-true _ _ a.0; running = leb-true _ _ d.0; no_x = b.no_x; none_left = f.0; left = f.1; mark = unmarked_told n q d.1 }), bare b)
      go (is_scan_mark h) =
          let w = columns n q m (row note.Cell left.Fields stage.Cell) (rw h refl) e in
          let b = noted_told n q w.notes in
          (scan_mark h (record { is_x = b.0; left = w.left; mark = mark_told n q q.cell w.stage }), b.1)
      go (is_scan h) =
          let w = columns n q m (row note.Cell left.Fields stage.Nothing) (rw h refl) e in
          let a = resting w.stage in
          let b = noted_told n q w.notes in
          (scan h (record { stage = a.0; is_x = b.0; left = w.left; mark = a.1 }), b.1)
      go (is_drop h) =
          let w = columns n q m (row note.Cell left.Nothing stage.Nothing) (rw h refl) e in
          let a = resting w.stage in
          let b = noted_told n q w.notes in
          (drop h (record { stage = a.0; is_x = b.0; left = eqb-true _ _ w.left; mark = a.1 }), b.1)
      go (is_sweep h) =
          let w = columns n q m (row note.Nothing left.Cells stage.Nothing) (rw h refl) e in
          let a = resting w.stage in
          let b = unnoted_told n q w.notes in
          (sweep h (record { stage = a.0; no_x = b.no_x; left = w.left; mark = a.1 }), bare b)
      go (is_sweep_free h) =
          let w = columns n q m (row note.Cell left.Cells stage.Nothing) (rw h refl) e in
          let a = resting w.stage in
          let b = noted_told n q w.notes in
          (sweep_free h (record { stage = a.0; is_x = b.0; left = w.left; mark = a.1 }), b.1)

  collector_at_test : CollectorAt n m q → NoStore n q → (is_collectors q.place ≡ true) × (place_fits_of n m q ≡ true)
  unfolding notes_fit_of left_fits_of stage_fits_of round_fits_of
  collector_at_test (plain h w) z = (
    plain_collector q.place h,
    joined n q m nothing_row (uses_plain q.place h) (record { notes = unnoted_test n q (record { no_x = w.no_x; no_f = z.no_f; no_y = z.no_y; no_old = z.no_old }); left = eq-eqb _ _ w.left; stage = resting_test w.stage w.mark }),
  )
  collector_at_test (round h w) z = (
    round_collector q.place h,
    joined n q m round_row (uses_round q.place h) (record { notes = unnoted_test n q (record { no_x = w.no_x; no_f = z.no_f; no_y = z.no_y; no_old = z.no_old }); left = left_test n q m w.none_left w.left; stage = rw (lt-ltb _ _ w.begun, le-leb _ _ w.running) (unmarked_test n q w.mark) }),
  )
  collector_at_test (scan_mark h w) z = (
    rw h refl,
    joined n q m (row note.Cell left.Fields stage.Cell) (rw h refl) (record { notes = noted_test n q w.is_x z; left = w.left; stage = mark_test n q q.cell w.mark }),
  )
  collector_at_test (scan h w) z = (
    rw h refl,
    joined n q m (row note.Cell left.Fields stage.Nothing) (rw h refl) (record { notes = noted_test n q w.is_x z; left = w.left; stage = resting_test w.stage w.mark }),
  )
  collector_at_test (drop h w) z = (
    rw h refl,
    joined n q m (row note.Cell left.Nothing stage.Nothing) (rw h refl) (record { notes = noted_test n q w.is_x z; left = eq-eqb _ _ w.left; stage = resting_test w.stage w.mark }),
  )
  collector_at_test (sweep h w) z = (
    rw h refl,
    joined n q m (row note.Nothing left.Cells stage.Nothing) (rw h refl) (record { notes = unnoted_test n q (record { no_x = w.no_x; no_f = z.no_f; no_y = z.no_y; no_old = z.no_old }); left = w.left; stage = resting_test w.stage w.mark }),
  )
  collector_at_test (sweep_free h w) z = (
    rw h refl,
    joined n q m (row note.Cell left.Cells stage.Nothing) (rw h refl) (record { notes = noted_test n q w.is_x z; left = w.left; stage = resting_test w.stage w.mark }),
  )

-- ---- no part in the handshakes
phase_told : (h : Handshake) → phase_number h ≡ 0 → h ≡ hand.Idle
phase_told hand.Idle e = refl
phase_told hand.IdleInit e = absurd (omega arith)
phase_told hand.InitMark e = absurd (omega arith)
phase_told hand.Mark e = absurd (omega arith)
phase_told hand.IdleMarkSweep e = absurd (omega arith)

pub part_told : (h : Part) → no_part_of h ≡ true → h ≡ no_part
unfolding no_part_of
part_told h e =
    let a = unless h.raised (pick h.in_step false (eqb (phase_number h.phase) 0)) e in
    let b = unless h.in_step (eqb (phase_number h.phase) 0) a.1 in
    rw (a.0, b.0, phase_told h.phase (eqb-true _ _ b.1)) refl

pub part_test : (h : Part) → h ≡ no_part → no_part_of h ≡ true
unfolding no_part_of
part_test h e = rw e refl

module _ (n m : ℕ) (q : Process) where
  pub collector_told : collector_fits_of n m q ≡ true → CollectorFits n m q
  unfolding collector_fits_of
  collector_told e =
      let w = collector_at n m q (grind (arith, choices)) (grind (arith, choices)) in
      record {
        work = grind (arith, choices);
        no_f = w.1.no_f;
        no_y = w.1.no_y;
        no_old = w.1.no_old;
        no_roots = grind (arith, choices);
        part_none = part_told q.part (grind (arith, choices));
        notes = w.0;
      }

  pub collector_test : CollectorFits n m q → collector_fits_of n m q ≡ true
  unfolding collector_fits_of
  collector_test w =
      let a = collector_at_test n m q w.notes (record { no_f = w.no_f; no_y = w.no_y; no_old = w.no_old }) in
      grind (arith, choices, part_test)

-- ---- a process above M
module _ (q : Process) where
  pub nobody_told : nobody_of q ≡ true → q ≡ no_process
  unfolding nobody_of notes_fit_of left_fits_of
  nobody_told e =
      let k : q.place ≡ top = grind (arith, choices) in
      let w = columns 0 q 0 nothing_row (ap uses_of k) (grind (arith, choices)) in
      let r = resting 0 0 q w.stage in
      let v = unnoted_told 0 q w.notes in
      let l : q.left ≡ no_cells = eqb-true _ _ w.left in
      let h = part_told q.part (grind (arith, choices)) in
      let a : q.sense ≡ false = grind (arith, choices) in
      let b : q.work ≡ no_cells = grind (arith, choices) in
      let d : q.roots ≡ no_cells = grind (arith, choices) in
      rw (k, r.0, v.no_x, v.no_f, v.no_y, v.no_old, l, r.1.no_cell, r.1.no_look, a, r.1.no_grey, b, d, h) (refl {a = no_process})

  pub nobody_test : q ≡ no_process → nobody_of q ≡ true
  unfolding nobody_of place_fits_of notes_fit_of left_fits_of stage_fits_of no_store_of no_mark_of no_part_of
  nobody_test e = rw e refl
