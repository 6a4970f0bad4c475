-- A rule over the collector's places and stages, computed, holds where the collector stands. Assumes nothing.
--     stands      the collector stands at one of its places, at one of the stages
--     ruled       the rule
use mathlib.Core.Path.{◌≡◌, refl}
use mathlib.Core.Bool.{Bool, true}
use mathlib.Core.List.{List, [], ◌∷◌}
use Prim.Native.Nat.{ℕ, ◌<◌}
use native.Mathlib.Omega.{arith}
use Rattle.state.specs.declared.Process.{Process}
use Rattle.state.specs.declared.State.{State}
use Rattle.state.specs.Codes.{row1_round, row2_read, row2_write, row3_round, row4_write, row4_round, row5_phase, row5_alloc, row5_round, row6_round, row6_take, row7_first, row7_mark, row7_next, row7_drop, row8_round, row8_take, row9_write, row10_look, row10_free, row11_write}
use Rattle.state.specs.States.{mutators_of, process_of}
use Rattle.formed.specs.Fits.{among_of, Among, plain_places, round_places, CollectorAt, WellFormed}
use Rattle.formed.proofs.Places.{AllBelow, all_below, all_of, all_true}

abbrev pub collector_places : List ℕ
collector_places =
    row1_round ∷ row2_read ∷ row2_write ∷ row3_round ∷ row4_write ∷ row4_round ∷ row5_phase ∷ row5_alloc ∷ row5_round ∷ row6_round ∷ row6_take ∷ row7_first ∷ row7_mark ∷ row7_next ∷ row7_drop ∷ row8_round ∷ row8_take ∷ row9_write ∷ row10_look ∷ row10_free ∷ row11_write ∷ []

abbrev pub stages : ℕ
stages = 8

pub stands : (n m : ℕ) (q : Process) → CollectorAt n m q → Among q.place collector_places × (q.stage < stages)
stands n m q (CollectorAt.plain a w) = (all_true (λ k. among_of k collector_places) plain_places refl q.place a, omega (arith, w.stage))
stands n m q (CollectorAt.round a w) = (all_true (λ k. among_of k collector_places) round_places refl q.place a, omega (arith, w.running))
stands n m q (CollectorAt.scan_mark a w) = (rw a refl, omega (arith, w.mark.running))
stands n m q (CollectorAt.scan a w) = (rw a refl, omega (arith, w.stage))
stands n m q (CollectorAt.drop a w) = (rw a refl, omega (arith, w.stage))
stands n m q (CollectorAt.sweep a w) = (rw a refl, omega (arith, w.stage))
stands n m q (CollectorAt.sweep_free a w) = (rw a refl, omega (arith, w.stage))

abbrev pub Checked : (ℕ → ℕ → Bool) → Type 0
Checked t = AllBelow (λ j. all_of (λ k. t k j) collector_places ≡ true) stages

pub ruled : (t : ℕ → ℕ → Bool) → Checked t → (s : State) → WellFormed s → t (process_of s 0).place (process_of s 0).stage ≡ true
ruled t c s w =
    let q = process_of s 0 in
    let a = stands s.memory.cells (mutators_of s) q w.collector.notes in
    all_true (λ k. t k q.stage) collector_places (all_below (λ j. all_of (λ k. t k j) collector_places ≡ true) stages c q.stage a.1) q.place a.0
