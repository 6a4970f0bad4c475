-- What a well-formed process has in use at its place. The converse is the constructor of the place: `idle`,
-- `mark_old`, .. of `MutatorAt`, `plain`, .. of `CollectorAt`. Assumes nothing.
--     idle_at, mark_old_at, mark_y_at, write_at, roots_at_lem      a mutator, by its place
--     roots_first_at, roots_rest_at                            where it marks roots, by its stage
--     plain_at, round_at, scan_mark_at, scan_at, drop_at, sweep_at, sweep_free_at      the collector, by its place
--     mutator_within, collector_within                         each stands at a place of its own program
--     mark_begins, mark_looks, mark_goes_on, mark_greys        the notes of a mark, from stage to stage
--     shaken, shakes, lists                                    a mutator's lists and its part in the handshakes are
--                                                              in use at every place
use mathlib.Core.Path.{◌≡◌, refl}
use mathlib.Core.Bool.{Bool, true, false, false≢true}
use mathlib.Core.Logic.{◌⊎◌, inl, inr, ⊎_elim}
use Prim.Native.Nat.{ℕ, ◌≤◌, ◌<◌}
use native.Mathlib.Omega.{arith}
use lib.Dec.{leb}
use borrow.Author.Tests.{leb-true}
use Rattle.base.proofs.Everies.{and_both}
use Rattle.cells.specs.Sets.{below_of}
use Rattle.buffers.specs.Fits.{IsCell}
use Rattle.state.specs.declared.Process.{Process}
use Rattle.state.specs.declared.Handshake.{Handshake}
use Rattle.state.specs.Codes.{store_mark_old, store_mark_y, store_write, roots_mark, work_finish, row1_round, row7_mark, row7_next, row7_drop, row10_look, row10_free, row11_write, look_stage, sense_stage, unlock_stage}
use Rattle.state.specs.States.{listing, shaking}
use Rattle.formed.specs.Fits.{Among, idle_places, plain_places, round_places, MarkNotes, Idle, StoreMark, StoreWrite, RootsFirst, RootsRest, MutatorAt, idle, mark_old, mark_y, write, roots_first, roots_rest, MutatorFits, PlainNotes, RoundNotes, ScanMark, Scan, Drop, Sweep, SweepFree, CollectorAt, plain, round, scan_mark, scan, drop, sweep, sweep_free, CollectorFits}
use Rattle.formed.proofs.Places.{apart, idle_mutator, is_collectors, plain_collector, round_collector}

-- ---- a mutator
module _ (n : ℕ) (q : Process) where
  idle_in : MutatorAt n q → Among q.place idle_places → Idle q
  idle_in (idle g w) h = w
  idle_in (mark_old g w) h = absurd (false≢true (rw g at h))
  idle_in (mark_y g w) h = absurd (false≢true (rw g at h))
  idle_in (write g w) h = absurd (false≢true (rw g at h))
  idle_in (roots_first g w) h = absurd (false≢true (rw g at h))
  idle_in (roots_rest g w) h = absurd (false≢true (rw g at h))

  mark_old_in : MutatorAt n q → q.place ≡ store_mark_old → StoreMark n q.old q
  mark_old_in (idle g w) e = absurd (false≢true (rw e at g))
  mark_old_in (mark_old g w) e = w
  mark_old_in (mark_y g w) e = absurd (omega arith)
  mark_old_in (write g w) e = absurd (omega arith)
  mark_old_in (roots_first g w) e = absurd (omega arith)
  mark_old_in (roots_rest g w) e = absurd (omega arith)

  mark_y_in : MutatorAt n q → q.place ≡ store_mark_y → StoreMark n q.y q
  mark_y_in (idle g w) e = absurd (false≢true (rw e at g))
  mark_y_in (mark_old g w) e = absurd (omega arith)
  mark_y_in (mark_y g w) e = w
  mark_y_in (write g w) e = absurd (omega arith)
  mark_y_in (roots_first g w) e = absurd (omega arith)
  mark_y_in (roots_rest g w) e = absurd (omega arith)

  write_in : MutatorAt n q → q.place ≡ store_write → StoreWrite n q
  write_in (idle g w) e = absurd (false≢true (rw e at g))
  write_in (mark_old g w) e = absurd (omega arith)
  write_in (mark_y g w) e = absurd (omega arith)
  write_in (write g w) e = w
  write_in (roots_first g w) e = absurd (omega arith)
  write_in (roots_rest g w) e = absurd (omega arith)

  roots_in_lem : MutatorAt n q → q.place ≡ roots_mark → RootsFirst n q ⊎ RootsRest n q
  roots_in_lem (idle g w) e = absurd (false≢true (rw e at g))
  roots_in_lem (mark_old g w) e = absurd (omega arith)
  roots_in_lem (mark_y g w) e = absurd (omega arith)
  roots_in_lem (write g w) e = absurd (omega arith)
  roots_in_lem (roots_first g w) e = inl w
  roots_in_lem (roots_rest g w) e = inr w

-- the place is k, one of the group: `idle_at noop_fence refl e w`
pub idle_at : {n : ℕ} {q : Process} (k : ℕ) → Among k idle_places → q.place ≡ k → MutatorFits n q → Idle q
idle_at {n} {q} k h e w = idle_in n q w.notes (rw e h)

pub mark_old_at : {n : ℕ} {q : Process} → q.place ≡ store_mark_old → MutatorFits n q → StoreMark n q.old q
mark_old_at {n} {q} e w = mark_old_in n q w.notes e

pub mark_y_at : {n : ℕ} {q : Process} → q.place ≡ store_mark_y → MutatorFits n q → StoreMark n q.y q
mark_y_at {n} {q} e w = mark_y_in n q w.notes e

pub write_at : {n : ℕ} {q : Process} → q.place ≡ store_write → MutatorFits n q → StoreWrite n q
write_at {n} {q} e w = write_in n q w.notes e

pub roots_at_lem : {n : ℕ} {q : Process} → q.place ≡ roots_mark → MutatorFits n q → RootsFirst n q ⊎ RootsRest n q
roots_at_lem {n} {q} e w = roots_in_lem n q w.notes e

pub roots_first_at : {n : ℕ} {q : Process} → q.place ≡ roots_mark → q.stage ≡ look_stage → MutatorFits n q → RootsFirst n q
roots_first_at e k w = ⊎_elim (λ a. a) (λ a. absurd (omega (arith, a.named))) (roots_at_lem e w)

pub roots_rest_at : {n : ℕ} {q : Process} → q.place ≡ roots_mark → (q.stage ≡ look_stage → ⊥) → MutatorFits n q → RootsRest n q
roots_rest_at e k w = ⊎_elim (λ a. absurd (k a.stage)) (λ a. a) (roots_at_lem e w)

-- ---- the collector
module _ (n m : ℕ) (q : Process) where
  plain_in : CollectorAt n m q → Among q.place plain_places → PlainNotes q
  plain_in (plain g w) h = w
  plain_in (round g w) h = absurd (apart round_places plain_places refl q.place g h)
  plain_in (scan_mark g w) h = absurd (false≢true (rw g at h))
  plain_in (scan g w) h = absurd (false≢true (rw g at h))
  plain_in (drop g w) h = absurd (false≢true (rw g at h))
  plain_in (sweep g w) h = absurd (false≢true (rw g at h))
  plain_in (sweep_free g w) h = absurd (false≢true (rw g at h))

  round_in : CollectorAt n m q → Among q.place round_places → RoundNotes m q
  round_in (plain g w) h = absurd (apart plain_places round_places refl q.place g h)
  round_in (round g w) h = w
  round_in (scan_mark g w) h = absurd (false≢true (rw g at h))
  round_in (scan g w) h = absurd (false≢true (rw g at h))
  round_in (drop g w) h = absurd (false≢true (rw g at h))
  round_in (sweep g w) h = absurd (false≢true (rw g at h))
  round_in (sweep_free g w) h = absurd (false≢true (rw g at h))

  scan_mark_in : CollectorAt n m q → q.place ≡ row7_mark → ScanMark n q
  scan_mark_in (plain g w) e = absurd (false≢true (rw e at g))
  scan_mark_in (round g w) e = absurd (false≢true (rw e at g))
  scan_mark_in (scan_mark g w) e = w
  scan_mark_in (scan g w) e = absurd (omega arith)
  scan_mark_in (drop g w) e = absurd (omega arith)
  scan_mark_in (sweep g w) e = absurd (omega arith)
  scan_mark_in (sweep_free g w) e = absurd (omega arith)

  scan_in : CollectorAt n m q → q.place ≡ row7_next → Scan n q
  scan_in (plain g w) e = absurd (false≢true (rw e at g))
  scan_in (round g w) e = absurd (false≢true (rw e at g))
  scan_in (scan_mark g w) e = absurd (omega arith)
  scan_in (scan g w) e = w
  scan_in (drop g w) e = absurd (omega arith)
  scan_in (sweep g w) e = absurd (omega arith)
  scan_in (sweep_free g w) e = absurd (omega arith)

  drop_in : CollectorAt n m q → q.place ≡ row7_drop → Drop n q
  drop_in (plain g w) e = absurd (false≢true (rw e at g))
  drop_in (round g w) e = absurd (false≢true (rw e at g))
  drop_in (scan_mark g w) e = absurd (omega arith)
  drop_in (scan g w) e = absurd (omega arith)
  drop_in (drop g w) e = w
  drop_in (sweep g w) e = absurd (omega arith)
  drop_in (sweep_free g w) e = absurd (omega arith)

  sweep_in : CollectorAt n m q → q.place ≡ row10_look → Sweep n q
  sweep_in (plain g w) e = absurd (false≢true (rw e at g))
  sweep_in (round g w) e = absurd (false≢true (rw e at g))
  sweep_in (scan_mark g w) e = absurd (omega arith)
  sweep_in (scan g w) e = absurd (omega arith)
  sweep_in (drop g w) e = absurd (omega arith)
  sweep_in (sweep g w) e = w
  sweep_in (sweep_free g w) e = absurd (omega arith)

  sweep_free_in : CollectorAt n m q → q.place ≡ row10_free → SweepFree n q
  sweep_free_in (plain g w) e = absurd (false≢true (rw e at g))
  sweep_free_in (round g w) e = absurd (false≢true (rw e at g))
  sweep_free_in (scan_mark g w) e = absurd (omega arith)
  sweep_free_in (scan g w) e = absurd (omega arith)
  sweep_free_in (drop g w) e = absurd (omega arith)
  sweep_free_in (sweep g w) e = absurd (omega arith)
  sweep_free_in (sweep_free g w) e = w

pub plain_at : {n m : ℕ} {q : Process} (k : ℕ) → Among k plain_places → q.place ≡ k → CollectorFits n m q → PlainNotes q
plain_at {n} {m} {q} k h e w = plain_in n m q w.notes (rw e h)

pub round_at : {n m : ℕ} {q : Process} (k : ℕ) → Among k round_places → q.place ≡ k → CollectorFits n m q → RoundNotes m q
round_at {n} {m} {q} k h e w = round_in n m q w.notes (rw e h)

pub scan_mark_at : {n m : ℕ} {q : Process} → q.place ≡ row7_mark → CollectorFits n m q → ScanMark n q
scan_mark_at {n} {m} {q} e w = scan_mark_in n m q w.notes e

pub scan_at : {n m : ℕ} {q : Process} → q.place ≡ row7_next → CollectorFits n m q → Scan n q
scan_at {n} {m} {q} e w = scan_in n m q w.notes e

pub drop_at : {n m : ℕ} {q : Process} → q.place ≡ row7_drop → CollectorFits n m q → Drop n q
drop_at {n} {m} {q} e w = drop_in n m q w.notes e

pub sweep_at : {n m : ℕ} {q : Process} → q.place ≡ row10_look → CollectorFits n m q → Sweep n q
sweep_at {n} {m} {q} e w = sweep_in n m q w.notes e

pub sweep_free_at : {n m : ℕ} {q : Process} → q.place ≡ row10_free → CollectorFits n m q → SweepFree n q
sweep_free_at {n} {m} {q} e w = sweep_free_in n m q w.notes e

-- ---- the two programs have no place in common
pub mutator_within : {n : ℕ} {q : Process} → MutatorFits n q → q.place ≤ work_finish
mutator_within {n} {q} w = go w.notes
  where
    go : MutatorAt n q → q.place ≤ work_finish
    go (idle g v) = leb-true _ _ (idle_mutator q.place g)
    go (mark_old g v) = omega arith
    go (mark_y g v) = omega arith
    go (write g v) = omega arith
    go (roots_first g v) = omega arith
    go (roots_rest g v) = omega arith

pub collector_within : {n m : ℕ} {q : Process} → CollectorFits n m q → (row1_round ≤ q.place) × (q.place ≤ row11_write)
collector_within {n} {m} {q} w = go w.notes
  where
    both : is_collectors q.place ≡ true → (row1_round ≤ q.place) × (q.place ≤ row11_write)
    both e = let a = and_both (leb row1_round q.place) (leb q.place row11_write) e in (leb-true _ _ a.0, leb-true _ _ a.1)

    go : CollectorAt n m q → (row1_round ≤ q.place) × (q.place ≤ row11_write)
    go (plain g v) = both (plain_collector q.place g)
    go (round g v) = both (round_collector q.place g)
    go (scan_mark g v) = (omega arith, omega arith)
    go (scan g v) = (omega arith, omega arith)
    go (drop g v) = (omega arith, omega arith)
    go (sweep g v) = (omega arith, omega arith)
    go (sweep_free g v) = (omega arith, omega arith)

-- ---- the notes of a mark: it begins; the first look is noted; a stage between the second and the last; the write,
-- which greys c
pub mark_begins : {n c g : ℕ} {l : Bool} → IsCell n c → l ≡ false → g ≡ 0 → MarkNotes n look_stage c l g
mark_begins h e z =
    record { cell_named = h; begun = omega arith; running = omega arith; no_look = λ _. e; no_grey = λ _. z; is_grey = omega arith }

pub mark_looks : {n s c g : ℕ} {l : Bool} → MarkNotes n s c l g → s ≡ look_stage → (b : Bool) → MarkNotes n sense_stage c b g
mark_looks w e b =
    record { cell_named = w.cell_named; begun = omega arith; running = omega arith; no_look = λ k. absurd (omega arith); no_grey = λ k. w.no_grey (omega arith); is_grey = w.is_grey }

pub mark_goes_on : {n s c g : ℕ} {l : Bool} (k : ℕ) → MarkNotes n s c l g → s < unlock_stage → sense_stage ≤ k → k ≤ unlock_stage → MarkNotes n k c l g
mark_goes_on k w h a b =
    record { cell_named = w.cell_named; begun = omega arith; running = b; no_look = λ i. absurd (omega arith); no_grey = λ i. w.no_grey h; is_grey = w.is_grey }

pub mark_greys : {n s c g : ℕ} {l : Bool} → MarkNotes n s c l g → MarkNotes n unlock_stage c l c
mark_greys w =
    record { cell_named = w.cell_named; begun = omega arith; running = omega arith; no_look = λ i. absurd (omega arith); no_grey = λ i. absurd (omega arith); is_grey = w.cell_named.1 }

-- ---- what is always in use may change
pub shaken : {n : ℕ} {q : Process} (w r : ℕ) (a b : Bool) (h : Handshake) → MutatorAt n q → MutatorAt n (listing w r (shaking a b h q))
shaken w r a b h (idle g v) = idle g (record { stage = v.stage; notes = v.notes; left = v.left; mark = v.mark; sense = v.sense })
shaken w r a b h (mark_old g v) = mark_old g (record { notes = v.notes; left = v.left; cell = v.cell; mark = v.mark; sense = v.sense })
shaken w r a b h (mark_y g v) = mark_y g (record { notes = v.notes; left = v.left; cell = v.cell; mark = v.mark; sense = v.sense })
shaken w r a b h (write g v) = write g (record { stage = v.stage; notes = v.notes; left = v.left; mark = v.mark; sense = v.sense })
shaken w r a b h (roots_first g v) = roots_first g (record { stage = v.stage; notes = v.notes; left = v.left; mark = v.mark; sense = v.sense })
shaken w r a b h (roots_rest g v) = roots_rest g (record { named = v.named; notes = v.notes; left = v.left; mark = v.mark; sense = v.sense })

-- a flag raised or lowered, a bit set, a phase advanced
pub shakes : {n : ℕ} {q : Process} (a b : Bool) (h : Handshake) → MutatorFits n q → MutatorFits n (shaking a b h q)
shakes {n} {q} a b h w = record { roots = w.roots; work = w.work; notes = shaken q.work q.roots a b h w.notes }

-- other lists
pub lists : {n : ℕ} {q : Process} (w r : ℕ) → MutatorFits n q → below_of w n ≡ true → below_of r n ≡ true → MutatorFits n (listing w r q)
lists {n} {q} w r f a b = record { roots = b; work = a; notes = shaken w r q.part.raised q.part.in_step q.part.phase f.notes }
