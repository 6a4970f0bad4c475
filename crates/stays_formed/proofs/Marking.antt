-- A step of a mark, at any of its five sites: the process fits at its new place, and memory stays well formed.
-- Assumes nothing.
--     Running, running      what a process in a mark holds, and how it goes on
--     next_fits        after a mark the process fits where its program goes on
--     mark_fits_lem        after each step of a mark the process fits
--     mark_memory      memory after each step of a mark
use mathlib.Core.Path.{◌≡◌, refl}
use mathlib.Core.Bool.{Bool, true, false, not}
use mathlib.Core.Logic.{⊎_elim}
use Prim.Native.Nat.{ℕ, ◌≤◌, ◌<◌}
use native.Mathlib.Omega.{arith}
use lib.Dec.{eqb}
use borrow.Author.Tests.{ne_eqb}
use Rattle.base.specs.Pick.{pick}
use Rattle.cells.specs.Sets.{below_of, add_of}
use Rattle.cells.proofs.Belows.{below_add}
use Rattle.buffers.specs.declared.Store.TheVariants as store
use Rattle.buffers.specs.Fits.{IsCell}
use Rattle.memory.specs.declared.Memory.{Memory}
use Rattle.memory.specs.Memories.{taken}
use Rattle.memory.specs.Steps.{lock_of, unlock_of}
use Rattle.memory_formed.specs.WellFormed.{MemoryFormed}
use Rattle.memory_formed.proofs.Kept.{write_kept, lock_kept, unlock_kept}
use Rattle.state.specs.declared.Process.{Process}
use Rattle.state.specs.Codes.{roots_mark, row7_mark, look_stage, sense_stage, phase_stage, lock_stage, again_stage, write_stage, unlock_stage}
use Rattle.state.specs.States.{at, marking, listing}
use Rattle.formed.specs.Fits.{MarkNotes, Unmarked, StoreMark, RootsRest, MutatorAt, idle, mark_old, mark_y, write, roots_first, roots_rest, MutatorFits, CollectorAt, scan_mark, scan, drop, CollectorFits}
use Rattle.formed.proofs.Gives.{mark_old_at, mark_y_at, roots_at_lem, roots_rest_at, scan_mark_at, mutator_within, collector_within, mark_begins, mark_looks, mark_goes_on, mark_greys}
use Rattle.model.specs.Rows.{unnoted, Marks, Next, Mark}
use Rattle.stays_formed.specs.Kept.{Fits, collects, mutates, Ranged}
use Rattle.stays_formed.proofs.Values.{write_ranged, lock_ranged, unlock_ranged}

-- ---- in a mark of r
pub record Running (n m p r : ℕ) (q : Process) : Type 0 where
  pub notes : MarkNotes n q.stage r q.look q.grey
  pub sense : 0 < p → q.stage < phase_stage → q.sense ≡ false
  pub work : below_of q.work n ≡ true
  -- another stage, look, noted fM and cell being greyed
  pub goes : (j : ℕ) (l b : Bool) (g : ℕ) → MarkNotes n j r l g → look_stage < j → (0 < p → j < phase_stage → b ≡ false) → Fits n m p (at q.place j (marking q.cell l b g q))

module _ (n m p : ℕ) (q : Process) where
  storing : (r : ℕ) → 0 < p → MutatorFits n q → StoreMark n r q →
      ((j : ℕ) (l b : Bool) (g : ℕ) → StoreMark n r (at q.place j (marking q.cell l b g q)) → MutatorAt n (at q.place j (marking q.cell l b g q))) → Running n m p r q
  storing r pos f k back =
      record {
        notes = k.mark;
        sense = λ _ h. k.sense h;
        work = f.work;
        goes = λ j l b g w _ h.
            mutates pos
            (record {
              roots = f.roots;
              work = f.work;
              notes = back j l b g (record { notes = k.notes; left = k.left; cell = k.cell; mark = w; sense = h pos });
            });
      }

  rooting : 0 < p → q.place ≡ roots_mark → MutatorFits n q → RootsRest n q → Running n m p q.cell q
  rooting pos e f k =
      record {
        notes = k.mark;
        sense = λ _ h. k.sense h;
        work = f.work;
        goes = λ j l b g w i h.
            mutates pos
            (record { roots = f.roots; work = f.work; notes = roots_rest e (record { named = i; notes = k.notes; left = k.left; mark = w; sense = h pos }) });
      }

  scanning : p ≡ 0 → q.place ≡ row7_mark → CollectorFits n m q → Running n m p q.cell q
  scanning z a f =
      let k = scan_mark_at a f in
      record {
        notes = k.mark;
        sense = λ h _. absurd (omega arith);
        work = f.work;
        goes = λ j l b g w i h.
            collects z
            (record {
              work = f.work;
              no_f = f.no_f;
              no_y = f.no_y;
              no_old = f.no_old;
              no_roots = f.no_roots;
              part_none = f.part_none;
              notes = scan_mark a (record { is_x = k.is_x; left = k.left; mark = w });
            });
      }

  pub running : {r : ℕ} → Fits n m p q → Marks q r → (q.place ≡ roots_mark → q.stage ≡ look_stage → ⊥) → Running n m p r q
  running (mutates pos f) (Marks.old e) h = storing q.old pos f (mark_old_at e f) (λ j l b g. mark_old e)
  running (mutates pos f) (Marks.new e) h = storing q.y pos f (mark_y_at e f) (λ j l b g. mark_y e)
  running (mutates pos f) (Marks.root e) h = rooting pos e f (roots_rest_at e (h e) f)
  running (mutates pos f) (Marks.field e) h = absurd (omega (arith, mutator_within f))
  running (collects z f) (Marks.old e) h = absurd (omega (arith, (collector_within f).0))
  running (collects z f) (Marks.new e) h = absurd (omega (arith, (collector_within f).0))
  running (collects z f) (Marks.root e) h = absurd (omega (arith, (collector_within f).0))
  running (collects z f) (Marks.field e) h = scanning z e f

-- ---- after a mark
unmarked : Unmarked 0 false 0
unmarked = record { no_cell = refl; no_look = refl; no_grey = refl }

-- q with the notes of its mark zeroed, and the work list w; the collector has noted b
abbrev ended : ℕ → Bool → ℕ → Process → Process
ended p b w q = marking 0 false (pick (eqb p 0) b false) 0 (listing w q.roots q)

module _ (n m p : ℕ) (q : Process) (b : Bool) (w : ℕ) (below : below_of w n ≡ true) where
  after_mutator : {k j : ℕ} → 0 < p → MutatorFits n q → MutatorAt n (at k j (ended p b w q)) → Fits n m p (at k j (ended p b w q))
  after_mutator pos f k = mutates pos (record { roots = f.roots; work = below; notes = k })

  after_collector : {k j : ℕ} → p ≡ 0 → CollectorFits n m q → CollectorAt n m (at k j (ended p b w q)) → Fits n m p (at k j (ended p b w q))
  after_collector z f k = collects z (record { work = below; no_f = f.no_f; no_y = f.no_y; no_old = f.no_old; no_roots = f.no_roots; part_none = f.part_none; notes = k })

  unsensed : 0 < p → pick (eqb p 0) b false ≡ false
  unsensed pos = rw (ne_eqb p 0 (λ e. omega arith)) refl

  pub next_fits : {t : Process} → Fits n m p q → Next (ended p b w q) t → Fits n m p t
  next_fits (mutates pos f) (Next.write e y) =
      let k = mark_old_at e f in
      after_mutator pos f (write refl (record { stage = refl; notes = k.notes; left = k.left; mark = unmarked; sense = unsensed pos }))
  next_fits (mutates pos f) (Next.new e y) =
      let k = mark_old_at e f in
      let c : IsCell n q.y = (omega arith, k.notes.is_y) in
      after_mutator pos f
      (mark_y refl
      (record {
        notes = k.notes;
        left = k.left;
        cell = refl;
        mark = mark_begins c refl refl;
        sense = λ h. unsensed pos;
      }))
  next_fits (mutates pos f) (Next.marked e) =
      let k = mark_y_at e f in
      after_mutator pos f (write refl (record { stage = refl; notes = k.notes; left = k.left; mark = unmarked; sense = unsensed pos }))
  next_fits (mutates pos f) (Next.roots e z) =
      let u = ⊎_elim (λ k. k.notes) (λ k. k.notes) (roots_at_lem e f) in
      after_mutator pos f (idle refl (record { stage = refl; notes = u; left = z; mark = unmarked; sense = unsensed pos }))
  next_fits (mutates pos f) (Next.root e z) =
      let u = ⊎_elim (λ k. k.notes) (λ k. k.notes) (roots_at_lem e f) in
      let l = ⊎_elim (λ k. k.left) (λ k. k.left) (roots_at_lem e f) in
      after_mutator pos f (roots_first refl (record { stage = refl; notes = u; left = l; mark = unmarked; sense = unsensed pos }))
  next_fits (mutates pos f) (Next.fields e l) = absurd (omega (arith, mutator_within f))
  next_fits (mutates pos f) (Next.field e l) = absurd (omega (arith, mutator_within f))
  next_fits (collects z f) (Next.write e y) = absurd (omega (arith, (collector_within f).0))
  next_fits (collects z f) (Next.new e y) = absurd (omega (arith, (collector_within f).0))
  next_fits (collects z f) (Next.marked e) = absurd (omega (arith, (collector_within f).0))
  next_fits (collects z f) (Next.roots e l) = absurd (omega (arith, (collector_within f).0))
  next_fits (collects z f) (Next.root e l) = absurd (omega (arith, (collector_within f).0))
  next_fits (collects z f) (Next.fields e l) =
      let k = scan_mark_at e f in
      after_collector z f (drop refl (record { stage = refl; is_x = k.is_x; left = l; mark = unmarked }))
  next_fits (collects z f) (Next.field e l) =
      let k = scan_mark_at e f in
      after_collector z f (scan refl (record { stage = refl; is_x = k.is_x; left = k.left; mark = unmarked }))

-- ---- the steps
module _ {n m p r : ℕ} {q : Process} (f : Fits n m p q) (k : Running n m p r q) where
  going : (j : ℕ) → look_stage < j → j ≤ unlock_stage → q.stage < unlock_stage → (0 < p → j < phase_stage → q.sense ≡ false) → Fits n m p (at q.place j q)
  going j i l h s = k.goes j q.look q.sense q.grey (mark_goes_on j k.notes h i l) i s

  pub mark_fits_lem : {a b : Memory} {t : Process} → Mark a p r q b t → Fits n m p t
  unfolding unnoted
  mark_fits_lem (Mark.looks e {b = x} g) =
      k.goes sense_stage x q.sense q.grey (mark_looks k.notes e x) (omega arith)
      (λ pos h. k.sense pos (omega arith))
  mark_fits_lem (Mark.equal e g h) = next_fits n m p q q.look q.work k.work f h
  mark_fits_lem (Mark.unequal e g) =
      k.goes phase_stage q.look (not q.look) q.grey (mark_goes_on phase_stage k.notes (omega arith) (omega arith) (omega arith)) (omega arith)
      (λ pos h. absurd (omega arith))
  mark_fits_lem (Mark.idle e g h) = next_fits n m p q q.sense q.work k.work f h
  mark_fits_lem (Mark.busy e g h) = going lock_stage (omega arith) (omega arith) (omega arith) (λ pos i. absurd (omega arith))
  mark_fits_lem (Mark.locks e g) = going again_stage (omega arith) (omega arith) (omega arith) (λ pos i. absurd (omega arith))
  mark_fits_lem (Mark.agrees e g) = going write_stage (omega arith) (omega arith) (omega arith) (λ pos i. absurd (omega arith))
  mark_fits_lem (Mark.differs e g) = going unlock_stage (omega arith) (omega arith) (omega arith) (λ pos i. absurd (omega arith))
  mark_fits_lem (Mark.writes e g) = k.goes unlock_stage q.look q.sense r (mark_greys k.notes) (omega arith) (λ pos i. absurd (omega arith))
  mark_fits_lem (Mark.wins e g h i) = next_fits n m p q q.sense (add_of q.work r) (below_add q.work r n k.notes.cell_named.1 k.work) f i
  mark_fits_lem (Mark.loses e g h i) = next_fits n m p q q.sense q.work k.work f i

module _ {c j : ℕ} (m : Memory) (p r : ℕ) (w : MemoryFormed m) (v : Ranged c j m) (mine : p < m.processes) (is : IsCell m.cells r) where
  locked : {n : Memory} → lock_of m p ≡ taken n → MemoryFormed n × Ranged c j n
  locked g = let a = rw g at (lock_kept m p w mine) in (a, lock_ranged p w a v g)

  unlocked : {n : Memory} → unlock_of m p ≡ taken n → MemoryFormed n × Ranged c j n
  unlocked g = let a = rw g at (unlock_kept m p w mine) in (a, unlock_ranged p w a v g)

  pub mark_memory : {q t : Process} {n : Memory} → Mark m p r q n t → MemoryFormed n × Ranged c j n
  mark_memory (Mark.looks e g) = (w, v)
  mark_memory (Mark.equal e g h) = (w, v)
  mark_memory (Mark.unequal e g) = (w, v)
  mark_memory (Mark.idle e g h) = (w, v)
  mark_memory (Mark.busy e g h) = (w, v)
  mark_memory (Mark.locks e g) = locked g
  mark_memory (Mark.agrees e g) = (w, v)
  mark_memory (Mark.differs e g) = (w, v)
  mark_memory {q = q} (Mark.writes e g) =
      let a = rw g at (write_kept m p w mine (record { store = store.Mark r q.sense }) is) in
      (a, write_ranged p w a v (record { store = store.Mark r q.sense }) (omega arith) g)
  mark_memory (Mark.wins e g h i) = unlocked g
  mark_memory (Mark.loses e g h i) = unlocked g
