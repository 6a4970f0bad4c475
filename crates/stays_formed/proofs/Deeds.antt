-- Each row does to memory what the table of deeds says of its place, stage and operation. Assumes nothing.
--     top_deed_lem, mark_deed_lem, round_deed     the deed at top by the operation, in a mark and in a round by the stage
--     row_deed_lem                            an own step does to memory what its deed does
use mathlib.Core.Path.{◌≡◌, refl, ◌∙◌}
use mathlib.Core.Logic.{⊎_elim}
use Prim.Native.Nat.{ℕ}
use native.Mathlib.Omega.{arith}
use lib.Dec.{eqb}
use borrow.Author.Tests.{ne_eqb}
use Rattle.base.specs.Pick.{pick}
use Rattle.buffers.specs.declared.Spot.TheVariants as spot
use Rattle.buffers.specs.declared.Store.TheVariants as store
use Rattle.memory.specs.declared.Memory.{Memory}
use Rattle.state.specs.declared.RoundType.{RoundType}
use Rattle.state.specs.declared.Process.{Process}
use Rattle.state.specs.declared.State.{State}
use Rattle.state.specs.declared.Choice.{Choice}
use Rattle.state.specs.Codes.{top, store_mark_old, store_mark_y, store_write, noop_fence, noop_finish, roots_fence, roots_mark, roots_finish, work_fence, work_finish, row2_read, row2_write, row4_write, row5_phase, row5_alloc, row6_take, row7_first, row7_mark, row7_next, row7_drop, row8_take, row9_write, row10_look, row10_free, row11_write, no_stage, look_stage, sense_stage, phase_stage, lock_stage, again_stage, write_stage, unlock_stage, fence_stage, type_stage, raise_stage, poll_stage}
use Rattle.state.specs.States.{at, process_of}
use Rattle.model.specs.Deeds.{Deed, cell_of, top_deed, mark_deed, row_deed, deed_of}
use Rattle.model.specs.Rows.{At, Marks, Mark, Mutator, Round, row1, row3, row4, row5, row6, row8, Collector, Row}
use Rattle.model.specs.Reasons.{mover}
use Rattle.formed.specs.Fits.{WellFormed}
use Rattle.formed.proofs.Gives.{collector_within}
use Rattle.model.proofs.Standing.{staged}
use Rattle.stays_formed.specs.Deeds.{Does}
use Rattle.stays_formed.proofs.Frames.{named}

does : {d e : Deed} → d ≡ e → (p : ℕ) (m n : Memory) → Does e p m n → Does d p m n
does h p m n a = rw h a

-- ---- the deed at a place and stage
module _ (c : Choice) (q : Process) where
  at_place : (k j : ℕ) → At k j q → deed_of c q ≡ deed_of c (at k j q)
  at_place k j a = staged (deed_of c) q a.place a.stage

  -- at top, by the operation
  op_deed : (o : ℕ) → c.op ≡ o → top_deed c ≡ pick (eqb o 0) (Deed.allocates c.x) (pick (eqb o 2) (Deed.reads (spot.Field c.x c.f)) (pick (eqb o 3) (Deed.reads (spot.Field c.x c.f)) (pick (eqb o 4) Deed.fences Deed.apart)))
  unfolding top_deed
  op_deed o e = rw e refl

  pub top_deed_lem : (o : ℕ) → At top no_stage q → c.op ≡ o →
      deed_of c q ≡ pick (eqb o 0) (Deed.allocates c.x) (pick (eqb o 2) (Deed.reads (spot.Field c.x c.f)) (pick (eqb o 3) (Deed.reads (spot.Field c.x c.f)) (pick (eqb o 4) Deed.fences Deed.apart)))
  unfolding deed_of
  top_deed_lem o a e = at_place top no_stage a ∙ op_deed o e

  -- in a mark of r, by the stage
  pub mark_deed_lem : {r : ℕ} → Marks q r → (q.place ≡ roots_mark → q.stage ≡ look_stage → ⊥) → (j : ℕ) → q.stage ≡ j →
      deed_of c q ≡
      pick (eqb j look_stage) (Deed.reads (spot.Mark r))
      (pick (eqb j sense_stage) (Deed.reads spot.Sense)
      (pick (eqb j phase_stage) (Deed.reads spot.Phase)
      (pick (eqb j lock_stage) Deed.locks
      (pick (eqb j again_stage) (Deed.reads (spot.Mark r))
      (pick (eqb j write_stage) (Deed.writes (store.Mark r q.sense))
      Deed.unlocks)))))
  unfolding deed_of mark_deed cell_of
  mark_deed_lem (Marks.old e) h j s = at_place store_mark_old j (record { place = e; stage = s })
  mark_deed_lem (Marks.new e) h j s = at_place store_mark_y j (record { place = e; stage = s })
  mark_deed_lem (Marks.root e) h j s = at_place roots_mark j (record { place = e; stage = s }) ∙ rw (ne_eqb j look_stage (λ i. h e (s ∙ i))) refl
  mark_deed_lem (Marks.field e) h j s = at_place row7_mark j (record { place = e; stage = s })

  -- in a round, by the stage
  pub round_deed : {k j l : ℕ} {t : RoundType} (i : ℕ) → Round k t j l → At k i q → deed_of c q ≡ pick (eqb i fence_stage) Deed.fences Deed.apart
  unfolding deed_of
  round_deed i r a = at_place _ i a ∙ go r
    where
      go : {k j l : ℕ} {t : RoundType} → Round k t j l → deed_of c (at k i q) ≡ pick (eqb i fence_stage) Deed.fences Deed.apart
      go row1 = refl
      go row3 = refl
      go row4 = refl
      go row5 = refl
      go row6 = refl
      go row8 = refl

-- ---- the rows
module _ (c : Choice) (p : ℕ) (q : Process) where
  mark_does : {r : ℕ} {m n : Memory} {t : Process} → Marks q r → (q.place ≡ roots_mark → q.stage ≡ look_stage → ⊥) → Mark m p r q n t → Does (deed_of c q) p m n
  mark_does {m = m} {n = n} k h (Mark.looks e g) = does (mark_deed_lem c q k h look_stage e) p m n refl
  mark_does {m = m} {n = n} k h (Mark.equal e g i) = does (mark_deed_lem c q k h sense_stage e) p m n refl
  mark_does {m = m} {n = n} k h (Mark.unequal e g) = does (mark_deed_lem c q k h sense_stage e) p m n refl
  mark_does {m = m} {n = n} k h (Mark.idle e g i) = does (mark_deed_lem c q k h phase_stage e) p m n refl
  mark_does {m = m} {n = n} k h (Mark.busy e g i) = does (mark_deed_lem c q k h phase_stage e) p m n refl
  mark_does {m = m} {n = n} k h (Mark.locks e g) = does (mark_deed_lem c q k h lock_stage e) p m n g
  mark_does {m = m} {n = n} k h (Mark.agrees e g) = does (mark_deed_lem c q k h again_stage e) p m n refl
  mark_does {m = m} {n = n} k h (Mark.differs e g) = does (mark_deed_lem c q k h again_stage e) p m n refl
  mark_does {m = m} {n = n} k h (Mark.writes e g) = does (mark_deed_lem c q k h write_stage e) p m n g
  mark_does {m = m} {n = n} k h (Mark.wins e g i j) = does (mark_deed_lem c q k h unlock_stage e) p m n g
  mark_does {m = m} {n = n} k h (Mark.loses e g i j) = does (mark_deed_lem c q k h unlock_stage e) p m n g

module _ (s : State) (c : Choice) (p : ℕ) (q : Process) where
  mutator_does : {t : State} → Mutator s c p q t → Does (deed_of c q) p s.memory t.memory
  unfolding deed_of mark_deed cell_of row_deed
  mutator_does {t = t} (Mutator.allocates a o x l g y e) = does (top_deed_lem c q 0 a o) p s.memory t.memory e
  mutator_does {t = t} (Mutator.drops a o m g y) = does (top_deed_lem c q 1 a o) p s.memory t.memory refl
  mutator_does {t = t} (Mutator.reads a o m g y e h) = does (top_deed_lem c q 2 a o) p s.memory t.memory refl
  mutator_does {t = t} (Mutator.reads_null a o m g y e) = does (top_deed_lem c q 2 a o) p s.memory t.memory refl
  mutator_does {t = t} (Mutator.stores a o m g y e h) = does (top_deed_lem c q 3 a o) p s.memory t.memory refl
  mutator_does {t = t} (Mutator.stores_new a o m g y e) = does (top_deed_lem c q 3 a o) p s.memory t.memory refl
  mutator_does {t = t} (Mutator.stores_null a o m g y e) = does (top_deed_lem c q 3 a o) p s.memory t.memory refl
  mutator_does {t = t} (Mutator.fences a o x g y e) = does (top_deed_lem c q 4 a o) p s.memory t.memory e
  mutator_does {t = t} (Mutator.answers a o x g y r b) = does (top_deed_lem c q 5 a o) p s.memory t.memory refl
  mutator_does {t = t} (Mutator.marks b i h e) = mark_does c p q i h e
  mutator_does {t = t} (Mutator.looks_root a o m e) = does (at_place c q roots_mark look_stage a) p s.memory t.memory refl
  mutator_does {t = t} (Mutator.writes a b e) = does (at_place c q store_write no_stage a) p s.memory t.memory e
  mutator_does {t = t} (Mutator.fences_noop a b e) = does (at_place c q noop_fence no_stage a) p s.memory t.memory e
  mutator_does {t = t} (Mutator.fences_work a b e) = does (at_place c q work_fence no_stage a) p s.memory t.memory e
  mutator_does {t = t} (Mutator.fences_roots a b e h) = does (at_place c q roots_fence no_stage a) p s.memory t.memory e
  mutator_does {t = t} (Mutator.fences_none a b e h) = does (at_place c q roots_fence no_stage a) p s.memory t.memory e
  mutator_does {t = t} (Mutator.finishes_noop a b) = does (at_place c q noop_finish no_stage a) p s.memory t.memory refl
  mutator_does {t = t} (Mutator.finishes_roots a b) = does (at_place c q roots_finish no_stage a) p s.memory t.memory refl
  mutator_does {t = t} (Mutator.finishes_work a b) = does (at_place c q work_finish no_stage a) p s.memory t.memory refl

  collector_does : {t : State} → (q.place ≡ roots_mark → q.stage ≡ look_stage → ⊥) → Collector s c p q t → Does (deed_of c q) p s.memory t.memory
  unfolding deed_of mark_deed cell_of row_deed
  collector_does {t = t} h (Collector.fences r a b e) = does (round_deed c q fence_stage r a) p s.memory t.memory e
  collector_does {t = t} h (Collector.types r a b v) = does (round_deed c q type_stage r a) p s.memory t.memory refl
  collector_does {t = t} h (Collector.raises r a b m e) = does (round_deed c q raise_stage r a) p s.memory t.memory refl
  collector_does {t = t} h (Collector.raises_last r a b m e) = does (round_deed c q raise_stage r a) p s.memory t.memory refl
  collector_does {t = t} h (Collector.polls_up r a b m e) = does (round_deed c q poll_stage r a) p s.memory t.memory refl
  collector_does {t = t} h (Collector.polls r a b m e i) = does (round_deed c q poll_stage r a) p s.memory t.memory refl
  collector_does {t = t} h (Collector.polls_last r a b m e i) = does (round_deed c q poll_stage r a) p s.memory t.memory refl
  collector_does {t = t} h (Collector.reads_sense a b e) = does (at_place c q row2_read no_stage a) p s.memory t.memory refl
  collector_does {t = t} h (Collector.writes_sense a b e) = does (at_place c q row2_write no_stage a) p s.memory t.memory e
  collector_does {t = t} h (Collector.writes_init a b e) = does (at_place c q row4_write no_stage a) p s.memory t.memory e
  collector_does {t = t} h (Collector.writes_mark a b e) = does (at_place c q row5_phase no_stage a) p s.memory t.memory e
  collector_does {t = t} h (Collector.writes_alloc a b e) = does (at_place c q row5_alloc no_stage a) p s.memory t.memory e
  collector_does {t = t} h (Collector.takes a b i) = ⊎_elim (λ (j : At row6_take no_stage q). does (at_place c q row6_take no_stage j) p s.memory t.memory refl) (λ (j : At row8_take no_stage q). does (at_place c q row8_take no_stage j) p s.memory t.memory refl) a
  collector_does {t = t} h (Collector.takes_none a b i) = ⊎_elim (λ (j : At row6_take no_stage q). does (at_place c q row6_take no_stage j) p s.memory t.memory refl) (λ (j : At row8_take no_stage q). does (at_place c q row8_take no_stage j) p s.memory t.memory refl) a
  collector_does {t = t} h (Collector.reads_first a b e i) = does (at_place c q row7_first no_stage a) p s.memory t.memory refl
  collector_does {t = t} h (Collector.reads_first_null a b e) = does (at_place c q row7_first no_stage a) p s.memory t.memory refl
  collector_does {t = t} h (Collector.marks b i e) = mark_does c p q i h e
  collector_does {t = t} h (Collector.reads_next a b e i) = does (at_place c q row7_next no_stage a) p s.memory t.memory refl
  collector_does {t = t} h (Collector.reads_next_null a b e n) = does (at_place c q row7_next no_stage a) p s.memory t.memory refl
  collector_does {t = t} h (Collector.reads_last_null a b e n) = does (at_place c q row7_next no_stage a) p s.memory t.memory refl
  collector_does {t = t} h (Collector.drops a b i) = does (at_place c q row7_drop no_stage a) p s.memory t.memory refl
  collector_does {t = t} h (Collector.drops_last a b i) = does (at_place c q row7_drop no_stage a) p s.memory t.memory refl
  collector_does {t = t} h (Collector.writes_sweep a b e) = does (at_place c q row9_write no_stage a) p s.memory t.memory e
  collector_does {t = t} h (Collector.spares a b m e i) = does (at_place c q row10_look no_stage a) p s.memory t.memory refl
  collector_does {t = t} h (Collector.spares_last a b m e i) = does (at_place c q row10_look no_stage a) p s.memory t.memory refl
  collector_does {t = t} h (Collector.condemns a b m e) = does (at_place c q row10_look no_stage a) p s.memory t.memory refl
  collector_does {t = t} h (Collector.frees a b e i) = does (at_place c q row10_free no_stage a) p s.memory t.memory e
  collector_does {t = t} h (Collector.frees_last a b e i) = does (at_place c q row10_free no_stage a) p s.memory t.memory e
  collector_does {t = t} h (Collector.writes_idle a b e) = does (at_place c q row11_write no_stage a) p s.memory t.memory e

pub row_deed_lem : {s t : State} {c : Choice} → WellFormed s → c.kind ≡ 0 → Row s c t → Does (deed_of c (mover s c)) c.process s.memory t.memory
row_deed_lem {s} {t} {c} w k (Row.collector z e r) =
    named (λ i. Does (deed_of c (process_of s i)) i s.memory t.memory) e
    (collector_does s c 0 (process_of s 0) (λ a _. omega (arith, (collector_within w.collector).0)) r)
row_deed_lem {s} {t} {c} w k (Row.mutator z {p = p} e pos mine r) = named (λ i. Does (deed_of c (process_of s i)) i s.memory t.memory) e (mutator_does s c p (process_of s p) r)
row_deed_lem w k (Row.commits z e mine b h) = absurd (omega arith)
