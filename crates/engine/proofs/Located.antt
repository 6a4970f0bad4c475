-- What a well-formed state gives of the process that steps, as the views of the two programs ask it. Assumes nothing.
--     collecting     the collector's: its place is one of the collector's, its stage one of that place's
--     mutating       a mutator's
use mathlib.Core.Path.{◌≡◌, refl, sym, ◌∙◌}
use mathlib.Core.Bool.{Bool, true, false, not, false≢true}
use Prim.Native.Nat.{ℕ, ◌≤◌, ◌<◌}
use native.Mathlib.Omega.{arith}
use borrow.Author.Tests.{not-true}
use Rattle.base.specs.Every.{◌and◌}
use Rattle.base.proofs.Everies.{and_both}
use Rattle.memory_formed.proofs.Shapes.{shaped}
use Rattle.state.specs.declared.Process.{Process}
use Rattle.state.specs.declared.State.{State}
use Rattle.state.specs.declared.Choice.{Choice}
use Rattle.state.specs.Codes.{row10_look, no_stage, unlock_stage, poll_stage}
use Rattle.state.specs.States.{mutators_of, process_of}
use Rattle.formed.specs.Fits.{WellFormed, idle_places, plain_places, round_places, CollectorAt, plain, round, scan_mark, scan, drop, sweep, sweep_free, MutatorAt, idle, mark_old, mark_y, write, roots_first, roots_rest}
use Rattle.formed.proofs.Places.{all_true}
use Rattle.formed.proofs.Gives.{sweep_at, mutator_within, collector_within}
use Rattle.model.specs.Offers.{mark_place, round_place}
use Rattle.model.specs.Reasons.{mover}
use Rattle.model.proofs.Standing.{Standing}
use Rattle.model.proofs.Numbers.{Buffered}
use Rattle.model.proofs.Mutators.{Mutating}
use Rattle.model.proofs.Rounds.{Collecting}

-- ---- the stage of a place, by its kind: with no stages, those of a mark, or those of a round
abbrev plain_of : ℕ → Bool
plain_of k = not (mark_place k) and not (round_place k)

abbrev mark_of : ℕ → Bool
mark_of k = mark_place k and not (round_place k)

abbrev round_of : ℕ → Bool
round_of k = not (mark_place k) and round_place k

module _ (q : Process) where
  no : {A : Type 0} {b : Bool} → b ≡ false → b ≡ true → A
  no e h = absurd (false≢true (sym e ∙ h))

  stands_plain : plain_of q.place ≡ true → q.stage ≡ no_stage → Standing q
  stands_plain h e =
      let k = and_both (not (mark_place q.place)) (not (round_place q.place)) h in
      let m = not-true (mark_place q.place) k.0 in
      let r = not-true (round_place q.place) k.1 in
      record { unstaged = λ _ _. e; mark_begun = λ i. no m i; mark_running = λ i. no m i; round_begun = λ i. no r i; round_running = λ i. no r i }

  stands_mark : mark_of q.place ≡ true → 0 < q.stage → q.stage ≤ unlock_stage → Standing q
  stands_mark h b l =
      let k = and_both (mark_place q.place) (not (round_place q.place)) h in
      let r = not-true (round_place q.place) k.1 in
      record { unstaged = λ i _. no i k.0; mark_begun = λ _. b; mark_running = λ _. l; round_begun = λ i. no r i; round_running = λ i. no r i }

  stands_round : round_of q.place ≡ true → 0 < q.stage → q.stage ≤ poll_stage → Standing q
  stands_round h b l =
      let k = and_both (not (mark_place q.place)) (round_place q.place) h in
      let m = not-true (mark_place q.place) k.0 in
      record { unstaged = λ _ i. no i k.1; mark_begun = λ i. no m i; mark_running = λ i. no m i; round_begun = λ _. b; round_running = λ _. l }

  collector_stands : {n m : ℕ} → CollectorAt n m q → Standing q
  collector_stands (plain g w) = stands_plain (all_true plain_of plain_places refl q.place g) w.stage
  collector_stands (round g w) = stands_round (all_true round_of round_places refl q.place g) w.begun w.running
  collector_stands (scan_mark e w) = stands_mark (rw e refl) w.mark.begun w.mark.running
  collector_stands (scan e w) = stands_plain (rw e refl) w.stage
  collector_stands (drop e w) = stands_plain (rw e refl) w.stage
  collector_stands (sweep e w) = stands_plain (rw e refl) w.stage
  collector_stands (sweep_free e w) = stands_plain (rw e refl) w.stage

  mutator_stands : {n : ℕ} → MutatorAt n q → Standing q
  mutator_stands (idle g w) = stands_plain (all_true plain_of idle_places refl q.place g) w.stage
  mutator_stands (mark_old e w) = stands_mark (rw e refl) w.mark.begun w.mark.running
  mutator_stands (mark_y e w) = stands_mark (rw e refl) w.mark.begun w.mark.running
  mutator_stands (write e w) = stands_plain (rw e refl) w.stage
  mutator_stands (roots_first e w) = let h = w.stage in stands_mark (rw e refl) (omega arith) (omega arith)
  mutator_stands (roots_rest e w) = stands_mark (rw e refl) w.mark.begun w.mark.running

-- ---- both, from the state
module _ (s : State) (c : Choice) (w : WellFormed s) where
  pub buffered : c.process ≤ mutators_of s → Buffered s.memory c.process
  buffered h =
      let few = w.memory.few_processes in
      let some = w.memory.some_processes in
      record { process = omega arith; shaped = shaped s.memory w.memory }

  pub collecting : c.kind ≡ 0 → c.process ≡ 0 → Collecting s c
  collecting k e =
      let f = w.collector in
      let l = collector_within f in
      let x : (process_of s 0).place ≡ row10_look → (process_of s 0).x ≡ 0 = λ h. (sweep_at h f).no_x in
      record {
        kind = k;
        first = rw e l.0;
        last = rw e l.1;
        standing = rw e (collector_stands (process_of s 0) f.notes);
        swept = rw e x;
        processes = w.sized;
        buffered = buffered (omega arith);
      }

  pub mutating : c.kind ≡ 0 → 0 < c.process → c.process ≤ mutators_of s → Mutating s c
  mutating k z h =
      let f = w.mutators c.process z h in
      record { kind = k; place = mutator_within f; standing = mutator_stands (mover s c) f.notes; buffered = buffered h }
