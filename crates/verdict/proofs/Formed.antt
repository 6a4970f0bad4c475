-- The finding of any state. Assumes nothing.
--     formed_bounded       a well-formed state keeps the bounds that the verdicts lean on
--     found_exactly        the finding that is computed is document 01's, and the only one
--     malformed_judged    verdict 4 exactly if the state is malformed
--     formed_judged        of a well-formed state it is the finding that does not look for that
--     formed_verdicts      each verdict of a well-formed state exactly if it applies and no lesser one does
use mathlib.Core.Path.{◌≡◌, refl, sym, ap, ◌∙◌}
use mathlib.Core.Bool.{true, false}
use mathlib.Core.Logic.{◌⊎◌, inl, inr, ◌↔◌}
use Prim.Native.Nat.{ℕ, ◌≤◌, ◌<◌}
use native.Mathlib.Omega.{arith}
use native.Mathlib.Decide.{dec_lt, ℕ_discrete}
use lib.ListN.{length, get_or, length-take, get_or-eq_default}
use lib.Seq.{get_or-take}
use Rattle.base.proofs.Lists.{beyond}
use Rattle.cells.specs.Sets.{below_of}
use Rattle.cells.proofs.Bools.{split, not_both}
use Rattle.cells.proofs.Belows.{below_of_lem, below_empty}
use Rattle.buffers.specs.declared.Store.TheVariants as store
use Rattle.buffers.specs.declared.Buffer.{Buffer}
use Rattle.buffers.specs.declared.Entry.{Entry}
use Rattle.buffers.specs.Stores.{no_entry}
use Rattle.buffers.specs.Buffers.{pending_of}
use Rattle.buffers.specs.Fits.{entry_of}
use Rattle.memory.specs.Memories.{max_processes, no_buffer, buffer_of}
use Rattle.state.specs.declared.Process.{Process}
use Rattle.state.specs.declared.State.{State}
use Rattle.state.specs.States.{process_of, mutators_of}
use Rattle.reach.specs.Held.{store_at}
use Rattle.reach.specs.Statements.{Bounds}
use Rattle.formed.specs.Fits.{MutatorAt, idle, mark_old, mark_y, write, roots_first, roots_rest, WellFormed}
use Rattle.formed.specs.WellFormed.{well_formed_of}
use Rattle.formed.proofs.Whole.{well_formed_lem}
use Rattle.verdict.specs.Judged.{Finding, is_malformed, found, Judged, loose, black_over_white, handshake, sound}
use Rattle.verdict.specs.Findings.{Found, malformed, formed, finding_of, FormedBounded, FoundExactly, MalformedJudged, FormedJudged, FormedVerdicts}
use Rattle.verdict.proofs.Verdicts.{judged_holds, judged_only, verdicts_exactly}

-- ---- a process: the collector, a mutator, nobody
module _ (s : State) (w : WellFormed s) where
  data Who (p : ℕ) : Type 0 where
    first : p ≡ 0 → Who p
    one_of : 0 < p → p ≤ mutators_of s → Who p
    none : mutators_of s < p → Who p

  who : (p : ℕ) → Who p
  who p = go (ℕ_discrete p 0) (dec_lt (mutators_of s) p)
    where
      go : Dec (p ≡ 0) → Dec (mutators_of s < p) → Who p
      go (yes e) d = first e
      go (no q) (yes l) = none l
      go (no q) (no l) = one_of (omega arith) (omega arith)

  roots_below : (p : ℕ) → below_of (process_of s p).roots s.memory.cells ≡ true
  roots_below p = go (who p)
    where
      go : Who p → below_of (process_of s p).roots s.memory.cells ≡ true
      go (first e) = rw (e, w.collector.no_roots) (below_empty s.memory.cells)
      go (one_of a b) = (w.mutators p a b).roots
      go (none l) = rw (w.nobody p l) (below_empty s.memory.cells)

  old_of : (q : Process) → MutatorAt s.memory.cells q → q.old ≤ s.memory.cells
  old_of q (idle g u) = omega (arith, u.notes.no_old)
  old_of q (mark_old g u) = u.notes.is_old
  old_of q (mark_y g u) = u.notes.is_old
  old_of q (write g u) = u.notes.is_old
  old_of q (roots_first g u) = omega (arith, u.notes.no_old)
  old_of q (roots_rest g u) = omega (arith, u.notes.no_old)

  old_within : (p : ℕ) → (process_of s p).old ≤ s.memory.cells
  old_within p = go (who p)
    where
      go : Who p → (process_of s p).old ≤ s.memory.cells
      go (first e) = rw (e, w.collector.no_old) (omega arith)
      go (one_of a b) = old_of (process_of s p) (w.mutators p a b).notes
      go (none l) = rw (w.nobody p l) (omega arith)

  -- ---- a pending field store is an entry below the buffer's length
  pending_at : (p i c f v : ℕ) → store_at s p i ≡ store.Field c f v → (i < (buffer_of s.memory p).len) × ((entry_of (buffer_of s.memory p) i).store ≡ store.Field c f v)
  pending_at p i c f v e = go (dec_lt i (buffer_of s.memory p).len)
    where
      b : Buffer
      b = buffer_of s.memory p

      go : Dec (i < (buffer_of s.memory p).len) → (i < (buffer_of s.memory p).len) × ((entry_of (buffer_of s.memory p) i).store ≡ store.Field c f v)
      go (yes l) = (l, sym (ap (λ (x : Entry). x.store) (get_or-take b.len b.entries i no_entry l)) ∙ e)
      go (no q) =
          let k : length (pending_of (buffer_of s.memory p)) ≤ i = rw length-take (omega arith) in
          let d : get_or (pending_of (buffer_of s.memory p)) i no_entry ≡ no_entry = get_or-eq_default (pending_of (buffer_of s.memory p)) no_entry {n = i} k in
          let x : no_entry.store ≡ store.Field c f v = sym (ap (λ (x : Entry). x.store) d) ∙ e in
          let z : ◌≡◌ {A = ℕ} 0 1 = cc in
          absurd (omega arith)

  target_within : (p i c f v : ℕ) → store_at s p i ≡ store.Field c f v → c ≤ s.memory.cells
  target_within p i c f v e = go (dec_lt p s.memory.processes) (dec_lt p max_processes)
    where
      r : (i < (buffer_of s.memory p).len) × ((entry_of (buffer_of s.memory p) i).store ≡ store.Field c f v)
      r = pending_at p i c f v e

      go : Dec (p < s.memory.processes) → Dec (p < max_processes) → c ≤ s.memory.cells
      go (yes l) d = (rw r.1 at ((w.memory.buffers p l).pending i r.0)).0.1
      go (no q) (yes l) = absurd (omega (arith, rw (w.memory.process_none p (omega arith) l) at r.0))
      go (no q) (no l) = absurd (omega (arith, rw (beyond s.memory.buffers no_buffer p max_processes w.memory.buffers_sized (omega arith)) at r.0))

  value_within : (p i c f v : ℕ) → store_at s p i ≡ store.Field c f v → v ≤ s.memory.cells
  value_within p i c f v e = rw (pending_at p i c f v e).1 at (w.pending p i)

  bounds : Bounds s.memory
  bounds = record {
    cells = w.memory.few_cells;
    used = below_of_lem s.memory.used s.memory.cells (λ c p. (w.memory.used_cells c p).1);
    fields = λ c f u. w.fields c f;
  }

pub formed_bounded : FormedBounded
formed_bounded s w = record {
  within = record { memory = bounds s w; roots = roots_below s w; old = old_within s w; target = target_within s w; value = value_within s w };
  mutators = omega (arith, w.memory.few_processes);
}

-- ---- the finding
module _ (s : State) where
  found_holds : Found s (finding_of s)
  unfolding finding_of
  found_holds = go (split (well_formed_of s))
    where
      go : (well_formed_of s ≡ true) ⊎ (well_formed_of s ≡ false) → Found s (finding_of s)
      go (inl e) = let w = (well_formed_lem s).0 e in rw e (formed w (judged_holds s (formed_bounded s w)))
      go (inr e) = rw e (malformed (λ w. not_both ((well_formed_lem s).1 w) e))

  found_only : {f : Finding} → Found s f → f ≡ finding_of s
  unfolding finding_of
  found_only (malformed n) = go (split (well_formed_of s))
    where
      go : (well_formed_of s ≡ true) ⊎ (well_formed_of s ≡ false) → found is_malformed 0 ≡ finding_of s
      go (inl e) = absurd (n ((well_formed_lem s).0 e))
      go (inr e) = rw e
  found_only (formed w j) = rw ((well_formed_lem s).1 w) (judged_only s (formed_bounded s w) j)

  -- the verdict of a well-formed state is not 4
  below_four : {f : Finding} → Judged s f → f.verdict ≡ is_malformed → ⊥
  below_four (loose l) e = omega arith
  below_four (black_over_white a l) e = omega arith
  below_four (handshake a b l) e = omega arith
  below_four (sound a b l) e = omega arith

  four_only : {f : Finding} → Found s f → (f.verdict ≡ is_malformed) ↔ (WellFormed s → ⊥)
  four_only (malformed n) = (λ e. n, λ x. refl)
  four_only (formed w j) = (λ e. absurd (below_four j e), λ x. absurd (x w))

pub found_exactly : FoundExactly
found_exactly s f = (λ e. rw e (found_holds s), found_only s)

pub malformed_judged : MalformedJudged
malformed_judged s = four_only s (found_holds s)

pub formed_judged : FormedJudged
unfolding finding_of
formed_judged s w = rw ((well_formed_lem s).1 w) refl

pub formed_verdicts : FormedVerdicts
formed_verdicts s w = rw (formed_judged s w) (verdicts_exactly s (formed_bounded s w))
