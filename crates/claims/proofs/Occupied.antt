-- Each cell is occupied exactly as its opening, the allocations and the frees of the run say. Assumes nothing.
--     row_occupied      a row does to each cell what the choice's event says
--     run_occupied      and so does a run
use mathlib.Core.Path.{◌≡◌, refl, ap, ◌∙◌}
use mathlib.Core.Bool.{Bool, ◌||◌}
use mathlib.Core.List.{List, [], ◌∷◌}
use mathlib.Core.Logic.{⊎_elim}
use Prim.Native.Nat.{ℕ, ◌≤◌, ◌<◌}
use native.Mathlib.Omega.{arith}
use native.Mathlib.Decide.{ℕ_discrete}
use lib.Dec.{eqb}
use borrow.Author.Tests.{eq-eqb, ne_eqb}
use Rattle.base.specs.Pick.{pick}
use Rattle.base.proofs.Picking.{picked}
use Rattle.base.specs.Refusals.{as_taken}
use Rattle.cells.specs.Sets.{max_set, member_of, add_of, remove_of}
use Rattle.cells.proofs.Members.{add_same, add_keeps, in_add, remove_gone, in_remove, remove_keeps}
use Rattle.cells.proofs.Bools.{same_test}
use Rattle.buffers.specs.declared.Store.{Store}
use Rattle.buffers.specs.declared.Spot.{Spot}
use Rattle.memory.specs.declared.Memory.{Memory}
use Rattle.memory.specs.Memories.{used_of}
use Rattle.memory.proofs.Shapes.{Shaped}
use Rattle.memory.proofs.Effects.{fence_taken, write_settled, commit_settled, lock_settled, unlock_settled, allocate_used, free_used}
use Rattle.memory_formed.proofs.Shapes.{shaped}
use Rattle.state.specs.declared.Process.{Process}
use Rattle.state.specs.declared.State.{State}
use Rattle.state.specs.declared.Choice.{Choice}
use Rattle.state.specs.States.{Answer, taken_of, refused_of}
use Rattle.state.specs.declared.opening.Heap.{Heap}
use Rattle.state.specs.Codes.{top, store_write, noop_fence, roots_fence, work_fence, row2_read, row2_write, row4_write, row5_phase, row5_alloc, row7_first, row7_next, row9_write, row10_look, row10_free, row11_write, look_stage, sense_stage, phase_stage, lock_stage, again_stage, write_stage, fence_stage}
use Rattle.state.specs.Openings.{open_memory, opening_of}
use Rattle.formed.specs.Fits.{WellFormed}
use Rattle.formed.proofs.Opens.{opening_formed}
use Rattle.model.specs.Deeds.{Deed, top_deed, mark_deed, row_deed, deed_of}
use Rattle.model.specs.Offers.{mark_place, round_place}
use Rattle.model.specs.Rows.{Row}
use Rattle.model.specs.Reasons.{mover}
use Rattle.stays_formed.specs.Deeds.{Does}
use Rattle.stays_formed.proofs.Deeds.{row_deed_lem}
use Rattle.engine.specs.Steps.{step_of}
use Rattle.engine.proofs.Theorems.{answered, kept}
use Rattle.claims.specs.Runs.{run_of}
use Rattle.claims.specs.Occupied.{Event, none, allocated, freed, own_event, event_of, later, last_of, occupied_by, RunOccupied}
use Rattle.claims.proofs.Runs.{taken_row}

-- ---- the event of a deed
abbrev deed_event : ℕ → Deed → Event
deed_event x (Deed.reads a) = none
deed_event x (Deed.sweeps y) = none
deed_event x (Deed.writes v) = none
deed_event x Deed.fences = none
deed_event x Deed.locks = none
deed_event x Deed.unlocks = none
deed_event x (Deed.allocates y) = pick (eqb y x) allocated none
deed_event x (Deed.frees y) = pick (eqb y x) freed none
deed_event x Deed.apart = none

-- the deeds by which nothing happens to a cell
data Still : Deed → Type 0 where
  reads : {a : Spot} → Still (Deed.reads a)
  sweeps : {y : ℕ} → Still (Deed.sweeps y)
  writes : {v : Store} → Still (Deed.writes v)
  fences : Still Deed.fences
  locks : Still Deed.locks
  unlocks : Still Deed.unlocks
  apart : Still Deed.apart

still_none : {d : Deed} (x : ℕ) → Still d → deed_event x d ≡ none
still_none x Still.reads = refl
still_none x Still.sweeps = refl
still_none x Still.writes = refl
still_none x Still.fences = refl
still_none x Still.locks = refl
still_none x Still.unlocks = refl
still_none x Still.apart = refl

-- ---- the event of an own step is that of its deed
module _ (c : Choice) (q : Process) where
  top_still : (c.op ≡ 0 → ⊥) → Still (top_deed c)
  unfolding top_deed
  top_still h = rw (ne_eqb c.op 0 h) (picked Still (eqb c.op 2) Still.reads (picked Still (eqb c.op 3) Still.reads (picked Still (eqb c.op 4) Still.fences Still.apart)))

  mark_still : Still (mark_deed c q)
  unfolding mark_deed
  mark_still =
      picked Still (eqb q.stage look_stage) Still.reads
      (picked Still (eqb q.stage sense_stage) Still.reads
      (picked Still (eqb q.stage phase_stage) Still.reads
      (picked Still (eqb q.stage lock_stage) Still.locks
      (picked Still (eqb q.stage again_stage) Still.reads
      (picked Still (eqb q.stage write_stage) Still.writes
      Still.unlocks)))))

  row_still : (q.place ≡ row10_free → ⊥) → Still (row_deed c q)
  unfolding row_deed
  row_still h =
      rw (ne_eqb q.place row10_free h)
      (picked Still (eqb q.place store_write) Still.writes
      (picked Still (eqb q.place noop_fence || eqb q.place roots_fence || eqb q.place work_fence) Still.fences
      (picked Still (eqb q.place row2_read) Still.reads
      (picked Still (eqb q.place row2_write) Still.writes
      (picked Still (eqb q.place row4_write) Still.writes
      (picked Still (eqb q.place row5_phase) Still.writes
      (picked Still (eqb q.place row5_alloc) Still.writes
      (picked Still (eqb q.place row7_first) Still.reads
      (picked Still (eqb q.place row7_next) Still.reads
      (picked Still (eqb q.place row9_write) Still.writes
      (picked Still (eqb q.place row10_look) Still.sweeps
      (picked Still (eqb q.place row11_write) Still.writes
      Still.apart))))))))))))

  deed_still : (q.place ≡ top → ⊥) → (q.place ≡ row10_free → ⊥) → Still (deed_of c q)
  unfolding deed_of
  deed_still h k = rw (ne_eqb q.place top h) (picked Still (mark_place q.place) mark_still (picked Still (round_place q.place) (picked Still (eqb q.stage fence_stage) Still.fences Still.apart) (row_still k)))

  at_top : q.place ≡ top → deed_of c q ≡ top_deed c
  unfolding deed_of
  at_top e = rw e refl

  at_free : q.place ≡ row10_free → deed_of c q ≡ Deed.frees q.x
  unfolding deed_of row_deed
  at_free e = rw e refl

  top_deed_lem : c.op ≡ 0 → top_deed c ≡ Deed.allocates c.x
  unfolding top_deed
  top_deed_lem e = rw e refl

  own_deed : (x : ℕ) → Dec (q.place ≡ top) → Dec (c.op ≡ 0) → Dec (q.place ≡ row10_free) → own_event c q x ≡ deed_event x (deed_of c q)
  unfolding own_event
  own_deed x (yes e) (yes o) f = rw (at_top e, top_deed_lem o, e, o) refl
  own_deed x (yes e) (no o) f = rw (at_top e, still_none x (top_still o), e, ne_eqb c.op 0 o) refl
  own_deed x (no e) o (yes f) = rw (at_free f, f) refl
  own_deed x (no e) o (no f) = rw (still_none x (deed_still e f), ne_eqb q.place top e, ne_eqb q.place row10_free f) refl

-- ---- what a deed does to the cell x
module _ (m n : Memory) (p x : ℕ) (pos : 0 < x) (most : x ≤ max_set) (z : Shaped m) where
  added : (y : ℕ) → Dec (y ≡ x) → member_of (add_of m.used y) x ≡ occupied_by (pick (eqb y x) allocated none) (used_of m x)
  added y (yes e) = rw (eq-eqb y x e, e) (add_same m.used x pos most)
  added y (no e) = rw (ne_eqb y x e) (same_test (member_of (add_of m.used y) x) (used_of m x) (λ i. ⊎_elim (λ k. k) (λ k. absurd (e k)) (in_add m.used y x i)) (add_keeps m.used y x))

  removed : (y : ℕ) → Dec (y ≡ x) → member_of (remove_of m.used y) x ≡ occupied_by (pick (eqb y x) freed none) (used_of m x)
  removed y (yes e) = rw (eq-eqb y x e, e) (remove_gone m.used x)
  removed y (no e) = rw (ne_eqb y x e) (same_test (member_of (remove_of m.used y) x) (used_of m x) (λ i. (in_remove m.used y x i).0) (λ i. remove_keeps m.used y x i e))

  same_used : n.used ≡ m.used → used_of n x ≡ used_of m x
  same_used e = rw e refl

  deed_occupied : (d : Deed) → Does d p m n → used_of n x ≡ occupied_by (deed_event x d) (used_of m x)
  deed_occupied (Deed.reads a) h = same_used (ap (λ (i : Memory). i.used) h)
  deed_occupied (Deed.sweeps y) h = same_used (ap (λ (i : Memory). i.used) h)
  deed_occupied (Deed.writes v) h = same_used (write_settled m p (record { store = v }) h).used
  deed_occupied Deed.fences h = same_used (ap (λ (i : Memory). i.used) (fence_taken p z h).same)
  deed_occupied Deed.locks h = same_used (lock_settled m p h).used
  deed_occupied Deed.unlocks h = same_used (unlock_settled m p h).used
  deed_occupied (Deed.allocates y) h = rw (allocate_used m p y h) (added y (ℕ_discrete y x))
  deed_occupied (Deed.frees y) h = rw (free_used m p y h) (removed y (ℕ_discrete y x))
  deed_occupied Deed.apart h = same_used (ap (λ (i : Memory). i.used) h)

-- an event after those before it
later_occupied : (e k : Event) (b : Bool) → occupied_by k (occupied_by e b) ≡ occupied_by (later e k) b
later_occupied e none b = refl
later_occupied e allocated b = refl
later_occupied e freed b = refl

-- ---- a row, and a step
abbrev pub kind_event : State → Choice → ℕ → Event
kind_event s c x = pick (eqb c.kind 0) (own_event c (mover s c) x) none

module _ (x : ℕ) (pos : 0 < x) (most : x ≤ max_set) where
  own_occupied : {s t : State} {c : Choice} → WellFormed s → c.kind ≡ 0 → Row s c t → used_of t.memory x ≡ occupied_by (kind_event s c x) (used_of s.memory x)
  own_occupied {s} {t} {c} w k r =
      let q = mover s c in
      rw (eq-eqb c.kind 0 k, own_deed c q x (ℕ_discrete q.place top) (ℕ_discrete c.op 0) (ℕ_discrete q.place row10_free))
      (deed_occupied s.memory t.memory c.process x pos most (shaped s.memory w.memory) (deed_of c q) (row_deed_lem w k r))

  pub row_occupied : {s t : State} {c : Choice} → WellFormed s → Row s c t → used_of t.memory x ≡ occupied_by (kind_event s c x) (used_of s.memory x)
  row_occupied w (Row.collector k e r) = own_occupied w k (Row.collector k e r)
  row_occupied w (Row.mutator k e i j r) = own_occupied w k (Row.mutator k e i j r)
  row_occupied {s} {t} {c} w (Row.commits k {p} e mine b h) = rw (ne_eqb c.kind 0 (λ o. omega arith)) (ap (λ (u : ℕ). member_of u x) (commit_settled s.memory p h).used)

  taken_occupied : (s : State) (c : Choice) → WellFormed s → step_of s c ≡ taken_of (step_of s c).state → used_of (step_of s c).state.memory x ≡ occupied_by (event_of s c x) (used_of s.memory x)
  unfolding event_of
  taken_occupied s c w e = rw (eq-eqb (step_of s c).no as_taken (ap (λ (a : Answer). a.no) e)) (row_occupied w (taken_row s c e))

  refused_occupied : (s : State) (c : Choice) → 0 < (step_of s c).no → step_of s c ≡ refused_of (step_of s c).no s → used_of (step_of s c).state.memory x ≡ occupied_by (event_of s c x) (used_of s.memory x)
  unfolding event_of
  refused_occupied s c l e = rw (ne_eqb (step_of s c).no as_taken (λ k. omega arith)) (ap (λ (a : Answer). used_of a.state.memory x) e)

  step_occupied : (s : State) (c : Choice) → WellFormed s → used_of (step_of s c).state.memory x ≡ occupied_by (event_of s c x) (used_of s.memory x)
  step_occupied s c w = ⊎_elim (taken_occupied s c w) (λ h. refused_occupied s c h.0 h.1) (answered s c)

  run_occupied_from : (s : State) (cs : List Choice) (e : Event) (b : Bool) → WellFormed s → used_of s.memory x ≡ occupied_by e b → used_of (run_of s cs).memory x ≡ occupied_by (last_of s cs x e) b
  run_occupied_from s [] e b w h = h
  run_occupied_from s (c ∷ cs) e b w h =
      run_occupied_from (step_of s c).state cs (later e (event_of s c x)) b (kept s c w)
      (step_occupied s c w ∙ ap (occupied_by (event_of s c x)) h ∙ later_occupied e (event_of s c x) b)

open_used : (h : Heap) → (opening_of h).memory.used ≡ h.used
unfolding opening_of open_memory
open_used h = refl

pub run_occupied : RunOccupied
run_occupied h f cs x i = run_occupied_from x i.0 (omega (arith, i.1, f.cells.1)) (opening_of h) cs none (member_of h.used x) (opening_formed h f) (ap (λ (u : ℕ). member_of u x) (open_used h))
