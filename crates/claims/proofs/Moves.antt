-- Each step seen from its compare and swap: what it does to the lock, to the pending stores and to the place of the
-- process that steps. Assumes nothing.
--     Goes           the six kinds of step
--     row_goes       every row is of one of the kinds
--     allocates_quiet, frees_quiet         allocating and freeing leave the lock, the pending stores, the senses and
--                                          the phase
--     marks_place                                 the place of a mark
--     others_inside, others_unlocking      another process stays inside its compare and swap, at its unlock, or outside
--     outside_unlocking                    outside there is no unlock
use mathlib.Core.Path.{◌≡◌, refl, sym}
use mathlib.Core.Bool.{Bool, true, false, not, false≢true, ◌&&◌, ◌||◌}
use mathlib.Core.Logic.{⊎_elim}
use Prim.Native.Nat.{ℕ, ◌≤◌, ◌<◌}
use native.Mathlib.Omega.{arith}
use lib.Dec.{eqb}
use Rattle.cells.specs.Sets.{no_cells}
use Rattle.buffers.specs.declared.Phase.TheVariants as phase
use Rattle.buffers.specs.declared.Store.{Store}
use Rattle.buffers.specs.declared.Store.TheVariants as store
use Rattle.buffers.specs.Fits.{IsCell}
use Rattle.memory.specs.declared.Memory.{Memory}
use Rattle.memory.specs.Memories.{max_cells, max_processes, taken}
use Rattle.memory.specs.Steps.{write_of, commit_of, lock_of, unlock_of, allocate_of, free_of}
use Rattle.memory.specs.Views.{pending_for}
use Rattle.memory.proofs.Effects.{Reset, allocate_taken, free_taken}
use Rattle.memory_formed.specs.WellFormed.{MemoryFormed}
use Rattle.memory_formed.proofs.Shapes.{shaped}
use Rattle.state.specs.declared.RoundType.{RoundType}
use Rattle.state.specs.declared.Process.{Process}
use Rattle.state.specs.declared.State.{State}
use Rattle.state.specs.declared.Choice.{Choice}
use Rattle.state.specs.Codes.{store_mark_old, no_stage, sense_stage, phase_stage, lock_stage, again_stage, write_stage, unlock_stage, fence_stage, type_stage, raise_stage, poll_stage}
use Rattle.state.specs.States.{mutators_of, process_of, with_process_of, with_memory, with_system}
use Rattle.formed.specs.Fits.{CollectorFits, WellFormed}
use Rattle.formed.proofs.Gives.{sweep_free_at}
use Rattle.model.specs.Offers.{mark_place}
use Rattle.model.specs.Rows.{At, Marks, Next, Mark, Mutator, Branch, Round, with_list, all_off, with_processes, flagged, Collector, Row}
use Rattle.model.specs.Reasons.{mover}
use Rattle.stays_formed.specs.Leaves.{Beside}
use Rattle.stays_formed.proofs.Frames.{named}
use Rattle.claims.proofs.Processes.{arrived}
use Rattle.stays_formed.proofs.Kept.{row_kept}
use Rattle.stays_formed.proofs.Leaves.{row_others}
use Rattle.claims.specs.Lock.{inside_at, Inside}
use Rattle.claims.specs.Pending.{is_mark, MarkOrField, unlock_at, Unlocking}

abbrev pub inside_of : Process → Bool
inside_of q = inside_at q.place q.stage

abbrev pub unlock_on : Process → Bool
unlock_on q = unlock_at q.place q.stage

-- the lock, the pending stores, the senses and the phase stay
pub record Quiet (m n : Memory) : Type 0 where
  pub lock : n.lock ≡ m.lock
  pub pending : (p : ℕ) → pending_for n p ≡ pending_for m p
  pub fm : n.fm ≡ m.fm
  pub fa : n.fa ≡ m.fa
  pub phase : n.phase ≡ m.phase

-- what a step outside does to memory: no mark is written, and by a mutator only a field
pub data Outer (p : ℕ) (m : Memory) : Memory → Type 0 where
  quiet : {n : Memory} → Quiet m n → Outer p m n
  writes : {v : Store} → is_mark v ≡ false → (0 < p → MarkOrField v) → {n : Memory} → write_of m p (record { store = v }) ≡ taken n → Outer p m n

-- process p, which is q, becomes o, and memory m becomes n
pub data Goes (p : ℕ) (q : Process) (m : Memory) : Process → Memory → Type 0 where
  locks : {o : Process} → inside_of q ≡ false → Inside o → {n : Memory} → lock_of m p ≡ taken n → Goes p q m o n
  looks : {o : Process} → Inside q → unlock_on q ≡ false → Inside o → Goes p q m o m
  writes : {o : Process} → Inside q → unlock_on q ≡ false → Inside o → Unlocking o → (r : ℕ) (b : Bool) {n : Memory} → write_of m p (record { store = store.Mark r b }) ≡ taken n → Goes p q m o n
  unlocks : {o : Process} → Inside q → inside_of o ≡ false → {n : Memory} → unlock_of m p ≡ taken n → Goes p q m o n
  outside : {o : Process} → inside_of q ≡ false → inside_of o ≡ false → {n : Memory} → Outer p m n → Goes p q m o n
  commits : {n : Memory} → commit_of m p ≡ taken n → Goes p q m q n

-- ---- memory
still : (p : ℕ) (m : Memory) → Outer p m m
still p m = Outer.quiet (record { lock = refl; pending = λ q. refl; fm = refl; fa = refl; phase = refl })

reset_quiet : {m n : Memory} {x : ℕ} {u b : Bool} → Reset m x u b n → Quiet m n
reset_quiet r = record { lock = r.lock; pending = r.pending; fm = r.fm; fa = r.fa; phase = r.phase }

module _ (m : Memory) (w : MemoryFormed m) (p x : ℕ) (i : IsCell m.cells x) where
  most : x ≤ max_cells
  most = omega (arith, i.1, w.few_cells)

  pub allocates_quiet : {n : Memory} → allocate_of m p x ≡ taken n → Quiet m n
  allocates_quiet e = reset_quiet (allocate_taken p x (shaped m w) i.0 most e).after

  pub frees_quiet : {n : Memory} → free_of m p x ≡ taken n → Quiet m n
  frees_quiet e = reset_quiet (free_taken p x (shaped m w) i.0 most e).after

-- ---- places
table : (f : ℕ → ℕ → Bool) (q : Process) {k j : ℕ} {b : Bool} → At k j q → f k j ≡ b → f q.place q.stage ≡ b
table f q a h = rw (a.place, a.stage) h

out : {q : Process} {k j : ℕ} → At k j q → inside_at k j ≡ false → inside_of q ≡ false
out {q} a h = table inside_at q a h

-- at a mark, by the stage
pub marks_place : {q : Process} {r : ℕ} → Marks q r → mark_place q.place ≡ true
marks_place (Marks.old e) = rw e refl
marks_place (Marks.new e) = rw e refl
marks_place (Marks.root e) = rw e refl
marks_place (Marks.field e) = rw e refl

inside_site : (k j : ℕ) {b : Bool} → mark_place k ≡ true → inside_at store_mark_old j ≡ b → inside_at k j ≡ b
unfolding inside_at
inside_site k j e h = rw e h

unlock_site : (k j : ℕ) {b : Bool} → mark_place k ≡ true → unlock_at store_mark_old j ≡ b → unlock_at k j ≡ b
unfolding unlock_at
unlock_site k j e h = rw e h

module _ {q : Process} {r : ℕ} (i : Marks q r) where
  -- where it goes on to
  to : (j : ℕ) {b : Bool} → inside_at store_mark_old j ≡ b → inside_at q.place j ≡ b
  to j h = inside_site q.place j (marks_place i) h

  to_unlock : (j : ℕ) {b : Bool} → unlock_at store_mark_old j ≡ b → unlock_at q.place j ≡ b
  to_unlock j h = unlock_site q.place j (marks_place i) h

  -- where it is
  on : {j : ℕ} {b : Bool} → q.stage ≡ j → inside_at store_mark_old j ≡ b → inside_of q ≡ b
  on {j} e h = rw e (to j h)

  on_unlock : {j : ℕ} {b : Bool} → q.stage ≡ j → unlock_at store_mark_old j ≡ b → unlock_on q ≡ b
  on_unlock {j} e h = rw e (to_unlock j h)

-- a mark that is over goes on outside
next_out : {q t : Process} → Next q t → inside_of t ≡ false
unfolding inside_at
next_out (Next.write e h) = refl
next_out (Next.new e h) = refl
next_out (Next.marked e) = refl
next_out (Next.roots e h) = refl
next_out (Next.root e h) = refl
next_out (Next.fields e i) = refl
next_out (Next.field e i) = refl

round_out : {k j l : ℕ} {t : RoundType} (i : ℕ) → Round k t j l → inside_at k i ≡ false
unfolding inside_at
round_out i Round.row1 = refl
round_out i Round.row3 = refl
round_out i Round.row4 = refl
round_out i Round.row5 = refl
round_out i Round.row6 = refl
round_out i Round.row8 = refl

round_next : {k j l : ℕ} {t : RoundType} → Round k t j l → inside_at j l ≡ false
unfolding inside_at
round_next Round.row1 = refl
round_next Round.row3 = refl
round_next Round.row4 = refl
round_next Round.row5 = refl
round_next Round.row6 = refl
round_next Round.row8 = refl

branch_out : {k : RoundType} {j : ℕ} (i : ℕ) → Branch k j → inside_at j i ≡ false
unfolding inside_at
branch_out i Branch.noop = refl
branch_out i Branch.roots = refl
branch_out i Branch.work = refl

-- ---- each row
mark_goes : {m n : Memory} {p r : ℕ} {q t : Process} → Marks q r → Mark m p r q n t → Goes p q m t n
unfolding inside_at unlock_at
mark_goes {m} {p = p} i (Mark.looks e g) = Goes.outside (on i e refl) (to i sense_stage refl) (still p m)
mark_goes {m} {p = p} i (Mark.equal e g h) = Goes.outside (on i e refl) (next_out h) (still p m)
mark_goes {m} {p = p} i (Mark.unequal e g) = Goes.outside (on i e refl) (to i phase_stage refl) (still p m)
mark_goes {m} {p = p} i (Mark.idle e g h) = Goes.outside (on i e refl) (next_out h) (still p m)
mark_goes {m} {p = p} i (Mark.busy e g h) = Goes.outside (on i e refl) (to i lock_stage refl) (still p m)
mark_goes i (Mark.locks e g) = Goes.locks (on i e refl) (to i again_stage refl) g
mark_goes i (Mark.agrees e g) = Goes.looks (on i e refl) (on_unlock i e refl) (to i write_stage refl)
mark_goes i (Mark.differs e g) = Goes.looks (on i e refl) (on_unlock i e refl) (to i unlock_stage refl)
mark_goes {r = r} {q = q} i (Mark.writes e g) = Goes.writes (on i e refl) (on_unlock i e refl) (to i unlock_stage refl) (to_unlock i unlock_stage refl) r q.sense g
mark_goes i (Mark.wins e g h k) = Goes.unlocks (on i e refl) (next_out k) g
mark_goes i (Mark.loses e g h k) = Goes.unlocks (on i e refl) (next_out k) g

-- process p of the state x becomes o, after memory has become that of x
data Went (s : State) (p : ℕ) (q : Process) : State → Type 0 where
  went : (x : State) (o : Process) → Goes p q s.memory o x.memory → Went s p q (with_process_of x p o)

module _ (s : State) (w : WellFormed s) (c : Choice) (p : ℕ) (q : Process) where
  -- memory stays
  rest : (o : Process) → inside_of q ≡ false → inside_of o ≡ false → Goes p q s.memory o s.memory
  rest o a b = Goes.outside a b (still p s.memory)

  mutator_goes : {t : State} → Mutator s c p q t → Went s p q t
  unfolding inside_at
  mutator_goes (Mutator.allocates a o x l g y {m} e) = went (with_memory s m) _ (Goes.outside (out a refl) (out a refl) (Outer.quiet (allocates_quiet s.memory w.memory p c.x (x, l) e)))
  mutator_goes (Mutator.drops a o m g y) = went s _ (rest _ (out a refl) (out a refl))
  mutator_goes (Mutator.reads a o m g y e h) = went s _ (rest _ (out a refl) (out a refl))
  mutator_goes (Mutator.reads_null a o m g y e) = went s _ (rest _ (out a refl) (out a refl))
  mutator_goes (Mutator.stores a o m g y e h) = went s _ (rest _ (out a refl) refl)
  mutator_goes (Mutator.stores_new a o m g y e) = went s _ (rest _ (out a refl) refl)
  mutator_goes (Mutator.stores_null a o m g y e) = went s _ (rest _ (out a refl) refl)
  mutator_goes (Mutator.fences a o x g y e) = went s _ (rest _ (out a refl) (out a refl))
  mutator_goes (Mutator.answers a o x g y r b) = went s _ (rest _ (out a refl) (branch_out no_stage b))
  mutator_goes (Mutator.marks b i h {m} e) = went (with_memory s m) _ (mark_goes i e)
  mutator_goes (Mutator.looks_root a o m e) = went s _ (rest _ (out a refl) refl)
  mutator_goes (Mutator.writes a b {m} e) = went (with_memory s m) _ (Goes.outside (out a refl) refl (Outer.writes refl (λ _. MarkOrField.field) e))
  mutator_goes (Mutator.fences_noop a b e) = went s _ (rest _ (out a refl) refl)
  mutator_goes (Mutator.fences_work a b e) = went s _ (rest _ (out a refl) refl)
  mutator_goes (Mutator.fences_roots a b e h) = went s _ (rest _ (out a refl) refl)
  mutator_goes (Mutator.fences_none a b e h) = went s _ (rest _ (out a refl) refl)
  mutator_goes (Mutator.finishes_noop a b) = went s _ (rest _ (out a refl) refl)
  mutator_goes (Mutator.finishes_roots a b) = went (with_system s (with_list s.system _)) _ (rest _ (out a refl) refl)
  mutator_goes (Mutator.finishes_work a b) = went (with_system s (with_list s.system _)) _ (rest _ (out a refl) refl)

-- the collector is process 0: no word of a mutator's stores
module _ (s : State) (w : WellFormed s) (c : Choice) (q : Process) (f : CollectorFits s.memory.cells (mutators_of s) q) where
  write_out : {k j : ℕ} → At k j q → inside_at k j ≡ false → (o : Process) → inside_of o ≡ false → (v : Store) → is_mark v ≡ false → {m : Memory} → write_of s.memory 0 (record { store = v }) ≡ taken m → Goes 0 q s.memory o m
  write_out a b o h v n e = Goes.outside (out a b) h (Outer.writes n (λ l. absurd (omega arith)) e)

  collector_goes : {t : State} → Collector s c 0 q t → Went s 0 q t
  unfolding inside_at
  collector_goes (Collector.fences r a b e) = went s _ (rest s w c 0 q _ (out a (round_out fence_stage r)) (round_out type_stage r))
  collector_goes (Collector.types r a b v) = went (with_processes (with_system s _) (all_off s.procs)) _ (rest s w c 0 q _ (out a (round_out type_stage r)) (round_out raise_stage r))
  collector_goes (Collector.raises r a b m e) = went (with_process_of s c.x (flagged (process_of s c.x))) _ (rest s w c 0 q _ (out a (round_out raise_stage r)) (out a (round_out raise_stage r)))
  collector_goes (Collector.raises_last r a b m e) = went (with_process_of s c.x (flagged (process_of s c.x))) _ (rest s w c 0 q _ (out a (round_out raise_stage r)) (round_out poll_stage r))
  collector_goes (Collector.polls_up r a b m e) = went s _ (rest s w c 0 q _ (out a (round_out poll_stage r)) (out a (round_out poll_stage r)))
  collector_goes (Collector.polls r a b m e h) = went s _ (rest s w c 0 q _ (out a (round_out poll_stage r)) (out a (round_out poll_stage r)))
  collector_goes (Collector.polls_last r a b m e h) = went s _ (rest s w c 0 q _ (out a (round_out poll_stage r)) (round_next r))
  collector_goes (Collector.reads_sense a b e) = went s _ (rest s w c 0 q _ (out a refl) refl)
  collector_goes (Collector.writes_sense a b {m} e) = went (with_memory s m) _ (write_out a refl _ refl (store.Sense (not q.sense)) refl e)
  collector_goes (Collector.writes_init a b {m} e) = went (with_memory s m) _ (write_out a refl _ refl (store.Phase phase.Init) refl e)
  collector_goes (Collector.writes_mark a b {m} e) = went (with_memory s m) _ (write_out a refl _ refl (store.Phase phase.Mark) refl e)
  collector_goes (Collector.writes_alloc a b {m} e) = went (with_memory s m) _ (write_out a refl _ refl (store.AllocSense q.sense) refl e)
  collector_goes (Collector.takes a b h) = went (with_system s (with_list s.system no_cells)) _ (rest s w c 0 q _ (⊎_elim (λ i. out i refl) (λ i. out i refl) a) refl)
  collector_goes (Collector.takes_none a b h) = went (with_system s (with_list s.system no_cells)) _ (rest s w c 0 q _ (⊎_elim (λ i. out i refl) (λ i. out i refl) a) refl)
  collector_goes (Collector.reads_first a b e h) = went s _ (rest s w c 0 q _ (out a refl) refl)
  collector_goes (Collector.reads_first_null a b e) = went s _ (rest s w c 0 q _ (out a refl) refl)
  collector_goes (Collector.marks b i {m} e) = went (with_memory s m) _ (mark_goes i e)
  collector_goes (Collector.reads_next a b e h) = went s _ (rest s w c 0 q _ (out a refl) refl)
  collector_goes (Collector.reads_next_null a b e n) = went s _ (rest s w c 0 q _ (out a refl) refl)
  collector_goes (Collector.reads_last_null a b e n) = went s _ (rest s w c 0 q _ (out a refl) refl)
  collector_goes (Collector.drops a b h) = went s _ (rest s w c 0 q _ (out a refl) refl)
  collector_goes (Collector.drops_last a b h) = went s _ (rest s w c 0 q _ (out a refl) refl)
  collector_goes (Collector.writes_sweep a b {m} e) = went (with_memory s m) _ (write_out a refl _ refl (store.Phase phase.Sweep) refl e)
  collector_goes (Collector.spares a b m e h) = went s _ (rest s w c 0 q _ (out a refl) (out a refl))
  collector_goes (Collector.spares_last a b m e h) = went s _ (rest s w c 0 q _ (out a refl) refl)
  collector_goes (Collector.condemns a b m e) = went s _ (rest s w c 0 q _ (out a refl) refl)
  collector_goes (Collector.frees a b {m} e h) = went (with_memory s m) _ (Goes.outside (out a refl) refl (Outer.quiet (frees_quiet s.memory w.memory 0 q.x (sweep_free_at a.place f).is_x e)))
  collector_goes (Collector.frees_last a b {m} e h) = went (with_memory s m) _ (Goes.outside (out a refl) refl (Outer.quiet (frees_quiet s.memory w.memory 0 q.x (sweep_free_at a.place f).is_x e)))
  collector_goes (Collector.writes_idle a b {m} e) = went (with_memory s m) _ (write_out a refl _ refl (store.Phase phase.Idle) refl e)

-- the process that steps is o after it
arrives : {s t : State} {p : ℕ} {q : Process} → p < max_processes → WellFormed t → Went s p q t → Goes p q s.memory (process_of t p) t.memory
arrives {p = p} l w (Went.went x o g) = rw (arrived x p o l w) g

pub row_goes : {s t : State} {c : Choice} → WellFormed s → Row s c t → Goes c.process (mover s c) s.memory (process_of t c.process) t.memory
row_goes {s} {t} {c} w (Row.collector k e r) =
    named (λ i. Goes i (process_of s i) s.memory (process_of t i) t.memory) e
    (arrives {s = s} (omega arith) (row_kept s c w (Row.collector k e r)) (collector_goes s w c (process_of s 0) w.collector r))
row_goes {s} {t} {c} w (Row.mutator k {p} e pos mine r) =
    let few = w.memory.few_processes in
    named (λ i. Goes i (process_of s i) s.memory (process_of t i) t.memory) e
    (arrives {s = s} (omega arith) (row_kept s c w (Row.mutator k e pos mine r)) (mutator_goes s w c p (process_of s p) r))
row_goes {s} {t} {c} w (Row.commits k e mine b h) = named (λ i. Goes i (process_of s i) s.memory (process_of t i) t.memory) e (Goes.commits h)

-- ---- another process stays where it is
beside_same : (f : ℕ → ℕ → Bool) {c : Choice} {q o u : Process} {x : ℕ} → Beside c q x o u → f u.place u.stage ≡ f o.place o.stage
beside_same f Beside.same = refl
beside_same f (Beside.raises r a e) = refl
beside_same f (Beside.types r a) = refl

module _ {s t : State} {c : Choice} (w : WellFormed s) (r : Row s c t) (x : ℕ) (ne : x ≡ c.process → ⊥) where
  pub others_inside : inside_of (process_of t x) ≡ inside_of (process_of s x)
  others_inside = beside_same inside_at (row_others w r x ne)

  pub others_unlocking : unlock_on (process_of t x) ≡ unlock_on (process_of s x)
  others_unlocking = beside_same unlock_at (row_others w r x ne)

-- ---- outside there is no unlock
pub outside_unlocking : (k j : ℕ) → inside_at k j ≡ false → unlock_at k j ≡ false
unfolding inside_at unlock_at
outside_unlocking k j h = go (mark_place k) (eqb j again_stage) (eqb j write_stage) (eqb j unlock_stage) h
  where
    go : (a b d e : Bool) → (a && (b || d || e)) ≡ false → (a && e) ≡ false
    go false b d e g = refl
    go true true d e g = absurd (false≢true (sym g))
    go true false true e g = absurd (false≢true (sym g))
    go true false false e g = g
