-- What each row leaves alone. Assumes nothing.
--     row_changes      each row makes one of five changes
--     row_memory       memory changes only by a write, a lock, an unlock, an allocation, a free or a commit
--     row_counts       the counts of cells and processes never change
--     row_used         the occupied cells change only by an allocation and a free
--     row_system        the system's part changes only by a finish, a set type and a take
--     row_others       another process changes only by a raise, its flag, and by a set type, its in-step bit
use mathlib.Core.Path.{◌≡◌, refl, sym}
use mathlib.Core.Logic.{inl, inr}
use Prim.Native.Nat.{ℕ, ◌≤◌}
use native.Mathlib.Decide.{ℕ_discrete}
use native.Mathlib.Omega.{arith}
use lib.Seq.{get_or-set_other}
use Rattle.cells.specs.Sets.{Member}
use Rattle.cells.proofs.Belows.{below_range}
use Rattle.memory.specs.declared.Memory.{Memory}
use Rattle.memory.proofs.Effects.{write_settled, commit_settled, lock_settled, unlock_settled, allocate_used, free_used}
use Rattle.state.specs.declared.RoundType.{RoundType}
use Rattle.state.specs.declared.Process.{Process}
use Rattle.state.specs.declared.State.{State}
use Rattle.state.specs.declared.Choice.{Choice}
use Rattle.state.specs.Codes.{raise_stage}
use Rattle.state.specs.States.{no_process, mutators_of, process_of, with_process_of}
use Rattle.formed.specs.Fits.{WellFormed}
use Rattle.formed.proofs.Gives.{round_at}
use Rattle.formed.proofs.Keeps.{process_same, process_other, mutators_most}
use Rattle.model.specs.Rows.{At, Marks, Mark, Mutator, Round, all_off, flagged, Collector, Row}
use Rattle.model.specs.Reasons.{mover}
use Rattle.stays_formed.specs.Leaves.{Writes, Stored, Occupied, Handed, Beside, Changed}
use Rattle.stays_formed.specs.Kept.{Counted}
use Rattle.stays_formed.proofs.Frames.{named, off_process}
use Rattle.stays_formed.proofs.Memories.{settled_counted, allocate_counted, free_counted}
use Rattle.stays_formed.proofs.Collector.{round_place_lem}

-- ---- each row makes one of five changes
mark_stores : {c : Choice} {p r : ℕ} {q t : Process} {m n : Memory} → c.kind ≡ 0 → Marks q r → Mark m p r q n t → Stored c p q m n
mark_stores z k (Mark.looks e g) = Stored.same
mark_stores z k (Mark.equal e g h) = Stored.same
mark_stores z k (Mark.unequal e g) = Stored.same
mark_stores z k (Mark.idle e g h) = Stored.same
mark_stores z k (Mark.busy e g h) = Stored.same
mark_stores z k (Mark.locks e g) = Stored.locks z k e g
mark_stores z k (Mark.agrees e g) = Stored.same
mark_stores z k (Mark.differs e g) = Stored.same
mark_stores z k (Mark.writes e g) = Stored.writes z (Writes.mark k e) g
mark_stores z k (Mark.wins e g h i) = Stored.unlocks z k e g
mark_stores z k (Mark.loses e g h i) = Stored.unlocks z k e g

module _ {s : State} {c : Choice} {q : Process} (k : c.kind ≡ 0) where
  mutator_changes : {p : ℕ} {t : State} → Mutator s c p q t → Changed s c p q t
  mutator_changes (Mutator.allocates a o x l g y e) = Changed.stores (Stored.allocates k a o e) _
  mutator_changes (Mutator.drops a o m g y) = Changed.stores Stored.same _
  mutator_changes (Mutator.reads a o m g y e h) = Changed.stores Stored.same _
  mutator_changes (Mutator.reads_null a o m g y e) = Changed.stores Stored.same _
  mutator_changes (Mutator.stores a o m g y e h) = Changed.stores Stored.same _
  mutator_changes (Mutator.stores_new a o m g y e) = Changed.stores Stored.same _
  mutator_changes (Mutator.stores_null a o m g y e) = Changed.stores Stored.same _
  mutator_changes (Mutator.fences a o x g y e) = Changed.stores Stored.same _
  mutator_changes (Mutator.answers a o x g y r b) = Changed.stores Stored.same _
  mutator_changes (Mutator.marks b i h e) = Changed.stores (mark_stores k i e) _
  mutator_changes (Mutator.looks_root a o m e) = Changed.stores Stored.same _
  mutator_changes (Mutator.writes a b e) = Changed.stores (Stored.writes k (Writes.field a) e) _
  mutator_changes (Mutator.fences_noop a b e) = Changed.stores Stored.same _
  mutator_changes (Mutator.fences_work a b e) = Changed.stores Stored.same _
  mutator_changes (Mutator.fences_roots a b e h) = Changed.stores Stored.same _
  mutator_changes (Mutator.fences_none a b e h) = Changed.stores Stored.same _
  mutator_changes (Mutator.finishes_noop a b) = Changed.stores Stored.same _
  mutator_changes (Mutator.finishes_roots a b) = Changed.system (Handed.finishes (inl a)) _
  mutator_changes (Mutator.finishes_work a b) = Changed.system (Handed.finishes (inr a)) _

  collector_changes : {t : State} → Collector s c 0 q t → Changed s c 0 q t
  collector_changes (Collector.fences r a b e) = Changed.stores Stored.same _
  collector_changes (Collector.types r a b v) = Changed.types refl r a v _
  collector_changes (Collector.raises r a b m e) = Changed.raises refl r a m _
  collector_changes (Collector.raises_last r a b m e) = Changed.raises refl r a m _
  collector_changes (Collector.polls_up r a b m e) = Changed.stores Stored.same _
  collector_changes (Collector.polls r a b m e h) = Changed.stores Stored.same _
  collector_changes (Collector.polls_last r a b m e h) = Changed.stores Stored.same _
  collector_changes (Collector.reads_sense a b e) = Changed.stores Stored.same _
  collector_changes (Collector.writes_sense a b e) = Changed.stores (Stored.writes k (Writes.sense a) e) _
  collector_changes (Collector.writes_init a b e) = Changed.stores (Stored.writes k (Writes.init a) e) _
  collector_changes (Collector.writes_mark a b e) = Changed.stores (Stored.writes k (Writes.marking a) e) _
  collector_changes (Collector.writes_alloc a b e) = Changed.stores (Stored.writes k (Writes.alloc a) e) _
  collector_changes (Collector.takes a b h) = Changed.system (Handed.takes a) _
  collector_changes (Collector.takes_none a b h) = Changed.system (Handed.takes a) _
  collector_changes (Collector.reads_first a b e h) = Changed.stores Stored.same _
  collector_changes (Collector.reads_first_null a b e) = Changed.stores Stored.same _
  collector_changes (Collector.marks b i e) = Changed.stores (mark_stores k i e) _
  collector_changes (Collector.reads_next a b e h) = Changed.stores Stored.same _
  collector_changes (Collector.reads_next_null a b e n) = Changed.stores Stored.same _
  collector_changes (Collector.reads_last_null a b e n) = Changed.stores Stored.same _
  collector_changes (Collector.drops a b h) = Changed.stores Stored.same _
  collector_changes (Collector.drops_last a b h) = Changed.stores Stored.same _
  collector_changes (Collector.writes_sweep a b e) = Changed.stores (Stored.writes k (Writes.sweep a) e) _
  collector_changes (Collector.spares a b m e h) = Changed.stores Stored.same _
  collector_changes (Collector.spares_last a b m e h) = Changed.stores Stored.same _
  collector_changes (Collector.condemns a b m e) = Changed.stores Stored.same _
  collector_changes (Collector.frees a b e h) = Changed.stores (Stored.frees k a e) _
  collector_changes (Collector.frees_last a b e h) = Changed.stores (Stored.frees k a e) _
  collector_changes (Collector.writes_idle a b e) = Changed.stores (Stored.writes k (Writes.idle a) e) _

pub row_changes : {s t : State} {c : Choice} → Row s c t → Changed s c c.process (mover s c) t
row_changes {s} {t} {c} (Row.collector k e r) = named (λ i. Changed s c i (process_of s i) t) e (collector_changes k r)
row_changes {s} {t} {c} (Row.mutator k e pos mine r) = named (λ i. Changed s c i (process_of s i) t) e (mutator_changes k r)
row_changes {s} {t} {c} (Row.commits k e mine b h) = named (λ i. Changed s c i (process_of s i) t) e (Changed.commits k h)

-- ---- memory
changed_memory : {s t : State} {c : Choice} {p : ℕ} {q : Process} → Changed s c p q t → Stored c p q s.memory t.memory
changed_memory (Changed.stores k o) = k
changed_memory (Changed.system k o) = Stored.same
changed_memory (Changed.types z r a v o) = Stored.same
changed_memory (Changed.raises z r a m o) = Stored.same
changed_memory (Changed.commits k h) = Stored.commits k h

stored_counts : {c : Choice} {p : ℕ} {q : Process} {m n : Memory} → Stored c p q m n → Counted m n
stored_counts Stored.same = record { cells = refl; processes = refl }
stored_counts {p = p} {m = m} (Stored.writes z {v = v} k e) = settled_counted (write_settled m p (record { store = v }) e)
stored_counts {p = p} {m = m} (Stored.locks z k i e) = settled_counted (lock_settled m p e)
stored_counts {p = p} {m = m} (Stored.unlocks z k i e) = settled_counted (unlock_settled m p e)
stored_counts {c = c} {p = p} {m = m} (Stored.allocates z i o e) = allocate_counted m p c.x e
stored_counts {p = p} {q = q} {m = m} (Stored.frees z i e) = free_counted m p q.x e
stored_counts {p = p} {m = m} (Stored.commits k e) = settled_counted (commit_settled m p e)

stored_used : {c : Choice} {p : ℕ} {q : Process} {m n : Memory} → Stored c p q m n → Occupied c q m.used n.used
stored_used Stored.same = Occupied.same
stored_used {p = p} {m = m} (Stored.writes z {v = v} k e) = rw (write_settled m p (record { store = v }) e).used Occupied.same
stored_used {p = p} {m = m} (Stored.locks z k i e) = rw (lock_settled m p e).used Occupied.same
stored_used {p = p} {m = m} (Stored.unlocks z k i e) = rw (unlock_settled m p e).used Occupied.same
stored_used {c = c} {p = p} {m = m} (Stored.allocates z i o e) = rw (allocate_used m p c.x e) (Occupied.more z i o)
stored_used {p = p} {q = q} {m = m} (Stored.frees z i e) = rw (free_used m p q.x e) (Occupied.less z i)
stored_used {p = p} {m = m} (Stored.commits k e) = rw (commit_settled m p e).used Occupied.same

-- ---- the system's part
changed_system : {s t : State} {c : Choice} {p : ℕ} {q : Process} → Changed s c p q t → Handed q s.system t.system
changed_system (Changed.stores k o) = Handed.same
changed_system (Changed.system k o) = k
changed_system (Changed.types z r a v o) = Handed.types r a v
changed_system (Changed.raises z r a m o) = Handed.same
changed_system (Changed.commits k h) = Handed.same

-- ---- the other processes
module _ (s : State) (c : Choice) (p x : ℕ) (w : WellFormed s) (h : x ≡ p → ⊥) where
  -- the mutator named is one that there is
  in_round : {k j l : ℕ} {t : RoundType} → p ≡ 0 → Round k t j l → At k raise_stage (process_of s p) → Member (process_of s p).left c.x → c.x ≤ mutators_of s
  in_round {k} e r =
      named (λ i. At k raise_stage (process_of s i) → Member (process_of s i).left c.x → c.x ≤ mutators_of s) e
      (λ a m. (below_range (process_of s 0).left (mutators_of s) c.x (round_at k (round_place_lem r) a.place w.collector).left m).1)

  -- its flag is raised
  flag : {k j l : ℕ} {t : RoundType} → Round k t j l → At k raise_stage (process_of s p) → c.x ≤ mutators_of s → Dec (x ≡ c.x) →
      Beside c (process_of s p) x (process_of s x) (process_of (with_process_of s c.x (flagged (process_of s c.x))) x)
  flag r a l (no e) = rw (process_other s c.x x (flagged (process_of s c.x)) e) Beside.same
  flag r a l (yes e) =
      named (λ i. Beside c (process_of s p) x (process_of s x) (process_of (with_process_of s c.x (flagged (process_of s c.x))) i)) e
      (rw (process_same s c.x (flagged (process_of s c.x)) w.sized (omega (arith, mutators_most s w))) (named (λ i. Beside c (process_of s p) x (process_of s x) (flagged (process_of s i))) (sym e) (Beside.raises r a e)))

  changed_others : {t : State} → Changed s c p (process_of s p) t → Beside c (process_of s p) x (process_of s x) (process_of t x)
  changed_others (Changed.stores k o) = rw (process_other s p x o h) Beside.same
  changed_others (Changed.system k o) = rw (process_other s p x o h) Beside.same
  changed_others (Changed.types z r a v o) = rw (get_or-set_other (all_off s.procs) p x o no_process h, off_process s x (omega arith)) (Beside.types r a)
  changed_others (Changed.raises z r a m o) = rw (process_other (with_process_of s c.x (flagged (process_of s c.x))) p x o h) (flag r a (in_round z r a m) (ℕ_discrete x c.x))
  changed_others (Changed.commits k e) = Beside.same

-- ---- of every row
pub row_memory : {s t : State} {c : Choice} → Row s c t → Stored c c.process (mover s c) s.memory t.memory
row_memory r = changed_memory (row_changes r)

pub row_counts : {s t : State} {c : Choice} → Row s c t → Counted s.memory t.memory
row_counts r = stored_counts (row_memory r)

pub row_used : {s t : State} {c : Choice} → Row s c t → Occupied c (mover s c) s.memory.used t.memory.used
row_used r = stored_used (row_memory r)

pub row_system : {s t : State} {c : Choice} → Row s c t → Handed (mover s c) s.system t.system
row_system r = changed_system (row_changes r)

pub row_others : {s t : State} {c : Choice} → WellFormed s → Row s c t → (x : ℕ) → (x ≡ c.process → ⊥) → Beside c (mover s c) x (process_of s x) (process_of t x)
row_others {s} {t} {c} w r x h = changed_others s c c.process x w h (row_changes r)
