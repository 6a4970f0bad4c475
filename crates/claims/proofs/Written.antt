-- What the collector has written, and what memory holds, told by where the collector stands. Assumes nothing.
--     Known             the same over a process and a memory
--     collector_known   every row of the collector's
--     commit_known      its commits
--     goes_keeps        what the mutators do to memory
--     sees_sense        what a read of fM sees
--     opening_written, step_written     at the opening, and after each step
use mathlib.Core.Path.{◌≡◌, refl, sym, ap, ◌∙◌}
use mathlib.Core.Bool.{Bool, true, false, not}
use mathlib.Core.List.Memᴰ
use mathlib.Core.List.{List, [], ◌∷◌, ◌++◌}
use mathlib.Core.Logic.{inl, inr}
use Prim.Native.Nat.{ℕ}
use native.Mathlib.Omega.{arith}
use native.Mathlib.Decide.{ℕ_discrete}
use lib.Dec.{eqb}
use Rattle.cells.specs.Sets.{no_cells}
use Rattle.buffers.specs.declared.Phase.{Phase}
use Rattle.buffers.specs.declared.Phase.TheVariants as phase
use Rattle.buffers.specs.declared.Store.{Store}
use Rattle.buffers.specs.declared.Store.TheVariants as store
use Rattle.buffers.specs.declared.Spot.TheVariants as spot
use Rattle.buffers.specs.declared.Entry.{Entry}
use Rattle.buffers.specs.Stores.{bit_of}
use Rattle.memory.specs.declared.Memory.{Memory}
use Rattle.memory.specs.Answers.{SeenBit}
use Rattle.memory.specs.declared.PhaseWord.{PhaseWord}
use Rattle.memory.specs.Steps.{write_of, commit_of, unlock_of}
use Rattle.memory.specs.Memories.{taken, stands_of}
use Rattle.memory.specs.Looks.{look_sense_of}
use Rattle.memory.specs.Views.{pending_for, view_of}
use Rattle.memory.proofs.Shapes.{Shaped, pending_is, view_empty}
use Rattle.memory.proofs.Spots.{Alike, held_sense}
use Rattle.memory.proofs.Sights.{look_sense_taken}
use Rattle.memory.proofs.Effects.{Committed, write_taken, fence_taken, lock_taken, unlock_taken, commit_taken}
use Rattle.memory_formed.specs.WellFormed.{MemoryFormed}
use Rattle.memory_formed.proofs.Shapes.{shaped}
use Rattle.state.specs.declared.RoundType.{RoundType}
use Rattle.state.specs.declared.Process.{Process}
use Rattle.state.specs.declared.State.{State}
use Rattle.state.specs.declared.Choice.{Choice}
use Rattle.state.specs.declared.opening.Heap.{Heap}
use Rattle.state.specs.Openings.{open_memory, open_collector, opening_of}
use Rattle.state.specs.Codes.{row7_mark, look_stage, sense_stage, phase_stage, lock_stage, again_stage, write_stage, unlock_stage, fence_stage, type_stage, raise_stage, poll_stage}
use Rattle.state.specs.States.{process_of, with_process_of, with_memory, with_system}
use Rattle.formed.specs.Fits.{HeapFits, WellFormed}
use Rattle.model.specs.Rows.{At, sees_bit, Marks, unnoted, Next, Mark, Round, with_list, all_off, with_processes, flagged, Collector, Row}
use Rattle.stays_formed.specs.Leaves.{Beside}
use Rattle.stays_formed.proofs.Frames.{named}
use Rattle.claims.proofs.Processes.{arrived}
use Rattle.formed.proofs.Gives.{collector_within, sweep_free_at}
use Rattle.stays_formed.proofs.Kept.{row_kept}
use Rattle.stays_formed.proofs.Leaves.{row_others}
use Rattle.claims.specs.Pending.{MarkOrField, MarksAndFields, MutatorStores}
use Rattle.claims.specs.Written.{Stretch, Moment, stretch_of, moment_of, entry_for, Wrote, CollectorWrote}
use Rattle.claims.proofs.Moves.{Quiet, Outer, Goes, row_goes, frees_quiet}
use Rattle.claims.proofs.Commits.{sense_after, alloc_after, phase_after_lem, fm_after, fa_after, phase_after}

abbrev pub Known : Process → Memory → Type 0
Known q m = Wrote q.sense (stretch_of q.place) (moment_of q.place q.stage) (pending_for m 0) m.fm m.fa m.phase.phase

-- ---- nothing pending: then the moment is any
quiet : {n : Bool} {z : Stretch} {w v : Moment} {b d : Bool} {h : Phase} → Wrote n z w [] b d h → Wrote n z v [] b d h
quiet Wrote.rests = Wrote.rests
quiet Wrote.flips = Wrote.flips
quiet Wrote.flipped = Wrote.flipped
quiet Wrote.opens = Wrote.opens
quiet Wrote.marked = Wrote.marked
quiet Wrote.allocated = Wrote.allocated
quiet Wrote.marks = Wrote.marks
quiet Wrote.sweeps = Wrote.sweeps

quiet_at : {n : Bool} {z : Stretch} {w v : Moment} {l : List Entry} {b d : Bool} {h : Phase} → l ≡ [] → Wrote n z w l b d h → Wrote n z v l b d h
quiet_at e k = rw e (quiet (rw e at k))

-- ---- the writes of the collector's rows
flipped_sense : (n : Bool) → Wrote (not n) Stretch.flipped Moment.fences (entry_for (store.Sense (not n)) ∷ []) n n phase.Idle
flipped_sense true = Wrote.sense
flipped_sense false = Wrote.sense

write_sense : {n : Bool} {l : List Entry} {b d : Bool} {h : Phase} → Wrote n Stretch.flips Moment.goes l b d h → Wrote (not n) Stretch.flipped Moment.fences (l ++ (entry_for (store.Sense (not n)) ∷ [])) b d h
write_sense {n} Wrote.flips = flipped_sense n

write_init : {n : Bool} {l : List Entry} {b d : Bool} {h : Phase} → Wrote n Stretch.flipped Moment.goes l b d h → Wrote n Stretch.opens Moment.fences (l ++ (entry_for (store.Phase phase.Init) ∷ [])) b d h
write_init Wrote.flipped = Wrote.init

write_marking : {n : Bool} {l : List Entry} {b d : Bool} {h : Phase} → Wrote n Stretch.opens Moment.goes l b d h → Wrote n Stretch.allocates Moment.goes (l ++ (entry_for (store.Phase phase.Mark) ∷ [])) b d h
write_marking Wrote.opens = Wrote.marking

write_alloc : {n : Bool} {l : List Entry} {b d : Bool} {h : Phase} → Wrote n Stretch.allocates Moment.goes l b d h → Wrote n Stretch.allocated Moment.fences (l ++ (entry_for (store.AllocSense n) ∷ [])) b d h
write_alloc Wrote.marking = Wrote.both_alloc
write_alloc Wrote.marked = Wrote.alloc

write_mark : {n : Bool} {l : List Entry} {b d : Bool} {h : Phase} (r : ℕ) → Wrote n Stretch.marks Moment.goes l b d h → Wrote n Stretch.marks Moment.unlocks (l ++ (entry_for (store.Mark r n) ∷ [])) b d h
write_mark r Wrote.marks = Wrote.mark

write_sweep : {n : Bool} {l : List Entry} {b d : Bool} {h : Phase} → Wrote n Stretch.marks Moment.goes l b d h → Wrote n Stretch.sweeps Moment.goes (l ++ (entry_for (store.Phase phase.Sweep) ∷ [])) b d h
write_sweep Wrote.marks = Wrote.sweep

write_idle : {n : Bool} {l : List Entry} {b d : Bool} {h : Phase} → Wrote n Stretch.sweeps Moment.goes l b d h → Wrote n Stretch.rests Moment.fences (l ++ (entry_for (store.Phase phase.Idle) ∷ [])) b d h
write_idle Wrote.sweep = Wrote.both_idle
write_idle Wrote.sweeps = Wrote.idle

-- ---- from one stretch to the next without a write, and the reads of fM
ends_alloc : {n : Bool} {l : List Entry} {b d : Bool} {h : Phase} → Wrote n Stretch.allocated Moment.goes l b d h → Wrote n Stretch.marks Moment.fences l b d h
ends_alloc Wrote.allocated = Wrote.marks

leave_marks : {n : Bool} {l : List Entry} {b d : Bool} {h : Phase} {w : Moment} → Wrote n Stretch.marks Moment.goes l b d h → Wrote n Stretch.marks w l b d h
leave_marks Wrote.marks = Wrote.marks

read_sense : {n : Bool} {l : List Entry} {b d : Bool} {h : Phase} → Wrote n Stretch.rests Moment.goes l b d h → (l ≡ []) × Wrote b Stretch.flips Moment.goes l b d h
read_sense Wrote.rests = (refl, Wrote.flips)

mark_sense : {n : Bool} {l : List Entry} {b d : Bool} {h : Phase} → Wrote n Stretch.marks Moment.goes l b d h → (l ≡ []) × Wrote b Stretch.marks Moment.goes l b d h
mark_sense Wrote.marks = (refl, Wrote.marks)

-- ---- the commits of the collector's stores
after : {n : Bool} {z : Stretch} {w : Moment} {o : Entry} {l : List Entry} {b d : Bool} {h : Phase} → Wrote n z w (o ∷ l) b d h → Wrote n z w l (sense_after o.store b) (alloc_after o.store d) (phase_after_lem o.store h)
after Wrote.both_idle = Wrote.idle
after Wrote.idle = Wrote.rests
after Wrote.sense = Wrote.flipped
after Wrote.init = Wrote.opens
after Wrote.marking = Wrote.marked
after Wrote.both_alloc = Wrote.alloc
after Wrote.alloc = Wrote.allocated
after Wrote.overtaken = Wrote.allocated
after Wrote.mark = Wrote.marks
after Wrote.sweep = Wrote.sweeps

like : {n : Bool} {z : Stretch} {w : Moment} {l k : List Entry} {b c d e : Bool} {h i : Phase} → k ≡ l → c ≡ b → e ≡ d → i ≡ h → Wrote n z w l b d h → Wrote n z w k c e i
like e f g i v = rw (e, f, g, i) v

abbrev standing : PhaseWord → Phase
standing i = i.phase

commit_known : (q : Process) {m n : Memory} → MemoryFormed m → commit_of m 0 ≡ taken n → Known q m → Known q n
commit_known q {m} w e v =
    let k = commit_taken 0 (shaped m w) e in
    like k.own (fm_after w 0 k) (fa_after w 0 k) (phase_after w 0 k) (after (rw k.before at v))

-- ---- what memory keeps of it
record Keeps (m n : Memory) : Type 0 where
  pending : pending_for n 0 ≡ pending_for m 0
  fm : n.fm ≡ m.fm
  fa : n.fa ≡ m.fa
  phase : n.phase.phase ≡ m.phase.phase

keep : {x : Bool} {z : Stretch} {w : Moment} {m n : Memory} → Keeps m n → Wrote x z w (pending_for m 0) m.fm m.fa m.phase.phase → Wrote x z w (pending_for n 0) n.fm n.fa n.phase.phase
keep k v = like k.pending k.fm k.fa k.phase v

add : {x : Bool} {z : Stretch} {w : Moment} {m n : Memory} (v : Store) → Shaped m → write_of m 0 (entry_for v) ≡ taken n → Wrote x z w (pending_for m 0 ++ (entry_for v ∷ [])) m.fm m.fa m.phase.phase →
    Wrote x z w (pending_for n 0) n.fm n.fa n.phase.phase
add v z e g = let k = write_taken 0 (entry_for v) z e in like k.own k.alike.fm k.alike.fa (ap standing k.alike.phase) g

alike_keeps : {m n : Memory} → pending_for n 0 ≡ pending_for m 0 → Alike m n → Keeps m n
alike_keeps e a = record { pending = e; fm = a.fm; fa = a.fa; phase = ap standing a.phase }

quiet_keeps : {m n : Memory} → Quiet m n → Keeps m n
quiet_keeps k = record { pending = k.pending 0; fm = k.fm; fa = k.fa; phase = ap standing k.phase }

-- ---- a read of fM
pub sees_sense : (m : Memory) (p : ℕ) {b : Bool} → view_of m p spot.Sense ≡ stands_of m spot.Sense → look_sense_of m p ≡ sees_bit b → b ≡ m.fm
sees_sense m p g e =
    let k = look_sense_taken m p (ap (λ (i : SeenBit). i.no) e) in
    sym (ap (λ (i : SeenBit). i.bit) e) ∙ ap (λ (i : SeenBit). i.bit) k ∙ ap bit_of (g ∙ held_sense m)

-- ---- the collector's rows
at_known : {k j : ℕ} {q : Process} (m : Memory) → At k j q → Known q m → Wrote q.sense (stretch_of k) (moment_of k j) (pending_for m 0) m.fm m.fa m.phase.phase
at_known m a v = rw (a.place, a.stage) at v

round_goes : {k j l : ℕ} {t : RoundType} (i : ℕ) → Round k t j l → eqb i fence_stage ≡ false → moment_of k i ≡ Moment.goes
round_goes i Round.row1 e = rw e refl
round_goes i Round.row3 e = rw e refl
round_goes i Round.row4 e = rw e refl
round_goes i Round.row5 e = rw e refl
round_goes i Round.row6 e = rw e refl
round_goes i Round.row8 e = rw e refl

round_over : {k j l : ℕ} {t : RoundType} {n : Bool} {e : List Entry} {b d : Bool} {h : Phase} → Round k t j l → Wrote n (stretch_of k) (moment_of k poll_stage) e b d h → Wrote n (stretch_of j) (moment_of j l) e b d h
round_over Round.row1 v = v
round_over Round.row3 v = v
round_over Round.row4 v = v
round_over Round.row5 v = ends_alloc v
round_over Round.row6 v = v
round_over Round.row8 v = v

-- a mark of row 7
next_known : {q t : Process} {l : List Entry} {b d : Bool} {h : Phase} → q.place ≡ row7_mark → Next q t → Wrote q.sense Stretch.marks Moment.goes l b d h →
    Wrote t.sense (stretch_of t.place) (moment_of t.place t.stage) l b d h
next_known i (Next.write e z) v = absurd (omega arith)
next_known i (Next.new e z) v = absurd (omega arith)
next_known i (Next.marked e) v = absurd (omega arith)
next_known i (Next.roots e z) v = absurd (omega arith)
next_known i (Next.root e z) v = absurd (omega arith)
next_known i (Next.fields e z) v = v
next_known i (Next.field e z) v = v

module _ {n : Bool} {k : ℕ} (s : k ≡ row7_mark) {l : List Entry} {b d : Bool} {h : Phase} where
  scan_from : (j : ℕ) → eqb j unlock_stage ≡ false → Wrote n (stretch_of k) (moment_of k j) l b d h → Wrote n Stretch.marks Moment.goes l b d h
  scan_from j e v = rw (s, e) at v

  scan_to : (j : ℕ) → eqb j unlock_stage ≡ false → Wrote n Stretch.marks Moment.goes l b d h → Wrote n (stretch_of k) (moment_of k j) l b d h
  scan_to j e v = rw (s, e) v

  scan_unlocks : Wrote n (stretch_of k) (moment_of k unlock_stage) l b d h → Wrote n Stretch.marks Moment.unlocks l b d h
  scan_unlocks v = rw s at v

  scan_unlock : Wrote n Stretch.marks Moment.unlocks l b d h → Wrote n (stretch_of k) (moment_of k unlock_stage) l b d h
  scan_unlock v = rw s v

staged : {j : ℕ} (q : Process) (m : Memory) → q.stage ≡ j → Known q m → Wrote q.sense (stretch_of q.place) (moment_of q.place j) (pending_for m 0) m.fm m.fa m.phase.phase
staged q m e v = rw e at v

renewed : {x n : Bool} {z : Stretch} {w : Moment} {l : List Entry} {b d : Bool} {h : Phase} → x ≡ n → Wrote n z w l b d h → Wrote x z w l b d h
renewed e v = rw e v

-- "The collector's read of fM here renews its one noted fM."
mark_renews : (m : Memory) (q : Process) → q.place ≡ row7_mark → q.stage ≡ sense_stage → {b : Bool} → look_sense_of m 0 ≡ sees_bit b → Known q m → Wrote b Stretch.marks Moment.goes (pending_for m 0) m.fm m.fa m.phase.phase
mark_renews m q s e g v =
    let k = mark_sense (scan_from s sense_stage refl (staged q m e v)) in
    renewed (sees_sense m 0 (view_empty m 0 spot.Sense k.0) g) k.1

-- the unlock of a winner or of a loser: it is taken only with nothing pending
mark_unlocks : (m n : Memory) (q : Process) → Shaped m → q.place ≡ row7_mark → q.stage ≡ unlock_stage → unlock_of m 0 ≡ taken n → Known q m → Wrote q.sense Stretch.marks Moment.goes (pending_for n 0) n.fm n.fa n.phase.phase
mark_unlocks m n q z s e g v =
    let k = unlock_taken 0 z g in
    keep (alike_keeps (k.after.pending 0) k.after.alike) (quiet_at k.empty (scan_unlocks s (staged q m e v)))

mark_known : {m n : Memory} {r : ℕ} {q t : Process} → Shaped m → q.place ≡ row7_mark → Mark m 0 r q n t → Known q m → Known t n
unfolding unnoted
mark_known {m} {q = q} z s (Mark.looks e g) v = scan_to s sense_stage refl (scan_from s look_stage refl (staged q m e v))
mark_known {m} {q = q} z s (Mark.equal e g h) v = next_known s h (mark_renews m q s e g v)
mark_known {m} {q = q} z s (Mark.unequal e g) v = scan_to s phase_stage refl (mark_renews m q s e g v)
mark_known {m} {q = q} z s (Mark.idle e g h) v = next_known s h (scan_from s phase_stage refl (staged q m e v))
mark_known {m} {q = q} z s (Mark.busy e g h) v = scan_to s lock_stage refl (scan_from s phase_stage refl (staged q m e v))
mark_known {m} {q = q} z s (Mark.locks e g) v =
    let k = (lock_taken 0 g).after in
    scan_to s again_stage refl (keep (alike_keeps (k.pending 0) k.alike) (scan_from s lock_stage refl (staged q m e v)))
mark_known {m} {q = q} z s (Mark.agrees e g) v = scan_to s write_stage refl (scan_from s again_stage refl (staged q m e v))
mark_known {m} {q = q} z s (Mark.differs e g) v = scan_unlock s (leave_marks (scan_from s again_stage refl (staged q m e v)))
mark_known {m} {r = r} {q = q} z s (Mark.writes e g) v = scan_unlock s (add (store.Mark r q.sense) z g (write_mark r (scan_from s write_stage refl (staged q m e v))))
mark_known {m} {n} {q = q} z s (Mark.wins e g h i) v = next_known s i (mark_unlocks m n q z s e g v)
mark_known {m} {n} {q = q} z s (Mark.loses e g h i) v = next_known s i (mark_unlocks m n q z s e g v)

-- the collector is o after it, and memory is that of x
data Turned : State → Type 0 where
  turned : (x : State) (o : Process) → Known o x.memory → Turned (with_process_of x 0 o)

module _ (s : State) (c : Choice) (w : WellFormed s) where
  abbrev q : Process
  q = process_of s 0

  abbrev m : Memory
  m = s.memory

  z : Shaped m
  z = shaped m w.memory

  scanned : {r : ℕ} {n : Memory} {t : Process} → Marks q r → Mark m 0 r q n t → Known q m → Known t n
  scanned (Marks.old i) e v = absurd (let b = (collector_within w.collector).0 in omega arith)
  scanned (Marks.new i) e v = absurd (let b = (collector_within w.collector).0 in omega arith)
  scanned (Marks.root i) e v = absurd (let b = (collector_within w.collector).0 in omega arith)
  scanned (Marks.field i) e v = mark_known z i e v

  -- a round goes on, past its fence
  round_on : {k j l : ℕ} {t : RoundType} (a b : ℕ) → Round k t j l → At k a q → eqb a fence_stage ≡ false → eqb b fence_stage ≡ false → Known q m →
      Wrote q.sense (stretch_of k) (moment_of k b) (pending_for m 0) m.fm m.fa m.phase.phase
  round_on a b r i e f v = rw (round_goes b r f) (rw (round_goes a r e) at (at_known m i v))

  collector_known : {t : State} → Collector s c 0 q t → Known q m → Turned t
  collector_known (Collector.fences r a b e) v = Turned.turned s _ (quiet_at (fence_taken 0 z e).empty (at_known m a v))
  collector_known (Collector.types r a b d) v = Turned.turned (with_processes (with_system s _) (all_off s.procs)) _ (round_on type_stage raise_stage r a refl refl v)
  collector_known (Collector.raises r a b i e) v = Turned.turned (with_process_of s c.x (flagged (process_of s c.x))) _ v
  collector_known (Collector.raises_last r a b i e) v = Turned.turned (with_process_of s c.x (flagged (process_of s c.x))) _ (round_on raise_stage poll_stage r a refl refl v)
  collector_known (Collector.polls_up r a b i e) v = Turned.turned s _ v
  collector_known (Collector.polls r a b i e h) v = Turned.turned s _ v
  collector_known (Collector.polls_last r a b i e h) v = Turned.turned s _ (round_over r (at_known m a v))
  collector_known (Collector.reads_sense a b e) v =
      let k = read_sense (at_known m a v) in
      Turned.turned s _ (renewed (sees_sense m 0 (view_empty m 0 spot.Sense k.0) e) k.1)
  collector_known (Collector.writes_sense a b {m = n} e) v = Turned.turned (with_memory s n) _ (add (store.Sense (not q.sense)) z e (write_sense (at_known m a v)))
  collector_known (Collector.writes_init a b {m = n} e) v = Turned.turned (with_memory s n) _ (add (store.Phase phase.Init) z e (write_init (at_known m a v)))
  collector_known (Collector.writes_mark a b {m = n} e) v = Turned.turned (with_memory s n) _ (add (store.Phase phase.Mark) z e (write_marking (at_known m a v)))
  collector_known (Collector.writes_alloc a b {m = n} e) v = Turned.turned (with_memory s n) _ (add (store.AllocSense q.sense) z e (write_alloc (at_known m a v)))
  collector_known (Collector.takes (inl a) b h) v = Turned.turned (with_system s (with_list s.system no_cells)) _ (at_known m a v)
  collector_known (Collector.takes (inr a) b h) v = Turned.turned (with_system s (with_list s.system no_cells)) _ (at_known m a v)
  collector_known (Collector.takes_none (inl a) b h) v = Turned.turned (with_system s (with_list s.system no_cells)) _ (at_known m a v)
  collector_known (Collector.takes_none (inr a) b h) v = Turned.turned (with_system s (with_list s.system no_cells)) _ (at_known m a v)
  collector_known (Collector.reads_first a b e h) v = Turned.turned s _ (at_known m a v)
  collector_known (Collector.reads_first_null a b e) v = Turned.turned s _ (at_known m a v)
  collector_known (Collector.marks b i {m = n} {t = t} e) v = Turned.turned (with_memory s n) t (scanned i e v)
  collector_known (Collector.reads_next a b e h) v = Turned.turned s _ (at_known m a v)
  collector_known (Collector.reads_next_null a b e n) v = Turned.turned s _ (at_known m a v)
  collector_known (Collector.reads_last_null a b e n) v = Turned.turned s _ (at_known m a v)
  collector_known (Collector.drops a b h) v = Turned.turned s _ (at_known m a v)
  collector_known (Collector.drops_last a b h) v = Turned.turned s _ (leave_marks (at_known m a v))
  collector_known (Collector.writes_sweep a b {m = n} e) v = Turned.turned (with_memory s n) _ (add (store.Phase phase.Sweep) z e (write_sweep (at_known m a v)))
  collector_known (Collector.spares a b i e h) v = Turned.turned s _ v
  collector_known (Collector.spares_last a b i e h) v = Turned.turned s _ (at_known m a v)
  collector_known (Collector.condemns a b i e) v = Turned.turned s _ (at_known m a v)
  collector_known (Collector.frees a b {m = n} e h) v = Turned.turned (with_memory s n) _ (keep (quiet_keeps (frees_quiet m w.memory 0 q.x (sweep_free_at a.place w.collector).is_x e)) (at_known m a v))
  collector_known (Collector.frees_last a b {m = n} e h) v = Turned.turned (with_memory s n) _ (keep (quiet_keeps (frees_quiet m w.memory 0 q.x (sweep_free_at a.place w.collector).is_x e)) (at_known m a v))
  collector_known (Collector.writes_idle a b {m = n} e) v = Turned.turned (with_memory s n) _ (add (store.Phase phase.Idle) z e (write_idle (at_known m a v)))

arrives : {t : State} → WellFormed t → Turned t → Known (process_of t 0) t.memory
arrives w (Turned.turned x o g) = rw (arrived x 0 o (omega arith) w) g

-- ---- the mutators' steps: their stores are marks and fields
oldest_keeps : {m n : Memory} (p : ℕ) → (0 ≡ p → ⊥) → MemoryFormed m → MarksAndFields (pending_for m p) → Committed m p n → Keeps m n
oldest_keeps {m} {n} p ne w f k = go (f k.oldest (rw k.before (Memᴰ.head refl))) (fm_after w p k) (fa_after w p k) (phase_after w p k)
  where
    go : {v : Store} → MarkOrField v → n.fm ≡ sense_after v m.fm → n.fa ≡ alloc_after v m.fa → n.phase.phase ≡ phase_after_lem v m.phase.phase → Keeps m n
    go MarkOrField.mark a b d = record { pending = k.others 0 ne; fm = a; fa = b; phase = d }
    go MarkOrField.field a b d = record { pending = k.others 0 ne; fm = a; fa = b; phase = d }

outer_keeps : {p : ℕ} {m n : Memory} → (0 ≡ p → ⊥) → Shaped m → Outer p m n → Keeps m n
outer_keeps ne z (Outer.quiet k) = quiet_keeps k
outer_keeps {p} ne z (Outer.writes {v} k i e) = let g = write_taken p (entry_for v) z e in alike_keeps (g.others 0 ne) g.alike

goes_keeps : {p : ℕ} {q o : Process} {m n : Memory} → (0 ≡ p → ⊥) → MemoryFormed m → MarksAndFields (pending_for m p) → Goes p q m o n → Keeps m n
goes_keeps {p} ne w f (Goes.locks a b e) = let g = (lock_taken p e).after in alike_keeps (g.pending 0) g.alike
goes_keeps ne w f (Goes.looks a u b) = record { pending = refl; fm = refl; fa = refl; phase = refl }
goes_keeps {p} {m = m} ne w f (Goes.writes a u b v r d e) = let g = write_taken p _ (shaped m w) e in alike_keeps (g.others 0 ne) g.alike
goes_keeps {p} {m = m} ne w f (Goes.unlocks a b e) = let g = (unlock_taken p (shaped m w) e).after in alike_keeps (g.pending 0) g.alike
goes_keeps {m = m} ne w f (Goes.outside a b e) = outer_keeps ne (shaped m w) e
goes_keeps {p} {m = m} ne w f (Goes.commits e) = oldest_keeps p ne w f (commit_taken p (shaped m w) e)

beside_known : {c : Choice} {q o u : Process} (m : Memory) → Beside c q 0 o u → Known o m → Known u m
beside_known m Beside.same v = v
beside_known m (Beside.raises r a e) v = v
beside_known m (Beside.types r a) v = v

-- ---- a step and the opening
module _ (s : State) (c : Choice) (w : WellFormed s) (f : MutatorStores s) where
  known : {t : State} → Known (process_of s 0) s.memory → Row s c t → Dec (0 ≡ c.process) → Known (process_of t 0) t.memory
  known {t} v r (no ne) =
      beside_known t.memory (row_others w r 0 ne)
      (keep (goes_keeps ne w.memory (rw (pending_is s.memory c.process) (f c.process (omega arith))) (row_goes w r)) v)
  known v (Row.collector k e r) (yes i) = arrives (row_kept s c w (Row.collector k e r)) (collector_known s c w r v)
  known v (Row.mutator k e pos mine r) (yes i) = absurd (omega arith)
  known v (Row.commits k e mine b {m = n} h) (yes i) = commit_known (process_of s 0) w.memory (named (λ x. commit_of s.memory x ≡ taken n) (i ∙ e) h) v

  pub step_written : {t : State} → CollectorWrote s → Row s c t → CollectorWrote t
  step_written {t} v r = rw (← pending_is t.memory 0) (known (rw (pending_is s.memory 0) v) r (ℕ_discrete 0 c.process))

pub opening_written : (h : Heap) → HeapFits h → CollectorWrote (opening_of h)
unfolding opening_of open_memory open_collector
opening_written h f = Wrote.rests
