-- Every row keeps what holds of the handshakes. Assumes nothing.
--     Stands, Whole          the same as `Handshakes`, mutator by mutator, over the array of processes
--     moves, finishes        a mutator's own step: its part is left alone, or its answer is finished
--     collector_moved, rests, mutator_moved      a process replaced
--     set_moved, raise_moved the type is set; a flag is raised
--     collector_handshakes, mutator_handshakes      every row of the two programs
--     step_handshakes        every row
--     settled_handshakes     where no round raises or polls every mutator is in step, with its flag down and the
--                            system's phase
--     opening_handshakes     the opening
use mathlib.Core.Path.{◌≡◌, refl, sym, subst, ◌∙◌}
use mathlib.Core.Bool.{Bool, true, false, false≢true}
use mathlib.Core.List.{List}
use mathlib.Core.Logic.{inl}
use Prim.Native.Nat.{ℕ, ◌-◌, ◌≤◌, ◌<◌}
use native.Mathlib.Decide.{ℕ_discrete}
use native.Mathlib.Omega.{arith}
use lib.ListN.{get_or, set}
use lib.Dec.{leb}
use borrow.Author.Tests.{lt-ltb}
use Rattle.cells.specs.Sets.{max_set, Member, no_cells, remove_of, full_of}
use Rattle.cells.proofs.Bools.{not_both}
use Rattle.cells.proofs.Members.{full_has}
use Rattle.cells.proofs.Belows.{below_range}
use Rattle.memory.specs.declared.Memory.{Memory}
use Rattle.memory.specs.Memories.{max_processes}
use Rattle.state.specs.declared.Handshake.{Handshake}
use Rattle.state.specs.declared.Handshake.TheVariants as hand
use Rattle.state.specs.declared.RoundType.{RoundType}
use Rattle.state.specs.declared.RoundType.TheVariants as round
use Rattle.state.specs.declared.Part.{Part}
use Rattle.state.specs.declared.Process.{Process}
use Rattle.state.specs.declared.State.{State}
use Rattle.state.specs.declared.Choice.{Choice}
use Rattle.state.specs.declared.opening.Heap.{Heap}
use Rattle.state.specs.Codes.{top, store_mark_old, store_mark_y, store_write, noop_fence, noop_finish, roots_fence, roots_mark, roots_finish, work_fence, work_finish, no_stage, fence_stage, type_stage, raise_stage, poll_stage}
use Rattle.state.specs.States.{no_process, next_of, at, leaving, mutators_of, process_of, with_process_of}
use Rattle.state.specs.Openings.{open_memory, open_collector, open_mutator, open_process, open_system, roots_at, opening_of}
use Rattle.formed.specs.Fits.{Among, round_places, WellFormed, HeapFits}
use Rattle.formed.proofs.Places.{AllBelow, all_below}
use Rattle.model.specs.Rows.{At, Marks, Mark, Mutator, Round, Advance, all_off, with_processes, flagged, Collector, Row}
use Rattle.stays_formed.proofs.Frames.{off_process, off_framed}
use Rattle.claims.proofs.Processes.{replaced}
use Rattle.formed.proofs.Keeps.{process_other, keeps_mutator}
use Rattle.formed.proofs.Gives.{shakes, round_at, collector_within}
use Rattle.stays_formed.proofs.Collector.{round_place_lem}
use Rattle.stays_formed.proofs.Leaves.{row_counts}
use Rattle.verdict.specs.Table.{InTable}
use Rattle.claims.specs.Posted.{posted_of, busy_of}
use Rattle.claims.specs.Flags.{Due, Flagged}
use Rattle.claims.specs.Answering.{answer_places, Answers}
use Rattle.claims.specs.Handshakes.{Handshakes}
use Rattle.claims.proofs.Posted.{Tells, Told, at_told, Rests, rest, take_rests, round_posts, round_ends, mark_seat, mark_part, scan_rests}
use Rattle.claims.proofs.Table.{set_line, same_phase_lem, noop_line, roots_line, work_line}
use Rattle.claims.proofs.Flags.{not_due, settled, rests_flags, set_flags, shaken_flags, raise_flags, raised_flags, last_flags, last_raised, poll_flags, over_flags}
use Rattle.claims.proofs.Answering.{Passes, passes, seat_passes, branch_answers, top_answers}

-- ---- mutator m, which is q, under the type k, the system's phase h and the collector o
record Stands (k : RoundType) (h : Handshake) (o : Process) (m : ℕ) (q : Process) : Type 0 where
  pub line : InTable q.part.in_step k h q.part.phase
  pub low : q.part.raised ≡ true → q.part.in_step ≡ false
  pub flags : Flagged o m q.part
  pub answers : Answers k q

record Whole (n : ℕ) (k : RoundType) (h : Handshake) (qs : List Process) : Type 0 where
  pub told : Told k h (get_or qs 0 no_process)
  pub each : (m : ℕ) → 0 < m → m ≤ n → Stands k h (get_or qs 0 no_process) m (get_or qs m no_process)

to_whole : (s : State) → Handshakes s → Whole (mutators_of s) s.system.kind s.system.phase s.procs
to_whole s w =
    record {
      told = (w.posted, w.typed);
      each = λ m a b. record { line = (w.table m a b).line; low = (w.table m a b).flag; flags = w.flags m a b; answers = w.answering m a b };
    }

of_whole : (s : State) → Whole (mutators_of s) s.system.kind s.system.phase s.procs → Handshakes s
of_whole s w =
    record {
      posted = w.told.0;
      typed = w.told.1;
      table = λ m a b. record { line = (w.each m a b).line; flag = (w.each m a b).low };
      flags = λ m a b. (w.each m a b).flags;
      answering = λ m a b. (w.each m a b).answers;
    }

-- ---- a mutator's own step
-- its part is left alone, and it comes to no other answer
moves : {k : RoundType} {h : Handshake} {o : Process} {m : ℕ} {q t : Process} → t.part ≡ q.part → Passes q.place t.place → Stands k h o m q → Stands k h o m t
moves e f z =
    record {
      line = rw e z.line;
      low = rw e z.low;
      flags = rw e z.flags;
      answers = λ i a. rw e (z.answers i (f i a));
    }

-- an answer of type i is finished
finishes : {k : RoundType} {h : Handshake} {o : Process} {m : ℕ} (i : RoundType) (b : Handshake) {q t : Process} → Among q.place (answer_places i) → (InTable false i h q.part.phase → InTable true i h b) →
    t.place ≡ top → t.part ≡ record { raised = false; in_step = true; phase = b } → Stands k h o m q → Stands k h o m t
finishes {k} {h} {o} {m} i b {q} {t} a l e f z =
    let r = z.answers i a in
    let j : k ≡ i = r.1 in
    let was : InTable false i h q.part.phase = (rw (z.low r.0, j) at z).line in
    record {
      line = rw (f, j) (l was);
      low = λ u. absurd (false≢true (rw f at u));
      flags = rw f (shaken_flags refl refl (λ d. not_both r.0 (z.flags.down.1 d).0));
      answers = λ v u. absurd (top_answers v (rw e at u));
    }

-- the line of a mutator in step under the phase g
in_step_lem : {b : Bool} {i : RoundType} {h g c : Handshake} → h ≡ g → b ≡ true → InTable b i h c → InTable true i g c
in_step_lem e f l = rw (e, f) at l

-- a part, by its fields
shaken : {r i : Bool} {h : Handshake} (p : Part) → p.raised ≡ r → p.in_step ≡ i → p.phase ≡ h → p ≡ record { raised = r; in_step = i; phase = h }
shaken p e f g = rw (← e, ← f, ← g) refl

-- a round raises and polls from its third stage on
early : {k j l : ℕ} {t : RoundType} (i : ℕ) → Round k t j l → leb raise_stage i ≡ false → busy_of k i ≡ false
early i r e = rw (round_place_lem r, e) refl

module _ (s : State) (w : WellFormed s) where
  -- ---- one process replaced
  collector_moved : {k : RoundType} {h : Handshake} (t : Process) → Told k h t →
      ((m : ℕ) → 0 < m → m ≤ mutators_of s → Flagged (process_of s 0) m (process_of s m).part → Flagged t m (process_of s m).part) →
      Whole (mutators_of s) k h s.procs → Whole (mutators_of s) k h (set s.procs 0 t)
  collector_moved t e f v =
      record {
        told = rw (replaced s w 0 t (omega arith)) e;
        each = λ m a b. rw (replaced s w 0 t (omega arith), process_other s 0 m t (λ i. omega arith))
            (record { line = (v.each m a b).line; low = (v.each m a b).low; flags = f m a b (v.each m a b).flags; answers = (v.each m a b).answers });
      }

  rests : {k : RoundType} {h : Handshake} (t : Process) → Rests (process_of s 0) t → Whole (mutators_of s) k h s.procs → Whole (mutators_of s) k h (set s.procs 0 t)
  rests {k} {h} t r v = collector_moved t (r.told k h v.told) (λ m a b. rests_flags r) v

  mutator_moved : {k : RoundType} {h : Handshake} (p : ℕ) → 0 < p → p ≤ mutators_of s → (t : Process) → (Stands k h (process_of s 0) p (process_of s p) → Stands k h (process_of s 0) p t) →
      Whole (mutators_of s) k h s.procs → Whole (mutators_of s) k h (set s.procs p t)
  mutator_moved {k} {h} p pos mine t f v =
      record {
        told = rw (process_other s p 0 t (λ i. omega arith)) v.told;
        each = λ m a b. rw (process_other s p 0 t (λ i. omega arith)) (go m a b (ℕ_discrete m p));
      }
    where
      go : (m : ℕ) → 0 < m → m ≤ mutators_of s → Dec (m ≡ p) → Stands k h (process_of s 0) m (process_of (with_process_of s p t) m)
      go m a b (yes e) = rw (e, replaced s w p t mine) (f (v.each p pos mine))
      go m a b (no e) = rw (process_other s p m t e) (v.each m a b)

  -- ---- rounds
  -- a mutator's number is one of a set's
  small : (m : ℕ) → m ≤ mutators_of s → m ≤ max_set
  small m b = omega (arith, w.memory.few_processes)

  -- the type is set
  set_moved : {k j l : ℕ} {t i : RoundType} {h a : Handshake} → Round k t j l → At k type_stage (process_of s 0) → Advance t h a → Whole (mutators_of s) i h s.procs →
      Whole (mutators_of s) t a (set (all_off s.procs) 0 (at k raise_stage (leaving (full_of (mutators_of s)) (process_of s 0))))
  set_moved {k} {t = t} {i = i} {h = h} {a = a} r p d v =
      let new : Process = at k raise_stage (leaving (full_of (mutators_of s)) (process_of s 0)) in
      let off : State = with_processes s (all_off s.procs) in
      let here = replaced off (off_framed s w) 0 new (omega arith) in
      let e : h ≡ posted_of k type_stage = (subst (Tells i h) (at_told p) v.told).0 in
      let g : Advance t (posted_of k type_stage) a = rw e at d in
      let b : busy_of (process_of s 0).place (process_of s 0).stage ≡ false = rw (p.place, p.stage) (early type_stage r refl) in
      record {
        told = rw here (round_posts r g);
        each = λ m x y. rw (here, process_other off 0 m new (λ i. omega arith), off_process s m x)
            (let z = v.each m x y in
            let f = settled (process_of s 0) m b z.flags in
            record {
              line = set_line r g (in_step_lem e f.1 z.line);
              low = λ u. refl;
              flags = set_flags (round_place_lem r) refl (full_has (mutators_of s) m x y (small m y)) f.0 refl;
              answers = λ i u. absurd (not_both (z.answers i u).0 f.0);
            });
      }

  -- the flag of x is raised
  raise_moved : {k : RoundType} {h : Handshake} (x : ℕ) → 0 < x → x ≤ mutators_of s → (t : Process) → Told k h t → Due (process_of s 0) x →
      ((m : ℕ) → 0 < m → m ≤ mutators_of s → (m ≡ x → ⊥) → Flagged (process_of s 0) m (process_of s m).part → Flagged t m (process_of s m).part) → Flagged t x (flagged (process_of s x)).part →
      Whole (mutators_of s) k h s.procs → Whole (mutators_of s) k h (set (set s.procs x (flagged (process_of s x))) 0 t)
  raise_moved {k} {h} x pos mine t e d f g v =
      record {
        told = rw here e;
        each = λ m a b. rw (here, process_other up 0 m t (λ i. omega arith)) (go m a b (ℕ_discrete m x));
      }
    where
      q : Process
      q = process_of s x

      up : State
      up = with_process_of s x (flagged q)

      here : process_of (with_process_of up 0 t) 0 ≡ t
      here = replaced up (keeps_mutator s w x (flagged q) pos mine (shakes true q.part.in_step q.part.phase (w.mutators x pos mine))) 0 t (omega arith)

      raised : Stands k h t x (flagged q)
      raised = let z = v.each x pos mine in record { line = z.line; low = λ u. (z.flags.down.1 d).1; flags = g; answers = λ i u. (refl, (z.answers i u).1) }

      go : (m : ℕ) → 0 < m → m ≤ mutators_of s → Dec (m ≡ x) → Stands k h t m (process_of (with_process_of s x (flagged q)) m)
      go m a b (yes i) = rw (i, replaced s w x (flagged q) mine) raised
      go m a b (no i) =
          rw (process_other s x m (flagged q) i)
          (let z = v.each m a b in record { line = z.line; low = z.low; flags = f m a b i z.flags; answers = z.answers })

  -- ---- the collector's rows
  module _ (c : Choice) where
    -- "x naming the mutator": one that there is
    offered : {k j l i : ℕ} {t : RoundType} → Round k t j l → At k i (process_of s 0) → Member (process_of s 0).left c.x → (0 < c.x) × (c.x ≤ mutators_of s)
    offered r a m = below_range (process_of s 0).left (mutators_of s) c.x (round_at (process_of s 0).place (rw a.place (round_place_lem r)) refl w.collector).left m

    rounds : {k j l i : ℕ} {t : RoundType} → Round k t j l → At k i (process_of s 0) → Among (process_of s 0).place round_places
    rounds r a = rw a.place (round_place_lem r)

    scanned : {r p : ℕ} {k : RoundType} {h : Handshake} (t : Process) {m n : Memory} → Marks (process_of s 0) r → Mark m p r (process_of s 0) n t → Whole (mutators_of s) k h s.procs → Whole (mutators_of s) k h (set s.procs 0 t)
    scanned t (Marks.old i) e v = absurd (let b = (collector_within w.collector).0 in omega arith)
    scanned t (Marks.new i) e v = absurd (let b = (collector_within w.collector).0 in omega arith)
    scanned t (Marks.root i) e v = absurd (let b = (collector_within w.collector).0 in omega arith)
    scanned t (Marks.field i) e v = rests t (scan_rests i (mark_seat e)) v

    collector_handshakes : {t : State} → Collector s c 0 (process_of s 0) t → Whole (mutators_of s) s.system.kind s.system.phase s.procs → Whole (mutators_of s) t.system.kind t.system.phase t.procs
    collector_handshakes (Collector.fences {k} r a b e) v = rests (at k type_stage (process_of s 0)) (rest _ a refl (early fence_stage r refl) (early type_stage r refl)) v
    collector_handshakes (Collector.types r a b d) v = set_moved r a d v
    collector_handshakes (Collector.raises r a b m e) v =
        let i = offered r a m in
        let g = rounds r a in
        raise_moved c.x i.0 i.1 _ v.told (record { round = g; stage = a.stage; left = m })
        (λ y _ _ n. raise_flags (process_of s 0) (leaving (remove_of (process_of s 0).left c.x) (process_of s 0)) y c.x g g a.stage a.stage refl n)
        (raised_flags (process_of s 0) (leaving (remove_of (process_of s 0).left c.x) (process_of s 0)) c.x g a.stage refl refl) v
    collector_handshakes (Collector.raises_last {k} r a b m e) v =
        let i = offered r a m in
        let new : Process = at k poll_stage (leaving (full_of (mutators_of s)) (process_of s 0)) in
        raise_moved c.x i.0 i.1 new (subst (Tells _ _) (at_told a) v.told) (record { round = rounds r a; stage = a.stage; left = m })
        (λ y p q n. last_flags (process_of s 0) new y c.x (round_place_lem r) e refl (full_has (mutators_of s) y p q (small y q)) n)
        (last_raised new c.x (round_place_lem r) refl (full_has (mutators_of s) c.x i.0 i.1 (small c.x i.1)) refl) v
    collector_handshakes (Collector.polls_up r a b m e) v = collector_moved (process_of s 0) v.told (λ y p q f. f) v
    collector_handshakes (Collector.polls r a b m e h) v =
        collector_moved _ v.told
        (λ y p q f. poll_flags (process_of s 0) y a.stage f (leaving (remove_of (process_of s 0).left c.x) (process_of s 0)) c.x (λ i. rw i e) (rounds r a) a.stage refl) v
    collector_handshakes (Collector.polls_last {j = j} {l = l} r a b m e h) v =
        collector_moved _ (subst (Tells _ _) (at_told a ∙ sym (round_ends r).0) v.told)
        (λ y p q f. over_flags (process_of s 0) y a.stage f (at j l (leaving no_cells (process_of s 0))) c.x (λ i. rw i e) (round_ends r).1 h) v
    collector_handshakes (Collector.reads_sense a b e) v = rests _ (rest _ a refl refl refl) v
    collector_handshakes (Collector.writes_sense a b e) v = rests _ (rest _ a refl refl refl) v
    collector_handshakes (Collector.writes_init a b e) v = rests _ (rest _ a refl refl refl) v
    collector_handshakes (Collector.writes_mark a b e) v = rests _ (rest _ a refl refl refl) v
    collector_handshakes (Collector.writes_alloc a b e) v = rests _ (rest _ a refl refl refl) v
    collector_handshakes (Collector.takes a b h) v = rests _ (take_rests _ a refl refl) v
    collector_handshakes (Collector.takes_none a b h) v = rests _ (take_rests _ a refl refl) v
    collector_handshakes (Collector.reads_first a b e h) v = rests _ (rest _ a refl refl refl) v
    collector_handshakes (Collector.reads_first_null a b e) v = rests _ (rest _ a refl refl refl) v
    collector_handshakes (Collector.marks b i {t = t} e) v = scanned t i e v
    collector_handshakes (Collector.reads_next a b e h) v = rests _ (rest _ a refl refl refl) v
    collector_handshakes (Collector.reads_next_null a b e n) v = rests _ (rest _ a refl refl refl) v
    collector_handshakes (Collector.reads_last_null a b e n) v = rests _ (rest _ a refl refl refl) v
    collector_handshakes (Collector.drops a b h) v = rests _ (rest _ a refl refl refl) v
    collector_handshakes (Collector.drops_last a b h) v = rests _ (rest _ a refl refl refl) v
    collector_handshakes (Collector.writes_sweep a b e) v = rests _ (rest _ a refl refl refl) v
    collector_handshakes (Collector.spares a b m e h) v = rests _ (rest _ a (at_told a) refl (rw a.place refl)) v
    collector_handshakes (Collector.spares_last a b m e h) v = rests _ (rest _ a refl refl refl) v
    collector_handshakes (Collector.condemns a b m e) v = rests _ (rest _ a refl refl refl) v
    collector_handshakes (Collector.frees a b e h) v = rests _ (rest _ a refl refl refl) v
    collector_handshakes (Collector.frees_last a b e h) v = rests _ (rest _ a refl refl refl) v
    collector_handshakes (Collector.writes_idle a b e) v = rests _ (rest _ a refl refl refl) v

    -- ---- a mutator's rows
    module _ (p : ℕ) (pos : 0 < p) (mine : p ≤ mutators_of s) where
      -- it stays where it is; it goes from place a to place b
      stays : {k : RoundType} {h : Handshake} (t : Process) → t.part ≡ (process_of s p).part → t.place ≡ (process_of s p).place → Whole (mutators_of s) k h s.procs → Whole (mutators_of s) k h (set s.procs p t)
      stays t e f v = mutator_moved p pos mine t (moves e (rw f (λ i u. u))) v

      goes : {k : RoundType} {h : Handshake} (a b : ℕ) (t : Process) → t.part ≡ (process_of s p).part → At a no_stage (process_of s p) → t.place ≡ b → Passes a b →
          Whole (mutators_of s) k h s.procs → Whole (mutators_of s) k h (set s.procs p t)
      goes a b t e f g r v = mutator_moved p pos mine t (moves e (rw (f.place, g) r)) v

      mutator_handshakes : {t : State} → Mutator s c p (process_of s p) t → Whole (mutators_of s) s.system.kind s.system.phase s.procs → Whole (mutators_of s) t.system.kind t.system.phase t.procs
      mutator_handshakes (Mutator.allocates a o x l g y e) v = stays _ refl refl v
      mutator_handshakes (Mutator.drops a o m g y) v = stays _ refl refl v
      mutator_handshakes (Mutator.reads a o m g y e h) v = stays _ refl refl v
      mutator_handshakes (Mutator.reads_null a o m g y e) v = stays _ refl refl v
      mutator_handshakes (Mutator.stores a o m g y e h) v = goes top store_mark_old _ refl a refl (passes top store_mark_old refl refl refl) v
      mutator_handshakes (Mutator.stores_new a o m g y e) v = goes top store_mark_y _ refl a refl (passes top store_mark_y refl refl refl) v
      mutator_handshakes (Mutator.stores_null a o m g y e) v = goes top store_write _ refl a refl (passes top store_write refl refl refl) v
      mutator_handshakes (Mutator.fences a o x g y e) v = stays _ refl refl v
      mutator_handshakes (Mutator.answers a o x g y u {k} b) v =
          mutator_moved p pos mine (at k no_stage (process_of s p)) (λ z. record { line = z.line; low = z.low; flags = z.flags; answers = λ i f. (u, branch_answers b i f) }) v
      mutator_handshakes (Mutator.marks b i h {t = t} e) v = mutator_moved p pos mine t (moves (mark_part e) (seat_passes (mark_seat e))) v
      mutator_handshakes (Mutator.looks_root a o m e) v = mutator_moved p pos mine _ (moves refl (rw a.place (λ i u. u))) v
      mutator_handshakes (Mutator.writes a b e) v = goes store_write top _ refl a refl (passes store_write top refl refl refl) v
      mutator_handshakes (Mutator.fences_noop a b e) v = goes noop_fence noop_finish _ refl a refl (passes noop_fence noop_finish refl refl refl) v
      mutator_handshakes (Mutator.fences_work a b e) v = goes work_fence work_finish _ refl a refl (passes work_fence work_finish refl refl refl) v
      mutator_handshakes (Mutator.fences_roots a b e h) v = goes roots_fence roots_mark _ refl a refl (passes roots_fence roots_mark refl refl refl) v
      mutator_handshakes (Mutator.fences_none a b e h) v = goes roots_fence roots_finish _ refl a refl (passes roots_fence roots_finish refl refl refl) v
      mutator_handshakes (Mutator.finishes_noop a b) v = mutator_moved p pos mine _ (finishes round.Noop (next_of (process_of s p).part.phase) (rw a.place refl) noop_line refl refl) v
      mutator_handshakes (Mutator.finishes_roots a b) v = mutator_moved p pos mine _ (finishes round.Roots (next_of (process_of s p).part.phase) (rw a.place refl) roots_line refl refl) v
      mutator_handshakes (Mutator.finishes_work a b) v = mutator_moved p pos mine _ (finishes round.Work (process_of s p).part.phase (rw a.place refl) work_line refl refl) v

-- ---- every row
row_whole : (s : State) (c : Choice) {t : State} → WellFormed s → Row s c t → Whole (mutators_of s) s.system.kind s.system.phase s.procs → Whole (mutators_of s) t.system.kind t.system.phase t.procs
row_whole s c w (Row.collector k z r) = collector_handshakes s w c r
row_whole s c w (Row.mutator k {p = p} e pos mine r) = mutator_handshakes s w c p pos mine r
row_whole s c w (Row.commits k e mine b h) = λ v. v

pub step_handshakes : (s : State) (c : Choice) {t : State} → WellFormed s → Handshakes s → Row s c t → Handshakes t
step_handshakes s c {t} w v r = of_whole t (rw (row_counts r).processes (row_whole s c w r (to_whole s v)))

-- ---- between the rounds
pub settled_handshakes : (s : State) → Handshakes s → busy_of (process_of s 0).place (process_of s 0).stage ≡ false → (m : ℕ) → 0 < m → m ≤ mutators_of s →
    (process_of s m).part ≡ record { raised = false; in_step = true; phase = s.system.phase }
settled_handshakes s v e m a b =
    let f = settled (process_of s 0) m e (v.flags m a b) in
    shaken (process_of s m).part f.0 f.1 (same_phase_lem (in_step_lem refl f.1 (v.table m a b).line))

-- ---- the opening
module _ (h : Heap) (w : HeapFits h) where
  opened : (p r : ℕ) → p < h.processes → Stands round.Roots hand.IdleMarkSweep open_collector p (open_process h p r)
  unfolding open_process open_mutator open_collector
  opened p r l =
      rw (lt-ltb p h.processes l)
      (record {
        line = InTable.roots;
        low = λ u. absurd (false≢true u);
        flags = shaken_flags refl refl (not_due open_collector p refl);
        answers = λ t u. absurd (top_answers t u);
      })

  abbrev Opens : ℕ → Type 0
  Opens p = 0 < p → p ≤ h.processes - 1 → Stands round.Roots hand.IdleMarkSweep open_collector p (process_of (opening_of h) p)

  open_mutators : AllBelow Opens max_processes
  unfolding opening_of
  open_mutators =
      (((((tt, λ a b. absurd (omega arith)), λ a b. opened 1 (roots_at h 0) (omega arith)), λ a b. opened 2 (roots_at h 1) (omega arith)), λ a b. opened 3 (roots_at h 2) (omega arith)), λ a b. opened 4 (roots_at h 3) (omega arith))

  open_whole : Whole (mutators_of (opening_of h)) (opening_of h).system.kind (opening_of h).system.phase (opening_of h).procs
  unfolding opening_of open_memory open_system open_collector
  open_whole = record { told = (refl, inl refl); each = λ m a b. all_below Opens max_processes open_mutators m (omega (arith, w.most)) a b }

  pub opening_handshakes : Handshakes (opening_of h)
  opening_handshakes = of_whole (opening_of h) open_whole
