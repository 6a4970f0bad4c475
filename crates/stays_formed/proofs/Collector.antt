-- Each step of the collector's program keeps the state well formed. Assumes nothing.
--     round_place_lem, round_next     where a round stands, and where the program goes on after it
--     collector_kept              every row of `Collector`
use mathlib.Core.Path.{◌≡◌, refl}
use mathlib.Core.Bool.{Bool, true, false, not}
use mathlib.Core.Logic.{◌⊎◌, inl, inr, ⊎_elim}
use Prim.Native.Nat.{ℕ, ◌≤◌, ◌<◌}
use native.Mathlib.Omega.{arith}
use Rattle.cells.specs.Sets.{no_cells, below_of, remove_of, full_of}
use Rattle.cells.proofs.Belows.{below_range, below_empty, below_remove, below_full}
use Rattle.buffers.specs.declared.Phase.TheVariants as phase
use Rattle.buffers.specs.declared.Store.{Store}
use Rattle.buffers.specs.declared.Store.TheVariants as store
use Rattle.buffers.specs.Stores.{value_of}
use Rattle.buffers.specs.Fits.{max_fields, IsCell, StoreFits}
use Rattle.memory.specs.declared.Memory.{Memory}
use Rattle.memory.specs.Memories.{taken}
use Rattle.memory.specs.Looks.{look_field_of}
use Rattle.memory.specs.Steps.{write_of, free_of}
use Rattle.memory_formed.specs.WellFormed.{MemoryFormed}
use Rattle.memory_formed.proofs.Kept.{write_kept, free_kept}
use Rattle.state.specs.declared.RoundType.{RoundType}
use Rattle.state.specs.declared.Process.{Process}
use Rattle.state.specs.declared.System.{System}
use Rattle.state.specs.declared.State.{State}
use Rattle.state.specs.declared.Choice.{Choice}
use Rattle.state.specs.Codes.{row2_read, row2_write, row4_write, row5_phase, row5_alloc, row6_take, row7_first, row7_mark, row8_take, row9_write, row11_write, no_stage, look_stage, fence_stage, raise_stage, poll_stage}
use Rattle.state.specs.States.{at, noting, leaving, marking, listing, mutators_of, process_of, with_process_of, with_memory, with_system}
use Rattle.state.specs.Choices.{all_fields, field_left_of}
use Rattle.formed.specs.Fits.{Among, round_places, plain_places, Unmarked, RoundNotes, CollectorAt, plain, round, scan_mark, scan, drop, sweep, sweep_free, CollectorFits, WellFormed}
use Rattle.formed.proofs.Gives.{plain_at, round_at, scan_at, drop_at, sweep_at, sweep_free_at, collector_within, mark_begins, shakes}
use Rattle.formed.proofs.Keeps.{keeps_collector, keeps_mutator, keeps_system}
use Rattle.model.specs.Rows.{sees_value, At, with_list, Round, row1, row3, row4, row5, row6, row8, Collector, with_processes, all_off, flagged}
use Rattle.stays_formed.specs.Kept.{Fits, collects}
use Rattle.stays_formed.proofs.Values.{write_ranged, free_ranged, seen_value_lem}
use Rattle.stays_formed.proofs.Frames.{ranged, off_framed, moved}
use Rattle.stays_formed.proofs.Marking.{running, mark_fits_lem, mark_memory}

-- ---- the rounds of the table
pub round_place_lem : {k j l : ℕ} {t : RoundType} → Round k t j l → Among k round_places
round_place_lem row1 = refl
round_place_lem row3 = refl
round_place_lem row4 = refl
round_place_lem row5 = refl
round_place_lem row6 = refl
round_place_lem row8 = refl

pub round_next : {k j l : ℕ} {t : RoundType} → Round k t j l → ((Among j plain_places) × (l ≡ no_stage)) ⊎ ((Among j round_places) × (l ≡ fence_stage))
round_next row1 = inl (refl, refl)
round_next row3 = inl (refl, refl)
round_next row4 = inl (refl, refl)
round_next row5 = inr (refl, refl)
round_next row6 = inl (refl, refl)
round_next row8 = inl (refl, refl)

-- ---- the collector with other notes and another list
module _ {n m : ℕ} {q : Process} where
  renoted : {k j x l c g w : ℕ} {b d : Bool} → CollectorFits n m q → below_of w n ≡ true → CollectorAt n m (at k j (noting x q.f q.y q.old (leaving l (marking c b d g (listing w q.roots q))))) →
      CollectorFits n m (at k j (noting x q.f q.y q.old (leaving l (marking c b d g (listing w q.roots q)))))
  renoted f b k = record { work = b; no_f = f.no_f; no_y = f.no_y; no_old = f.no_old; no_roots = f.no_roots; part_none = f.part_none; notes = k }

module _ {n m : ℕ} {t : Process} where
  -- no notes are in use
  now_plain : Among t.place plain_places → t.stage ≡ no_stage → t.x ≡ 0 → t.left ≡ no_cells → Unmarked t.cell t.look t.grey → CollectorAt n m t
  now_plain a e x l u = plain a (record { stage = e; no_x = x; left = l; mark = u })

  -- a round begins
  now_round : Among t.place round_places → t.stage ≡ fence_stage → t.x ≡ 0 → t.left ≡ no_cells → Unmarked t.cell t.look t.grey → CollectorAt n m t
  now_round a e x l u =
      round a (record { begun = omega arith; running = omega arith; no_x = x; none_left = λ _. l; left = rw l (below_empty m); mark = u })

  -- a mark begins
  now_mark : t.place ≡ row7_mark → t.stage ≡ look_stage → IsCell n t.x → below_of t.left max_fields ≡ true → IsCell n t.cell → t.look ≡ false → t.grey ≡ 0 → CollectorAt n m t
  now_mark a e x l i k g =
      scan_mark a
      (record {
        is_x = x;
        left = l;
        mark = rw e (mark_begins i k g);
      })

module _ (s : State) (c : Choice) (q : Process) (w : WellFormed s) (f : CollectorFits s.memory.cells (mutators_of s) q) where
  here : 0 < s.memory.processes
  here = omega (arith, w.memory.some_processes)

  seen : {v : ℕ} (x i : ℕ) → look_field_of s.memory 0 x i ≡ sees_value v → v ≤ s.memory.cells
  seen {v} x i e = seen_value_lem (ranged s w) 0 x i v e

  rounded : {k j l i : ℕ} {t : RoundType} → Round k t j l → At k i q → RoundNotes (mutators_of s) q
  rounded r a = round_at _ (round_place_lem r) a.place f

  goes : (t : Process) → CollectorFits s.memory.cells (mutators_of s) t → WellFormed (with_process_of s 0 t)
  goes t k = keeps_collector s w t k

  -- a write of fM, fA or the phase, which holds no cell and no value
  wrote : (v : Store) {m : Memory} (t : Process) → StoreFits s.memory.cells v → value_of v ≡ 0 → write_of s.memory 0 (record { store = v }) ≡ taken m → CollectorFits s.memory.cells (mutators_of s) t → WellFormed (with_process_of (with_memory s m) 0 t)
  wrote v {m} t i z e k =
      let u : MemoryFormed m = rw e at (write_kept s.memory 0 w.memory here (record { store = v }) i) in
      moved s w m u (write_ranged 0 w.memory u (ranged s w) (record { store = v }) (omega arith) e) 0 t (omega arith) (collects refl k)

  freed : {m : Memory} (t : Process) → IsCell s.memory.cells q.x → free_of s.memory 0 q.x ≡ taken m → CollectorFits s.memory.cells (mutators_of s) t → WellFormed (with_process_of (with_memory s m) 0 t)
  freed {m} t i e k =
      let u : MemoryFormed m = rw e at (free_kept s.memory 0 w.memory here q.x) in
      moved s w m u (free_ranged 0 w.memory u (ranged s w) q.x i e) 0 t (omega arith) (collects refl k)

  -- a flag is raised
  raised : (x : ℕ) (t : Process) → IsCell (mutators_of s) x → CollectorFits s.memory.cells (mutators_of s) t → WellFormed (with_process_of (with_process_of s x (flagged (process_of s x))) 0 t)
  raised x t i k =
      keeps_collector (with_process_of s x (flagged (process_of s x)))
      (keeps_mutator s w x (flagged (process_of s x)) i.0 i.1 (shakes true (process_of s x).part.in_step (process_of s x).part.phase (w.mutators x i.0 i.1))) t k

  -- one less is left in a round
  fewer : {k j l i : ℕ} {t : RoundType} → Round k t j l → At k i q → raise_stage ≤ i → CollectorFits s.memory.cells (mutators_of s) (leaving (remove_of q.left c.x) q)
  fewer r a h =
      let k = rounded r a in
      renoted f f.work
      (round (rw a.place (round_place_lem r))
      (record {
        begun = k.begun;
        running = k.running;
        no_x = k.no_x;
        none_left = λ i. absurd (omega (arith, a.stage));
        left = below_remove q.left c.x (mutators_of s) k.left;
        mark = k.mark;
      }))

  -- all mutators are left in a round
  filled : {k j l i : ℕ} {t : RoundType} → Round k t j l → At k i q → (g : ℕ) → raise_stage ≤ g → g ≤ poll_stage → CollectorFits s.memory.cells (mutators_of s) (at k g (leaving (full_of (mutators_of s)) q))
  filled r a g h u =
      let k = rounded r a in
      renoted f f.work
      (round (round_place_lem r)
      (record { begun = omega arith; running = u; no_x = k.no_x; none_left = λ i. absurd (omega arith); left = below_full (mutators_of s); mark = k.mark }))

  -- the list taken
  took : (k v : ℕ) → Among k plain_places → below_of v s.memory.cells ≡ true → (At row6_take no_stage q) ⊎ (At row8_take no_stage q) → WellFormed (with_process_of (with_system s (with_list s.system no_cells)) 0 (at k no_stage (listing v q.roots q)))
  took k v a b h =
      let d = ⊎_elim (λ (i : At row6_take no_stage q). plain_at row6_take refl i.place f) (λ (i : At row8_take no_stage q). plain_at row8_take refl i.place f) h in
      keeps_collector (with_system s (with_list s.system no_cells)) (keeps_system s w (with_list s.system no_cells) (below_empty s.memory.cells)) _
      (renoted f b (now_plain a refl d.no_x d.left d.mark))

  -- the fields left past the first
  others : below_of (remove_of all_fields (field_left_of c.f)) max_fields ≡ true
  others = below_remove all_fields (field_left_of c.f) max_fields (below_full max_fields)

  pub collector_kept : {t : State} → Collector s c 0 q t → WellFormed t
  collector_kept (Collector.fences r a b e) =
      let k = rounded r a in
      goes _ (renoted f f.work (round (round_place_lem r) (record { begun = omega arith; running = omega arith; no_x = k.no_x; none_left = λ _. k.none_left (omega (arith, a.stage)); left = k.left; mark = k.mark })))
  collector_kept (Collector.types {t = t} r a b {h = h} v) =
      let hs : System = record { kind = t; phase = h; work = s.system.work } in
      keeps_collector (with_processes (with_system s hs) (all_off s.procs)) (off_framed (with_system s hs) (keeps_system s w hs w.system)) _
      (filled r a raise_stage (omega arith) (omega arith))
  collector_kept (Collector.raises r a b m e) = raised c.x _ (below_range q.left (mutators_of s) c.x (rounded r a).left m) (fewer r a (omega arith))
  collector_kept (Collector.raises_last r a b m e) = raised c.x _ (below_range q.left (mutators_of s) c.x (rounded r a).left m) (filled r a poll_stage (omega arith) (omega arith))
  collector_kept (Collector.polls_up r a b m e) = goes q f
  collector_kept (Collector.polls r a b m e h) = goes _ (fewer r a (omega arith))
  collector_kept (Collector.polls_last r a b m e h) =
      let k = rounded r a in
      goes _ (renoted f f.work (⊎_elim (λ i. now_plain i.0 i.1 k.no_x refl k.mark) (λ i. now_round i.0 i.1 k.no_x refl k.mark) (round_next r)))
  collector_kept (Collector.reads_sense a b e) = let k = plain_at row2_read refl a.place f in goes _ (renoted f f.work (now_plain refl refl k.no_x k.left k.mark))
  collector_kept (Collector.writes_sense a b e) =
      let k = plain_at row2_write refl a.place f in wrote (store.Sense (not q.sense)) _ tt refl e (renoted f f.work (now_round refl refl k.no_x k.left k.mark))
  collector_kept (Collector.writes_init a b e) =
      let k = plain_at row4_write refl a.place f in wrote (store.Phase phase.Init) _ tt refl e (renoted f f.work (now_round refl refl k.no_x k.left k.mark))
  collector_kept (Collector.writes_mark a b e) =
      let k = plain_at row5_phase refl a.place f in wrote (store.Phase phase.Mark) _ tt refl e (renoted f f.work (now_plain refl refl k.no_x k.left k.mark))
  collector_kept (Collector.writes_alloc a b e) =
      let k = plain_at row5_alloc refl a.place f in wrote (store.AllocSense q.sense) _ tt refl e (renoted f f.work (now_round refl refl k.no_x k.left k.mark))
  collector_kept (Collector.takes a b h) = took row7_first s.system.work refl w.system a
  collector_kept (Collector.takes_none a b h) = took row9_write no_cells refl (below_empty s.memory.cells) a
  collector_kept (Collector.reads_first a b {v = v} e h) =
      let k = plain_at row7_first refl a.place f in
      goes _ (renoted f f.work (now_mark refl refl (below_range q.work s.memory.cells c.x f.work b.cell) others (omega arith, seen c.x c.f e) k.mark.no_look k.mark.no_grey))
  collector_kept (Collector.reads_first_null a b e) =
      let k = plain_at row7_first refl a.place f in
      goes _ (renoted f f.work (scan refl (record { stage = refl; is_x = below_range q.work s.memory.cells c.x f.work b.cell; left = others; mark = k.mark })))
  collector_kept (Collector.marks b {r = r} k {m = m} {t = t} e) =
      let z : Fits s.memory.cells (mutators_of s) 0 q = collects refl f in
      let u = running s.memory.cells (mutators_of s) 0 q z k (λ i _. omega (arith, (collector_within f).0)) in
      let v = mark_memory s.memory 0 r w.memory (ranged s w) here u.notes.cell_named e in
      moved s w m v.0 v.1 0 t (omega arith) (mark_fits_lem z u e)
  collector_kept (Collector.reads_next a b {v = v} e h) =
      let k = scan_at a.place f in
      goes _ (renoted f f.work (now_mark refl refl k.is_x (below_remove q.left (field_left_of c.f) max_fields k.left) (omega arith, seen q.x c.f e) k.mark.no_look k.mark.no_grey))
  collector_kept (Collector.reads_next_null a b e h) =
      let k = scan_at a.place f in
      goes _ (renoted f f.work (scan refl (record { stage = refl; is_x = k.is_x; left = below_remove q.left (field_left_of c.f) max_fields k.left; mark = k.mark })))
  collector_kept (Collector.reads_last_null a b e h) = let k = scan_at a.place f in goes _ (renoted f f.work (drop refl (record { stage = refl; is_x = k.is_x; left = refl; mark = k.mark })))
  collector_kept (Collector.drops a b h) =
      let k = drop_at a.place f in
      goes _ (renoted f (below_remove q.work q.x s.memory.cells f.work) (now_plain refl refl refl k.left k.mark))
  collector_kept (Collector.drops_last a b h) =
      let k = drop_at a.place f in
      goes _ (renoted f (below_empty s.memory.cells) (now_round refl refl refl k.left k.mark))
  collector_kept (Collector.writes_sweep a b e) =
      let k = plain_at row9_write refl a.place f in
      wrote (store.Phase phase.Sweep) _ tt refl e (renoted f f.work (sweep refl (record { stage = refl; no_x = k.no_x; left = below_full s.memory.cells; mark = k.mark })))
  collector_kept (Collector.spares a b m e h) =
      let k = sweep_at a.place f in
      goes _ (renoted f f.work (sweep a.place (record { stage = a.stage; no_x = k.no_x; left = below_remove q.left c.x s.memory.cells k.left; mark = k.mark })))
  collector_kept (Collector.spares_last a b m e h) =
      let k = sweep_at a.place f in
      goes _ (renoted f f.work (now_plain refl refl k.no_x refl k.mark))
  collector_kept (Collector.condemns a b m e) =
      let k = sweep_at a.place f in
      goes _
      (renoted f f.work
      (sweep_free refl
      (record { stage = refl; is_x = below_range q.left s.memory.cells c.x k.left m; left = below_remove q.left c.x s.memory.cells k.left; mark = k.mark })))
  collector_kept (Collector.frees a b e h) =
      let k = sweep_free_at a.place f in
      freed _ k.is_x e (renoted f f.work (sweep refl (record { stage = refl; no_x = refl; left = k.left; mark = k.mark })))
  collector_kept (Collector.frees_last a b e h) =
      let k = sweep_free_at a.place f in
      freed _ k.is_x e (renoted f f.work (now_plain refl refl refl h k.mark))
  collector_kept (Collector.writes_idle a b e) =
      let k = plain_at row11_write refl a.place f in wrote (store.Phase phase.Idle) _ tt refl e (renoted f f.work (now_round refl refl k.no_x k.left k.mark))
