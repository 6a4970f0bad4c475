-- Where the zones of the collector's places begin, and where a mutator comes in step. Assumes nothing.
--     Begins, row_begins      by where a row leads the collector: its list past row 7, the type of rows 6 and 8, the
--                             end of marking, the end of the sweep
--     Joins, row_joins        the in-step bit of a mutator that steps, and the list that it gives
use mathlib.Core.Path.{◌≡◌, refl, sym, ap, subst, ◌∙◌}
use mathlib.Core.Bool.{Bool, true, false, not, false≢true}
use mathlib.Core.List.{List, [], ◌∷◌}
use mathlib.Core.Logic.{◌⊎◌, inl, inr}
use Prim.Native.Nat.{ℕ, ◌≤◌, ◌<◌}
use native.Mathlib.Omega.{arith}
use Rattle.base.specs.Pick.{pick}
use Rattle.base.specs.Every.{◌and◌}
use Rattle.base.proofs.Everies.{and_both}
use Rattle.cells.specs.Sets.{no_cells, Sub, remove_of, union_of}
use Rattle.cells.proofs.Bools.{not_both}
use Rattle.cells.proofs.Members.{remove_gone}
use Rattle.cells.proofs.Subsets.{empty_sub, sub_union_left}
use Rattle.memory.specs.declared.Memory.{Memory}
use Rattle.memory.specs.Memories.{used_of}
use Rattle.memory.specs.Looks.{look_swept_of}
use Rattle.memory.proofs.Effects.{free_used}
use Rattle.state.specs.declared.RoundType.{RoundType}
use Rattle.state.specs.declared.Part.{Part}
use Rattle.state.specs.declared.Process.{Process}
use Rattle.state.specs.declared.System.{System}
use Rattle.state.specs.declared.State.{State}
use Rattle.state.specs.declared.Choice.{Choice}
use Rattle.state.specs.Codes.{noop_finish, roots_finish, work_finish, row6_take, row7_first, row7_mark, row7_next, row7_drop, row8_take, row10_look, row10_free, no_stage, fence_stage, type_stage, raise_stage, poll_stage}
use Rattle.state.specs.States.{process_of, with_process_of, with_memory, with_system}
use Rattle.formed.specs.Fits.{among_of, round_places, WellFormed}
use Rattle.formed.proofs.Gives.{collector_within, mutator_within}
use Rattle.formed.proofs.Keeps.{process_other}
use Rattle.formed.proofs.Places.{all_of, all_true}
use Rattle.model.specs.Rows.{At, finds_free, finds_mark, Marks, Mark, Mutator, Round, with_list, all_off, with_processes, flagged, Collector, Row}
use Rattle.model.specs.Reasons.{mover}
use Rattle.stays_formed.specs.Leaves.{Handed}
use Rattle.stays_formed.proofs.Collector.{round_place_lem}
use Rattle.stays_formed.proofs.Frames.{named, off_process}
use Rattle.stays_formed.proofs.Kept.{row_kept}
use Rattle.stays_formed.proofs.Leaves.{row_system}
use Rattle.claims.proofs.Answering.{implied}
use Rattle.claims.proofs.Posted.{Leads, Seat, mark_seat, mark_part}
use Rattle.spared.specs.Zones.{in_scan, rests, quiet, gathers}
use Rattle.spared.specs.Views.{Aside}
use Rattle.spared.proofs.Paces.{row_aside}
use Rattle.spared.proofs.Arrivals.{After, arrives}

-- ---- the views: the collector q becomes o
-- "take the system's list ..; empty: row 9"
pub record TakesNone (s : State) (c : Choice) (q : Process) : Type 0 where
  pub process : c.process ≡ 0
  pub take : (At row6_take no_stage q) ⊎ (At row8_take no_stage q)
  pub none : s.system.work ≡ no_cells

-- row 10's last look, which finds the cell free or marked; its last free
pub data Last (s t : State) (c : Choice) (q : Process) : Type 0 where
  looks : At row10_look no_stage q → (look_swept_of s.memory 0 c.x ≡ finds_free) ⊎ (look_swept_of s.memory 0 c.x ≡ finds_mark q.sense) → remove_of q.left c.x ≡ no_cells → Last s t c q
  frees : At row10_free no_stage q → q.left ≡ no_cells → used_of t.memory q.x ≡ false → Last s t c q

-- "all in-step bits off"
abbrev pub OutOfStep : State → Type 0
OutOfStep t = (m : ℕ) → 0 < m → (process_of t m).part.in_step ≡ false

pub record Begins (s t : State) (c : Choice) (q o : Process) : Type 0 where
  -- outside row 7 its list is empty, or as it was outside row 7
  pub listed : in_scan o.place ≡ false → (o.work ≡ no_cells) ⊎ ((o.work ≡ q.work) × (in_scan q.place ≡ false))
  -- rows 6 and 8 begin with the type
  pub typed : gathers o.place o.stage ≡ true → (gathers q.place q.stage ≡ true) ⊎ OutOfStep t
  -- and till their takes the system's list loses nothing
  pub grows : gathers o.place o.stage ≡ true → t.system.work ≡ no_cells → s.system.work ≡ no_cells
  -- the quiet zone begins with the take of nothing
  pub ended : quiet o.place o.stage ≡ true → (quiet q.place q.stage ≡ true) ⊎ TakesNone s c q
  -- the sweep is over with its last look or free
  pub swept : rests o.place ≡ true → (rests q.place ≡ true) ⊎ Last s t c q

-- ---- the mutator q becomes o
abbrev pub give_places : List ℕ
give_places = roots_finish ∷ work_finish ∷ []

pub data Joins (s t : State) (q o : Process) : Type 0 where
  -- a commit
  same : o ≡ q → Joins s t q o
  keeps : o.part.in_step ≡ q.part.in_step → among_of q.place give_places ≡ false → Joins s t q o
  -- "then one step lowers the flag, sets in step, and, for roots or work, moves its list to the system's"
  noop : At noop_finish no_stage q → Joins s t q o
  gives : (At roots_finish no_stage q) ⊎ (At work_finish no_stage q) → t.system.work ≡ union_of s.system.work q.work → o.work ≡ no_cells → o.grey ≡ q.grey → Joins s t q o

-- ---- the tests
-- from place k, stage j, to h, i: row 7 is not left, and neither the quiet zone nor that from the sweep's end on begins
abbrev scans_on_lem : ℕ → ℕ → Bool
scans_on_lem k h = pick (in_scan k) (in_scan h) true

abbrev gathers_on : ℕ → ℕ → ℕ → ℕ → Bool
gathers_on k j h i = pick (gathers h i) (gathers k j) true

abbrev quiet_on : ℕ → ℕ → ℕ → ℕ → Bool
quiet_on k j h i = pick (quiet h i) (quiet k j) true

abbrev rests_on : ℕ → ℕ → Bool
rests_on k h = pick (rests h) (rests k) true

abbrev all_on : ℕ → ℕ → ℕ → ℕ → Bool
all_on k j h i = scans_on_lem k h and (gathers_on k j h i and (quiet_on k j h i and rests_on k h))

-- a test implies itself
itself : (b : Bool) → pick b b true ≡ true
itself true = refl
itself false = refl

all_itself : (k j : ℕ) → all_on k j k j ≡ true
all_itself k j = rw (itself (in_scan k), itself (gathers k j), itself (quiet k j), itself (rests k)) refl

back : (a b : Bool) → pick a b true ≡ true → b ≡ false → a ≡ false
back true b e f = absurd (not_both e f)
back false b e f = refl

-- row 7 is outside the other zones
abbrev scan_places : List ℕ
scan_places = row7_first ∷ row7_mark ∷ row7_next ∷ row7_drop ∷ []

outside : (z : ℕ → Bool) → all_of (λ k. not (z k)) scan_places ≡ true → (k : ℕ) → in_scan k ≡ true → z k ≡ true → ⊥
outside z e k h g = false≢true (rw g at (all_true (λ i. not (z i)) scan_places e k h))

module _ {s t : State} {c : Choice} {q o : Process} where
  -- nothing begins, but for the type or the sweep's end
  begins : scans_on_lem q.place o.place ≡ true → o.work ≡ q.work → (gathers o.place o.stage ≡ true → (gathers q.place q.stage ≡ true) ⊎ OutOfStep t) → (t.system.work ≡ no_cells → s.system.work ≡ no_cells) →
      quiet_on q.place q.stage o.place o.stage ≡ true → (rests o.place ≡ true → (rests q.place ≡ true) ⊎ Last s t c q) → Begins s t c q o
  begins a e g f b h =
      record {
        listed = λ i. inr (e, back (in_scan q.place) (in_scan o.place) a i);
        typed = g;
        grows = λ _. f;
        ended = λ i. inl (implied (quiet o.place o.stage) b i);
        swept = h;
      }

  goes_on : all_on q.place q.stage o.place o.stage ≡ true → o.work ≡ q.work → (t.system.work ≡ no_cells → s.system.work ≡ no_cells) → Begins s t c q o
  goes_on h e f =
      let a = and_both _ _ h in
      let b = and_both _ _ a.1 in
      let d = and_both _ _ b.1 in
      begins a.0 e (λ i. inl (implied (gathers o.place o.stage) b.0 i)) f d.0 (λ i. inl (implied (rests o.place) d.1 i))

  scans : in_scan o.place ≡ true → Begins s t c q o
  scans h =
      record {
        listed = λ i. absurd (not_both h i);
        typed = λ i. absurd (outside (λ k. gathers k o.stage) refl o.place h i);
        grows = λ i. absurd (outside (λ k. gathers k o.stage) refl o.place h i);
        ended = λ i. absurd (outside (λ k. quiet k o.stage) refl o.place h i);
        swept = λ i. absurd (outside rests refl o.place h i);
      }

-- ---- the collector's rows
abbrev Begun : State → Choice → State → Type 0
Begun s c t = After (λ o. Begins s t c (process_of s 0) o) 0 t

-- a step of its mark stays in row 7
mark_scans : {p r : ℕ} {q t : Process} {m n : Memory} → q.place ≡ row7_mark → Mark m p r q n t → in_scan t.place ≡ true
mark_scans {q = q} {t = t} e h = go (mark_seat h)
  where
    go : Seat q.place t.place → in_scan t.place ≡ true
    go (Seat.stays f) = rw (f, e) refl
    go (Seat.leads Leads.write f g) = absurd (omega arith)
    go (Seat.leads Leads.new f g) = absurd (omega arith)
    go (Seat.leads Leads.marked f g) = absurd (omega arith)
    go (Seat.leads Leads.roots f g) = absurd (omega arith)
    go (Seat.leads Leads.fields f g) = rw g refl
    go (Seat.leads Leads.field f g) = rw g refl

-- "set type (all in-step bits off ..)"
out : (s : State) (h : System) (o : Process) → OutOfStep (with_process_of (with_processes (with_system s h) (all_off s.procs)) 0 o)
out s h o m pos = rw (process_other (with_processes (with_system s h) (all_off s.procs)) 0 m o (λ i. omega arith), off_process (with_system s h) m pos) refl

-- a round, from stage to stage, and past it
round_on : {k j l : ℕ} {t : RoundType} (z : ℕ → Bool) → all_of z round_places ≡ true → Round k t j l → z k ≡ true
round_on {k} z e r = all_true z round_places e k (round_place_lem r)

round_over : {k j l : ℕ} {t : RoundType} → Round k t j l → all_on k poll_stage j l ≡ true
round_over Round.row1 = refl
round_over Round.row3 = refl
round_over Round.row4 = refl
round_over Round.row5 = refl
round_over Round.row6 = refl
round_over Round.row8 = refl

module _ (s : State) (c : Choice) (w : WellFormed s) (z : c.process ≡ 0) where
  goes : (x : State) (o : Process) {k j : ℕ} → At k j (process_of s 0) → all_on k j o.place o.stage ≡ true → o.work ≡ (process_of s 0).work → x.system.work ≡ s.system.work → Begun s c (with_process_of x 0 o)
  goes x o a e f g = After.after x o (goes_on (rw (a.place, a.stage) e) f (λ i. sym g ∙ i))

  goes_but : (x : State) (o : Process) {k j : ℕ} → At k j (process_of s 0) → scans_on_lem k o.place ≡ true → o.work ≡ (process_of s 0).work → x.system.work ≡ s.system.work → quiet_on k j o.place o.stage ≡ true →
      (gathers o.place o.stage ≡ true → (gathers (process_of s 0).place (process_of s 0).stage ≡ true) ⊎ OutOfStep (with_process_of x 0 o)) →
      (rests o.place ≡ true → (rests (process_of s 0).place ≡ true) ⊎ Last s (with_process_of x 0 o) c (process_of s 0)) → Begun s c (with_process_of x 0 o)
  goes_but x o a d f g e i h = After.after x o (begins (rw a.place d) f i (λ y. sym g ∙ y) (rw (a.place, a.stage) e) h)

  stays : (x : State) (o : Process) → o.place ≡ (process_of s 0).place → o.stage ≡ (process_of s 0).stage → o.work ≡ (process_of s 0).work → x.system.work ≡ s.system.work → Begun s c (with_process_of x 0 o)
  stays x o d e f g = After.after x o (goes_on (rw (d, e) (all_itself (process_of s 0).place (process_of s 0).stage)) f (λ i. sym g ∙ i))

  marks : {r : ℕ} (x : State) (o : Process) {m n : Memory} → Marks (process_of s 0) r → Mark m 0 r (process_of s 0) n o → Begun s c (with_process_of x 0 o)
  marks x o (Marks.old i) e = absurd (let b = (collector_within w.collector).0 in omega arith)
  marks x o (Marks.new i) e = absurd (let b = (collector_within w.collector).0 in omega arith)
  marks x o (Marks.root i) e = absurd (let b = (collector_within w.collector).0 in omega arith)
  marks x o (Marks.field i) e = After.after x o (scans (mark_scans i e))

  collector_begins : {t : State} → Collector s c 0 (process_of s 0) t → Begun s c t
  collector_begins (Collector.fences r a b e) = goes s _ a (round_on (λ k. all_on k fence_stage k type_stage) refl r) refl refl
  collector_begins (Collector.types {t = d} r a b {h} v) =
      let n : System = record { kind = d; phase = h; work = s.system.work } in
      goes_but (with_processes (with_system s n) (all_off s.procs)) _ a (round_on (λ i. scans_on_lem i i) refl r) refl refl (round_on (λ i. quiet_on i type_stage i raise_stage) refl r)
      (λ _. inr (out s n _)) (λ i. inl (rw a.place i))
  collector_begins (Collector.raises r a b m e) = stays (with_process_of s c.x (flagged (process_of s c.x))) _ refl refl refl refl
  collector_begins (Collector.raises_last r a b m e) = goes (with_process_of s c.x (flagged (process_of s c.x))) _ a (round_on (λ k. all_on k raise_stage k poll_stage) refl r) refl refl
  collector_begins (Collector.polls_up r a b m e) = stays s _ refl refl refl refl
  collector_begins (Collector.polls r a b m e h) = stays s _ refl refl refl refl
  collector_begins (Collector.polls_last r a b m e h) = goes s _ a (round_over r) refl refl
  collector_begins (Collector.reads_sense a b e) = goes s _ a refl refl refl
  collector_begins (Collector.writes_sense a b {m} e) = goes (with_memory s m) _ a refl refl refl
  collector_begins (Collector.writes_init a b {m} e) = goes (with_memory s m) _ a refl refl refl
  collector_begins (Collector.writes_mark a b {m} e) = goes (with_memory s m) _ a refl refl refl
  collector_begins (Collector.writes_alloc a b {m} e) = goes (with_memory s m) _ a refl refl refl
  collector_begins (Collector.takes a b h) = After.after (with_system s (with_list s.system no_cells)) _ (scans refl)
  collector_begins (Collector.takes_none a b h) =
      After.after (with_system s (with_list s.system no_cells)) _
      (record {
        listed = λ _. inl refl;
        typed = λ i. absurd (false≢true i);
        grows = λ i. absurd (false≢true i);
        ended = λ _. inr (record { process = z; take = a; none = h });
        swept = λ i. absurd (false≢true i);
      })
  collector_begins (Collector.reads_first a b e h) = goes s _ a refl refl refl
  collector_begins (Collector.reads_first_null a b e) = goes s _ a refl refl refl
  collector_begins (Collector.marks b i {m} {t} e) = marks (with_memory s m) t i e
  collector_begins (Collector.reads_next a b e h) = goes s _ a refl refl refl
  collector_begins (Collector.reads_next_null a b e h) = goes s _ a refl refl refl
  collector_begins (Collector.reads_last_null a b e h) = goes s _ a refl refl refl
  collector_begins (Collector.drops a b h) = After.after s _ (scans refl)
  collector_begins (Collector.drops_last a b h) =
      After.after s _
      (record {
        listed = λ _. inl refl;
        typed = λ i. absurd (false≢true i);
        grows = λ i. absurd (false≢true i);
        ended = λ i. absurd (false≢true i);
        swept = λ i. absurd (false≢true i);
      })
  collector_begins (Collector.writes_sweep a b {m} e) = goes (with_memory s m) _ a refl refl refl
  collector_begins (Collector.spares a b m e h) = stays s _ refl refl refl refl
  collector_begins (Collector.spares_last a b m e h) = goes_but s _ a refl refl refl refl (λ i. absurd (false≢true i)) (λ _. inr (Last.looks a e h))
  collector_begins (Collector.condemns a b m e) = goes s _ a refl refl refl
  collector_begins (Collector.frees a b {m} e h) = goes (with_memory s m) _ a refl refl refl
  collector_begins (Collector.frees_last a b {m} e h) =
      goes_but (with_memory s m) _ a refl refl refl refl (λ i. absurd (false≢true i))
      (λ _. inr (Last.frees a h (rw (free_used s.memory 0 (process_of s 0).x e) (remove_gone s.memory.used (process_of s 0).x))))
  collector_begins (Collector.writes_idle a b {m} e) = goes (with_memory s m) _ a refl refl refl

-- a mutator's row leaves the collector, and adds to the system's list
grown : {q : Process} {h n : System} → q.place ≤ work_finish → Handed q h n → n.work ≡ no_cells → h.work ≡ no_cells
grown l Handed.same e = e
grown {q} {h} l (Handed.finishes a) e = empty_sub h.work (subst (Sub h.work) e (sub_union_left h.work q.work))
grown l (Handed.types r a d) e = e
grown l (Handed.takes (inl a)) e = absurd (omega (arith, a.place))
grown l (Handed.takes (inr a)) e = absurd (omega (arith, a.place))

besides : {s t : State} {c : Choice} {q o : Process} → (t.system.work ≡ no_cells → s.system.work ≡ no_cells) → Aside q o → Begins s t c q o
besides {q = q} f (Aside.aside a b e) = goes_on (rw (ap (λ (i : Process). i.place) e, ap (λ (i : Process). i.stage) e) (all_itself q.place q.stage)) (ap (λ (i : Process). i.work) e) f

pub row_begins : (s t : State) (c : Choice) → WellFormed s → Row s c t → Begins s t c (process_of s 0) (process_of t 0)
row_begins s t c w (Row.collector k z r) = arrives (omega arith) (row_kept s c w (Row.collector k z r)) (collector_begins s c w z r)
row_begins s t c w (Row.mutator k {p} e pos mine r) =
    let x : Row s c t = Row.mutator k e pos mine r in
    besides (grown (rw e (mutator_within (w.mutators p pos mine))) (row_system x)) (row_aside s t c w x 0 (λ i. omega arith))
row_begins s t c w (Row.commits k e mine b {m} h) = goes_on (all_itself (process_of s 0).place (process_of s 0).stage) refl (λ i. i)

-- ---- a mutator's rows
abbrev Joined : State → ℕ → State → Type 0
Joined s p t = After (λ o. Joins s t (process_of s p) o) p t

marks_away : {q : Process} {r : ℕ} → Marks q r → among_of q.place give_places ≡ false
marks_away (Marks.old e) = rw e refl
marks_away (Marks.new e) = rw e refl
marks_away (Marks.root e) = rw e refl
marks_away (Marks.field e) = rw e refl

module _ (s : State) (c : Choice) (p : ℕ) where
  rests_in : (x : State) (o : Process) {k j : ℕ} → At k j (process_of s p) → among_of k give_places ≡ false → o.part.in_step ≡ (process_of s p).part.in_step → Joined s p (with_process_of x p o)
  rests_in x o a h e = After.after x o (Joins.keeps e (rw a.place h))

  mutator_joins : {t : State} → Mutator s c p (process_of s p) t → Joined s p t
  mutator_joins (Mutator.allocates a o x l g y {m} e) = rests_in (with_memory s m) _ a refl refl
  mutator_joins (Mutator.drops a o m g y) = rests_in s _ a refl refl
  mutator_joins (Mutator.reads a o m g y e h) = rests_in s _ a refl refl
  mutator_joins (Mutator.reads_null a o m g y e) = rests_in s _ a refl refl
  mutator_joins (Mutator.stores a o m g y e h) = rests_in s _ a refl refl
  mutator_joins (Mutator.stores_new a o m g y e) = rests_in s _ a refl refl
  mutator_joins (Mutator.stores_null a o m g y e) = rests_in s _ a refl refl
  mutator_joins (Mutator.fences a o x g y e) = rests_in s _ a refl refl
  mutator_joins (Mutator.answers a o x g y u b) = rests_in s _ a refl refl
  mutator_joins (Mutator.marks b i h {m} {t} e) = After.after (with_memory s m) t (Joins.keeps (ap (λ (i : Part). i.in_step) (mark_part e)) (marks_away i))
  mutator_joins (Mutator.looks_root a o m e) = rests_in s _ a refl refl
  mutator_joins (Mutator.writes a b {m} e) = rests_in (with_memory s m) _ a refl refl
  mutator_joins (Mutator.fences_noop a b e) = rests_in s _ a refl refl
  mutator_joins (Mutator.fences_work a b e) = rests_in s _ a refl refl
  mutator_joins (Mutator.fences_roots a b e h) = rests_in s _ a refl refl
  mutator_joins (Mutator.fences_none a b e h) = rests_in s _ a refl refl
  mutator_joins (Mutator.finishes_noop a b) = After.after s _ (Joins.noop a)
  mutator_joins (Mutator.finishes_roots a b) = After.after (with_system s (with_list s.system _)) _ (Joins.gives (inl a) refl refl refl)
  mutator_joins (Mutator.finishes_work a b) = After.after (with_system s (with_list s.system _)) _ (Joins.gives (inr a) refl refl refl)

pub row_joins : (s t : State) (c : Choice) → WellFormed s → Row s c t → 0 < c.process → Joins s t (mover s c) (process_of t c.process)
row_joins s t c w (Row.collector k z r) l = absurd (omega arith)
row_joins s t c w (Row.mutator k {p} e pos mine r) l =
    let few = w.memory.few_processes in
    named (λ i. Joins s t (process_of s i) (process_of t i)) e (arrives (omega arith) (row_kept s c w (Row.mutator k e pos mine r)) (mutator_joins s c p r))
row_joins s t c w (Row.commits k e mine b h) l = Joins.same refl
