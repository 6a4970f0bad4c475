-- Where every row leads the collector. Assumes nothing.
--     row_seated     the view
--     led            a rule over its moves, computed, holds of the move that a step makes
use mathlib.Core.Path.{◌≡◌, refl, ap}
use mathlib.Core.Bool.{Bool, true, false, false≢true, ◌&&◌}
use mathlib.Core.List.{List, [], ◌∷◌}
use mathlib.Core.Logic.{⊎_elim}
use Prim.Native.Nat.{ℕ}
use native.Mathlib.Omega.{arith}
use lib.Dec.{eqb}
use borrow.Author.Tests.{eqb-true}
use Rattle.base.specs.Pick.{pick}
use Rattle.base.proofs.Everies.{and_both}
use Rattle.cells.specs.Sets.{no_cells}
use Rattle.memory.specs.declared.Memory.{Memory}
use Rattle.state.specs.declared.RoundType.{RoundType}
use Rattle.state.specs.declared.Process.{Process}
use Rattle.state.specs.declared.State.{State}
use Rattle.state.specs.declared.Choice.{Choice}
use Rattle.state.specs.Codes.{row7_mark, row7_next, row7_drop, no_stage, sense_stage, phase_stage, unlock_stage, fence_stage, type_stage, raise_stage, poll_stage}
use Rattle.state.specs.States.{process_of, with_process_of, with_memory, with_system}
use Rattle.formed.specs.Fits.{round_places, CollectorFits, WellFormed}
use Rattle.formed.proofs.Places.{all_of, all_true}
use Rattle.formed.proofs.Gives.{collector_within}
use Rattle.model.specs.Rows.{At, unnoted, Marks, Next, Mark, Round, with_list, all_off, with_processes, flagged, Collector, Row}
use Rattle.stays_formed.proofs.Collector.{round_place_lem}
use Rattle.stays_formed.proofs.Kept.{row_kept}
use Rattle.claims.proofs.Rules.{Checked, ruled}
use Rattle.spared.specs.Views.{Aside}
use Rattle.spared.specs.Seats.{Station, station, among_stations, all_stations, leads_to, LeadsOn, Seated}
use Rattle.spared.specs.Lemmas.{RowSeated}
use Rattle.spared.proofs.Arrivals.{After, arrives}
use Rattle.spared.proofs.Paces.{row_aside}

-- ---- rules
all_seats : (t : Station → Bool) (l : List Station) → all_stations t l ≡ true → (h i : ℕ) → among_stations h i l ≡ true → t (station h i) ≡ true
all_seats t [] a h i b = absurd (false≢true b)
all_seats t (x ∷ l) a h i b = let k = and_both (t x) (all_stations t l) a in go (eqb h x.place) (eqb i x.stage) refl refl k.0 (all_seats t l k.1 h i) b
  where
    go : (d e : Bool) → eqb h x.place ≡ d → eqb i x.stage ≡ e → t x ≡ true → (among_stations h i l ≡ true → t (station h i) ≡ true) → pick (d && e) true (among_stations h i l) ≡ true → t (station h i) ≡ true
    go true true d e y f g = rw (eqb-true h x.place d, eqb-true i x.stage e) y
    go true false d e y f g = f g
    go false z d e y f g = f g

pub led : (t : ℕ → ℕ → ℕ → ℕ → Bool) → Checked (λ k j. all_stations (λ a. t k j a.place a.stage) (leads_to k j)) → (s : State) → WellFormed s → (h i : ℕ) → LeadsOn (process_of s 0).place (process_of s 0).stage h i → t (process_of s 0).place (process_of s 0).stage h i ≡ true
led t c s w =
    let q = process_of s 0 in
    all_seats (λ a. t q.place q.stage a.place a.stage) (leads_to q.place q.stage) (ruled (λ k j. all_stations (λ a. t k j a.place a.stage) (leads_to k j)) c s w)

-- ---- a round
in_round : (j i : ℕ) → all_of (λ k. among_stations k i (leads_to k j)) round_places ≡ true → {k h l : ℕ} {t : RoundType} → Round k t h l → LeadsOn k j k i
in_round j i c {k} r = all_true (λ k. among_stations k i (leads_to k j)) round_places c k (round_place_lem r)

round_over : {k h l : ℕ} {t : RoundType} → Round k t h l → LeadsOn k poll_stage h l
round_over Round.row1 = refl
round_over Round.row3 = refl
round_over Round.row4 = refl
round_over Round.row5 = refl
round_over Round.row6 = refl
round_over Round.row8 = refl

-- ---- a mark
scans : {n m r : ℕ} {q : Process} → CollectorFits n m q → Marks q r → q.place ≡ row7_mark
scans f (Marks.old e) = absurd (omega (arith, (collector_within f).0))
scans f (Marks.new e) = absurd (omega (arith, (collector_within f).0))
scans f (Marks.root e) = absurd (omega (arith, (collector_within f).0))
scans f (Marks.field e) = e

next_leads : (j : ℕ) {x t : Process} → LeadsOn row7_mark j row7_next no_stage → LeadsOn row7_mark j row7_drop no_stage → x.place ≡ row7_mark → Next x t → LeadsOn row7_mark j t.place t.stage
next_leads j a b z (Next.write e h) = absurd (omega arith)
next_leads j a b z (Next.new e h) = absurd (omega arith)
next_leads j a b z (Next.marked e) = absurd (omega arith)
next_leads j a b z (Next.roots e h) = absurd (omega arith)
next_leads j a b z (Next.root e h) = absurd (omega arith)
next_leads j a b z (Next.fields e h) = b
next_leads j a b z (Next.field e h) = a

mark_leads_lem : {m n : Memory} {p r : ℕ} {q t : Process} → q.place ≡ row7_mark → Mark m p r q n t → LeadsOn row7_mark q.stage t.place t.stage
unfolding unnoted
mark_leads_lem z (Mark.looks e g) = rw (z, e) refl
mark_leads_lem z (Mark.equal e g h) = rw e (next_leads sense_stage refl refl z h)
mark_leads_lem z (Mark.unequal e g) = rw (z, e) refl
mark_leads_lem z (Mark.idle e g h) = rw e (next_leads phase_stage refl refl z h)
mark_leads_lem z (Mark.busy e g h) = rw (z, e) refl
mark_leads_lem z (Mark.locks e g) = rw (z, e) refl
mark_leads_lem z (Mark.agrees e g) = rw (z, e) refl
mark_leads_lem z (Mark.differs e g) = rw (z, e) refl
mark_leads_lem z (Mark.writes e g) = rw (z, e) refl
mark_leads_lem z (Mark.wins e g h v) = rw e (next_leads unlock_stage refl refl z v)
mark_leads_lem z (Mark.loses e g h v) = rw e (next_leads unlock_stage refl refl z v)

-- ---- each row of the collector
module _ (s : State) (c : Choice) (own : c.kind ≡ 0) (mine : c.process ≡ 0) (q : Process) {n m : ℕ} (f : CollectorFits n m q) where
  on : {k j : ℕ} (x : State) (o : Process) → At k j q → LeadsOn k j o.place o.stage → After (Seated c q) 0 (with_process_of x 0 o)
  on x o a h = After.after x o (Seated.leads own mine (rw (a.place, a.stage) h))

  here : (x : State) (o : Process) → o.place ≡ q.place → o.stage ≡ q.stage → After (Seated c q) 0 (with_process_of x 0 o)
  here x o e g = After.after x o (Seated.stays e g)

  collector_seated : {t : State} → Collector s c 0 q t → After (Seated c q) 0 t
  collector_seated (Collector.fences r a b e) = on s _ a (in_round fence_stage type_stage refl r)
  collector_seated (Collector.types r a b v) = on (with_processes (with_system s _) (all_off s.procs)) _ a (in_round type_stage raise_stage refl r)
  collector_seated (Collector.raises r a b m e) = here (with_process_of s c.x (flagged (process_of s c.x))) _ refl refl
  collector_seated (Collector.raises_last r a b m e) = on (with_process_of s c.x (flagged (process_of s c.x))) _ a (in_round raise_stage poll_stage refl r)
  collector_seated (Collector.polls_up r a b m e) = here s _ refl refl
  collector_seated (Collector.polls r a b m e h) = here s _ refl refl
  collector_seated (Collector.polls_last r a b m e h) = on s _ a (round_over r)
  collector_seated (Collector.reads_sense a b e) = on s _ a refl
  collector_seated (Collector.writes_sense a b {m} e) = on (with_memory s m) _ a refl
  collector_seated (Collector.writes_init a b {m} e) = on (with_memory s m) _ a refl
  collector_seated (Collector.writes_mark a b {m} e) = on (with_memory s m) _ a refl
  collector_seated (Collector.writes_alloc a b {m} e) = on (with_memory s m) _ a refl
  collector_seated (Collector.takes a b h) = ⊎_elim (λ i. on (with_system s (with_list s.system no_cells)) _ i refl) (λ i. on (with_system s (with_list s.system no_cells)) _ i refl) a
  collector_seated (Collector.takes_none a b h) = ⊎_elim (λ i. on (with_system s (with_list s.system no_cells)) _ i refl) (λ i. on (with_system s (with_list s.system no_cells)) _ i refl) a
  collector_seated (Collector.reads_first a b e h) = on s _ a refl
  collector_seated (Collector.reads_first_null a b e) = on s _ a refl
  collector_seated (Collector.marks b i {m} {t} e) = let z = scans f i in After.after (with_memory s m) t (Seated.leads own mine (rw z (mark_leads_lem z e)))
  collector_seated (Collector.reads_next a b e h) = on s _ a refl
  collector_seated (Collector.reads_next_null a b e h) = on s _ a refl
  collector_seated (Collector.reads_last_null a b e h) = on s _ a refl
  collector_seated (Collector.drops a b h) = on s _ a refl
  collector_seated (Collector.drops_last a b h) = on s _ a refl
  collector_seated (Collector.writes_sweep a b {m} e) = on (with_memory s m) _ a refl
  collector_seated (Collector.spares a b m e h) = here s _ refl refl
  collector_seated (Collector.spares_last a b m e h) = on s _ a refl
  collector_seated (Collector.condemns a b m e) = on s _ a refl
  collector_seated (Collector.frees a b {m} e h) = on (with_memory s m) _ a refl
  collector_seated (Collector.frees_last a b {m} e h) = on (with_memory s m) _ a refl
  collector_seated (Collector.writes_idle a b {m} e) = on (with_memory s m) _ a refl

-- ---- every row: a mutator's leaves the collector where it is
aside_seated : {c : Choice} {o u : Process} → Aside o u → Seated c o u
aside_seated (Aside.aside r i e) = Seated.stays (ap (λ (x : Process). x.place) e) (ap (λ (x : Process). x.stage) e)

pub row_seated : RowSeated
row_seated s t c w (Row.collector k e r) = arrives (omega arith) (row_kept s c w (Row.collector k e r)) (collector_seated s c k e (process_of s 0) w.collector r)
row_seated s t c w (Row.mutator k {p} e pos mine r) = aside_seated (row_aside s t c w (Row.mutator k e pos mine r) 0 (λ i. omega arith))
row_seated s t c w (Row.commits k e mine b h) = Seated.stays refl refl
