-- B10: the end of marking, in the rounds of rows 6 and 8. Assumes nothing.
--     collector_rests    the collector marks nothing there
--     none_gathered      where nobody has anything nothing is grey
--     step_ends          after each row
use mathlib.Core.Path.{◌≡◌, refl, sym, ap, subst, ◌∙◌}
use mathlib.Core.Bool.{Bool, true, false, not, false≢true}
use mathlib.Core.List.{List}
use mathlib.Core.Logic.{◌⊎◌, inl, inr, ⊎_elim}
use Prim.Native.Nat.{ℕ, ◌≤◌, ◌<◌}
use native.Mathlib.Omega.{arith}
use native.Mathlib.Decide.{ℕ_discrete, dec_lt}
use Rattle.base.specs.Pick.{pick}
use Rattle.base.specs.Every.{◌and◌}
use Rattle.base.proofs.Everies.{and_both, unless}
use Rattle.cells.specs.Sets.{max_set, no_cells, Sub, add_of, union_of}
use Rattle.cells.proofs.Bools.{split}
use Rattle.cells.proofs.Members.{not_empty, add_same}
use Rattle.cells.proofs.Subsets.{empty_sub, sub_union_right}
use Rattle.buffers.specs.declared.Entry.{Entry}
use Rattle.state.specs.declared.Handshake.TheVariants as hand
use Rattle.state.specs.declared.RoundType.{RoundType}
use Rattle.state.specs.declared.RoundType.TheVariants as round
use Rattle.state.specs.declared.Process.{Process}
use Rattle.state.specs.declared.State.{State}
use Rattle.state.specs.declared.Choice.{Choice}
use Rattle.state.specs.Codes.{noop_finish, roots_finish, work_finish, no_stage, write_stage, unlock_stage}
use Rattle.state.specs.States.{mutators_of, process_of}
use Rattle.formed.proofs.Gives.{idle_at, mutator_within}
use Rattle.model.specs.Rows.{At, Marks, Row}
use Rattle.model.specs.Reasons.{mover}
use Rattle.stays_formed.specs.Kept.{mutates}
use Rattle.stays_formed.specs.Leaves.{Beside}
use Rattle.stays_formed.proofs.Marking.{running}
use Rattle.stays_formed.proofs.Leaves.{row_others}
use Rattle.verdict.specs.Table.{sweeping_of}
use Rattle.verdict.specs.Colours.{listed, gathered, greying}
use Rattle.claims.specs.Posted.{Asked, Allows, posted_of, asked_of}
use Rattle.claims.proofs.Rules.{Checked, ruled}
use Rattle.claims.proofs.Answering.{implied}
use Rattle.claims.proofs.Table.{same_phase_lem}
use Rattle.spared.specs.Shades.{NoGrey}
use Rattle.spared.specs.Holds.{Every}
use Rattle.spared.specs.Zones.{in_scan, gathers, region}
use Rattle.spared.specs.Ends.{Empty, MarkingEnds}
use Rattle.spared.specs.Views.{Turns}
use Rattle.spared.specs.Inv.{Spared}
use Rattle.spared.specs.Lemmas.{RowsKeep}
use Rattle.spared.proofs.Eras.{is_sweeping}
use Rattle.spared.proofs.Turns.{row_turns}
use Rattle.spared.proofs.Paces.{row_mutators}
use Rattle.spared.proofs.Holds.{mark_held}
use Rattle.spared.proofs.Shades.{marked_not_white, snap_marked}
use Rattle.spared.proofs.Begins.{OutOfStep, Joins, row_begins, row_joins}

-- ---- what the place tells
abbrev noop_of : RoundType → Bool
noop_of round.Noop = true
noop_of round.Roots = false
noop_of round.Work = false

abbrev no_noop_lem : Asked → Bool
no_noop_lem (Asked.only t) = not (noop_of t)
no_noop_lem Asked.roots_or_work = true

not_noop : (a : Asked) → no_noop_lem a ≡ true → Allows a round.Noop → ⊥
not_noop (Asked.only t) e h = false≢true (subst (λ i. not (noop_of i) ≡ true) (sym h) e)
not_noop Asked.roots_or_work e (inl h) = false≢true (sym (ap noop_of h))
not_noop Asked.roots_or_work e (inr h) = false≢true (sym (ap noop_of h))

-- outside row 7, in the region, with handshake phase IdleMarkSweep and no no-op
abbrev gather_rule_lem : ℕ → ℕ → Bool
gather_rule_lem k j = pick (gathers k j) (pick (in_scan k) false (region k j and (sweeping_of (posted_of k j) and no_noop_lem (asked_of k j)))) true

gather_rule : Checked gather_rule_lem
gather_rule = ((((((((tt, refl), refl), refl), refl), refl), refl), refl), refl)

record Told (s : State) : Type 0 where
  pub off : in_scan (process_of s 0).place ≡ false
  pub region : region (process_of s 0).place (process_of s 0).stage ≡ true
  pub phase : s.system.phase ≡ hand.IdleMarkSweep
  pub asked : s.system.kind ≡ round.Noop → ⊥

module _ (s : State) (v : Spared s) (g : gathers (process_of s 0).place (process_of s 0).stage ≡ true) where
  told : Told s
  told =
      let k = (process_of s 0).place in
      let j = (process_of s 0).stage in
      let d = unless (in_scan k) (region k j and (sweeping_of (posted_of k j) and no_noop_lem (asked_of k j))) (implied (gathers k j) (ruled gather_rule_lem gather_rule s v.inv.formed) g) in
      let a = and_both (region k j) (sweeping_of (posted_of k j) and no_noop_lem (asked_of k j)) d.1 in
      let b = and_both (sweeping_of (posted_of k j)) (no_noop_lem (asked_of k j)) a.1 in
      record {
        off = d.0;
        region = a.0;
        phase = v.inv.handshakes.posted ∙ is_sweeping (posted_of k j) b.0;
        asked = λ e. not_noop (asked_of k j) b.1 (subst (Allows (asked_of k j)) e v.inv.handshakes.typed);
      }

  pub collector_rests : {r : ℕ} → Marks (process_of s 0) r → ⊥
  collector_rests (Marks.old e) = false≢true (rw e at g)
  collector_rests (Marks.new e) = false≢true (rw e at g)
  collector_rests (Marks.root e) = false≢true (rw e at g)
  collector_rests (Marks.field e) = false≢true (rw e at g)

  collector_empty : Empty (process_of s 0)
  collector_empty = record { work = v.unlisted told.off; grey = go (ℕ_discrete (process_of s 0).grey 0) }
    where
      go : Dec ((process_of s 0).grey ≡ 0) → (process_of s 0).grey ≡ 0
      go (yes e) = e
      go (no e) = absurd (collector_rests (v.of_marks 0 e).marks)

  all_empty : Every s Empty → (p : ℕ) → Empty (process_of s p)
  all_empty h p = go (ℕ_discrete p 0) (dec_lt (mutators_of s) p)
    where
      go : Dec (p ≡ 0) → Dec (mutators_of s < p) → Empty (process_of s p)
      go (yes z) d = rw z collector_empty
      go (no z) (yes d) = rw (v.inv.formed.nobody p d) (record { work = refl; grey = refl })
      go (no z) (no d) = h p (omega arith) (omega arith)

  pub none_gathered : s.system.work ≡ no_cells → Every s Empty → NoGrey s
  none_gathered e h d (listed p i) = not_empty (process_of s p).work d i (all_empty h p).work
  none_gathered e h d (gathered i) = not_empty s.system.work d i e
  none_gathered e h d (greying p i l) = omega (arith, i, l, (all_empty h p).grey)

  -- a mutator in step writes no mark there: its cell is held, so reached from marked cells
  no_write : (m r : ℕ) → 0 < m → m ≤ mutators_of s → (process_of s m).part.in_step ≡ true → NoGrey s → Marks (process_of s m) r → (process_of s m).stage ≡ write_stage → ⊥
  no_write m r a b e n i j =
      let h = mark_held s v m a b r i (λ _ f. omega arith) in
      let f = same_phase_lem (rw e at (v.inv.handshakes.table m a b).line) ∙ told.phase in
      marked_not_white (snap_marked s v n r (v.snapshot told.region m a b f r h)) ((v.looked m).white i j)

-- ---- the mutator that steps
data Own (s t : State) (q o : Process) : Type 0 where
  keeps : o.part.in_step ≡ q.part.in_step → o.work ≡ q.work → o.grey ≡ q.grey → Own s t q o
  greys : {r : ℕ} → Marks q r → q.stage ≡ write_stage → o.part.in_step ≡ q.part.in_step → o.grey ≡ r → Own s t q o
  wins : {r : ℕ} → Marks q r → q.stage ≡ unlock_stage → (q.grey ≡ 0 → ⊥) → o.part.in_step ≡ q.part.in_step → o.work ≡ add_of q.work r → Own s t q o
  noop : At noop_finish no_stage q → Own s t q o
  gives : (At roots_finish no_stage q) ⊎ (At work_finish no_stage q) → t.system.work ≡ union_of s.system.work q.work → o.work ≡ no_cells → o.grey ≡ q.grey → Own s t q o

own : {s t : State} {q o : Process} {w u : ℕ} {l : List Entry} → q.place ≤ work_finish → Joins s t q o → Turns w u l q o → Own s t q o
own k (Joins.same e) h = rw e (Own.keeps refl refl refl)
own k (Joins.keeps e n) (Turns.keeps f g z) = Own.keeps e f g
own k (Joins.keeps e n) (Turns.greys i j f z g y) = Own.greys i j e g
own k (Joins.keeps e n) (Turns.wins i j z y f g x) = Own.wins i j y e f
own k (Joins.keeps e n) (Turns.gives (inl a) f g z) = absurd (false≢true (rw a.place at (sym n)))
own k (Joins.keeps e n) (Turns.gives (inr a) f g z) = absurd (false≢true (rw a.place at (sym n)))
own k (Joins.keeps e n) (Turns.takes (inl a) f g z) = absurd (omega (arith, a.place))
own k (Joins.keeps e n) (Turns.takes (inr a) f g z) = absurd (omega (arith, a.place))
own k (Joins.keeps e n) (Turns.drops a f g z) = absurd (omega (arith, a.place))
own k (Joins.noop a) h = Own.noop a
own k (Joins.gives a e f g) h = Own.gives a e f g

-- the others
was_empty : {c : Choice} {q o u : Process} {x : ℕ} → Beside c q x o u → Empty u → Empty o
was_empty Beside.same k = k
was_empty (Beside.raises r a e) k = record { work = k.work; grey = k.grey }
was_empty (Beside.types r a) k = record { work = k.work; grey = k.grey }

is_empty_lem : {c : Choice} {q o u : Process} {x : ℕ} → Beside c q x o u → Empty o → Empty u
is_empty_lem Beside.same k = k
is_empty_lem (Beside.raises r a e) k = record { work = k.work; grey = k.grey }
is_empty_lem (Beside.types r a) k = record { work = k.work; grey = k.grey }

is_out : {c : Choice} {q o u : Process} {x : ℕ} → Beside c q x o u → o.part.in_step ≡ false → u.part.in_step ≡ false
is_out Beside.same e = e
is_out (Beside.raises r a f) e = e
is_out (Beside.types r a) e = refl

-- ---- a row within the zone
module _ (s t : State) (c : Choice) (v : Spared s) (r : Row s c t) (g : gathers (process_of s 0).place (process_of s 0).stage ≡ true) (none : t.system.work ≡ no_cells)
    (out : Every t (λ q. q.part.in_step ≡ false → Empty q)) where
  -- the mutator that steps
  module _ (a : 0 < c.process) (b : c.process ≤ mutators_of s) where
    stepped : (process_of t c.process).part.in_step ≡ false → Empty (process_of t c.process)
    stepped = out c.process a (rw (row_mutators s t c r) b)

    cell : {d : ℕ} → Marks (mover s c) d → ((mover s c).stage ≡ write_stage) ⊎ ((mover s c).stage ≡ unlock_stage) → (0 < d) × (d ≤ max_set)
    cell {d} i j =
        let w = v.inv.formed in
        let k = (running s.memory.cells (mutators_of s) c.process (mover s c) (mutates a (w.mutators c.process a b)) i (λ _ e. ⊎_elim (λ f. omega arith) (λ f. omega arith) j)).notes.cell_named in
        (k.0, omega (arith, k.1, w.memory.few_cells))

    -- no no-op is asked
    no_noop : At noop_finish no_stage (mover s c) → ⊥
    no_noop k = (told s v g).asked (v.inv.handshakes.answering c.process a b round.Noop (rw k.place refl)).1

    idle_grey : (At roots_finish no_stage (mover s c)) ⊎ (At work_finish no_stage (mover s c)) → (mover s c).grey ≡ 0
    idle_grey (inl k) = (idle_at roots_finish refl k.place (v.inv.formed.mutators c.process a b)).mark.no_grey
    idle_grey (inr k) = (idle_at work_finish refl k.place (v.inv.formed.mutators c.process a b)).mark.no_grey

    -- had it nothing after the step, or was it to come in step, it had nothing before
    own_was : Own s t (mover s c) (process_of t c.process) → (mover s c).part.in_step ≡ false → Empty (mover s c)
    own_was (Own.keeps f h k) e = let z = stepped (f ∙ e) in record { work = sym h ∙ z.work; grey = sym k ∙ z.grey }
    own_was (Own.greys i j f k) e = absurd (omega (arith, k, (stepped (f ∙ e)).grey, (cell i (inl j)).0))
    own_was (Own.wins {r = d} i j y f k) e =
        let z = cell i (inr j) in
        absurd (not_empty (add_of (mover s c).work d) d (add_same (mover s c).work d z.0 z.1) (sym k ∙ (stepped (f ∙ e)).work))
    own_was (Own.noop k) e = absurd (no_noop k)
    own_was (Own.gives k h f z) e =
        record { work = empty_sub (mover s c).work (subst (Sub (mover s c).work) (sym h ∙ none) (sub_union_right s.system.work (mover s c).work)); grey = idle_grey k }

    own_is : Own s t (mover s c) (process_of t c.process) → NoGrey s → Empty (mover s c) → Empty (process_of t c.process)
    own_is (Own.keeps f h k) n z = record { work = h ∙ z.work; grey = k ∙ z.grey }
    own_is (Own.greys {r = d} i j f k) n z = absurd (⊎_elim (λ e. no_write s v g c.process d a b e n i j) (λ e. omega (arith, k, (stepped (f ∙ e)).grey, (cell i (inl j)).0)) (split (mover s c).part.in_step))
    own_is (Own.wins i j y f k) n z = absurd (y z.grey)
    own_is (Own.noop k) n z = absurd (no_noop k)
    own_is (Own.gives k h f y) n z = record { work = f; grey = y ∙ z.grey }

    owns : Own s t (mover s c) (process_of t c.process)
    owns = own (mutator_within (v.inv.formed.mutators c.process a b)) (row_joins s t c v.inv.formed r a) (row_turns s t c v.inv.formed r)

  before : Every s (λ q. q.part.in_step ≡ false → Empty q)
  before m a b e = go (ℕ_discrete m c.process)
    where
      go : Dec (m ≡ c.process) → Empty (process_of s m)
      go (yes z) = rw z (own_was (rw z at a) (rw z at b) (owns (rw z at a) (rw z at b)) (rw z at e))
      go (no z) = let k = row_others v.inv.formed r m z in was_empty k (out m a (rw (row_mutators s t c r) b) (is_out k e))

  after : NoGrey s → Every s Empty → Every t Empty
  after n h m a b = go (ℕ_discrete m c.process)
    where
      l : m ≤ mutators_of s
      l = rw (row_mutators s t c r) at b

      go : Dec (m ≡ c.process) → Empty (process_of t m)
      go (yes z) = rw z (own_is (rw z at a) (rw z at l) (owns (rw z at a) (rw z at l)) n (rw z at (h m a l)))
      go (no z) = is_empty_lem (row_others v.inv.formed r m z) (h m a l)

pub step_ends : RowsKeep MarkingEnds
step_ends s t c v r g w h = go ((row_begins s t c v.inv.formed r).typed g)
  where
    go : (gathers (process_of s 0).place (process_of s 0).stage ≡ true) ⊎ OutOfStep t → Every t Empty
    go (inr o) = λ m a b. h m a b (o m a)
    go (inl i) =
        let e = (row_begins s t c v.inv.formed r).grows g w in
        let k = v.ends i e (before s t c v r i w h) in
        after s t c v r i w h (none_gathered s v i e k) k
