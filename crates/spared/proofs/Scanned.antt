-- B18: the cell in hand of row 7. Assumes nothing.
--     step_scanned     after each step: at the flip and in the blank era none is in hand; the collector's own steps by
--                      rows, another's and a commit by what they do to memory
use mathlib.Core.Path.{◌≡◌, refl, sym, ap, subst, ◌∙◌}
use mathlib.Core.Bool.{Bool, true, false, not, false≢true}
use mathlib.Core.Logic.{◌⊎◌, inl, inr, ⊎_elim, by_cases}
use Prim.Native.Nat.{ℕ, ◌+◌, ◌<◌}
use native.Mathlib.Omega.{arith}
use native.Mathlib.Decide.{ℕ_discrete, dec_lt}
use lib.Dec.{leb}
use lib.ListN.{get_or}
use borrow.Author.Tests.{lt-ltb, le-ltb}
use Rattle.base.specs.Pick.{pick}
use Rattle.cells.specs.Sets.{Member, member_of, remove_of}
use Rattle.cells.proofs.Bools.{split, not_both}
use Rattle.cells.proofs.Members.{member_null, remove_keeps, full_has}
use Rattle.buffers.specs.Fits.{max_fields}
use Rattle.memory.specs.declared.Memory.{Memory}
use Rattle.memory.specs.Memories.{used_of, field_of}
use Rattle.memory.specs.Looks.{look_field_of}
use Rattle.state.specs.declared.RoundType.{RoundType}
use Rattle.state.specs.declared.Process.{Process}
use Rattle.state.specs.declared.State.{State}
use Rattle.state.specs.declared.Choice.{Choice}
use Rattle.state.specs.Codes.{row5_round, row7_mark, row7_next}
use Rattle.state.specs.Choices.{all_fields, field_left_of}
use Rattle.state.specs.States.{no_process, process_of, with_process_of, with_memory, with_system}
use Rattle.formed.specs.Fits.{WellFormed}
use Rattle.formed.proofs.Gives.{collector_within}
use Rattle.model.specs.Offers.{mark_place}
use Rattle.model.specs.Rows.{sees_value, Marks, Mark, Round, all_off, with_processes, flagged, Collector, Row}
use Rattle.stays_formed.proofs.Kept.{row_kept}
use Rattle.reach.specs.Reach.{Names}
use Rattle.claims.proofs.Rules.{Checked, ruled}
use Rattle.claims.proofs.Answering.{implied}
use Rattle.claims.proofs.Moves.{marks_place}
use Rattle.spared.specs.Shades.{Marked, NullOrMarked, Covered}
use Rattle.spared.specs.Zones.{in_hand, quiet}
use Rattle.spared.specs.Scanned.{ScannedBy, Scanned}
use Rattle.spared.specs.Views.{Aside}
use Rattle.spared.specs.Inv.{Spared}
use Rattle.spared.specs.Lemmas.{Flip, RowsKeep}
use Rattle.spared.proofs.Arrivals.{After, arrives}
use Rattle.spared.proofs.Paces.{row_aside}
use Rattle.spared.proofs.Sights.{scan_field}
use Rattle.spared.proofs.Flips.{row_sense}
use Rattle.spared.proofs.Stays.{marked_stays, used_or_freed}
use Rattle.spared.proofs.Covers.{shaken, unshaken, covered_stays, mark_covers, Onward, Carries, mark_carries}
use Rattle.spared.proofs.Overs.{mark_over_lem}
use Rattle.spared.proofs.Fields.{FieldAfter, field_after}

-- ---- with a cell in hand the collector is neither before row 6 nor in the quiet zone
abbrev early_rule_lem : ℕ → ℕ → Bool
early_rule_lem k j = pick (in_hand k) (not (leb k row5_round)) true

early_rule : Checked early_rule_lem
early_rule = ((((((((tt, refl), refl), refl), refl), refl), refl), refl), refl)

abbrev quiet_rule_lem : ℕ → ℕ → Bool
quiet_rule_lem k j = pick (in_hand k) (not (quiet k j)) true

quiet_rule : Checked quiet_rule_lem
quiet_rule = ((((((((tt, refl), refl), refl), refl), refl), refl), refl), refl)

not-true : {b : Bool} → b ≡ true → not b ≡ true → ⊥
not-true e f = false≢true (rw e at f)

not_early : (s : State) → WellFormed s → in_hand (process_of s 0).place ≡ true → leb (process_of s 0).place row5_round ≡ true → ⊥
not_early s w i e = not-true e (implied (in_hand (process_of s 0).place) (ruled early_rule_lem early_rule s w) i)

not_quiet : (s : State) → WellFormed s → in_hand (process_of s 0).place ≡ true → quiet (process_of s 0).place (process_of s 0).stage ≡ true → ⊥
not_quiet s w i e = not-true e (implied (in_hand (process_of s 0).place) (ruled quiet_rule_lem quiet_rule s w) i)

-- ---- where none is in hand and none is marked
away : {m : Memory} (o : Process) {k : ℕ} → o.place ≡ k → in_hand k ≡ false → mark_place k ≡ false → ScannedBy m o
away o e a b = record { listed = λ i. absurd (not_both i (rw e a)); occupied = λ i. absurd (not_both (marks_place i) (rw e b)); scanned = λ i. absurd (not_both i (rw e a)) }

record Apart (k : ℕ) : Type 0 where
  in_hand_lem : in_hand k ≡ false
  mark : mark_place k ≡ false

round_apart : {k j l : ℕ} {t : RoundType} → Round k t j l → Apart k × Apart j
round_apart Round.row1 = (record { in_hand_lem = refl; mark = refl }, record { in_hand_lem = refl; mark = refl })
round_apart Round.row3 = (record { in_hand_lem = refl; mark = refl }, record { in_hand_lem = refl; mark = refl })
round_apart Round.row4 = (record { in_hand_lem = refl; mark = refl }, record { in_hand_lem = refl; mark = refl })
round_apart Round.row5 = (record { in_hand_lem = refl; mark = refl }, record { in_hand_lem = refl; mark = refl })
round_apart Round.row6 = (record { in_hand_lem = refl; mark = refl }, record { in_hand_lem = refl; mark = refl })
round_apart Round.row8 = (record { in_hand_lem = refl; mark = refl }, record { in_hand_lem = refl; mark = refl })

-- ---- the fields that are left
field_is : (f : ℕ) → f < max_fields → field_left_of f ≡ f + 1
field_is f l = rw (lt-ltb f max_fields l) refl

left_field : (l f : ℕ) → Member l (field_left_of f) → f < max_fields
left_field l f i = by_cases (dec_lt f max_fields) (λ k. k) (λ k. absurd (not_both (rw (le-ltb f max_fields (omega arith)) at i) (member_null l)))

-- without f, one that is not left is f or was not left
without : (l f g : ℕ) → f < max_fields → g < max_fields → member_of (remove_of l (field_left_of f)) (field_left_of g) ≡ false → (f ≡ g) ⊎ (member_of l (field_left_of g) ≡ false)
without l f g a b k = by_cases (ℕ_discrete f g) inl (λ n. inr (go n (split (member_of l (field_left_of g)))))
  where
    go : (f ≡ g → ⊥) → (member_of l (field_left_of g) ≡ true) ⊎ (member_of l (field_left_of g) ≡ false) → member_of l (field_left_of g) ≡ false
    go n (inl h) = absurd (not_both (remove_keeps l (field_left_of f) (field_left_of g) h (λ e. n (let i : f + 1 ≡ g + 1 = sym (field_is f a) ∙ e ∙ field_is g b in omega arith))) k)
    go n (inr h) = h

-- ---- where fM stays and the state becomes t
module _ (s : State) (v : Spared s) where
  abbrev q : Process
  q = process_of s 0

  -- a field of the cell in hand, where memory's may have changed
  scanned_after : (t : State) {o : Process} → ((d g : ℕ) → FieldAfter s t d g) → in_hand q.place ≡ true → (g : ℕ) → Covered t.memory o (field_of s.memory q.x g) → Covered t.memory o (field_of t.memory q.x g)
  scanned_after t {o} fields i g k = go (fields q.x g)
    where
      go : FieldAfter s t q.x g → Covered t.memory o (field_of t.memory q.x g)
      go (FieldAfter.same h) = subst (Covered t.memory o) (sym h) k
      go (FieldAfter.safe h) = Covered.safe h
      go (FieldAfter.blank h j) = absurd (not_early s v.inv.formed i h)

  -- another's step, and a commit
  aside_scans : (t : State) {o : Process} → ((d : ℕ) → Marked s.memory d → Marked t.memory d) → ((d g : ℕ) → FieldAfter s t d g) → ((d : ℕ) → Marks q d → used_of t.memory d ≡ true) → Aside q o → ScannedBy t.memory o
  aside_scans t stays fields used (Aside.aside r i e) =
      rw e (record {
        listed = v.scanned.listed;
        occupied = λ m. used _ (unshaken r i m);
        scanned = λ h g l k. scanned_after t fields h g (covered_stays stays (shaken r i) (v.scanned.scanned h g l k));
      })

  -- the collector's step of a mark
  hand_before : {o : Process} → Onward q o → in_hand o.place ≡ true → in_hand q.place ≡ true
  hand_before (Onward.on e f) a = rw e at a
  hand_before (Onward.write e f z) a = absurd (false≢true (rw f at a))
  hand_before (Onward.new e f) a = absurd (false≢true (rw f at a))
  hand_before (Onward.marked e f) a = absurd (false≢true (rw f at a))
  hand_before (Onward.roots e f) a = absurd (false≢true (rw f at a))
  hand_before (Onward.root e f) a = absurd (false≢true (rw f at a))
  hand_before (Onward.fields e f) a = rw e refl
  hand_before (Onward.field e f) a = rw e refl

  mark_used : (t : State) {o : Process} → ((d : ℕ) → Marks q d → used_of t.memory d ≡ true) → Onward q o → {r : ℕ} → Marks o r → used_of t.memory r ≡ true
  mark_used t used (Onward.on e f) {r} m = used r (f r m)
  mark_used t used (Onward.write e f z) m = absurd (false≢true (rw f at (marks_place m)))
  mark_used t used (Onward.new e f) m = absurd (omega (arith, (collector_within v.inv.formed.collector).0))
  mark_used t used (Onward.marked e f) m = absurd (false≢true (rw f at (marks_place m)))
  mark_used t used (Onward.roots e f) m = absurd (false≢true (rw f at (marks_place m)))
  mark_used t used (Onward.root e f) m = absurd (omega (arith, (collector_within v.inv.formed.collector).0))
  mark_used t used (Onward.fields e f) m = absurd (false≢true (rw f at (marks_place m)))
  mark_used t used (Onward.field e f) m = absurd (false≢true (rw f at (marks_place m)))

  mark_scans : (t : State) {r : ℕ} {o : Process} → ((d : ℕ) → Marked s.memory d → Marked t.memory d) → ((d g : ℕ) → FieldAfter s t d g) → ((d : ℕ) → Marks q d → used_of t.memory d ≡ true) → Marks q r → Mark s.memory 0 r q t.memory o → ScannedBy t.memory o
  mark_scans t {r} {o} stays fields used m e =
      record {
        listed = λ a. subst (Member o.work) (sym k.x) (k.work q.x (v.scanned.listed (hand_before k.way a)));
        occupied = λ i. mark_used t used k.way i;
        scanned = λ a g l i. let h = hand_before k.way a in
            subst (λ d. Covered t.memory o (field_of t.memory d g)) (sym k.x) (scanned_after t fields h g (cover (v.scanned.scanned h g l (rw k.left at i))));
      }
    where
      k : Carries q o
      k = mark_carries e

      cover : {u : ℕ} → Covered s.memory q u → Covered t.memory o u
      cover = mark_covers m (mark_over_lem s v 0 r (omega arith) (λ z. absurd (omega arith)) m (λ z _. omega (arith, (collector_within v.inv.formed.collector).0))) stays e

  -- ---- its reads: f is read of x and w is seen; l was left
  -- what a field of a listed cell names is occupied
  read_used : (x f w : ℕ) → f < max_fields → Member q.work x → w ≡ field_of s.memory x f → (w ≡ 0 → ⊥) → used_of s.memory w ≡ true
  read_used x f w l i e n = (v.closed x w (record { occupied = k.occupied; marked = λ _. k }) names).occupied
    where
      k : Marked s.memory x
      k = v.listed.listed 0 x i

      names : Names s.memory x w
      names = by_cases (ℕ_discrete f 0) (λ z. Names.first (sym (rw z at e)) (omega arith)) (λ z. let o : f ≡ 1 = omega arith in Names.second (sym (rw o at e)) (omega arith))

  read_marks : (o : Process) {w : ℕ} → o.place ≡ row7_mark → o.cell ≡ w → used_of s.memory w ≡ true → {r : ℕ} → Marks o r → used_of s.memory r ≡ true
  read_marks o e f u (Marks.old i) = absurd (omega arith)
  read_marks o e f u (Marks.new i) = absurd (omega arith)
  read_marks o e f u (Marks.root i) = absurd (omega arith)
  read_marks o e f u (Marks.field i) = rw f u

  read_covers : (o : Process) (x f l : ℕ) → f < max_fields → Covered s.memory o (field_of s.memory x f) → ((g : ℕ) → g < max_fields → member_of l (field_left_of g) ≡ false → NullOrMarked s.memory (field_of s.memory x g)) →
      (g : ℕ) → g < max_fields → member_of (remove_of l (field_left_of f)) (field_left_of g) ≡ false → Covered s.memory o (field_of s.memory x g)
  read_covers o x f l a k old g b h = ⊎_elim (λ e. subst (λ i. Covered s.memory o (field_of s.memory x i)) e k) (λ i. Covered.safe (old g b i)) (without l f g a b h)

  -- at the first read all were left; at the next no mark is on
  first_left : (x g : ℕ) → g < max_fields → member_of all_fields (field_left_of g) ≡ false → NullOrMarked s.memory (field_of s.memory x g)
  first_left x g l h = absurd (not_both (full_has max_fields (g + 1) (omega arith) (omega arith) (omega arith)) (rw (field_is g l) at h))

  next_left : q.place ≡ row7_next → (g : ℕ) → g < max_fields → member_of q.left (field_left_of g) ≡ false → NullOrMarked s.memory (field_of s.memory q.x g)
  next_left a g l h = go (v.scanned.scanned (rw a refl) g l h)
    where
      go : Covered s.memory q (field_of s.memory q.x g) → NullOrMarked s.memory (field_of s.memory q.x g)
      go (Covered.safe k) = k
      go (Covered.now k) = absurd (false≢true (rw a at (marks_place k)))

  sees : (x f w : ℕ) → look_field_of s.memory 0 x f ≡ sees_value w → w ≡ field_of s.memory x f
  sees x f w e = scan_field s v.inv x f w e

-- ---- its own step: it is o after it, and memory is that of x
abbrev Ended : State → Type 0
Ended t = After (ScannedBy t.memory) 0 t

module _ (s : State) (c : Choice) (v : Spared s) where
  plain : {k : ℕ} (x : State) (o : Process) → o.place ≡ k → in_hand k ≡ false → mark_place k ≡ false → Ended (with_process_of x 0 o)
  plain x o e a b = After.after x o (away o e a b)

  turns : {k : ℕ} (x : State) (o : Process) → o.place ≡ k → Apart k → Ended (with_process_of x 0 o)
  turns x o e a = plain x o e a.in_hand_lem a.mark

  own_scans : {t : State} → ((d : ℕ) → Marked s.memory d → Marked t.memory d) → ((d g : ℕ) → FieldAfter s t d g) → ((d : ℕ) → Marks (process_of s 0) d → used_of t.memory d ≡ true) → Collector s c 0 (process_of s 0) t → Ended t
  own_scans z f u (Collector.fences r a b e) = turns s _ refl (round_apart r).0
  own_scans z f u (Collector.types r a b h) = turns (with_processes (with_system s _) (all_off s.procs)) _ refl (round_apart r).0
  own_scans z f u (Collector.raises r a b m e) = turns (with_process_of s c.x (flagged (process_of s c.x))) _ a.place (round_apart r).0
  own_scans z f u (Collector.raises_last r a b m e) = turns (with_process_of s c.x (flagged (process_of s c.x))) _ refl (round_apart r).0
  own_scans z f u (Collector.polls_up r a b m e) = turns s _ a.place (round_apart r).0
  own_scans z f u (Collector.polls r a b m e h) = turns s _ a.place (round_apart r).0
  own_scans z f u (Collector.polls_last r a b m e h) = turns s _ refl (round_apart r).1
  own_scans z f u (Collector.reads_sense a b e) = plain s _ refl refl refl
  own_scans z f u (Collector.writes_sense a b {m} e) = plain (with_memory s m) _ refl refl refl
  own_scans z f u (Collector.writes_init a b {m} e) = plain (with_memory s m) _ refl refl refl
  own_scans z f u (Collector.writes_mark a b {m} e) = plain (with_memory s m) _ refl refl refl
  own_scans z f u (Collector.writes_alloc a b {m} e) = plain (with_memory s m) _ refl refl refl
  own_scans z f u (Collector.takes a b h) = plain (with_system s _) _ refl refl refl
  own_scans z f u (Collector.takes_none a b h) = plain (with_system s _) _ refl refl refl
  own_scans z f u (Collector.reads_first a b {v = w} e h) =
      let k = sees s v c.x c.f w e in
      After.after s _ (record {
        listed = λ _. b.cell;
        occupied = read_marks s v _ refl refl (read_used s v c.x c.f w b.field b.cell k h);
        scanned = λ _. read_covers s v _ c.x c.f all_fields b.field (Covered.now (subst (Marks _) k (Marks.field refl))) (first_left s v c.x);
      })
  own_scans z f u (Collector.reads_first_null a b e) =
      After.after s _ (record {
        listed = λ _. b.cell;
        occupied = λ i. absurd (false≢true (marks_place i));
        scanned = λ _. read_covers s v _ c.x c.f all_fields b.field (Covered.safe (inl (sym (sees s v c.x c.f 0 e)))) (first_left s v c.x);
      })
  own_scans {t} z f u (Collector.marks b i {m} {t = o} e) = After.after (with_memory s m) o (mark_scans s v t z f u i e)
  own_scans z f u (Collector.reads_next a b {v = w} e h) =
      let x = (process_of s 0).x in
      let k = sees s v x c.f w e in
      let l = left_field (process_of s 0).left c.f b.field in
      After.after s _ (record {
        listed = λ _. v.scanned.listed (rw a.place refl);
        occupied = read_marks s v _ refl refl (read_used s v x c.f w l (v.scanned.listed (rw a.place refl)) k h);
        scanned = λ _. read_covers s v _ x c.f (process_of s 0).left l (Covered.now (subst (Marks _) k (Marks.field refl))) (next_left s v a.place);
      })
  own_scans z f u (Collector.reads_next_null a b e h) =
      let x = (process_of s 0).x in
      After.after s _ (record {
        listed = λ _. v.scanned.listed (rw a.place refl);
        occupied = λ i. absurd (false≢true (marks_place i));
        scanned = λ _. read_covers s v _ x c.f (process_of s 0).left (left_field (process_of s 0).left c.f b.field) (Covered.safe (inl (sym (sees s v x c.f 0 e)))) (next_left s v a.place);
      })
  own_scans z f u (Collector.reads_last_null a b e h) =
      let x = (process_of s 0).x in
      After.after s _ (record {
        listed = λ _. v.scanned.listed (rw a.place refl);
        occupied = λ i. absurd (false≢true (marks_place i));
        scanned = λ _ g l i. read_covers s v _ x c.f (process_of s 0).left (left_field (process_of s 0).left c.f b.field) (Covered.safe (inl (sym (sees s v x c.f 0 e)))) (next_left s v a.place) g l
            (subst (λ d. member_of d (field_left_of g) ≡ false) (sym h) i);
      })
  own_scans z f u (Collector.drops a b h) = plain s _ refl refl refl
  own_scans z f u (Collector.drops_last a b h) = plain s _ refl refl refl
  own_scans z f u (Collector.writes_sweep a b {m} e) = plain (with_memory s m) _ refl refl refl
  own_scans z f u (Collector.spares a b m e h) = plain s _ a.place refl refl
  own_scans z f u (Collector.spares_last a b m e h) = plain s _ refl refl refl
  own_scans z f u (Collector.condemns a b m e) = plain s _ refl refl refl
  own_scans z f u (Collector.frees a b {m} e h) = plain (with_memory s m) _ refl refl refl
  own_scans z f u (Collector.frees_last a b {m} e h) = plain (with_memory s m) _ refl refl refl
  own_scans z f u (Collector.writes_idle a b {m} e) = plain (with_memory s m) _ refl refl refl

-- ---- a step
module _ (s : State) (c : Choice) (v : Spared s) where
  -- the cell being marked stays occupied: it is not the one that is freed
  still_used : {t : State} → Row s c t → (r : ℕ) → Marks (process_of s 0) r → used_of t.memory r ≡ true
  still_used {t} w r m =
      ⊎_elim (λ i. i) (λ i. let e = rw i.1.1 at i.0.place in absurd (false≢true (rw e at (marks_place m)))) (used_or_freed s t c v w r (v.scanned.occupied m))

  stays_scanned : {t : State} → t.memory.fm ≡ s.memory.fm → Row s c t → Scanned t
  stays_scanned {t} e (Row.collector x z r) =
      let w = Row.collector x z r in
      arrives (omega arith) (row_kept s c v.inv.formed w) (own_scans s c v (marked_stays s t c v w e) (field_after s t c v w e) (still_used w) r)
  stays_scanned {t} e (Row.mutator x z pos mine r) =
      let w = Row.mutator x z pos mine r in
      aside_scans s v t (marked_stays s t c v w e) (field_after s t c v w e) (still_used w) (row_aside s t c v.inv.formed w 0 (λ i. omega arith))
  stays_scanned {t} e (Row.commits x z mine y h) =
      let w = Row.commits x z mine y h in
      aside_scans s v t (marked_stays s t c v w e) (field_after s t c v w e) (still_used w) (Aside.aside _ _ refl)

  flip_scanned : {t : State} → Flip s t → Scanned t
  flip_scanned {t} f =
      rw same (record {
        listed = v.scanned.listed;
        occupied = λ {r} m. f.used r ∙ v.scanned.occupied m;
        scanned = λ i. absurd (not_quiet s v.inv.formed i f.quiet);
      })
    where
      same : process_of t 0 ≡ process_of s 0
      same = ap (λ l. get_or l 0 no_process) f.procs

pub step_scanned : RowsKeep Scanned
step_scanned s t c v r = ⊎_elim (λ e. stays_scanned s c v e r) (flip_scanned s c v) (row_sense s t c v r)
