-- What the collector's place tells of the mutators' handshake phases, of memory's senses and phase, and of what waits
-- for memory. Assumes nothing.
--     is_sweeping                                      the test of handshake phase IdleMarkSweep
--     rule_passes                                      a test of handshake phases that every mutator passes, by a rule
--                                                      over the collector's places
--     era_of, idle_marked                              S5, S6
--     scanning_phase, roots_asked                      S8, S10
--     alloc_follows, region_deletes, scan_noted        S12, S14; the noted fM from row 6 on
--     mark_phase                                       memory's phase in rows 6 to 9
--     Sends, collector_sends                           what the collector has pending
--     flip_waits, alloc_waits, collector_fields        who has fM, fA and fields pending
use mathlib.Core.Path.{◌≡◌, refl, sym, ap, subst, ◌∙◌}
use mathlib.Core.Bool.{Bool, true, false, not, ◌&&◌, ◌||◌, false≢true}
use mathlib.Core.List.Memᴰ
use mathlib.Core.List.{List, [], ◌∷◌, Memᴰ}
use mathlib.Core.Logic.{◌⊎◌, inl, inr, ⊎_elim, by_cases}
use Prim.Native.Nat.{ℕ, ◌<◌}
use native.Mathlib.Omega.{arith}
use native.Mathlib.Decide.{ℕ_discrete, dec_lt}
use lib.Dec.{eqb, leb}
use Rattle.base.specs.Pick.{pick}
use Rattle.base.specs.Every.{◌and◌}
use Rattle.base.proofs.Everies.{and_both}
use Rattle.cells.proofs.Bools.{split, not_both, or_left, or_right}
use Rattle.buffers.specs.declared.Phase.{Phase}
use Rattle.buffers.specs.declared.Phase.TheVariants as phase
use Rattle.buffers.specs.declared.Store.{Store}
use Rattle.buffers.specs.declared.Store.TheVariants as store
use Rattle.buffers.specs.declared.Entry.{Entry}
use Rattle.buffers.specs.Stores.{bit_of, spot_of, kind_of}
use Rattle.memory.proofs.Shapes.{pending_is, pending_absent, there_or_not}
use Rattle.memory_formed.proofs.Shapes.{shaped}
use Rattle.state.specs.declared.Handshake.{Handshake}
use Rattle.state.specs.declared.Handshake.TheVariants as hand
use Rattle.state.specs.declared.RoundType.{RoundType}
use Rattle.state.specs.declared.RoundType.TheVariants as round
use Rattle.state.specs.declared.Part.{Part}
use Rattle.state.specs.declared.Process.{Process}
use Rattle.state.specs.declared.State.{State}
use Rattle.state.specs.Codes.{row5_round, row6_round, row9_write}
use Rattle.state.specs.States.{process_of}
use Rattle.verdict.specs.Table.{InTable, sweeping_of}
use Rattle.claims.specs.Posted.{posted_of, round_type, busy_of}
use Rattle.claims.specs.Pending.{waiting_of, MarkOrField}
use Rattle.claims.specs.Written.{Stretch, Moment, stretch_of, moment_of, entry_for, Wrote}
use Rattle.claims.specs.Inv.{Inv}
use Rattle.claims.proofs.Rules.{Checked, ruled}
use Rattle.claims.proofs.Answering.{implied}
use Rattle.claims.proofs.Handshakes.{settled_handshakes}
use Rattle.claims.proofs.Senses.{idle_of, is_idle_lem}
use Rattle.spared.specs.Shades.{AllMarked}
use Rattle.spared.specs.Holds.{StoreIn, Every}
use Rattle.spared.specs.Zones.{rests, quiet, region, in_scan, inserting, deleting}
use Rattle.spared.specs.Lemmas.{Era, EraOf, IdleMarked, Scanning, RootsAsked, AllocFollows, RegionDeletes, ScanNoted, FlipWaits, AllocWaits, CollectorFields}

-- ---- the mutators' handshake phases
-- the phase before h, and the one that a mutator is in before it answers
abbrev pub prior_of : Handshake → Handshake
prior_of hand.Idle = hand.IdleMarkSweep
prior_of hand.IdleInit = hand.Idle
prior_of hand.InitMark = hand.IdleInit
prior_of hand.Mark = hand.InitMark
prior_of hand.IdleMarkSweep = hand.Mark

abbrev pub behind_of : RoundType → Handshake → Handshake
behind_of round.Noop h = prior_of h
behind_of round.Roots h = prior_of h
behind_of round.Work h = h

line_phase : {i : Bool} {k : RoundType} {a h : Handshake} → InTable i k a h → h ≡ pick i a (behind_of k a)
line_phase InTable.idle = refl
line_phase InTable.idle_init = refl
line_phase InTable.init_mark = refl
line_phase InTable.mark = refl
line_phase InTable.roots = refl
line_phase InTable.work = refl
line_phase InTable.to_idle = refl
line_phase InTable.to_idle_init = refl
line_phase InTable.to_init_mark = refl
line_phase InTable.to_mark = refl
line_phase InTable.to_roots = refl
line_phase InTable.to_work = refl

-- the phase posted passes the test, and so does the one before it while a round raises or polls
abbrev pub passed_of : (Handshake → Bool) → ℕ → ℕ → Bool
passed_of t k j = t (posted_of k j) and pick (busy_of k j) (t (behind_of (round_type k) (posted_of k j))) true

pub is_sweeping : (h : Handshake) → sweeping_of h ≡ true → h ≡ hand.IdleMarkSweep
is_sweeping hand.Idle e = absurd (false≢true e)
is_sweeping hand.IdleInit e = absurd (false≢true e)
is_sweeping hand.InitMark e = absurd (false≢true e)
is_sweeping hand.Mark e = absurd (false≢true e)
is_sweeping hand.IdleMarkSweep e = refl

not_true_false : (a : Bool) → not a ≡ true → a ≡ false
not_true_false true e = sym e
not_true_false false e = refl

module _ (s : State) (v : Inv s) where
  abbrev o : Process
  o = process_of s 0

  -- so every mutator's does
  all_pass : (t : Handshake → Bool) → passed_of t o.place o.stage ≡ true → Every s (λ q. t q.part.phase ≡ true)
  all_pass t e m a b = go (split (busy_of o.place o.stage)) (split (process_of s m).part.in_step)
    where
      both : (t (posted_of (process_of s 0).place (process_of s 0).stage) ≡ true) × (pick (busy_of (process_of s 0).place (process_of s 0).stage) (t (behind_of (round_type (process_of s 0).place) (posted_of (process_of s 0).place (process_of s 0).stage))) true ≡ true)
      both = and_both (t (posted_of (process_of s 0).place (process_of s 0).stage)) _ e

      posted : {h : Handshake} → h ≡ s.system.phase → t h ≡ true
      posted f = rw (f ∙ v.handshakes.posted) both.0

      go : (busy_of (process_of s 0).place (process_of s 0).stage ≡ true) ⊎ (busy_of (process_of s 0).place (process_of s 0).stage ≡ false) →
          ((process_of s m).part.in_step ≡ true) ⊎ ((process_of s m).part.in_step ≡ false) → t (process_of s m).part.phase ≡ true
      go (inr f) i = posted (ap (λ (x : Part). x.phase) (settled_handshakes s v.handshakes f m a b))
      go (inl f) (inl i) = let l = line_phase (v.handshakes.table m a b).line in posted (rw i at l)
      go (inl f) (inr i) =
          let l = line_phase (v.handshakes.table m a b).line in
          let k = rw f at v.handshakes.typed in
          rw (rw (i, k, v.handshakes.posted) at l) (implied (busy_of o.place o.stage) both.1 f)

  -- a rule of the form "where z, there t"
  by_rule : (z t : ℕ → ℕ → Bool) → Checked (λ k j. pick (z k j) (t k j) true) → z o.place o.stage ≡ true → t o.place o.stage ≡ true
  by_rule z t c e = implied (z o.place o.stage) (ruled (λ k j. pick (z k j) (t k j) true) c s v.formed) e

  pub rule_passes : (z : ℕ → ℕ → Bool) (t : Handshake → Bool) → Checked (λ k j. pick (z k j) (passed_of t k j) true) → z o.place o.stage ≡ true → Every s (λ q. t q.part.phase ≡ true)
  rule_passes z t c e = all_pass t (by_rule z (passed_of t) c e)

-- ---- the stretches, in their order, as tests
abbrev stretch_no : Stretch → ℕ
stretch_no Stretch.rests = 0
stretch_no Stretch.flips = 1
stretch_no Stretch.flipped = 2
stretch_no Stretch.opens = 3
stretch_no Stretch.allocates = 4
stretch_no Stretch.allocated = 5
stretch_no Stretch.marks = 6
stretch_no Stretch.sweeps = 7

abbrev fences_of : Moment → Bool
fences_of Moment.fences = true
fences_of Moment.unlocks = false
fences_of Moment.goes = false

-- up to row 2; in rows 6 to 9; from row 6 on
abbrev rests_of : Stretch → Bool
rests_of z = leb (stretch_no z) 1

abbrev pub marks_of : Stretch → Bool
marks_of z = eqb (stretch_no z) 6

abbrev late_of : Stretch → Bool
late_of z = leb 6 (stretch_no z)

-- at row 3's fence; up to row 4's; up to row 5's, from the flip
abbrev flip_of : Stretch → Moment → Bool
flip_of z w = eqb (stretch_no z) 2 && fences_of w

abbrev idles_of : Stretch → Moment → Bool
idles_of z w = eqb (stretch_no z) 2 || (eqb (stretch_no z) 3 && fences_of w)

abbrev blank_of : Stretch → Moment → Bool
blank_of z w = (leb 2 (stretch_no z) && leb (stretch_no z) 4) || (eqb (stretch_no z) 5 && fences_of w)

-- ---- what memory holds: fM is b, fA is d, the phase is h; the collector has noted n, and l waits
data Told (n : Bool) (z : Stretch) (w : Moment) (l : List Entry) (b d : Bool) (h : Phase) : Type 0 where
  resting : rests_of z ≡ true → late_of z ≡ false → d ≡ b → Told n z w l b d h
  waits : StoreIn l (store.Sense n) → blank_of z w ≡ true → late_of z ≡ false → Told n z w l b d h
  blank : n ≡ b → (d ≡ b → ⊥) → blank_of z w ≡ true → late_of z ≡ false → (h ≡ phase.Idle → idles_of z w ≡ true) → Told n z w l b d h
  full : n ≡ b → d ≡ b → leb 5 (stretch_no z) ≡ true → (h ≡ phase.Idle → ⊥) → (marks_of z ≡ true → h ≡ phase.Mark) → Told n z w l b d h

not_same : (n : Bool) → not n ≡ n → ⊥
not_same true e = false≢true e
not_same false e = false≢true (sym e)

told : {n : Bool} {z : Stretch} {w : Moment} {l : List Entry} {b d : Bool} {h : Phase} → Wrote n z w l b d h → Told n z w l b d h
told Wrote.both_idle = Told.resting refl refl refl
told Wrote.idle = Told.resting refl refl refl
told Wrote.rests = Told.resting refl refl refl
told Wrote.flips = Told.resting refl refl refl
told Wrote.sense = Told.waits (StoreIn.pends _ (Memᴰ.head refl) refl) refl refl
told {n} Wrote.flipped = Told.blank refl (not_same n) refl refl (λ e. refl)
told {n} Wrote.init = Told.blank refl (not_same n) refl refl (λ e. refl)
told {n} Wrote.opens = Told.blank refl (not_same n) refl refl (λ e. absurd (false≢true cc))
told {n} Wrote.marking = Told.blank refl (not_same n) refl refl (λ e. absurd (false≢true cc))
told {n} Wrote.marked = Told.blank refl (not_same n) refl refl (λ e. absurd (false≢true cc))
told {n} Wrote.both_alloc = Told.blank refl (not_same n) refl refl (λ e. absurd (false≢true cc))
told {n} Wrote.alloc = Told.blank refl (not_same n) refl refl (λ e. absurd (false≢true cc))
told Wrote.overtaken = Told.full refl refl refl (λ e. false≢true cc) (λ e. absurd (false≢true e))
told Wrote.allocated = Told.full refl refl refl (λ e. false≢true cc) (λ e. absurd (false≢true e))
told Wrote.marks = Told.full refl refl refl (λ e. false≢true cc) (λ e. refl)
told Wrote.mark = Told.full refl refl refl (λ e. false≢true cc) (λ e. refl)
told Wrote.sweep = Told.full refl refl refl (λ e. false≢true cc) (λ e. refl)
told Wrote.sweeps = Told.full refl refl refl (λ e. false≢true cc) (λ e. absurd (false≢true e))

abbrev ToldOf : State → Type 0
ToldOf s = Told (process_of s 0).sense (stretch_of (process_of s 0).place) (moment_of (process_of s 0).place (process_of s 0).stage) (waiting_of s 0) s.memory.fm s.memory.fa s.memory.phase.phase

-- ---- what the collector has pending
pub data Sends (n : Bool) (z : Stretch) (w : Moment) (b : Bool) (v : Store) : Type 0 where
  of_phase : (h : Phase) → v ≡ store.Phase h → marks_of z ≡ false → Sends n z w b v
  of_sense : v ≡ store.Sense n → flip_of z w ≡ true → Sends n z w b v
  of_alloc : v ≡ store.AllocSense n → n ≡ b → Sends n z w b v
  of_mark : (c : ℕ) → v ≡ store.Mark c n → marks_of z ≡ true → Sends n z w b v

one_sends : {n : Bool} {z : Stretch} {w : Moment} {b : Bool} (v : Store) → Sends n z w b v → (e : Entry) → Memᴰ e (entry_for v ∷ []) → Sends n z w b e.store
one_sends {n} {z} {w} {b} v k e i = subst (λ (x : Entry). Sends n z w b x.store) (sym (Memᴰ.eq_of_singleton i)) k

two_sends : {n : Bool} {z : Stretch} {w : Moment} {b : Bool} (v u : Store) → Sends n z w b v → Sends n z w b u → (e : Entry) → Memᴰ e (entry_for v ∷ entry_for u ∷ []) → Sends n z w b e.store
two_sends {n} {z} {w} {b} v u k g e i = ⊎_elim (λ j. subst (λ (x : Entry). Sends n z w b x.store) (sym j) k) (one_sends u g e) (Memᴰ.cases_cons i)

none_sends : {n : Bool} {z : Stretch} {w : Moment} {b : Bool} (e : Entry) → Memᴰ e [] → Sends n z w b e.store
none_sends e i = absurd (Memᴰ.not-nil i)

sends : {n : Bool} {z : Stretch} {w : Moment} {l : List Entry} {b d : Bool} {h : Phase} → Wrote n z w l b d h → (e : Entry) → Memᴰ e l → Sends n z w b e.store
sends Wrote.both_idle = two_sends (store.Phase phase.Sweep) (store.Phase phase.Idle) (Sends.of_phase _ refl refl) (Sends.of_phase _ refl refl)
sends Wrote.idle = one_sends (store.Phase phase.Idle) (Sends.of_phase _ refl refl)
sends Wrote.rests = none_sends
sends Wrote.flips = none_sends
sends {n} Wrote.sense = one_sends (store.Sense n) (Sends.of_sense refl refl)
sends Wrote.flipped = none_sends
sends Wrote.init = one_sends (store.Phase phase.Init) (Sends.of_phase _ refl refl)
sends Wrote.opens = none_sends
sends Wrote.marking = one_sends (store.Phase phase.Mark) (Sends.of_phase _ refl refl)
sends Wrote.marked = none_sends
sends {n} Wrote.both_alloc = two_sends (store.Phase phase.Mark) (store.AllocSense n) (Sends.of_phase _ refl refl) (Sends.of_alloc refl refl)
sends {n} Wrote.alloc = one_sends (store.AllocSense n) (Sends.of_alloc refl refl)
sends Wrote.overtaken = one_sends (store.Phase phase.Mark) (Sends.of_phase _ refl refl)
sends Wrote.allocated = none_sends
sends Wrote.marks = none_sends
sends {n} (Wrote.mark {c}) = one_sends (store.Mark c n) (Sends.of_mark c refl refl)
sends Wrote.sweep = one_sends (store.Phase phase.Sweep) (Sends.of_phase _ refl refl)
sends Wrote.sweeps = none_sends

abbrev pub SendsOf : State → Store → Type 0
SendsOf s v = Sends (process_of s 0).sense (stretch_of (process_of s 0).place) (moment_of (process_of s 0).place (process_of s 0).stage) s.memory.fm v

pub collector_sends : (s : State) → Inv s → {v : Store} → StoreIn (waiting_of s 0) v → SendsOf s v
collector_sends s k {v} (StoreIn.pends e i h) = subst (SendsOf s) h (sends k.written e i)

-- ---- S5, S6
rests_rule : Checked (λ k j. pick (rests_of (stretch_of k)) (rests k) true)
rests_rule = ((((((((tt, refl), refl), refl), refl), refl), refl), refl), refl)

blank_rule : Checked (λ k j. pick (blank_of (stretch_of k) (moment_of k j)) (leb k row5_round) true)
blank_rule = ((((((((tt, refl), refl), refl), refl), refl), refl), refl), refl)

undeleting_rule : Checked (λ k j. pick (blank_of (stretch_of k) (moment_of k j)) (passed_of (λ h. not (deleting h)) k j) true)
undeleting_rule = ((((((((tt, refl), refl), refl), refl), refl), refl), refl), refl)

inserting_rule : Checked (λ k j. pick (leb 5 (stretch_no (stretch_of k))) (passed_of inserting k j) true)
inserting_rule = ((((((((tt, refl), refl), refl), refl), refl), refl), refl), refl)

uninserting_rule : Checked (λ k j. pick (idles_of (stretch_of k) (moment_of k j)) (passed_of (λ h. not (inserting h)) k j) true)
uninserting_rule = ((((((((tt, refl), refl), refl), refl), refl), refl), refl), refl)

pub era_of : EraOf
era_of s v = go (told v.inv.written)
  where
    go : ToldOf s → Era s
    go (Told.resting a b e) = Era.rested (v.rested.at (by_rule s v.inv (λ k j. rests_of (stretch_of k)) (λ k j. rests k) rests_rule a))
    go (Told.waits i a b) = Era.rested (v.rested.flip i)
    go (Told.blank e f a b g) =
        Era.blank f
        (by_rule s v.inv (λ k j. blank_of (stretch_of k) (moment_of k j)) (λ k j. leb k row5_round) blank_rule a)
        (λ m x y. not_true_false (deleting (process_of s m).part.phase) (rule_passes s v.inv (λ k j. blank_of (stretch_of k) (moment_of k j)) (λ h. not (deleting h)) undeleting_rule a m x y))
    go (Told.full e f a g h) = Era.marking (rule_passes s v.inv (λ k j. leb 5 (stretch_no (stretch_of k))) inserting inserting_rule a)

pub idle_marked : IdleMarked
idle_marked s v i = go (told v.inv.written)
  where
    go : ToldOf s → AllMarked s.memory ⊎ Every s (λ q. inserting q.part.phase ≡ false)
    go (Told.resting a b e) = inl (v.rested.at (by_rule s v.inv (λ k j. rests_of (stretch_of k)) (λ k j. rests k) rests_rule a))
    go (Told.waits h a b) = inl (v.rested.flip h)
    go (Told.blank e f a b g) = inr (λ m x y. not_true_false (inserting (process_of s m).part.phase) (rule_passes s v.inv (λ k j. idles_of (stretch_of k) (moment_of k j)) (λ h. not (inserting h)) uninserting_rule (g i) m x y))
    go (Told.full e f a g h) = absurd (g i)

-- ---- S8, S14
scanning_rule : Checked (λ k j. pick (in_scan k) (passed_of sweeping_of k j) true)
scanning_rule = ((((((((tt, refl), refl), refl), refl), refl), refl), refl), refl)

pub scanning_phase : Scanning
scanning_phase s v e m a b = is_sweeping (process_of s m).part.phase (rule_passes s v (λ k j. in_scan k) sweeping_of scanning_rule e m a b)

region_rule : Checked (λ k j. pick (region k j) (passed_of deleting k j) true)
region_rule = ((((((((tt, refl), refl), refl), refl), refl), refl), refl), refl)

pub region_deletes : RegionDeletes
region_deletes s v e = rule_passes s v region deleting region_rule e

-- ---- S12, and the noted fM
full_rule : Checked (λ k j. pick (leb row6_round k || rests k) (not (blank_of (stretch_of k) (moment_of k j))) true)
full_rule = ((((((((tt, refl), refl), refl), refl), refl), refl), refl), refl)

pub alloc_follows : AllocFollows
alloc_follows s v i = go (told v.written)
  where
    full : blank_of (stretch_of (process_of s 0).place) (moment_of (process_of s 0).place (process_of s 0).stage) ≡ false
    full = not_true_false _ (by_rule s v (λ k j. leb row6_round k || rests k) (λ k j. not (blank_of (stretch_of k) (moment_of k j))) full_rule (⊎_elim (or_left (rests (process_of s 0).place)) (or_right (leb row6_round (process_of s 0).place)) i))

    go : ToldOf s → s.memory.fa ≡ s.memory.fm
    go (Told.resting a b e) = e
    go (Told.waits h a b) = absurd (not_both a full)
    go (Told.blank e f a b g) = absurd (not_both a full)
    go (Told.full e f a g h) = f

late_rule : Checked (λ k j. pick (leb row6_round k) (late_of (stretch_of k)) true)
late_rule = ((((((((tt, refl), refl), refl), refl), refl), refl), refl), refl)

late : (s : State) → Inv s → leb row6_round (process_of s 0).place ≡ true → late_of (stretch_of (process_of s 0).place) ≡ true
late s v e = by_rule s v (λ k j. leb row6_round k) (λ k j. late_of (stretch_of k)) late_rule e

pub scan_noted : ScanNoted
scan_noted s v i = go (told v.written)
  where
    go : ToldOf s → (process_of s 0).sense ≡ s.memory.fm
    go (Told.resting a b e) = absurd (not_both (late s v i) b)
    go (Told.waits h a b) = absurd (not_both (late s v i) b)
    go (Told.blank e f a b g) = e
    go (Told.full e f a g h) = e

-- ---- S10: the phase
mark_rule : Checked (λ k j. pick (leb row6_round k and leb k row9_write) (marks_of (stretch_of k)) true)
mark_rule = ((((((((tt, refl), refl), refl), refl), refl), refl), refl), refl)

both_true : {a b : Bool} → a ≡ true → b ≡ true → (a and b) ≡ true
both_true e f = rw (e, f) refl

pub mark_phase : (s : State) → Inv s → leb row6_round (process_of s 0).place ≡ true → leb (process_of s 0).place row9_write ≡ true → s.memory.phase.phase ≡ phase.Mark
mark_phase s v i j = go (told v.written)
  where
    go : ToldOf s → s.memory.phase.phase ≡ phase.Mark
    go (Told.resting a b e) = absurd (not_both (late s v i) b)
    go (Told.waits h a b) = absurd (not_both (late s v i) b)
    go (Told.blank e f a b g) = absurd (not_both (late s v i) b)
    go (Told.full e f a g h) = h (by_rule s v (λ k j. leb row6_round k and leb k row9_write) (λ k j. marks_of (stretch_of k)) mark_rule (both_true i j))

-- a round that raises or polls with IdleMarkSweep posted is row 6's or 8's
asked_rule : Checked (λ k j. pick (busy_of k j and sweeping_of (posted_of k j)) (leb row6_round k and leb k row9_write) true)
asked_rule = ((((((((tt, refl), refl), refl), refl), refl), refl), refl), refl)

-- a mutator that is asked for its roots and has not answered
roots_line : {i : Bool} {k : RoundType} {a h : Handshake} → InTable i k a h → i ≡ false → k ≡ round.Roots → (sweeping_of a ≡ true) × (h ≡ hand.Mark)
roots_line InTable.idle e f = absurd (false≢true (sym e))
roots_line InTable.idle_init e f = absurd (false≢true (sym e))
roots_line InTable.init_mark e f = absurd (false≢true (sym e))
roots_line InTable.mark e f = absurd (false≢true (sym e))
roots_line InTable.roots e f = absurd (false≢true (sym e))
roots_line InTable.work e f = absurd (false≢true (sym e))
roots_line InTable.to_idle e f = absurd (false≢true cc)
roots_line InTable.to_idle_init e f = absurd (false≢true cc)
roots_line InTable.to_init_mark e f = absurd (false≢true cc)
roots_line InTable.to_mark e f = absurd (false≢true cc)
roots_line InTable.to_roots e f = (refl, refl)
roots_line InTable.to_work e f = absurd (false≢true cc)

pub roots_asked : RootsAsked
roots_asked s v m a b i = record { handshake = line.1; memory = mark_phase s v place.0 place.1 }
  where
    out : (process_of s m).part.in_step ≡ false
    out = (v.handshakes.table m a b).flag (v.handshakes.answering m a b round.Roots i).0

    line : (sweeping_of s.system.phase ≡ true) × ((process_of s m).part.phase ≡ hand.Mark)
    line = roots_line (v.handshakes.table m a b).line out (v.handshakes.answering m a b round.Roots i).1

    busy : (busy_of (process_of s 0).place (process_of s 0).stage ≡ true) ⊎ (busy_of (process_of s 0).place (process_of s 0).stage ≡ false) → busy_of (process_of s 0).place (process_of s 0).stage ≡ true
    busy (inl e) = e
    busy (inr e) = absurd (not_both (ap (λ (x : Part). x.in_step) (settled_handshakes s v.handshakes e m a b)) out)

    place : (leb row6_round (process_of s 0).place ≡ true) × (leb (process_of s 0).place row9_write ≡ true)
    place =
        and_both (leb row6_round (process_of s 0).place) (leb (process_of s 0).place row9_write)
        (by_rule s v (λ k j. busy_of k j and sweeping_of (posted_of k j)) (λ k j. leb row6_round k and leb k row9_write) asked_rule
        (both_true (busy (split (busy_of (process_of s 0).place (process_of s 0).stage))) (rw v.handshakes.posted at line.0)))

-- ---- who has what pending
-- stores of two kinds are not one
other_kind : {v u : Store} → v ≡ u → (kind_of (spot_of v) ≡ kind_of (spot_of u) → ⊥) → ⊥
other_kind e n = n (ap (λ (x : Store). kind_of (spot_of x)) e)

-- what is neither a mark nor a field is the collector's
of_collector : (s : State) → Inv s → (p : ℕ) (v : Store) → (MarkOrField v → ⊥) → StoreIn (waiting_of s p) v → p ≡ 0
of_collector s k p v n (StoreIn.pends e i h) = by_cases (ℕ_discrete p 0) (λ z. z) (λ z. absurd (n (subst MarkOrField h (k.stores p (omega arith) e i))))

no_sense : {v : Store} {b : Bool} → v ≡ store.Sense b → MarkOrField v → ⊥
no_sense e MarkOrField.mark = other_kind e (λ i. omega arith)
no_sense e MarkOrField.field = other_kind e (λ i. omega arith)

no_alloc : {v : Store} {b : Bool} → v ≡ store.AllocSense b → MarkOrField v → ⊥
no_alloc e MarkOrField.mark = other_kind e (λ i. omega arith)
no_alloc e MarkOrField.field = other_kind e (λ i. omega arith)

flip_rule : Checked (λ k j. pick (flip_of (stretch_of k) (moment_of k j)) (quiet k j) true)
flip_rule = ((((((((tt, refl), refl), refl), refl), refl), refl), refl), refl)

idle_rule : Checked (λ k j. pick (flip_of (stretch_of k) (moment_of k j)) (passed_of idle_of k j) true)
idle_rule = ((((((((tt, refl), refl), refl), refl), refl), refl), refl), refl)

pub flip_waits : FlipWaits
flip_waits s v p b i = (z, go (collector_sends s v (rw z at i)))
  where
    z : p ≡ 0
    z = of_collector s v p (store.Sense b) (no_sense refl) i

    go : SendsOf s (store.Sense b) → Every s (λ q. q.part.phase ≡ hand.Idle) × (quiet (process_of s 0).place (process_of s 0).stage ≡ true)
    go (Sends.of_phase h e f) = absurd (other_kind e (λ i. omega arith))
    go (Sends.of_sense e f) = (
      λ m x y. is_idle_lem (process_of s m).part.phase (rule_passes s v (λ k j. flip_of (stretch_of k) (moment_of k j)) idle_of idle_rule f m x y),
      by_rule s v (λ k j. flip_of (stretch_of k) (moment_of k j)) quiet flip_rule f,
    )
    go (Sends.of_alloc e f) = absurd (other_kind e (λ i. omega arith))
    go (Sends.of_mark c e f) = absurd (other_kind e (λ i. omega arith))

pub alloc_waits : AllocWaits
alloc_waits s v p b i = (z, go (collector_sends s v (rw z at i)))
  where
    z : p ≡ 0
    z = of_collector s v p (store.AllocSense b) (no_alloc refl) i

    go : SendsOf s (store.AllocSense b) → b ≡ s.memory.fm
    go (Sends.of_phase h e f) = absurd (other_kind e (λ i. omega arith))
    go (Sends.of_sense e f) = absurd (other_kind e (λ i. omega arith))
    go (Sends.of_alloc e f) = ap bit_of e ∙ f
    go (Sends.of_mark c e f) = absurd (other_kind e (λ i. omega arith))

pub collector_fields : CollectorFields
collector_fields s v p c f x (StoreIn.pends e i h) = (
  by_cases (ℕ_discrete p 0) (λ z. absurd (go (collector_sends s v (rw z at (StoreIn.pends e i h))))) (λ z. omega arith),
  by_cases (dec_lt p s.memory.processes) (λ l. omega arith) (λ l. absurd (Memᴰ.not-nil (rw (none l) at i))),
)
  where
    go : SendsOf s (store.Field c f x) → ⊥
    go (Sends.of_phase h e f) = other_kind e (λ i. omega arith)
    go (Sends.of_sense e f) = other_kind e (λ i. omega arith)
    go (Sends.of_alloc e f) = other_kind e (λ i. omega arith)
    go (Sends.of_mark c e f) = other_kind e (λ i. omega arith)

    none : (p < s.memory.processes → ⊥) → waiting_of s p ≡ []
    none n = ⊎_elim (λ l. rw (v.formed.memory.process_none p (omega arith) l) refl) (λ l. sym (pending_is s.memory p) ∙ pending_absent s.memory (shaped s.memory v.formed.memory) p l) (there_or_not p)
