-- B19: the sweep. Assumes nothing.
--     step_swept     after each step: at the flip no sweep is on; the collector's own steps by rows, another's and a
--                    commit by what they do to memory
use mathlib.Core.Path.{◌≡◌, refl, sym, ap, ◌∙◌}
use mathlib.Core.Bool.{Bool, true, false, not, false≢true, not-eq-not}
use mathlib.Core.Logic.{◌⊎◌, inl, inr, ⊎_elim, by_cases}
use Prim.Native.Nat.{ℕ, ◌≤◌}
use native.Mathlib.Omega.{arith}
use native.Mathlib.Decide.{ℕ_discrete}
use lib.Dec.{leb}
use lib.ListN.{get_or}
use Rattle.base.specs.Pick.{pick}
use Rattle.cells.specs.Sets.{Member, remove_of}
use Rattle.cells.proofs.Bools.{not_both}
use Rattle.cells.proofs.Members.{in_remove, remove_keeps, full_has}
use Rattle.buffers.specs.declared.Store.TheVariants as store
use Rattle.buffers.specs.Fits.{IsCell}
use Rattle.memory.specs.declared.Memory.{Memory}
use Rattle.memory.specs.Memories.{used_of, mark_of}
use Rattle.memory.specs.Looks.{look_swept_of}
use Rattle.memory.proofs.Effects.{free_used}
use Rattle.state.specs.declared.RoundType.{RoundType}
use Rattle.state.specs.declared.Process.{Process}
use Rattle.state.specs.declared.State.{State}
use Rattle.state.specs.declared.Choice.{Choice}
use Rattle.state.specs.Codes.{row6_round, row9_write, row10_look, row10_free}
use Rattle.state.specs.States.{no_process, mutators_of, process_of, with_process_of, with_memory, with_system}
use Rattle.model.specs.Rows.{finds_free, finds_mark, Marks, Round, all_off, with_processes, flagged, Collector, Row}
use Rattle.model.specs.Reasons.{mover}
use Rattle.stays_formed.specs.Leaves.{Occupied}
use Rattle.stays_formed.proofs.Kept.{row_kept}
use Rattle.stays_formed.proofs.Leaves.{row_counts, row_used}
use Rattle.verdict.specs.Colours.{White}
use Rattle.claims.specs.Pending.{waiting_of}
use Rattle.claims.proofs.Rules.{Checked, ruled}
use Rattle.claims.proofs.Answering.{implied}
use Rattle.spared.specs.Shades.{Marked}
use Rattle.spared.specs.Holds.{StoreIn}
use Rattle.spared.specs.Zones.{in_sweep, deleting}
use Rattle.spared.specs.Swept.{SweptBy, SweptMarked}
use Rattle.spared.specs.Views.{Effect, Aside}
use Rattle.spared.specs.Inv.{Spared}
use Rattle.spared.specs.Lemmas.{Flip, RowsKeep}
use Rattle.spared.proofs.Arrivals.{After, arrives}
use Rattle.spared.proofs.Effects.{row_effect}
use Rattle.spared.proofs.Paces.{row_aside}
use Rattle.spared.proofs.Sights.{sweep_mark, sweep_free}
use Rattle.spared.proofs.Eras.{alloc_follows, scan_noted}
use Rattle.spared.proofs.Flips.{row_sense}
use Rattle.spared.proofs.Stays.{marked_stays, used_or_freed}
use Rattle.spared.proofs.Covers.{Onward, mark_carries}
use Rattle.spared.proofs.Quiets.{sweeping_ended}

-- ---- the sweep is past row 9, and so past row 6
abbrev past_rule_lem : ℕ → ℕ → Bool
past_rule_lem k j = pick (in_sweep k) (leb row9_write k) true

past_rule : Checked past_rule_lem
past_rule = ((((((((tt, refl), refl), refl), refl), refl), refl), refl), refl)

abbrev marking_rule_lem : ℕ → ℕ → Bool
marking_rule_lem k j = pick (in_sweep k) (leb row6_round k) true

marking_rule : Checked marking_rule_lem
marking_rule = ((((((((tt, refl), refl), refl), refl), refl), refl), refl), refl)

-- ---- where no sweep is on
away : {m : Memory} (o : Process) {k : ℕ} → o.place ≡ k → in_sweep k ≡ false → SweptBy m o
away o e a = record { swept = λ i. absurd (not_both i (rw e a)); white = λ h. absurd (let i : in_sweep o.place ≡ true = rw h refl in not_both i (rw e a)) }

round_away : {k j l : ℕ} {t : RoundType} → Round k t j l → (in_sweep k ≡ false) × (in_sweep j ≡ false)
round_away Round.row1 = (refl, refl)
round_away Round.row3 = (refl, refl)
round_away Round.row4 = (refl, refl)
round_away Round.row5 = (refl, refl)
round_away Round.row6 = (refl, refl)
round_away Round.row8 = (refl, refl)

marks_away : {q : Process} {r : ℕ} → Marks q r → in_sweep q.place ≡ false
marks_away (Marks.old e) = rw e refl
marks_away (Marks.new e) = rw e refl
marks_away (Marks.root e) = rw e refl
marks_away (Marks.field e) = rw e refl

onward_away : {q o : Process} {r : ℕ} → Marks q r → Onward q o → in_sweep o.place ≡ false
onward_away m (Onward.on e f) = rw e (marks_away m)
onward_away m (Onward.write e f z) = rw f refl
onward_away m (Onward.new e f) = rw f refl
onward_away m (Onward.marked e f) = rw f refl
onward_away m (Onward.roots e f) = rw f refl
onward_away m (Onward.root e f) = rw f refl
onward_away m (Onward.fields e f) = rw f refl
onward_away m (Onward.field e f) = rw f refl

not_free : {k : ℕ} → k ≡ row10_look → k ≡ row10_free → ⊥
not_free e f = omega arith

-- ---- a commit keeps what is occupied
commit_used : {c : Choice} {q : Process} {u n : ℕ} → c.kind ≡ 1 → Occupied c q u n → (d : ℕ) → Member u d → Member n d
commit_used k Occupied.same d i = i
commit_used k (Occupied.more z a o) d i = absurd (omega arith)
commit_used k (Occupied.less z a) d i = absurd (omega arith)

-- ---- another's step, and a commit, where fM stays
module _ (s t : State) (c : Choice) (v : Spared s) (r : Row s c t) (same : t.memory.fm ≡ s.memory.fm) where
  abbrev q : Process
  q = process_of s 0

  known : Effect c (mover s c) (waiting_of s c.process) s.memory t.memory
  known = row_effect s t c v.inv.formed r

  -- what is occupied was so, or is new and marked
  used_was : s.memory.fa ≡ s.memory.fm → (d : ℕ) → used_of t.memory d ≡ true → Effect c (mover s c) (waiting_of s c.process) s.memory t.memory → (used_of s.memory d ≡ true) ⊎ Marked t.memory d
  used_was k d h (Effect.calm u a f z) = inl (sym (u d) ∙ h)
  used_was k d h (Effect.marks i o e a u f z) = inl (sym (u d) ∙ h)
  used_was k d h (Effect.stores i o b e a u m z) = inl (sym (u d) ∙ h)
  used_was k d h (Effect.flips i e j u a f) = inl (sym (u d) ∙ h)
  used_was k d h (Effect.follows i e j u a f) = inl (sym (u d) ∙ h)
  used_was k d h (Effect.allocates a o i f u e z b j w y) =
      by_cases (ℕ_discrete d c.x) (λ n. inr (record { occupied = h; equal = rw n (e ∙ k ∙ sym same) })) (λ n. inl (sym (b d n) ∙ h))
  used_was k d h (Effect.frees a u b j w z) = by_cases (ℕ_discrete d (mover s c).x) (λ n. absurd (not_both h (rw n u))) (λ n. inl (sym (b d n) ∙ h))

  -- no mark is pending: that of a cell that is and was occupied stays
  mark_stays : ((p x : ℕ) (b : Bool) → StoreIn (waiting_of s p) (store.Mark x b) → ⊥) → (d : ℕ) → used_of s.memory d ≡ true → used_of t.memory d ≡ true →
      Effect c (mover s c) (waiting_of s c.process) s.memory t.memory → mark_of t.memory d ≡ mark_of s.memory d
  mark_stays k d g h (Effect.calm u a f z) = a d
  mark_stays k d g h (Effect.marks {x} {b} i o e a u f z) = absurd (k c.process x b i)
  mark_stays k d g h (Effect.stores i o b e a u m z) = m d
  mark_stays k d g h (Effect.flips i e j u a f) = a d
  mark_stays k d g h (Effect.follows i e j u a f) = a d
  mark_stays k d g h (Effect.allocates a o i f u e z b j w y) = by_cases (ℕ_discrete d c.x) (λ n. absurd (not_both g (rw n f))) (λ n. j d n)
  mark_stays k d g h (Effect.frees a u b j w z) = by_cases (ℕ_discrete d (mover s c).x) (λ n. absurd (not_both h (rw n u))) (λ n. j d n)

  aside_sweeps : {o : Process} → ((d : ℕ) → used_of s.memory d ≡ true → used_of t.memory d ≡ true) → Aside q o → SweptBy t.memory o
  aside_sweeps used (Aside.aside f i e) =
      rw e (record {
        swept = λ h d u. ⊎_elim (λ g. still d (v.swept.swept h d g)) (λ g. inr (inl g)) (used_was (follows h) d u known);
        white = λ h. white_still h (v.swept.white h);
      })
    where
      follows : in_sweep q.place ≡ true → s.memory.fa ≡ s.memory.fm
      follows h = alloc_follows s v.inv (inl (implied (in_sweep q.place) (ruled marking_rule_lem marking_rule s v.inv.formed) h))

      still : (d : ℕ) → (Member q.left d) ⊎ ((Marked s.memory d) ⊎ ((q.place ≡ row10_free) × (q.x ≡ d))) → (Member q.left d) ⊎ ((Marked t.memory d) ⊎ ((q.place ≡ row10_free) × (q.x ≡ d)))
      still d (inl g) = inl g
      still d (inr (inl g)) = inr (inl (marked_stays s t c v r same d g))
      still d (inr (inr g)) = inr (inr g)

      white_still : q.place ≡ row10_free → White s.memory q.x → White t.memory q.x
      white_still h w =
          let u = used q.x w.occupied in
          let p : leb row9_write q.place ≡ true = rw h refl in
          record { occupied = u; unequal = λ k. w.unequal (sym (mark_stays (sweeping_ended s v p).1 q.x w.occupied u known) ∙ k ∙ same) }

-- ---- the collector's own step: it is o after it, and memory is that of x
abbrev Ended : State → Type 0
Ended t = After (SweptBy t.memory) 0 t

module _ (s : State) (c : Choice) (v : Spared s) where
  plain : {k : ℕ} (x : State) (o : Process) → o.place ≡ k → in_sweep k ≡ false → Ended (with_process_of x 0 o)
  plain x o e a = After.after x o (away o e a)

  noted : (process_of s 0).place ≡ row10_look → (process_of s 0).sense ≡ s.memory.fm
  noted e = scan_noted s v.inv (rw e refl)

  -- x is looked at: what is left is left still but for x
  looked : (x d : ℕ) (P : Type 0) → (process_of s 0).place ≡ row10_look → (x ≡ d → P) → used_of s.memory d ≡ true → (Member (remove_of (process_of s 0).left x) d) ⊎ ((Marked s.memory d) ⊎ P)
  looked x d P e f u = go (v.swept.swept (rw e refl) d u)
    where
      go : (Member (process_of s 0).left d) ⊎ ((Marked s.memory d) ⊎ (((process_of s 0).place ≡ row10_free) × ((process_of s 0).x ≡ d))) → (Member (remove_of (process_of s 0).left x) d) ⊎ ((Marked s.memory d) ⊎ P)
      go (inl h) = by_cases (ℕ_discrete x d) (λ z. inr (inr (f z))) (λ z. inl (remove_keeps (process_of s 0).left x d h z))
      go (inr (inl h)) = inr (inl h)
      go (inr (inr h)) = absurd (not_free e h.0)

  -- .. and is free, or marked with the noted fM
  spared_marked : (x : ℕ) → (process_of s 0).place ≡ row10_look → (look_swept_of s.memory 0 x ≡ finds_free) ⊎ (look_swept_of s.memory 0 x ≡ finds_mark (process_of s 0).sense) → used_of s.memory x ≡ true → Marked s.memory x
  spared_marked x e (inl h) u = absurd (not_both u (sweep_free s.memory 0 x h))
  spared_marked x e (inr h) u = record { occupied = u; equal = (sweep_mark s v.inv e x (process_of s 0).sense h).1 ∙ noted e }

  own_sweeps : {t : State} → ((d : ℕ) → Marked s.memory d → Marked t.memory d) → ((d : ℕ) → used_of t.memory d ≡ true → IsCell s.memory.cells d) → Collector s c 0 (process_of s 0) t → Ended t
  own_sweeps z u (Collector.fences r a b e) = plain s _ refl (round_away r).0
  own_sweeps z u (Collector.types r a b h) = plain (with_processes (with_system s _) (all_off s.procs)) _ refl (round_away r).0
  own_sweeps z u (Collector.raises r a b m e) = plain (with_process_of s c.x (flagged (process_of s c.x))) _ a.place (round_away r).0
  own_sweeps z u (Collector.raises_last r a b m e) = plain (with_process_of s c.x (flagged (process_of s c.x))) _ refl (round_away r).0
  own_sweeps z u (Collector.polls_up r a b m e) = plain s _ a.place (round_away r).0
  own_sweeps z u (Collector.polls r a b m e h) = plain s _ a.place (round_away r).0
  own_sweeps z u (Collector.polls_last r a b m e h) = plain s _ refl (round_away r).1
  own_sweeps z u (Collector.reads_sense a b e) = plain s _ refl refl
  own_sweeps z u (Collector.writes_sense a b {m} e) = plain (with_memory s m) _ refl refl
  own_sweeps z u (Collector.writes_init a b {m} e) = plain (with_memory s m) _ refl refl
  own_sweeps z u (Collector.writes_mark a b {m} e) = plain (with_memory s m) _ refl refl
  own_sweeps z u (Collector.writes_alloc a b {m} e) = plain (with_memory s m) _ refl refl
  own_sweeps z u (Collector.takes a b h) = plain (with_system s _) _ refl refl
  own_sweeps z u (Collector.takes_none a b h) = plain (with_system s _) _ refl refl
  own_sweeps z u (Collector.reads_first a b e h) = plain s _ refl refl
  own_sweeps z u (Collector.reads_first_null a b e) = plain s _ refl refl
  own_sweeps z u (Collector.marks b i {m} {t = o} e) = plain (with_memory s m) o refl (onward_away i (mark_carries e).way)
  own_sweeps z u (Collector.reads_next a b e h) = plain s _ refl refl
  own_sweeps z u (Collector.reads_next_null a b e h) = plain s _ refl refl
  own_sweeps z u (Collector.reads_last_null a b e h) = plain s _ refl refl
  own_sweeps z u (Collector.drops a b h) = plain s _ refl refl
  own_sweeps z u (Collector.drops_last a b h) = plain s _ refl refl
  own_sweeps z u (Collector.writes_sweep a b {m} e) =
      let few = v.inv.formed.memory.few_cells in
      After.after (with_memory s m) _ (record { swept = λ _ d h. let k = u d h in inl (full_has s.memory.cells d k.0 k.1 (omega (arith, k.1))); white = λ h. absurd (not_free refl h) })
  own_sweeps z u (Collector.spares a b m e h) =
      After.after s _ (record {
        swept = λ _ d g. ⊎_elim inl (λ k. inr (inl (⊎_elim (λ i. i) (λ i. i) k))) (looked c.x d (Marked s.memory d) a.place (λ i. rw i at (spared_marked c.x a.place e (rw i g))) g);
        white = λ i. absurd (not_free a.place i);
      })
  own_sweeps z u (Collector.spares_last a b m e h) = plain s _ refl refl
  own_sweeps z u (Collector.condemns a b m e) =
      After.after s _ (record {
        swept = λ _ d g. looked c.x d _ a.place (λ i. (refl, i)) g;
        white = λ _. let k = sweep_mark s v.inv a.place c.x (not (process_of s 0).sense) e in
            record { occupied = k.0; unequal = λ i. not-eq-not.1 refl (noted a.place ∙ sym i ∙ k.1) };
      })
  own_sweeps z u (Collector.frees a b {m} e h) =
      After.after (with_memory s m) _ (record { swept = λ _ d g. left d (in_remove s.memory.used (process_of s 0).x d (rw (free_used s.memory 0 (process_of s 0).x e) at g)); white = λ i. absurd (not_free refl i) })
    where
      left : (d : ℕ) → (Member s.memory.used d) × ((process_of s 0).x ≡ d → ⊥) → (Member (process_of s 0).left d) ⊎ ((Marked m d) ⊎ ((row10_look ≡ row10_free) × (0 ≡ d)))
      left d g = go (v.swept.swept (rw a.place refl) d g.0)
        where
          go : (Member (process_of s 0).left d) ⊎ ((Marked s.memory d) ⊎ (((process_of s 0).place ≡ row10_free) × ((process_of s 0).x ≡ d))) → (Member (process_of s 0).left d) ⊎ ((Marked m d) ⊎ ((row10_look ≡ row10_free) × (0 ≡ d)))
          go (inl k) = inl k
          go (inr (inl k)) = inr (inl (z d k))
          go (inr (inr k)) = absurd (g.1 k.1)
  own_sweeps z u (Collector.frees_last a b {m} e h) = plain (with_memory s m) _ refl refl
  own_sweeps z u (Collector.writes_idle a b {m} e) = plain (with_memory s m) _ refl refl

-- ---- a step
module _ (s : State) (c : Choice) (v : Spared s) where
  stays_swept : {t : State} → t.memory.fm ≡ s.memory.fm → Row s c t → SweptMarked t
  stays_swept {t} e (Row.collector x z r) =
      let w = Row.collector x z r in
      let g = row_kept s c v.inv.formed w in
      arrives (omega arith) g (own_sweeps s c v (marked_stays s t c v w e) (λ d u. rw (row_counts w).cells at (g.memory.used_cells d u)) r)
  stays_swept {t} e (Row.mutator x z pos mine r) =
      let w = Row.mutator x z pos mine r in
      aside_sweeps s t c v w e (λ d u. ⊎_elim (λ i. i) (λ i. absurd (omega (arith, i.1.1))) (used_or_freed s t c v w d u)) (row_aside s t c v.inv.formed w 0 (λ i. omega arith))
  stays_swept {t} e (Row.commits x z mine y h) =
      let w = Row.commits x z mine y h in
      aside_sweeps s t c v w e (commit_used x (row_used w)) (Aside.aside _ _ refl)

  -- the sweep runs with all in IdleMarkSweep, and there is a mutator
  flip_swept : {t : State} → Flip s t → SweptMarked t
  flip_swept {t} f = rw same (record { swept = λ i. absurd (none i); white = λ e. absurd (none (rw e refl)) })
    where
      same : process_of t 0 ≡ process_of s 0
      same = ap (λ l. get_or l 0 no_process) f.procs

      none : in_sweep (process_of s 0).place ≡ true → ⊥
      none i =
          let k = implied (in_sweep (process_of s 0).place) (ruled past_rule_lem past_rule s v.inv.formed) i in
          let some : 1 ≤ mutators_of s = omega (arith, v.inv.formed.memory.some_processes) in
          false≢true (ap deleting (sym (f.idle 1 (omega arith) some) ∙ (sweeping_ended s v k).0 1 (omega arith) some))

pub step_swept : RowsKeep SweptMarked
step_swept s t c v r = ⊎_elim (λ e. stays_swept s c v e r) (flip_swept s c v) (row_sense s t c v r)
