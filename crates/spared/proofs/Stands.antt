-- B14a, B15a and B16, where memory's fM stays: what a mutator that runs a store or gives its roots has covered.
-- Assumes nothing.
--     Stands          the three of a process
--     step_stands     of each mutator after a step
--     rooting         who gives its roots is in handshake phase Mark
use mathlib.Core.Path.{◌≡◌, refl, sym, subst, ◌∙◌}
use mathlib.Core.Bool.{Bool, true, false, false≢true}
use mathlib.Core.Logic.{◌⊎◌, inl, inr, ⊎_elim, by_cases}
use Prim.Native.Nat.{ℕ, ◌≤◌, ◌<◌}
use native.Mathlib.Omega.{arith}
use native.Mathlib.Decide.{ℕ_discrete}
use lib.Dec.{eqb}
use Rattle.base.specs.Pick.{pick}
use Rattle.cells.specs.Sets.{Member, member_of, remove_of}
use Rattle.cells.proofs.Bools.{split, not_both}
use Rattle.cells.proofs.Members.{member_empty, remove_keeps}
use Rattle.memory.specs.declared.Memory.{Memory}
use Rattle.memory.specs.Memories.{field_of}
use Rattle.memory.specs.Looks.{look_field_of}
use Rattle.state.specs.declared.Handshake.{Handshake}
use Rattle.state.specs.declared.Handshake.TheVariants as hand
use Rattle.state.specs.declared.RoundType.{RoundType}
use Rattle.state.specs.declared.Process.{Process}
use Rattle.state.specs.declared.State.{State}
use Rattle.state.specs.declared.Choice.{Choice}
use Rattle.state.specs.Codes.{roots_fence, roots_mark, roots_finish, no_stage, look_stage}
use Rattle.state.specs.States.{at, mutators_of, process_of, with_process_of, with_memory, with_system}
use Rattle.formed.specs.Fits.{among_of, Among}
use Rattle.formed.proofs.Gives.{roots_first_at}
use Rattle.model.specs.Rows.{At, sees_value, Marks, Mark, Branch, Mutator, with_list, Row}
use Rattle.stays_formed.proofs.Frames.{named}
use Rattle.stays_formed.proofs.Kept.{row_kept}
use Rattle.claims.specs.Pending.{waiting_of}
use Rattle.spared.specs.Shades.{Marked, NullOrMarked, Covered}
use Rattle.spared.specs.Zones.{store_places, insert_places, root_places, inserting, deleting}
use Rattle.spared.specs.Barriers.{Barrier}
use Rattle.spared.specs.Views.{Aside}
use Rattle.spared.specs.Inv.{Spared}
use Rattle.spared.proofs.Arrivals.{After, arrives}
use Rattle.spared.proofs.Paces.{row_aside}
use Rattle.spared.proofs.Sights.{look_field_lem}
use Rattle.spared.proofs.Eras.{roots_asked}
use Rattle.spared.proofs.Stays.{marked_stays}
use Rattle.spared.proofs.Covers.{shaken, covered_stays, mark_covers, Onward, Carries, mark_carries}
use Rattle.spared.proofs.Overs.{mark_over_lem}
use Rattle.spared.proofs.Fields.{FieldAfter, field_after}

pub record Stands (m : Memory) (q : Process) : Type 0 where
  pub inserts : inserting q.part.phase ≡ true → Among q.place insert_places → Covered m q q.y
  pub deletes : deleting q.part.phase ≡ true → Among q.place store_places → Covered m q (field_of m q.x q.f)
  pub roots : Among q.place root_places → (c : ℕ) → Member q.roots c → member_of q.left c ≡ false → Covered m q c

-- where none of them speaks
elsewhere : {m : Memory} (o : Process) {k : ℕ} → o.place ≡ k → among_of k insert_places ≡ false → among_of k store_places ≡ false → among_of k root_places ≡ false → Stands m o
elsewhere o e a b d = record { inserts = λ _ i. absurd (not_both i (rw e a)); deletes = λ _ i. absurd (not_both i (rw e b)); roots = λ i. absurd (not_both i (rw e d)) }

branch_elsewhere : {k : RoundType} {j : ℕ} → Branch k j → (among_of j insert_places ≡ false) × ((among_of j store_places ≡ false) × (among_of j root_places ≡ false))
branch_elsewhere Branch.noop = (refl, (refl, refl))
branch_elsewhere Branch.roots = (refl, (refl, refl))
branch_elsewhere Branch.work = (refl, (refl, refl))

-- who deletes inserts
deletes_inserts : (h : Handshake) → deleting h ≡ true → inserting h ≡ true
deletes_inserts hand.Idle e = e
deletes_inserts hand.IdleInit e = e
deletes_inserts hand.InitMark e = refl
deletes_inserts hand.Mark e = e
deletes_inserts hand.IdleMarkSweep e = e

later : (b : Bool) {a : Bool} → a ≡ true → pick b true a ≡ true
later true e = refl
later false e = e

pub rooting : (s : State) → Spared s → (m : ℕ) → 0 < m → m ≤ mutators_of s → Among (process_of s m).place root_places → (process_of s m).part.phase ≡ hand.Mark
rooting s v m a b i = (roots_asked s v.inv m a b (later (eqb (process_of s m).place roots_fence) i)).handshake

same_field : (m : Memory) {x y f g : ℕ} → x ≡ y → f ≡ g → field_of m y g ≡ field_of m x f
same_field m e h = rw (e, h) refl

-- ---- a step of a mark: the place was one of the same list
module _ {q o : Process} where
  deleted_before : Onward q o → Among o.place store_places → Among q.place store_places
  deleted_before (Onward.on e f) a = rw e at a
  deleted_before (Onward.write e f z) a = rw e refl
  deleted_before (Onward.new e f) a = rw e refl
  deleted_before (Onward.marked e f) a = rw e refl
  deleted_before (Onward.roots e f) a = absurd (false≢true (rw f at a))
  deleted_before (Onward.root e f) a = absurd (false≢true (rw f at a))
  deleted_before (Onward.fields e f) a = absurd (false≢true (rw f at a))
  deleted_before (Onward.field e f) a = absurd (false≢true (rw f at a))

  rooted_before : Onward q o → Among o.place root_places → Among q.place root_places
  rooted_before (Onward.on e f) a = rw e at a
  rooted_before (Onward.write e f z) a = absurd (false≢true (rw f at a))
  rooted_before (Onward.new e f) a = absurd (false≢true (rw f at a))
  rooted_before (Onward.marked e f) a = absurd (false≢true (rw f at a))
  rooted_before (Onward.roots e f) a = rw e refl
  rooted_before (Onward.root e f) a = rw e refl
  rooted_before (Onward.fields e f) a = absurd (false≢true (rw f at a))
  rooted_before (Onward.field e f) a = absurd (false≢true (rw f at a))

  -- .. but where the mark of y begins, or y is null
  inserted_now : {m : Memory} → (Among q.place insert_places → Covered m o o.y) → Onward q o → Among o.place insert_places → Covered m o o.y
  inserted_now g (Onward.on e f) a = g (rw e at a)
  inserted_now g (Onward.write e f z) a = Covered.safe (inl z)
  inserted_now g (Onward.new e f) a = Covered.now (Marks.new f)
  inserted_now g (Onward.marked e f) a = g (rw e refl)
  inserted_now g (Onward.roots e f) a = absurd (false≢true (rw f at a))
  inserted_now g (Onward.root e f) a = absurd (false≢true (rw f at a))
  inserted_now g (Onward.fields e f) a = absurd (false≢true (rw f at a))
  inserted_now g (Onward.field e f) a = absurd (false≢true (rw f at a))

-- ---- of mutator p, where the state becomes t
module _ (s : State) (v : Spared s) (p : ℕ) (pos : 0 < p) (mine : p ≤ mutators_of s) where
  abbrev q : Process
  q = process_of s p

  before : Barrier s.memory (waiting_of s p) q
  before = v.barriers p pos mine

  -- what it overwrites, where memory's field may have changed
  overwrites : (t : State) {o : Process} → ((d g : ℕ) → FieldAfter s t d g) → deleting q.part.phase ≡ true → (Covered s.memory q (field_of s.memory q.x q.f) → Covered t.memory o (field_of s.memory q.x q.f)) →
      Among q.place store_places → Covered t.memory o (field_of t.memory q.x q.f)
  overwrites t {o} fields d k a = go (fields q.x q.f)
    where
      go : FieldAfter s t q.x q.f → Covered t.memory o (field_of t.memory q.x q.f)
      go (FieldAfter.same h) = subst (Covered t.memory o) (sym h) (k (before.deletes d a))
      go (FieldAfter.safe h) = Covered.safe h
      go (FieldAfter.blank h i) = absurd (not_both d (i p pos mine))

  -- another's step, and a commit
  aside_stands : (t : State) {o : Process} → ((d : ℕ) → Marked s.memory d → Marked t.memory d) → ((d g : ℕ) → FieldAfter s t d g) → Aside q o → Stands t.memory o
  aside_stands t stays fields (Aside.aside r i e) =
      rw e (record {
        inserts = λ h a. covered_stays stays (shaken r i) (before.inserts h a);
        deletes = λ h a. overwrites t fields h (covered_stays stays (shaken r i)) a;
        roots = λ a c k l. covered_stays stays (shaken r i) (before.roots a c k l);
      })

  -- its own step of a mark
  mark_stands : (t : State) {r : ℕ} {o : Process} → ((d : ℕ) → Marked s.memory d → Marked t.memory d) → ((d g : ℕ) → FieldAfter s t d g) → Marks q r → (q.place ≡ roots_mark → q.stage ≡ look_stage → ⊥) →
      Mark s.memory p r q t.memory o → Stands t.memory o
  mark_stands t {r} {o} stays fields m first e =
      record {
        inserts = λ h a. inserted_now (λ i. subst (Covered t.memory o) (sym k.y) (cover (rw k.part at h) (before.inserts (rw k.part at h) i))) k.way a;
        deletes = λ h a. let d = rw k.part at h in
            subst (Covered t.memory o) (same_field t.memory k.x k.f) (overwrites t fields d (cover (deletes_inserts q.part.phase d)) (deleted_before k.way a));
        roots = λ a c i l. let b = rooted_before k.way a in
            cover (rw (rooting s v p pos mine b) refl) (before.roots b c (rw k.roots at i) (rw k.left at l));
      }
    where
      k : Carries q o
      k = mark_carries e

      cover : {u : ℕ} → inserting q.part.phase ≡ true → Covered s.memory q u → Covered t.memory o u
      cover i = mark_covers m (mark_over_lem s v p r mine (λ _. i) m first) stays e

  -- the old value that a store reads is memory's, or memory's is null or marked
  reads_old : (x f : ℕ) {w : ℕ} → f ≤ 1 → look_field_of s.memory p x f ≡ sees_value w → deleting q.part.phase ≡ true → (w ≡ field_of s.memory x f) ⊎ NullOrMarked s.memory (field_of s.memory x f)
  reads_old x f {w} l e d = ⊎_elim inl (λ i. inr (before.deleted d x f w i)) (look_field_lem s p x f w (omega arith) e)

  reads_null : {o : Process} (x f : ℕ) → f ≤ 1 → look_field_of s.memory p x f ≡ sees_value 0 → deleting q.part.phase ≡ true → Covered s.memory o (field_of s.memory x f)
  reads_null x f l e d = Covered.safe (⊎_elim (λ i. inl (sym i)) (λ i. i) (reads_old x f l e d))

  -- the root that is looked at is being marked; the others that are not left were covered, and no mark was on
  looks_root : (o : Process) (x : ℕ) → At roots_mark look_stage q → Marks o x → Among q.place root_places → (c : ℕ) → Member q.roots c → member_of (remove_of q.left x) c ≡ false → Covered s.memory o c
  looks_root o x a m b c i l = by_cases (ℕ_discrete x c) (λ e. Covered.now (subst (Marks o) e m)) (λ e. go (before.roots b c i (gone e (split (member_of q.left c)))))
    where
      gone : (x ≡ c → ⊥) → (member_of q.left c ≡ true) ⊎ (member_of q.left c ≡ false) → member_of q.left c ≡ false
      gone e (inl h) = absurd (not_both (remove_keeps q.left x c h e) l)
      gone e (inr h) = h

      none : {u : ℕ} → Marks q u → u ≡ 0
      none (Marks.old e) = absurd (omega (arith, a.place))
      none (Marks.new e) = absurd (omega (arith, a.place))
      none (Marks.root e) = (roots_first_at a.place a.stage (v.inv.formed.mutators p pos mine)).mark.no_cell
      none (Marks.field e) = absurd (omega (arith, a.place))

      go : Covered s.memory q c → Covered s.memory o c
      go (Covered.safe h) = Covered.safe h
      go (Covered.now h) = Covered.safe (inl (none h))

-- ---- its own step: it is o after it, and memory is that of x
abbrev Ended : ℕ → State → Type 0
Ended p t = After (Stands t.memory) p t

module _ (s : State) (c : Choice) (v : Spared s) (p : ℕ) (pos : 0 < p) (mine : p ≤ mutators_of s) where
  idle : {k : ℕ} (x : State) (o : Process) → o.place ≡ k → among_of k insert_places ≡ false → among_of k store_places ≡ false → among_of k root_places ≡ false → Ended p (with_process_of x p o)
  idle x o e a b d = After.after x o (elsewhere o e a b d)

  own_stands : {t : State} → ((d : ℕ) → Marked s.memory d → Marked t.memory d) → ((d g : ℕ) → FieldAfter s t d g) → Mutator s c p (process_of s p) t → Ended p t
  own_stands z f (Mutator.allocates a o x l g y {m} e) = idle (with_memory s m) _ a.place refl refl refl
  own_stands z f (Mutator.drops a o m g y) = idle s _ a.place refl refl refl
  own_stands z f (Mutator.reads a o m g y e h) = idle s _ a.place refl refl refl
  own_stands z f (Mutator.reads_null a o m g y e) = idle s _ a.place refl refl refl
  own_stands z f (Mutator.stores a o m g y {v = w} e h) =
      After.after s _ (record {
        inserts = λ _ i. absurd (false≢true i);
        deletes = λ d _. ⊎_elim (λ i. Covered.now (subst (Marks _) i (Marks.old refl))) Covered.safe (reads_old s v p pos mine c.x c.f g e d);
        roots = λ i. absurd (false≢true i);
      })
  own_stands z f (Mutator.stores_new a o m g y e) =
      After.after s _ (record { inserts = λ _ _. Covered.now (Marks.new refl); deletes = λ d _. reads_null s v p pos mine c.x c.f g e d; roots = λ i. absurd (false≢true i) })
  own_stands z f (Mutator.stores_null a o m g y e) =
      After.after s _ (record { inserts = λ _ _. Covered.safe (inl refl); deletes = λ d _. reads_null s v p pos mine c.x c.f g e d; roots = λ i. absurd (false≢true i) })
  own_stands z f (Mutator.fences a o x g y e) = idle s _ a.place refl refl refl
  own_stands z f (Mutator.answers a o x g y u b) = let k = branch_elsewhere b in idle s _ refl k.0 k.1.0 k.1.1
  own_stands {t} z f (Mutator.marks b i h {m} {t = o} e) = After.after (with_memory s m) o (mark_stands s v p pos mine t z f i h e)
  own_stands z f (Mutator.looks_root a o m e) =
      After.after s _ (record {
        inserts = λ _ i. absurd (false≢true i);
        deletes = λ _ i. absurd (false≢true i);
        roots = λ _ d i l. looks_root s v p pos mine _ c.x a (Marks.root refl) (rw a.place refl) d i l;
      })
  own_stands z f (Mutator.writes a b {m} e) = idle (with_memory s m) _ refl refl refl refl
  own_stands z f (Mutator.fences_noop a b e) = idle s _ refl refl refl refl
  own_stands z f (Mutator.fences_work a b e) = idle s _ refl refl refl refl
  own_stands z f (Mutator.fences_roots a b e h) =
      After.after s _ (record { inserts = λ _ i. absurd (false≢true i); deletes = λ _ i. absurd (false≢true i); roots = λ _ d i l. absurd (not_both i l) })
  own_stands z f (Mutator.fences_none a b e h) =
      After.after s (at roots_finish no_stage (process_of s p)) (record { inserts = λ _ i. absurd (false≢true i); deletes = λ _ i. absurd (false≢true i); roots = λ _ d i l. absurd (not_both (rw h at i) (member_empty d)) })
  own_stands z f (Mutator.finishes_noop a b) = idle s _ refl refl refl refl
  own_stands z f (Mutator.finishes_roots a b) = idle (with_system s (with_list s.system _)) _ refl refl refl refl
  own_stands z f (Mutator.finishes_work a b) = idle (with_system s (with_list s.system _)) _ refl refl refl refl

-- ---- a step
module _ (s : State) (c : Choice) (v : Spared s) (m : ℕ) (a : 0 < m) (b : m ≤ mutators_of s) where
  stands_at : {t : State} → t.memory.fm ≡ s.memory.fm → Row s c t → Dec (m ≡ c.process) → Stands t.memory (process_of t m)
  stands_at {t} e r (no d) = aside_stands s v m a b t (marked_stays s t c v r e) (field_after s t c v r e) (row_aside s t c v.inv.formed r m d)
  stands_at e (Row.collector x z r) (yes d) = absurd (omega arith)
  stands_at {t} e (Row.mutator x {p = p} z pos mine r) (yes d) =
      let few = v.inv.formed.memory.few_processes in
      let w = Row.mutator x z pos mine r in
      named (λ i. Stands t.memory (process_of t i)) (d ∙ z)
      (arrives (omega arith) (row_kept s c v.inv.formed w) (own_stands s c v p pos mine (marked_stays s t c v w e) (field_after s t c v w e) r))
  stands_at {t} e (Row.commits x z mine y h) (yes d) =
      let w = Row.commits x z mine y h in
      aside_stands s v m a b t (marked_stays s t c v w e) (field_after s t c v w e) (Aside.aside _ _ refl)

  pub step_stands : {t : State} → t.memory.fm ≡ s.memory.fm → Row s c t → Stands t.memory (process_of t m)
  step_stands e r = stands_at e r (ℕ_discrete m c.process)
