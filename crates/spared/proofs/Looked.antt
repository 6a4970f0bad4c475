-- B4 is kept: what a process knows in a mark. Assumes nothing.
--     step_looked     after each step
-- Of the process that steps: the stages of its mark. Of the others, and of a commit: what they know of memory stays,
-- as nobody is past the read of the phase at the flip, nobody but the holder of the lock has a mark pending, and what
-- is freed is white.
use mathlib.Core.Path.{◌≡◌, refl, sym, ap, ◌∙◌, subst}
use mathlib.Core.Bool.{Bool, true, false, not, false≢true}
use mathlib.Core.List.Memᴰ
use mathlib.Core.List.{List, []}
use mathlib.Core.Logic.{⊎_elim, by_cases}
use Prim.Native.Nat.{ℕ, ◌≤◌, ◌<◌}
use native.Mathlib.Omega.{arith}
use native.Mathlib.Decide.{ℕ_discrete, dec_lt}
use lib.Dec.{eqb, leb}
use borrow.Author.Tests.{eqb-true, leb-true, le-leb}
use Rattle.cells.proofs.Bools.{split, not_both, and_parts}
use Rattle.buffers.specs.declared.Store.{Store}
use Rattle.buffers.specs.declared.Store.TheVariants as store
use Rattle.buffers.specs.declared.Entry.{Entry}
use Rattle.memory.specs.declared.Memory.{Memory}
use Rattle.memory.specs.Memories.{used_of, mark_of}
use Rattle.memory.specs.Looks.{look_mark_of}
use Rattle.memory.specs.Views.{pending_for}
use Rattle.memory.proofs.Shapes.{pending_is}
use Rattle.memory.proofs.Effects.{write_taken}
use Rattle.memory_formed.proofs.Shapes.{shaped}
use Rattle.state.specs.declared.Handshake.TheVariants as hand
use Rattle.state.specs.declared.Process.{Process}
use Rattle.state.specs.declared.State.{State}
use Rattle.state.specs.declared.Choice.{Choice}
use Rattle.state.specs.Codes.{row1_round, row7_mark, row10_free, no_stage, look_stage, sense_stage, phase_stage, lock_stage, again_stage, write_stage, unlock_stage}
use Rattle.state.specs.States.{shaking, mutators_of, process_of}
use Rattle.formed.proofs.Gives.{collector_within}
use Rattle.model.specs.Offers.{mark_place}
use Rattle.model.specs.Rows.{At, sees_bit, Marks, Mark, Row}
use Rattle.model.specs.Reasons.{mover}
use Rattle.stays_formed.proofs.Frames.{named}
use Rattle.verdict.specs.Colours.{White}
use Rattle.claims.specs.Lock.{inside_at, Inside}
use Rattle.claims.specs.Pending.{waiting_of, is_mark, marks_in, unlock_at, Unlocking}
use Rattle.claims.specs.Noted.{reached_at, Reached}
use Rattle.claims.specs.Written.{entry_for}
use Rattle.claims.proofs.Moves.{marks_place}
use Rattle.claims.proofs.Noted.{holder_noted}
use Rattle.spared.specs.Shades.{Marked}
use Rattle.spared.specs.Holds.{StoreIn}
use Rattle.spared.specs.Looked.{Looks, Looked}
use Rattle.spared.specs.Views.{Effect, Fills, Aside}
use Rattle.spared.specs.Inv.{Spared}
use Rattle.spared.specs.Lemmas.{Flip, RowsKeep}
use Rattle.spared.proofs.Effects.{row_effect}
use Rattle.spared.proofs.Fills.{row_fills, row_waits}
use Rattle.spared.proofs.Paces.{row_aside}
use Rattle.spared.proofs.Sights.{look_mark_lem, look_used}
use Rattle.spared.proofs.Holds.{mark_held, held_there}
use Rattle.spared.proofs.Marks.{marks_same, mark_counts, mark_store}
use Rattle.spared.proofs.Flips.{row_sense}
use Rattle.spared.proofs.Stays.{far_collector, marked_stays, used_or_freed}
use Rattle.spared.proofs.Shades.{marked_not_white}
use Rattle.spared.proofs.Overs.{held_used}
use Rattle.spared.proofs.Acts.{Acts, row_acts, marks_stage, next_early}

-- ---- a stage of a mark
reached : {q : Process} {r k : ℕ} (j : ℕ) → Marks q r → q.stage ≡ k → leb j k ≡ true → Reached j q
reached j i e h = rw (marks_place i, e) h

again_inside : {q : Process} {r : ℕ} → Marks q r → q.stage ≡ again_stage → Inside q
unfolding inside_at
again_inside i e = rw (marks_place i, e) refl

write_inside : {q : Process} {r : ℕ} → Marks q r → q.stage ≡ write_stage → Inside q
unfolding inside_at
write_inside i e = rw (marks_place i, e) refl

at_unlock : (q : Process) → Unlocking q → q.stage ≡ unlock_stage
unfolding unlock_at
at_unlock q u = eqb-true q.stage unlock_stage (and_parts (mark_place q.place) (eqb q.stage unlock_stage) u).1

sooner : (k j : ℕ) → reached_at phase_stage k j ≡ true → reached_at sense_stage k j ≡ true
sooner k j h = let a = and_parts (mark_place k) (leb phase_stage j) h in rw a.0 (le-leb sense_stage j (omega (arith, leb-true phase_stage j a.1)))

-- before its second stage a process knows nothing
early : {m : Memory} {p : ℕ} {l : List Entry} {q : Process} → reached_at sense_stage q.place q.stage ≡ false → Looks m p l q
early {q = q} h =
    record {
      seen = λ i e _ _. absurd (not_both (reached sense_stage i e refl) h);
      apart = λ i. absurd (not_both (sooner q.place q.stage i) h);
      white = λ i e. absurd (not_both (reached sense_stage i e refl) h);
      done = λ i e _. absurd (not_both (reached sense_stage i e refl) h);
    }

-- another's flag and in-step bit play no part
aside_looks : {m : Memory} {p : ℕ} {l : List Entry} {o u : Process} → Aside o u → Looks m p l o → Looks m p l u
aside_looks {o = o} (Aside.aside r i e) k = rw e (record { seen = λ j. k.seen (go j); apart = k.apart; white = λ j. k.white (go j); done = λ j. k.done (go j) })
  where
    go : {x : ℕ} → Marks (shaking r i o.part.phase o) x → Marks o x
    go (Marks.old f) = Marks.old f
    go (Marks.new f) = Marks.new f
    go (Marks.root f) = Marks.root f
    go (Marks.field f) = Marks.field f

-- a bit is not its opposite
not_same : (b : Bool) → b ≡ not b → ⊥
not_same true e = false≢true (sym e)
not_same false e = false≢true e

-- a store that is a mark
mark_of_lem : (u : Store) → is_mark u ≡ true → (x : ℕ) × ((b : Bool) × (u ≡ store.Mark x b))
mark_of_lem (store.Mark c b) h = (c, (b, refl))
mark_of_lem (store.Field c f u) h = absurd (false≢true h)
mark_of_lem (store.Sense b) h = absurd (false≢true h)
mark_of_lem (store.AllocSense b) h = absurd (false≢true h)
mark_of_lem (store.Phase i) h = absurd (false≢true h)

-- a mark at one of the collector's places is row 7's
far_marks : {q : Process} {r : ℕ} → row1_round ≤ q.place → Marks q r → q.place ≡ row7_mark
far_marks h (Marks.old e) = absurd (omega arith)
far_marks h (Marks.new e) = absurd (omega arith)
far_marks h (Marks.root e) = absurd (omega arith)
far_marks h (Marks.field e) = e

-- ---- of the state before the step
-- who marks is the collector, in row 7, or a mutator
data Who (s : State) (p : ℕ) : Type 0 where
  collects : p ≡ 0 → (process_of s 0).place ≡ row7_mark → Who s p
  mutates : 0 < p → p ≤ mutators_of s → Who s p

module _ (s : State) (v : Spared s) where
  who : (p r : ℕ) → Marks (process_of s p) r → Who s p
  who p r i = go (ℕ_discrete p 0) (dec_lt (mutators_of s) p)
    where
      go : Dec (p ≡ 0) → Dec (mutators_of s < p) → Who s p
      go (yes z) d = Who.collects z (far_marks (collector_within v.inv.formed.collector).0 (named (λ x. Marks (process_of s x) r) (sym z) i))
      go (no z) (yes d) = absurd (false≢true (rw (v.inv.formed.nobody p d) at (marks_place i)))
      go (no z) (no d) = Who.mutates (omega arith) (omega arith)

  -- the flip: every mutator is in Idle, and the collector does not mark
  not_flip : (p : ℕ) {r : ℕ} {t : State} → Marks (process_of s p) r → Flip s t → (0 < p → (process_of s p).part.phase ≡ hand.Idle → ⊥) → ⊥
  not_flip p {r} i f n = go (who p r i)
    where
      go : Who s p → ⊥
      go (Who.collects z e) = false≢true (rw e at f.quiet)
      go (Who.mutates pos mine) = n pos (f.idle p pos mine)

  -- past the read of the phase a mutator has left Idle
  past : (p : ℕ) {r k : ℕ} → Marks (process_of s p) r → (process_of s p).stage ≡ k → leb lock_stage k ≡ true → 0 < p → (process_of s p).part.phase ≡ hand.Idle → ⊥
  past p {r} i e h pos z = go (who p r i)
    where
      go : Who s p → ⊥
      go (Who.collects x _) = omega arith
      go (Who.mutates _ mine) = (v.inv.noted p pos mine).left (reached lock_stage i e h) z

  -- past its first look the cell being marked is occupied, and marked in the sweep
  module _ (p : ℕ) {r : ℕ} (i : Marks (process_of s p) r) (h : look_stage < (process_of s p).stage) where
    marks_used : used_of s.memory r ≡ true
    marks_used = go (who p r i)
      where
        go : Who s p → used_of s.memory r ≡ true
        go (Who.collects z e) = v.scanned.occupied (named (λ x. Marks (process_of s x) r) (sym z) i)
        go (Who.mutates pos mine) = held_used s v p r (mark_held s v p pos mine r i (λ _ e. omega arith))

    marks_swept : (process_of s 0).place ≡ row10_free → Marked s.memory r
    marks_swept e = go (who p r i)
      where
        go : Who s p → Marked s.memory r
        go (Who.collects z f) = absurd (omega arith)
        go (Who.mutates pos mine) = (v.held r (held_there s v.inv.formed p r (mark_held s v p pos mine r i (λ _ f. omega arith)))).marked (rw e refl)

  -- row 10 is the collector's
  sweeper : (p : ℕ) → At row10_free no_stage (process_of s p) → (process_of s 0).place ≡ row10_free
  sweeper p a = named (λ x. (process_of s x).place ≡ row10_free) (sym (far_collector s v.inv.formed p (omega (arith, a.place)))) a.place

  -- inside its compare and swap a process has noted memory's fM
  noted : (p : ℕ) → Inside (process_of s p) → (process_of s p).sense ≡ s.memory.fm
  noted p i = holder_noted s v.inv.formed v.inv.lock v.inv.written v.inv.noted p ((v.inv.lock p).1 i)

  -- ---- a step of one's own mark
  module _ (p : ℕ) {x : ℕ} (i : Marks (process_of s p) x) where
    abbrev q : Process
    q = process_of s p

    -- what a look sees, but at the unlock
    sees : {j : ℕ} {b : Bool} → q.stage ≡ j → j < unlock_stage → look_mark_of s.memory p x ≡ sees_bit b → mark_of s.memory x ≡ b
    sees {b = b} e l g = look_mark_lem s v.inv p x b (λ u. omega (arith, at_unlock q u)) g

    far : {j : ℕ} → q.stage ≡ j → leb phase_stage j ≡ true → q.sense ≡ not q.look
    far e h = (v.looked p).apart (reached phase_stage i e h)

    mark_looks : {n : Memory} {o : Process} (l : List Entry) → l ≡ pending_for n p → Mark s.memory p x q n o → Looks n p l o
    mark_looks l y (Mark.looks e {b} g) =
        record {
          seen = λ j _ _ z. subst (Marked s.memory) (marks_same (marks_stage sense_stage b q.sense q.grey i) j) (record { occupied = look_used s.memory p x b g; equal = sees e (omega arith) g ∙ z });
          apart = λ h. absurd (false≢true (rw (marks_place i) at h));
          white = λ _ h. absurd (omega arith);
          done = λ _ h _. absurd (omega arith);
        }
    mark_looks l y (Mark.equal e g h) = early (next_early h)
    mark_looks l y (Mark.unequal e g) = record { seen = λ _ h _ _. absurd (omega arith); apart = λ _. refl; white = λ _ h. absurd (omega arith); done = λ _ h _. absurd (omega arith) }
    mark_looks l y (Mark.idle e g h) = early (next_early h)
    mark_looks l y (Mark.busy e g h) = record { seen = λ _ h _ _. absurd (omega arith); apart = λ _. far e refl; white = λ _ h. absurd (omega arith); done = λ _ h _. absurd (omega arith) }
    mark_looks l y (Mark.locks e g) = record { seen = λ _ h _ _. absurd (omega arith); apart = λ _. far e refl; white = λ _ h. absurd (omega arith); done = λ _ h _. absurd (omega arith) }
    mark_looks l y (Mark.agrees e g) =
        record {
          seen = λ _ h _ _. absurd (omega arith);
          apart = λ _. far e refl;
          white = λ j _.
              subst (White s.memory) (marks_same (marks_stage write_stage q.look q.sense q.grey i) j)
              (record { occupied = look_used s.memory p x q.look g; unequal = λ z. not_same q.look (sym (sees e (omega arith) g) ∙ z ∙ sym (noted p (again_inside i e)) ∙ far e refl) });
          done = λ _ h _. absurd (omega arith);
        }
    mark_looks l y (Mark.differs e g) =
        record {
          seen = λ _ h _ _. absurd (omega arith);
          apart = λ _. far e refl;
          white = λ _ h. absurd (omega arith);
          done = λ j _ _.
              subst (Marked s.memory) (marks_same (marks_stage unlock_stage q.look q.sense q.grey i) j)
              (record { occupied = look_used s.memory p x (not q.look) g; equal = sees e (omega arith) g ∙ sym (far e refl) ∙ noted p (again_inside i e) });
        }
    mark_looks {n} l y (Mark.writes e g) =
        let k = y ∙ (write_taken p _ (shaped s.memory v.inv.formed.memory) g).own in
        record {
          seen = λ _ h _ _. absurd (omega arith);
          apart = λ _. far e refl;
          white = λ _ h. absurd (omega arith);
          done = λ _ _ z. absurd (omega (arith, mark_counts l (StoreIn.pends (entry_for (store.Mark x q.sense)) (rw k (Memᴰ.append_right (pending_for s.memory p) (Memᴰ.head {xs = []} refl))) refl), z));
        }
    mark_looks l y (Mark.wins e g h k) = early (next_early k)
    mark_looks l y (Mark.loses e g h k) = early (next_early k)

-- ---- a process that stays as it is, while memory changes
module _ (s t : State) (c : Choice) (v : Spared s) (r : Row s c t) where
  -- about to write its mark it is alone inside, and its cell stays white
  module _ (p : ℕ) {x : ℕ} (i : Marks (process_of s p) x) (e : (process_of s p).stage ≡ write_stage) where
    like : {n : Memory} → used_of n x ≡ used_of s.memory x → mark_of n x ≡ mark_of s.memory x → n.fm ≡ s.memory.fm → White n x
    like a b f = let k = (v.looked p).white i e in record { occupied = a ∙ k.occupied; unequal = λ z. k.unequal (sym b ∙ z ∙ f) }

    white_stays : {n : Memory} → Effect c (mover s c) (waiting_of s c.process) s.memory n → n.fm ≡ s.memory.fm → White n x
    white_stays (Effect.calm u a f z) g = like (u x) (a x) g
    white_stays (Effect.marks {x = y} {b = b} j o h a u f z) g =
        let k = mark_store s v c.process y b j in
        let l = k.lock in
        let w = (v.inv.lock p).1 (write_inside i e) in
        let z : c.process ≡ p = omega arith in
        absurd (omega (arith, e, at_unlock (process_of s p) (rw z at k.unlocking)))
    white_stays (Effect.stores j o f h a u b z) g = like (u x) (b x) g
    white_stays (Effect.flips j h f u a b) g = like (u x) (a x) g
    white_stays (Effect.follows j h f u a b) g = like (u x) (a x) g
    white_stays (Effect.allocates a o j f u h b d k w z) g = by_cases (ℕ_discrete x c.x) (λ y. absurd (not_both ((v.looked p).white i e).occupied (rw y f))) (λ y. like (d x y) (k x y) g)
    white_stays (Effect.frees a u b j w z) g = absurd (marked_not_white (marks_swept s v p i (omega arith) (sweeper s v c.process a)) ((v.looked p).white i e))

  -- what was known is, but for what comes when the own mark is committed
  stays : (p : ℕ) (l : List Entry) → ((x : ℕ) → Marks (process_of s p) x → (process_of s p).stage ≡ unlock_stage → marks_in l ≡ 0 → t.memory.fm ≡ s.memory.fm → Marked t.memory x) → Looks t.memory p l (process_of s p)
  stays p l d =
      record {
        seen = λ i e n z. ⊎_elim (λ f. marked_stays s t c v r f _ ((v.looked p).seen i e n (z ∙ f))) (λ f. absurd (not_flip s v p i f n)) (row_sense s t c v r);
        apart = (v.looked p).apart;
        white = λ i e. ⊎_elim (λ f. white_stays p i e (row_effect s t c v.inv.formed r) f) (λ f. absurd (not_flip s v p i f (past s v p i e refl))) (row_sense s t c v r);
        done = λ i e z. ⊎_elim (λ f. d _ i e z f) (λ f. absurd (not_flip s v p i f (past s v p i e refl))) (row_sense s t c v r);
      }

  -- at the unlock, where no mark was pending
  was : (p : ℕ) {x : ℕ} {l : List Entry} → l ≡ waiting_of s p → Marks (process_of s p) x → (process_of s p).stage ≡ unlock_stage → marks_in l ≡ 0 → t.memory.fm ≡ s.memory.fm → Marked t.memory x
  was p {x} y i e z f = marked_stays s t c v r f x ((v.looked p).done i e (sym (ap marks_in y) ∙ z))

  -- where one's own mark is committed
  comes : {x : ℕ} → Marks (mover s c) x → (mover s c).stage ≡ unlock_stage → {y : ℕ} {b : Bool} → StoreIn (waiting_of s c.process) (store.Mark y b) → mark_of t.memory y ≡ b → t.memory.fm ≡ s.memory.fm → Marked t.memory x
  comes {x} i e {y} {b} j h f =
      let k = mark_store s v c.process y b j in
      record {
        occupied = ⊎_elim (λ z. z) (λ z. absurd (false≢true (rw z.0.place at (marks_place i)))) (used_or_freed s t c v r x (marks_used s v c.process i (omega arith)));
        equal = subst (λ z. mark_of t.memory z ≡ t.memory.fm) (marks_same k.marks i) (h ∙ k.sense ∙ sym f);
      }

  committed : {x : ℕ} {l : List Entry} → c.kind ≡ 1 → Fills c (mover s c) t.memory (waiting_of s c.process) l → Marks (mover s c) x → (mover s c).stage ≡ unlock_stage → marks_in l ≡ 0 → t.memory.fm ≡ s.memory.fm → Marked t.memory x
  committed k (Fills.keeps y) i e z f = was c.process y i e z f
  committed k (Fills.appends a w y) i e z f = absurd (omega arith)
  committed {x} {l} k (Fills.leaves a d j g n h) i e z f = ⊎_elim mark other (split (is_mark d.store))
    where
      mark : is_mark d.store ≡ true → Marked t.memory x
      mark b = let u = mark_of_lem d.store b in comes i e (StoreIn.pends d j u.1.1) (h u.0 u.1.0 u.1.1) f

      other : is_mark d.store ≡ false → Marked t.memory x
      other b = marked_stays s t c v r f x ((v.looked c.process).done i e (n ∙ rw b z))

  -- ---- the process that steps
  own : {o : Process} (l : List Entry) → l ≡ pending_for t.memory c.process → Fills c (mover s c) t.memory (waiting_of s c.process) l → Acts c c.process (mover s c) o s.memory t.memory → Looks t.memory c.process l o
  own l y f (Acts.commits k e) = rw e (stays c.process l (λ x. committed k f))
  own l y f (Acts.marks i n e) = mark_looks s v c.process i l y e
  own l y f (Acts.roots a j {b} e n z) =
      rw (n, z)
      (record {
        seen = λ k _ _ g. subst (Marked s.memory) (marks_same (Marks.root refl) k) (record { occupied = look_used s.memory c.process c.x b e; equal = look_mark_lem s v.inv c.process c.x b (λ u. omega (arith, a.stage, at_unlock (mover s c) u)) e ∙ g });
        apart = λ h. absurd (false≢true h);
        white = λ _ h. absurd (omega arith);
        done = λ _ h _. absurd (omega arith);
      })
  own l y f (Acts.outside k) = early k.to

  -- ---- the others
  looked_at : (p : ℕ) → Dec (p ≡ c.process) → Looks t.memory p (waiting_of t p) (process_of t p)
  looked_at p (yes e) = rw e (own (waiting_of t c.process) (sym (pending_is t.memory c.process)) (row_fills s t c v.inv.formed r) (row_acts s t c v.inv.formed r))
  looked_at p (no e) = aside_looks (row_aside s t c v.inv.formed r p e) (stays p (waiting_of t p) (λ x. was p (row_waits s t c v.inv.formed r p e)))

pub step_looked : RowsKeep Looked
step_looked s t c v r p = looked_at s t c v r p (ℕ_discrete p c.process)
