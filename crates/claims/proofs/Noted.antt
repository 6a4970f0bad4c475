-- Whoever holds the lock has noted the mark sense that stands in memory. Assumes nothing.
--     mark_noted, mutator_noted      the steps of the mutator itself
--     misses, sees_phase_lem             what a mutator has pending hides neither fM nor the phase from it
--     sense_moves                    memory's fM stays, or every mutator's handshake phase is Idle
--     opening_noted, step_noted      at the opening, and after each step
--     holder_noted                   so the holder of the lock has noted it
use mathlib.Core.Path.{◌≡◌, refl, sym, ap, ◌∙◌}
use mathlib.Core.Bool.{Bool, true, false, false≢true}
use mathlib.Core.List.Memᴰ
use mathlib.Core.List.{List, ◌∷◌}
use mathlib.Core.Logic.{◌⊎◌, inl, inr}
use Prim.Native.Nat.{ℕ, zero, suc, ◌≤◌, ◌<◌}
use native.Mathlib.Omega.{arith}
use native.Mathlib.Decide.{ℕ_discrete, dec_lt}
use lib.Dec.{eqb, leb, ltb}
use borrow.Author.Tests.{eqb-true}
use Rattle.base.proofs.Picking.{pick_ind}
use Rattle.cells.proofs.Bools.{split, not_both}
use Rattle.buffers.specs.declared.Phase.{Phase}
use Rattle.buffers.specs.declared.Phase.TheVariants as phase
use Rattle.buffers.specs.declared.Store.{Store}
use Rattle.buffers.specs.declared.Store.TheVariants as store
use Rattle.buffers.specs.declared.Spot.{Spot}
use Rattle.buffers.specs.declared.Spot.TheVariants as spot
use Rattle.buffers.specs.declared.Entry.{Entry}
use Rattle.buffers.specs.Stores.{kind_of, hits_of, phase_of}
use Rattle.buffers.proofs.Hits.{hits_apart}
use Rattle.memory.specs.declared.Memory.{Memory}
use Rattle.memory.specs.Answers.{SeenPhase}
use Rattle.memory.specs.Memories.{max_processes}
use Rattle.memory.specs.Looks.{look_phase_of}
use Rattle.memory.specs.Views.{pending_for}
use Rattle.memory.proofs.Shapes.{Shaped, pending_is, view_misses}
use Rattle.memory.proofs.Spots.{held_phase}
use Rattle.memory.proofs.Sights.{look_phase_taken}
use Rattle.memory.proofs.Effects.{write_taken, lock_taken, unlock_taken, commit_taken}
use Rattle.memory_formed.specs.WellFormed.{MemoryFormed}
use Rattle.memory_formed.proofs.Shapes.{shaped}
use Rattle.state.specs.declared.Handshake.TheVariants as hand
use Rattle.state.specs.declared.RoundType.{RoundType}
use Rattle.state.specs.declared.Process.{Process}
use Rattle.state.specs.declared.State.{State}
use Rattle.state.specs.declared.Choice.{Choice}
use Rattle.state.specs.declared.opening.Heap.{Heap}
use Rattle.state.specs.Openings.{open_mutator, open_process, opening_of}
use Rattle.state.specs.Codes.{phase_stage, lock_stage, again_stage, write_stage, unlock_stage}
use Rattle.state.specs.States.{no_process, mutators_of, process_of, with_process_of, with_memory, with_system}
use Rattle.formed.specs.Fits.{HeapFits, WellFormed}
use Rattle.model.specs.Offers.{mark_place}
use Rattle.model.specs.Rows.{At, sees_phase, Marks, Next, Mark, Branch, Mutator, with_list, Row}
use Rattle.stays_formed.specs.Leaves.{Beside}
use Rattle.stays_formed.proofs.Frames.{named}
use Rattle.claims.proofs.Processes.{arrived}
use Rattle.stays_formed.proofs.Kept.{row_kept}
use Rattle.stays_formed.proofs.Leaves.{row_others, row_counts}
use Rattle.claims.specs.Lock.{inside_at, Inside, Lock}
use Rattle.claims.specs.Pending.{MarkOrField, MarksAndFields, MutatorStores}
use Rattle.claims.specs.Handshakes.{Handshakes}
use Rattle.claims.specs.Written.{entry_for, CollectorWrote}
use Rattle.claims.specs.Noted.{reached_at, Reached, NotedBy, Noted, HolderNoted}
use Rattle.claims.proofs.Moves.{Outer, Goes, row_goes, marks_place}
use Rattle.claims.proofs.Commits.{sense_after, fm_after}
use Rattle.claims.proofs.Senses.{flip_idle, idle_phase, scan_sense}
use Rattle.claims.proofs.Written.{sees_sense}

-- ---- before the read of the phase there is nothing to note
record Early (q : Process) : Type 0 where
  sense : reached_at phase_stage q.place q.stage ≡ false
  lock : reached_at lock_stage q.place q.stage ≡ false

early : {q : Process} (b : Bool) → Early q → NotedBy b q
early b e = record { sense = λ r. absurd (not_both r e.sense); left = λ r. absurd (not_both r e.lock) }

early_at : {k j : ℕ} {q : Process} → At k j q → reached_at phase_stage k j ≡ false → reached_at lock_stage k j ≡ false → Early q
early_at a e f = record { sense = rw (a.place, a.stage) e; lock = rw (a.place, a.stage) f }

-- where a mark is over
next_early : {q t : Process} → Next q t → Early t
next_early (Next.write e z) = record { sense = refl; lock = refl }
next_early (Next.new e z) = record { sense = refl; lock = refl }
next_early (Next.marked e) = record { sense = refl; lock = refl }
next_early (Next.roots e z) = record { sense = refl; lock = refl }
next_early (Next.root e z) = record { sense = refl; lock = refl }
next_early (Next.fields e i) = record { sense = refl; lock = refl }
next_early (Next.field e i) = record { sense = refl; lock = refl }

branch_early : {k : RoundType} {j : ℕ} → Branch k j → (i : ℕ) → (reached_at phase_stage j i ≡ false) × (reached_at lock_stage j i ≡ false)
branch_early Branch.noop i = (refl, refl)
branch_early Branch.roots i = (refl, refl)
branch_early Branch.work i = (refl, refl)

-- ---- a mutator reads fM and the phase from memory: neither waits in its buffer
-- a mark or a field misses every spot of a kind past theirs
pub misses : (a : Spot) {v : Store} → kind_of (spot.Field 0 0) < kind_of a → MarkOrField v → hits_of a v ≡ false
misses a l (MarkOrField.mark {c} {b}) = hits_apart kind_of a (store.Mark c b) (λ e. omega arith)
misses a l (MarkOrField.field {c} {f} {v}) = hits_apart kind_of a (store.Field c f v) (λ e. omega arith)

pub sees_phase_lem : (m : Memory) (p : ℕ) {h : Phase} → MarksAndFields (pending_for m p) → look_phase_of m p ≡ sees_phase h → h ≡ m.phase.phase
sees_phase_lem m p f e =
    let k = look_phase_taken m p (ap (λ (i : SeenPhase). i.no) e) in
    let g = view_misses m p spot.Phase (λ x i. misses spot.Phase (omega arith) (f x i)) in
    sym (ap (λ (i : SeenPhase). i.phase) e) ∙ ap (λ (i : SeenPhase). i.phase) k ∙ ap phase_of (g ∙ held_phase m)

-- ---- a step of a mark
module _ {q : Process} {r : ℕ} (i : Marks q r) where
  here : (j : ℕ) {k : ℕ} → q.stage ≡ k → leb j k ≡ true → Reached j q
  here j e h = rw (marks_place i, e) h

  -- past the phase read nothing can change
  goes_on : {b : Bool} {k : ℕ} (o : Process) → q.stage ≡ k → leb phase_stage k ≡ true → leb lock_stage k ≡ true → o.sense ≡ q.sense → o.part ≡ q.part → NotedBy b q → NotedBy b o
  goes_on o e g h x y v =
      record {
        sense = λ _ n. x ∙ v.sense (here phase_stage e g) (λ z. n (ap (λ u. u.phase) y ∙ z));
        left = λ _ z. v.left (here lock_stage e h) (sym (ap (λ u. u.phase) y) ∙ z);
      }

mark_noted : {m n : Memory} {p r : ℕ} {q t : Process} → Shaped m → MarksAndFields (pending_for m p) → (q.part.phase ≡ hand.Idle → m.phase.phase ≡ phase.Idle) → Marks q r → Mark m p r q n t → NotedBy m.fm q → NotedBy n.fm t
mark_noted {m} z f d i (Mark.looks e g) v = early m.fm (record { sense = rw (marks_place i) refl; lock = rw (marks_place i) refl })
mark_noted {m} z f d i (Mark.equal e g h) v = early m.fm (next_early h)
mark_noted {m} {p = p} z f d i (Mark.unequal e g) v =
    record {
      sense = λ _ _. sees_sense m p (view_misses m p spot.Sense (λ x j. misses spot.Sense (omega arith) (f x j))) g;
      left = λ h. let k = marks_place i in absurd (false≢true (rw k at h));
    }
mark_noted {m} z f d i (Mark.idle e g h) v = early m.fm (next_early h)
mark_noted {m} {p = p} z f d i (Mark.busy e g h) v =
    record {
      sense = λ _ n. v.sense (here i phase_stage e refl) n;
      left = λ _ x. h (sees_phase_lem m p f g ∙ d x);
    }
mark_noted {p = p} z f d i (Mark.locks e g) v = rw (lock_taken p g).after.alike.fm (goes_on i _ e refl refl refl refl v)
mark_noted z f d i (Mark.agrees e g) v = goes_on i _ e refl refl refl refl v
mark_noted z f d i (Mark.differs e g) v = goes_on i _ e refl refl refl refl v
mark_noted {p = p} z f d i (Mark.writes e g) v = rw (write_taken p _ z g).alike.fm (goes_on i _ e refl refl refl refl v)
mark_noted {n = n} z f d i (Mark.wins e g h k) v = early n.fm (next_early k)
mark_noted {n = n} z f d i (Mark.loses e g h k) v = early n.fm (next_early k)

-- ---- a mutator's step: it is o after it, and memory is that of x
data Ends (p : ℕ) : State → Type 0 where
  ends : (x : State) (o : Process) → NotedBy x.memory.fm o → Ends p (with_process_of x p o)

module _ (s : State) (c : Choice) (p : ℕ) (w : WellFormed s) where
  abbrev q : Process
  q = process_of s p

  -- the mutator is before its phase read, where it was or at a place that is known
  stay : {k j : ℕ} (x : State) (o : Process) → At k j o → reached_at phase_stage k j ≡ false → reached_at lock_stage k j ≡ false → Ends p (with_process_of x p o)
  stay x o a e f = Ends.ends x o (early x.memory.fm (early_at a e f))

  fresh : (x : State) (o : Process) → reached_at phase_stage o.place o.stage ≡ false → reached_at lock_stage o.place o.stage ≡ false → Ends p (with_process_of x p o)
  fresh x o e f = Ends.ends x o (early x.memory.fm (record { sense = e; lock = f }))

  mutator_noted : {t : State} → MarksAndFields (pending_for s.memory p) → (q.part.phase ≡ hand.Idle → s.memory.phase.phase ≡ phase.Idle) → NotedBy s.memory.fm q → Mutator s c p q t → Ends p t
  mutator_noted f d v (Mutator.allocates a o x l g y {m = n} e) = stay (with_memory s n) _ (record { place = a.place; stage = a.stage }) refl refl
  mutator_noted f d v (Mutator.drops a o m g y) = stay s _ (record { place = a.place; stage = a.stage }) refl refl
  mutator_noted f d v (Mutator.reads a o m g y e h) = stay s _ (record { place = a.place; stage = a.stage }) refl refl
  mutator_noted f d v (Mutator.reads_null a o m g y e) = stay s _ a refl refl
  mutator_noted f d v (Mutator.stores a o m g y e h) = fresh s _ refl refl
  mutator_noted f d v (Mutator.stores_new a o m g y e) = fresh s _ refl refl
  mutator_noted f d v (Mutator.stores_null a o m g y e) = fresh s _ refl refl
  mutator_noted f d v (Mutator.fences a o x g y e) = stay s _ a refl refl
  mutator_noted f d v (Mutator.answers a o x g y u b) = fresh s _ (branch_early b 0).0 (branch_early b 0).1
  mutator_noted f d v (Mutator.marks b i h {m = n} {t = t} e) = Ends.ends (with_memory s n) t (mark_noted (shaped s.memory w.memory) f d i e v)
  mutator_noted f d v (Mutator.looks_root a o m e) = fresh s _ refl refl
  mutator_noted f d v (Mutator.writes a b {m = n} e) = fresh (with_memory s n) _ refl refl
  mutator_noted f d v (Mutator.fences_noop a b e) = fresh s _ refl refl
  mutator_noted f d v (Mutator.fences_work a b e) = fresh s _ refl refl
  mutator_noted f d v (Mutator.fences_roots a b e h) = fresh s _ refl refl
  mutator_noted f d v (Mutator.fences_none a b e h) = fresh s _ refl refl
  mutator_noted f d v (Mutator.finishes_noop a b) = fresh s _ refl refl
  mutator_noted f d v (Mutator.finishes_roots a b) = fresh (with_system s (with_list s.system _)) _ refl refl
  mutator_noted f d v (Mutator.finishes_work a b) = fresh (with_system s (with_list s.system _)) _ refl refl

-- ---- memory's fM stays, or the store that is committed is of fM
data Moved (p : ℕ) (m n : Memory) : Type 0 where
  same : n.fm ≡ m.fm → Moved p m n
  flips : {x : Bool} {l : List Entry} → pending_for m p ≡ entry_for (store.Sense x) ∷ l → Moved p m n

commit_moves : {p : ℕ} {m n : Memory} (o : Entry) {l : List Entry} → pending_for m p ≡ o ∷ l → n.fm ≡ sense_after o.store m.fm → Moved p m n
commit_moves {p} {m} {n} o {l} e f = go o.store (e ∙ refl) f
  where
    go : (v : Store) → pending_for m p ≡ entry_for v ∷ l → n.fm ≡ sense_after v m.fm → Moved p m n
    go (store.Mark c b) g h = Moved.same h
    go (store.Field c i v) g h = Moved.same h
    go (store.Sense b) g h = Moved.flips g
    go (store.AllocSense b) g h = Moved.same h
    go (store.Phase i) g h = Moved.same h

outer_moves : {p : ℕ} {m n : Memory} → Shaped m → Outer p m n → Moved p m n
outer_moves z (Outer.quiet k) = Moved.same k.fm
outer_moves {p} z (Outer.writes {v} k i e) = Moved.same (write_taken p (entry_for v) z e).alike.fm

goes_moves : {p : ℕ} {q o : Process} {m n : Memory} → MemoryFormed m → Goes p q m o n → Moved p m n
goes_moves {p} w (Goes.locks a b e) = Moved.same (lock_taken p e).after.alike.fm
goes_moves w (Goes.looks a u b) = Moved.same refl
goes_moves {p} {m = m} w (Goes.writes a u b v r d e) = Moved.same (write_taken p _ (shaped m w) e).alike.fm
goes_moves {p} {m = m} w (Goes.unlocks a b e) = Moved.same (unlock_taken p (shaped m w) e).after.alike.fm
goes_moves {m = m} w (Goes.outside a b e) = outer_moves (shaped m w) e
goes_moves {p} {m = m} w (Goes.commits e) = let k = commit_taken p (shaped m w) e in commit_moves k.oldest k.before (fm_after w p k)

no_sense : {x : Bool} → MarkOrField (store.Sense x) → ⊥
no_sense v = false≢true (go v)
  where
    senses : Store → Bool
    senses (store.Mark c b) = true
    senses (store.Field c f v) = true
    senses (store.Sense b) = false
    senses (store.AllocSense b) = true
    senses (store.Phase h) = true

    go : {v : Store} → MarkOrField v → senses v ≡ true
    go MarkOrField.mark = refl
    go MarkOrField.field = refl

-- ---- a step
abbrev Idle : State → Type 0
Idle s = (m : ℕ) → 0 < m → m ≤ mutators_of s → (process_of s m).part.phase ≡ hand.Idle

module _ (s : State) (c : Choice) (w : WellFormed s) (f : MutatorStores s) (v : Handshakes s) (k : CollectorWrote s) where
  plainly : (p : ℕ) → 0 < p → MarksAndFields (pending_for s.memory p)
  plainly p pos = rw (pending_is s.memory p) (f p pos)

  sense_moves : {t : State} → Row s c t → (t.memory.fm ≡ s.memory.fm) ⊎ Idle s
  sense_moves {t} r = go (goes_moves w.memory (row_goes w r)) (ℕ_discrete c.process 0)
    where
      go : Moved c.process s.memory t.memory → Dec (c.process ≡ 0) → (t.memory.fm ≡ s.memory.fm) ⊎ Idle s
      go (Moved.same e) d = inl e
      go (Moved.flips e) (yes d) = inr (flip_idle s w v k (rw d at e))
      go (Moved.flips {x} {l} e) (no d) = absurd (no_sense {x = x} (plainly c.process (omega arith) (entry_for (store.Sense x)) (rw e (Memᴰ.head refl))))

  -- a process that does not step
  stays : {d : Bool} {q : Process} (m : ℕ) {u : Process} → 0 < m → m ≤ mutators_of s → (d ≡ s.memory.fm) ⊎ Idle s → Beside c q m (process_of s m) u → NotedBy s.memory.fm (process_of s m) → NotedBy d u
  stays m a b (inl e) Beside.same n = rw e n
  stays m a b (inl e) (Beside.raises r x y) n = rw e (record { sense = n.sense; left = n.left })
  stays m a b (inl e) (Beside.types r x) n = rw e (record { sense = n.sense; left = n.left })
  stays m a b (inr e) Beside.same n = record { sense = λ _ g. absurd (g (e m a b)); left = n.left }
  stays m a b (inr e) (Beside.raises r x y) n = record { sense = λ _ g. absurd (g (e m a b)); left = n.left }
  stays m a b (inr e) (Beside.types r x) n = record { sense = λ _ g. absurd (g (e m a b)); left = n.left }

  -- the mutator that steps
  arrives : {p : ℕ} {t : State} → p < max_processes → WellFormed t → Ends p t → NotedBy t.memory.fm (process_of t p)
  arrives {p} l g (Ends.ends x o n) = rw (arrived x p o l g) n

  step_at : {t : State} → Noted s → Row s c t → (m : ℕ) → 0 < m → m ≤ mutators_of s → Dec (m ≡ c.process) → NotedBy t.memory.fm (process_of t m)
  step_at {t} n r m a b (no d) = stays m a b (sense_moves r) (row_others w r m d) (n m a b)
  step_at n (Row.collector x e r) m a b (yes d) = absurd (omega arith)
  step_at {t} n (Row.mutator x {p = p} e pos mine r) m a b (yes d) =
      let few = w.memory.few_processes in
      named (λ i. NotedBy t.memory.fm (process_of t i)) (d ∙ e)
      (arrives (omega arith) (row_kept s c w (Row.mutator x e pos mine r)) (mutator_noted s c p w (plainly p pos) (idle_phase s w v k p pos mine) (n p pos mine) r))
  step_at {t} n (Row.commits x e mine y h) m a b (yes d) = stays {q = process_of s 0} m a b (sense_moves (Row.commits x e mine y h)) Beside.same (n m a b)

  pub step_noted : {t : State} → Noted s → Row s c t → Noted t
  step_noted n r m a b = step_at n r m a (rw (row_counts r).processes at b) (ℕ_discrete m c.process)

-- ---- the opening: nobody marks
open_early : (h : Heap) (p r : ℕ) → Early (open_process h p r)
unfolding open_process open_mutator
open_early h p r = pick_ind Early (ltb p h.processes) (λ _. record { sense = refl; lock = refl }) (λ _. record { sense = refl; lock = refl })

opening_early : (h : Heap) (p : ℕ) → 0 < p → Early (process_of (opening_of h) p)
unfolding opening_of
opening_early h zero l = absurd (omega arith)
opening_early h (suc zero) l = open_early h 1 _
opening_early h (suc (suc zero)) l = open_early h 2 _
opening_early h (suc (suc (suc zero))) l = open_early h 3 _
opening_early h (suc (suc (suc (suc zero)))) l = open_early h 4 _
opening_early h (suc (suc (suc (suc (suc p))))) l = record { sense = refl; lock = refl }

pub opening_noted : (h : Heap) → HeapFits h → Noted (opening_of h)
opening_noted h f m a b = early _ (opening_early h m a)

-- ---- the holder
inside_reached : (k j : ℕ) → inside_at k j ≡ true → (reached_at phase_stage k j ≡ true) × (reached_at lock_stage k j ≡ true)
unfolding inside_at
inside_reached k j h = go (split (mark_place k)) (split (eqb j again_stage)) (split (eqb j write_stage)) (split (eqb j unlock_stage))
  where
    at : mark_place k ≡ true → (i : ℕ) → eqb j i ≡ true → leb phase_stage i ≡ true → leb lock_stage i ≡ true → (reached_at phase_stage k j ≡ true) × (reached_at lock_stage k j ≡ true)
    at a i e x y = rw (a, eqb-true j i e) (x, y)

    go : (mark_place k ≡ true) ⊎ (mark_place k ≡ false) → (eqb j again_stage ≡ true) ⊎ (eqb j again_stage ≡ false) → (eqb j write_stage ≡ true) ⊎ (eqb j write_stage ≡ false) → (eqb j unlock_stage ≡ true) ⊎ (eqb j unlock_stage ≡ false) →
        (reached_at phase_stage k j ≡ true) × (reached_at lock_stage k j ≡ true)
    go (inl a) (inl e) y z = at a again_stage e refl refl
    go (inl a) (inr e) (inl y) z = at a write_stage y refl refl
    go (inl a) (inr e) (inr y) (inl z) = at a unlock_stage z refl refl
    go (inl a) (inr e) (inr y) (inr z) = absurd (false≢true (rw (a, e, y, z) at h))
    go (inr a) x y z = absurd (false≢true (rw a at h))

nobody_out : inside_at no_process.place no_process.stage ≡ false
unfolding inside_at
nobody_out = refl

pub holder_noted : (s : State) → WellFormed s → Lock s → CollectorWrote s → Noted s → HolderNoted s
holder_noted s w l k n p e = go (ℕ_discrete p 0) (dec_lt (mutators_of s) p) ((l p).0 e)
  where
    go : Dec (p ≡ 0) → Dec (mutators_of s < p) → Inside (process_of s p) → (process_of s p).sense ≡ s.memory.fm
    go (yes z) d i = rw z (scan_sense s w k (rw z at i))
    go (no z) (yes d) i = absurd (not_both i (rw (w.nobody p d) nobody_out))
    go (no z) (no d) i =
        let r = inside_reached (process_of s p).place (process_of s p).stage i in
        let v = n p (omega arith) (omega arith) in
        v.sense r.0 (v.left r.1)
