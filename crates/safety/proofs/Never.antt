-- Refusal 11 is never given: what is read or committed is of an occupied cell. Assumes nothing.
--     deed_spares      a step that is offered reads occupied cells only
--     never_free       no choice is answered by 11
use mathlib.Core.Path.{◌≡◌, refl, sym, ap, subst}
use mathlib.Core.Bool.{true, false≢true, ◌||◌}
use mathlib.Core.Logic.{◌⊎◌, inl, inr, ⊎_elim, by_cases}
use mathlib.Core.List.Memᴰ
use Prim.Native.Nat.{ℕ, ◌≤◌, ◌<◌}
use native.Mathlib.Omega.{arith}
use native.Mathlib.Decide.{ℕ_discrete, dec_lt}
use borrow.Author.Tests.{eqb-true, ne_eqb}
use lib.Dec.{eqb}
use Rattle.base.specs.Refusals.{by_free}
use Rattle.base.proofs.Picking.{pick_ind, pick_no}
use Rattle.cells.specs.Sets.{Member}
use Rattle.cells.proofs.Bools.{not_both, and_parts}
use Rattle.buffers.specs.declared.Spot.{Spot}
use Rattle.buffers.specs.declared.Store.{Store}
use Rattle.buffers.specs.declared.Store.TheVariants as store
use Rattle.buffers.specs.declared.Entry.{Entry}
use Rattle.buffers.specs.Stores.{spot_of}
use Rattle.memory.specs.declared.Memory.{Memory}
use Rattle.memory.specs.Memories.{used_of}
use Rattle.state.specs.declared.State.{State}
use Rattle.state.specs.declared.Choice.{Choice}
use Rattle.state.specs.declared.Process.{Process}
use Rattle.state.specs.States.{Answer, mutators_of, process_of, refused_of}
use Rattle.state.specs.Codes.{top, store_mark_old, store_mark_y, store_write, noop_fence, roots_fence, roots_mark, work_fence, row2_read, row2_write, row4_write, row5_phase, row5_alloc, row7_first, row7_mark, row7_next, row9_write, row10_look, row10_free, row11_write, look_stage, sense_stage, phase_stage, lock_stage, again_stage, write_stage, unlock_stage, fence_stage}
use Rattle.formed.proofs.Gives.{mutator_within, collector_within}
use Rattle.model.specs.Offers as offer
use Rattle.model.specs.Offers.{mark_place, round_place, Operation, offer_of}
use Rattle.model.specs.Rows.{Marks}
use Rattle.model.specs.Deeds.{Deed, cell_of, top_deed, mark_deed, row_deed, deed_of}
use Rattle.model.specs.Reasons.{mover, OnFree, OfFree, Reason, NotOffered}
use Rattle.model.proofs.Deeds.{Offered}
use Rattle.model.proofs.Offering.{amid}
use Rattle.engine.specs.Steps.{step_of}
use Rattle.engine.specs.Statements.{First}
use Rattle.engine.proofs.Theorems.{refused, answered}
use Rattle.claims.specs.Pending.{waiting_of, unlock_at, Unlocking}
use Rattle.spared.specs.Holds.{StoreIn, HeldBy, HeldAt}
use Rattle.spared.specs.Inv.{Spared}
use Rattle.spared.proofs.Holds.{mark_held, held_there}
use Rattle.spared.proofs.Marks.{mark_store}

-- a deed reads no free cell
data Spares (m : Memory) : Deed → Type 0 where
  reads : {at : Spot} → (OnFree m at → ⊥) → Spares m (Deed.reads at)
  sweeps : {x : ℕ} → Spares m (Deed.sweeps x)
  writes : {v : Store} → Spares m (Deed.writes v)
  fences : Spares m Deed.fences
  locks : Spares m Deed.locks
  unlocks : Spares m Deed.unlocks
  allocates : {x : ℕ} → Spares m (Deed.allocates x)
  frees : {x : ℕ} → Spares m (Deed.frees x)
  apart : Spares m Deed.apart

spared_read : {m : Memory} {at : Spot} → Spares m (Deed.reads at) → OnFree m at → ⊥
spared_read (Spares.reads n) = n

-- the cell being marked is occupied, and so is what is held
module _ (s : State) (v : Spared s) where
  held_used : (p : ℕ) {c : ℕ} → HeldAt s p c → used_of s.memory c ≡ true
  held_used p {c} h = (v.held c (held_there s v.inv.formed p c h)).occupied

  marks_used : (p : ℕ) → p ≤ mutators_of s → {r : ℕ} → Marks (process_of s p) r → ((process_of s p).place ≡ roots_mark → (process_of s p).stage ≡ look_stage → ⊥) → used_of s.memory r ≡ true
  marks_used p l {r} i n = go (ℕ_discrete p 0)
    where
      go : Dec (p ≡ 0) → used_of s.memory r ≡ true
      go (yes e) = v.scanned.occupied (subst (λ x. Marks (process_of s x) r) e i)
      go (no e) = held_used p (mark_held s v p (omega arith) l r i n)

-- ---- a step that is offered
module _ (s : State) (c : Choice) (v : Spared s) (l : c.process ≤ mutators_of s) (o : Offered s c) where
  abbrev q : Process
  q = mover s c

  abbrev Fine : Deed → Type 0
  Fine = Spares s.memory

  root_used : Member q.roots c.x → used_of s.memory c.x ≡ true
  root_used m = held_used s v c.process (HeldBy.root m)

  -- the collector is never at top
  operated : {k : ℕ} → Operation s.memory.cells c q → c.op ≡ k → (k ≡ 2) ⊎ (k ≡ 3) → Member q.roots c.x
  operated (Operation.allocates e a b f y) i j = absurd (⊎_elim (λ x. omega arith) (λ x. omega arith) j)
  operated (Operation.drops e m f y) i j = m
  operated (Operation.reads e m f y) i j = m
  operated (Operation.stores e m f y) i j = m
  operated (Operation.fences e x f y) i j = absurd (⊎_elim (λ x. omega arith) (λ x. omega arith) j)
  operated (Operation.answers e x f y) i j = absurd (⊎_elim (λ x. omega arith) (λ x. omega arith) j)

  offers_operation : q.place ≡ top → offer_of q ≡ offer.operation
  unfolding offer_of
  offers_operation e = rw e refl

  top_spares : q.place ≡ top → Fine (top_deed c)
  unfolding top_deed
  top_spares e =
      let p = amid s c (offers_operation e) o in
      pick_no Fine c.op 0 (λ _. Spares.allocates) (λ _.
      pick_no Fine c.op 2 (λ i. Spares.reads (not_both (root_used (operated p i (inl refl))))) (λ _.
      pick_no Fine c.op 3 (λ i. Spares.reads (not_both (root_used (operated p i (inr refl))))) (λ _.
      pick_no Fine c.op 4 (λ _. Spares.fences) (λ _. Spares.apart))))

  -- ---- a mark: the cell that is looked at
  offers_root : q.place ≡ roots_mark → q.stage ≡ look_stage → offer_of q ≡ offer.one_of q.left
  unfolding offer_of
  offers_root e g = rw (e, g) refl

  abbrev Used : ℕ → Type 0
  Used r = used_of s.memory r ≡ true

  is_mutator : q.place ≡ roots_mark → 0 < c.process
  is_mutator e = go (ℕ_discrete c.process 0)
    where
      go : Dec (c.process ≡ 0) → 0 < c.process
      go (yes z) = absurd (omega (arith, (collector_within v.inv.formed.collector).0, subst (λ x. (process_of s x).place ≡ roots_mark) z e))
      go (no z) = omega arith

  root_looked : q.place ≡ roots_mark → q.stage ≡ look_stage → Used c.x
  root_looked e g = root_used ((v.notes c.process (is_mutator e) l).left e c.x (amid s c (offers_root e g) o).1)

  cell_used : mark_place q.place ≡ true → Used (cell_of c q)
  unfolding cell_of
  cell_used k =
      pick_no Used q.place store_mark_old (λ e. marks_used s v c.process l (Marks.old e) (λ i. absurd (omega arith))) (λ a.
      pick_no Used q.place store_mark_y (λ e. marks_used s v c.process l (Marks.new e) (λ i. absurd (omega arith))) (λ b.
      pick_no Used q.place roots_mark (λ e. pick_no Used q.stage look_stage (root_looked e) (λ n. marks_used s v c.process l (Marks.root e) (λ _ i. n i))) (λ d.
      marks_used s v c.process l (Marks.field (scans a b d)) (λ i. absurd (d i)))))
    where
      scans : (q.place ≡ store_mark_old → ⊥) → (q.place ≡ store_mark_y → ⊥) → (q.place ≡ roots_mark → ⊥) → q.place ≡ row7_mark
      scans a b d = eqb-true q.place row7_mark (rw (ne_eqb q.place store_mark_old a, ne_eqb q.place store_mark_y b, ne_eqb q.place roots_mark d) at k)

  mark_spares : mark_place q.place ≡ true → Fine (mark_deed c q)
  unfolding mark_deed
  mark_spares k =
      pick_no Fine q.stage look_stage (λ _. Spares.reads (not_both (cell_used k))) (λ _.
      pick_no Fine q.stage sense_stage (λ _. Spares.reads (λ x. x)) (λ _.
      pick_no Fine q.stage phase_stage (λ _. Spares.reads (λ x. x)) (λ _.
      pick_no Fine q.stage lock_stage (λ _. Spares.locks) (λ _.
      pick_no Fine q.stage again_stage (λ _. Spares.reads (not_both (cell_used k))) (λ _.
      pick_no Fine q.stage write_stage (λ _. Spares.writes) (λ _. Spares.unlocks))))))

  -- ---- row 7: x is on the collector's list
  listed_used : (x : ℕ) → Member q.work x → Used x
  listed_used x m = (v.listed.listed c.process x m).occupied

  offers_scan : q.place ≡ row7_first → offer_of q ≡ offer.scan q.work
  unfolding offer_of
  offers_scan e = rw e refl

  in_hand_lem : q.place ≡ row7_next → Member q.work q.x
  in_hand_lem e = go (ℕ_discrete c.process 0)
    where
      go : Dec (c.process ≡ 0) → Member q.work q.x
      go (yes z) = subst (λ i. (process_of s i).place ≡ row7_next → Member (process_of s i).work (process_of s i).x) (sym z) (λ k. v.scanned.listed (rw k refl)) e
      go (no z) = absurd (omega (arith, mutator_within (v.inv.formed.mutators c.process (omega arith) l)))

  row_spares : Fine (row_deed c q)
  unfolding row_deed
  row_spares =
      pick_no Fine q.place store_write (λ _. Spares.writes) (λ _.
      pick_ind Fine (eqb q.place noop_fence || eqb q.place roots_fence || eqb q.place work_fence) (λ _. Spares.fences) (λ _.
      pick_no Fine q.place row2_read (λ _. Spares.reads (λ x. x)) (λ _.
      pick_no Fine q.place row2_write (λ _. Spares.writes) (λ _.
      pick_no Fine q.place row4_write (λ _. Spares.writes) (λ _.
      pick_no Fine q.place row5_phase (λ _. Spares.writes) (λ _.
      pick_no Fine q.place row5_alloc (λ _. Spares.writes) (λ _.
      pick_no Fine q.place row7_first (λ e. Spares.reads (not_both (listed_used c.x (amid s c (offers_scan e) o).cell))) (λ _.
      pick_no Fine q.place row7_next (λ e. Spares.reads (not_both (listed_used q.x (in_hand_lem e)))) (λ _.
      pick_no Fine q.place row9_write (λ _. Spares.writes) (λ _.
      pick_no Fine q.place row10_look (λ _. Spares.sweeps) (λ _.
      pick_no Fine q.place row10_free (λ _. Spares.frees) (λ _.
      pick_no Fine q.place row11_write (λ _. Spares.writes) (λ _. Spares.apart)))))))))))))

  deed_spares : Fine (deed_of c q)
  unfolding deed_of
  deed_spares =
      pick_no Fine q.place top top_spares (λ _.
      pick_ind Fine (mark_place q.place) mark_spares (λ _.
      pick_ind Fine (round_place q.place) (λ _. pick_no Fine q.stage fence_stage (λ _. Spares.fences) (λ _. Spares.apart)) (λ _. row_spares)))

-- ---- a commit
module _ (s : State) (v : Spared s) (p : ℕ) (l : p ≤ mutators_of s) where
  unlocking_past : Unlocking (process_of s p) → (process_of s p).stage ≡ look_stage → ⊥
  unfolding unlock_at
  unlocking_past u e = false≢true (rw e at (and_parts (mark_place (process_of s p).place) (eqb (process_of s p).stage unlock_stage) u).1)

  store_spares : (e : Entry) → StoreIn (waiting_of s p) e.store → OnFree s.memory (spot_of e.store) → ⊥
  store_spares e i = go e.store i
    where
      go : (x : Store) → StoreIn (waiting_of s p) x → OnFree s.memory (spot_of x) → ⊥
      go (store.Mark r b) i f = let k = mark_store s v p r b i in not_both (marks_used s v p l k.marks (λ _ h. unlocking_past k.unlocking h)) f
      go (store.Field r g x) i f = not_both (held_used s v p (HeldBy.target g x i)) f
      go (store.Sense b) i f = f
      go (store.AllocSense b) i f = f
      go (store.Phase h) i f = f

-- ---- refusal 11
module _ (s : State) (c : Choice) (v : Spared s) where
  first_not : First s c by_free → ⊥
  first_not k = reason k.holds
    where
      there : (mutators_of s < c.process → ⊥) → c.process ≤ mutators_of s
      there n = by_cases (dec_lt (mutators_of s) c.process) (λ i. absurd (n i)) (λ i. omega arith)

      process : c.process ≤ mutators_of s
      process = there (λ i. k.none_before 2 (omega arith) (Reason.no_process refl i))

      free : OfFree s c → ⊥
      free (OfFree.reading {at} (z, d) f) = k.none_before 4 (omega arith) (Reason.not_offered refl (NotOffered.own z (λ o. spared_read (subst (Spares s.memory) d (deed_spares s c v process o)) f)))
      free (OfFree.committing z {e} h f) = store_spares s v c.process process e (StoreIn.pends e (rw h (Memᴰ.head refl)) refl) f

      reason : Reason s c by_free → ⊥
      reason (Reason.malformed e w) = omega arith
      reason (Reason.no_process e w) = omega arith
      reason (Reason.no_kind e a b) = omega arith
      reason (Reason.not_offered e w) = omega arith
      reason (Reason.none_pending e a b) = omega arith
      reason (Reason.flag_down e w) = omega arith
      reason (Reason.blocked e w) = omega arith
      reason (Reason.pending e w) = omega arith
      reason (Reason.full e a b) = omega arith
      reason (Reason.occupied e a b) = omega arith
      reason (Reason.free e w) = free w

  pub never_free : (step_of s c).no ≡ by_free → ⊥
  never_free e = ⊎_elim (λ h. let z = ap (λ (a : Answer). a.no) h in omega arith) (λ h. first_not ((refused s c by_free (omega arith)).0 (subst (λ n. step_of s c ≡ refused_of n s) e h.1))) (answered s c)
