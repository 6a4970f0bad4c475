-- The opening has what the published claim needs. Assumes nothing.
--     opening_spared      all clauses hold: nobody marks, nothing is listed or pending, every occupied cell is marked
use mathlib.Core.Path.{◌≡◌, refl}
use mathlib.Core.Bool.{Bool, true, false, false≢true}
use mathlib.Core.Logic.{⊎_elim}
use mathlib.Core.List.Memᴰ
use mathlib.Core.List.{List}
use Prim.Native.Nat.{ℕ, zero, suc, ◌≤◌, ◌<◌}
use native.Mathlib.Omega.{arith}
use lib.Dec.{eqb, ltb}
use Rattle.base.proofs.Picking.{pick_ind}
use Rattle.cells.specs.Sets.{no_cells, Member, Sub}
use Rattle.cells.proofs.Bools.{not_both}
use Rattle.cells.proofs.Members.{member_empty}
use Rattle.buffers.specs.declared.Store.{Store}
use Rattle.memory.specs.Memories.{used_of, field_of}
use Rattle.state.specs.declared.Process.{Process}
use Rattle.state.specs.declared.State.{State}
use Rattle.state.specs.declared.opening.Heap.{Heap}
use Rattle.state.specs.Codes.{top, roots_mark, row1_round, row10_free, fence_stage}
use Rattle.state.specs.States.{mutators_of, process_of}
use Rattle.state.specs.Openings.{open_memory, open_collector, open_mutator, open_process, open_system, opening_of}
use Rattle.formed.specs.Fits.{among_of, HeapFits}
use Rattle.model.specs.Offers.{mark_place}
use Rattle.model.specs.Rows.{Marks}
use Rattle.reach.specs.Reach.{Names}
use Rattle.verdict.specs.Colours.{Grey}
use Rattle.claims.specs.Pending.{waiting_of}
use Rattle.claims.proofs.Pending.{none_waits}
use Rattle.claims.proofs.Moves.{marks_place}
use Rattle.claims.proofs.Inv.{opening_inv}
use Rattle.spared.specs.Shades.{AllMarked, NoGrey}
use Rattle.spared.specs.Holds.{StoreIn, HeldBy, HeldAt}
use Rattle.spared.specs.Zones.{store_places, insert_places, fenced_places, root_places, in_hand, region, in_sweep}
use Rattle.spared.specs.Good.{Good, Closed}
use Rattle.spared.specs.Looked.{Looks}
use Rattle.spared.specs.Barriers.{Barrier}
use Rattle.spared.specs.Inv.{Spared}
use Rattle.spared.proofs.Holds.{held_somewhere}

-- a process that has not begun: it marks nothing, lists nothing, greys nothing and has read nothing
record Fresh (q : Process) : Type 0 where
  pub place : mark_place q.place ≡ false
  pub work : q.work ≡ no_cells
  pub grey : q.grey ≡ 0
  pub unread : q.old ≡ 0

-- a mutator is at top, or is nobody
record Idles (q : Process) : Type 0 where
  pub place : q.place ≡ top
  pub fresh : Fresh q

open_idles : (h : Heap) (p r : ℕ) → Idles (open_process h p r)
unfolding open_process open_mutator
open_idles h p r = pick_ind Idles (ltb p h.processes) (λ _. record { place = refl; fresh = record { place = refl; work = refl; grey = refl; unread = refl } }) (λ _. record { place = refl; fresh = record { place = refl; work = refl; grey = refl; unread = refl } })

idles : (h : Heap) (p : ℕ) → 0 < p → Idles (process_of (opening_of h) p)
unfolding opening_of
idles h zero l = absurd (omega arith)
idles h (suc zero) l = open_idles h 1 _
idles h (suc (suc zero)) l = open_idles h 2 _
idles h (suc (suc (suc zero))) l = open_idles h 3 _
idles h (suc (suc (suc (suc zero)))) l = open_idles h 4 _
idles h (suc (suc (suc (suc (suc p))))) l = record { place = refl; fresh = record { place = refl; work = refl; grey = refl; unread = refl } }

fresh : (h : Heap) (p : ℕ) → Fresh (process_of (opening_of h) p)
unfolding opening_of open_collector
fresh h zero = record { place = refl; work = refl; grey = refl; unread = refl }
fresh h (suc p) = (idles h (suc p) (omega arith)).fresh

module _ (h : Heap) where
  abbrev o : State
  o = opening_of h

  none_marks : (p : ℕ) {r : ℕ} → Marks (process_of o p) r → ⊥
  none_marks p i = not_both (marks_place i) (fresh h p).place

  none_pends : (p : ℕ) {v : Store} → StoreIn (waiting_of o p) v → ⊥
  none_pends p (StoreIn.pends e i k) = Memᴰ.not-nil (rw (none_waits h p) at i)

  none_listed : (p c : ℕ) → Member (process_of o p).work c → ⊥
  none_listed p c m = not_both m (rw (fresh h p).work (member_empty c))

  none_gathered : (c : ℕ) → Member o.system.work c → ⊥
  unfolding opening_of open_system
  none_gathered c m = not_both m (member_empty c)

  none_grey : NoGrey o
  none_grey c (Grey.listed p m) = none_listed p c m
  none_grey c (Grey.gathered m) = none_gathered c m
  none_grey c (Grey.greying p e l) = let z = (fresh h p).grey in omega arith

  -- "fM, fA and all marks of occupied cells 1"
  all_marked : AllMarked o.memory
  unfolding opening_of open_memory
  all_marked c e = record { occupied = e; equal = e }

  good : (c : ℕ) → used_of o.memory c ≡ true → Good o c
  good c e = record { occupied = e; marked = λ _. all_marked c e }

  -- the zones that the collector stands in
  off : (t : ℕ → ℕ → Bool) → t row1_round fence_stage ≡ false → t (process_of o 0).place (process_of o 0).stage ≡ true → ⊥
  unfolding opening_of open_collector
  off t e i = not_both i e

  senses : o.memory.fa ≡ o.memory.fm
  unfolding opening_of open_memory
  senses = refl

  away : (p : ℕ) → 0 < p → (l : List ℕ) → among_of top l ≡ false → among_of (process_of o p).place l ≡ true → ⊥
  away p a l e i = not_both i (rw (idles h p a).place e)

  -- a place of a mark is none
  elsewhere : (p : ℕ) → 0 < p → (k : ℕ) → mark_place k ≡ true → (process_of o p).place ≡ k → ⊥
  elsewhere p a k e i = not_both e (rw (← i) (fresh h p).place)

  looks : (p : ℕ) → Looks o.memory p (waiting_of o p) (process_of o p)
  looks p =
      record {
        seen = λ i _ _ _. absurd (none_marks p i);
        apart = λ k. absurd (false≢true (rw (fresh h p).place at k));
        white = λ i _. absurd (none_marks p i);
        done = λ i _ _. absurd (none_marks p i);
      }

  barrier : (p : ℕ) → 0 < p → Barrier o.memory (waiting_of o p) (process_of o p)
  barrier p a =
      record {
        inserts = λ _ i. absurd (away p a insert_places refl i);
        inserted = λ _ c f v i. absurd (none_pends p i);
        deletes = λ _ i. absurd (away p a store_places refl i);
        deleted = λ _ c f v i. absurd (none_pends p i);
        roots = λ i. absurd (away p a root_places refl i);
      }

  module _ (w : HeapFits h) where
    -- "roots name occupied cells"
    open_rooted : (p r : ℕ) → Sub r h.used → Sub (open_process h p r).roots h.used
    unfolding open_process open_mutator
    open_rooted p r k = pick_ind (λ (q : Process). Sub q.roots h.used) (ltb p h.processes) (λ _. k) (λ _ c m. absurd (not_both m (member_empty c)))

    rooted : (p : ℕ) → 0 < p → p < h.processes → Sub (process_of o p).roots h.used
    unfolding opening_of
    rooted zero a b = absurd (omega arith)
    rooted (suc zero) a b = open_rooted 1 _ (w.roots 1 a b)
    rooted (suc (suc zero)) a b = open_rooted 2 _ (w.roots 2 a b)
    rooted (suc (suc (suc zero))) a b = open_rooted 3 _ (w.roots 3 a b)
    rooted (suc (suc (suc (suc zero)))) a b = open_rooted 4 _ (w.roots 4 a b)
    rooted (suc (suc (suc (suc (suc p))))) a b = absurd (omega (arith, w.most))

    there : (c : ℕ) → Member h.used c → used_of o.memory c ≡ true
    unfolding opening_of open_memory
    there c m = m

    few : (p : ℕ) → 0 < p → p ≤ mutators_of o → p < h.processes
    unfolding opening_of open_memory
    few p a b = omega arith

    held_used : (p : ℕ) → 0 < p → p ≤ mutators_of o → (c : ℕ) → HeldAt o p c → used_of o.memory c ≡ true
    held_used p a b c (HeldBy.root m) = there c (rooted p a (few p a b) c m)
    held_used p a b c (HeldBy.honorary e l) = let z = (fresh h p).unread in absurd (omega arith)
    held_used p a b c (HeldBy.target f v i) = absurd (none_pends p i)
    held_used p a b c (HeldBy.value d f i l) = absurd (none_pends p i)

    -- "A field of an occupied cell is 0 or names an occupied cell"
    named : (c d f : ℕ) → used_of o.memory c ≡ true → field_of o.memory c f ≡ d → 0 < d → used_of o.memory d ≡ true
    unfolding opening_of open_memory
    named c d f u e l = ⊎_elim (λ z. absurd (omega arith)) (λ m. rw (← e) m) (w.named c f u)

    closed : Closed o
    closed c d g (Names.first e l) = good d (named c d 0 g.occupied e l)
    closed c d g (Names.second e l) = good d (named c d 1 g.occupied e l)

    pub opening_spared : Spared o
    opening_spared =
        record {
          inv = opening_inv h w;
          fenced = λ p a b i. absurd (away p a fenced_places refl i);
          notes = λ p a b. record {
            x = λ i. absurd (away p a store_places refl i);
            y = λ i. absurd (away p a store_places refl i);
            left = λ i. absurd (elsewhere p a roots_mark refl i);
            cell = λ i. absurd (elsewhere p a roots_mark refl i);
          };
          greying = λ p c b i. absurd (none_pends p i);
          of_marks = λ p e. absurd (e (fresh h p).grey);
          looked = looks;
          listed = record { gathered = λ c m. absurd (none_gathered c m); listed = λ p c m. absurd (none_listed p c m) };
          rested = record { at = λ _. all_marked; flip = λ _. all_marked };
          blank = λ e. absurd (e senses);
          quiet = λ _. none_grey;
          unlisted = λ _. (fresh h 0).work;
          ends = λ _ _ _ p a b. record { work = (fresh h p).work; grey = (fresh h p).grey };
          held = λ c i. let k = held_somewhere o (opening_inv h w) c i in good c (held_used k.0 k.1.0 k.1.1.0 c k.1.1.1);
          closed = closed;
          tricolour = λ c k. k.white.unequal (all_marked k.named k.white.occupied).equal;
          barriers = λ p a b. barrier p a;
          snapshot = λ i. absurd (off region refl i);
          scanned = record { listed = λ i. absurd (off (λ k j. in_hand k) refl i); occupied = λ i. absurd (none_marks 0 i); scanned = λ i. absurd (off (λ k j. in_hand k) refl i) };
          swept = record { swept = λ i. absurd (off (λ k j. in_sweep k) refl i); white = λ e. absurd (off (λ k j. eqb k row10_free) refl (rw e refl)) };
        }
