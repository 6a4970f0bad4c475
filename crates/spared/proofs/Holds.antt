-- Who holds what. Assumes nothing.
--     mark_held                       the cell that a mutator marks is held by it (S9)
--     held_somewhere, held_there      held is held by a mutator, and back
use mathlib.Core.Path.{◌≡◌, refl, sym, ap, ◌∙◌}
use mathlib.Core.Bool.{false≢true}
use mathlib.Core.List.{List, [], ◌∷◌, Memᴰ}
use mathlib.Core.Logic.{◌⊎◌, inl, inr, by_cases}
use Prim.Native.Nat.{ℕ, zero, suc, ◌≤◌, ◌<◌}
use native.Mathlib.Omega.{arith}
use native.Mathlib.Decide.{ℕ_discrete, dec_lt}
use lib.ListN.{get_or}
use Rattle.cells.specs.Sets.{Member}
use Rattle.cells.proofs.Bools.{not_both}
use Rattle.cells.proofs.Members.{member_empty}
use Rattle.buffers.specs.declared.Store.TheVariants as store
use Rattle.buffers.specs.declared.Entry.{Entry}
use Rattle.buffers.specs.Stores.{no_entry}
use Rattle.memory.proofs.Shapes.{pending_is}
use Rattle.memory_formed.proofs.Shapes.{pending_stores}
use Rattle.state.specs.declared.Process.{Process}
use Rattle.state.specs.Codes.{roots_mark, look_stage}
use Rattle.state.specs.States.{mutators_of, process_of}
use Rattle.formed.specs.Fits.{MutatorFits}
use Rattle.formed.proofs.Gives.{mark_old_at, mark_y_at, roots_rest_at, mutator_within}
use Rattle.model.specs.Rows.{Marks}
use Rattle.reach.specs.Held.{store_at, Held}
use Rattle.claims.specs.Pending.{waiting_of}
use Rattle.spared.specs.Holds.{StoreIn, FieldIn, HeldBy, HeldAt}
use Rattle.spared.specs.Notes.{NotesOf}
use Rattle.spared.specs.Lemmas.{MarkHeld, HeldSomewhere, HeldThere}
use Rattle.spared.proofs.Eras.{collector_fields}

-- ---- S9: the old value is the honorary root, y and the cell of a root answer are roots
marked_held : {n : ℕ} (q : Process) (l : List Entry) (r : ℕ) → MutatorFits n q → NotesOf q → Marks q r → (q.place ≡ roots_mark → q.stage ≡ look_stage → ⊥) → HeldBy q l r
marked_held q l r w k (Marks.old i) f = HeldBy.honorary refl (mark_old_at i w).mark.cell_named.0
marked_held q l r w k (Marks.new i) f = go (k.y (rw i refl))
  where
    go : (q.y ≡ 0) ⊎ Member q.roots q.y → HeldBy q l q.y
    go (inl e) = absurd (let z = (mark_y_at i w).mark.cell_named.0 in omega arith)
    go (inr e) = HeldBy.root e
marked_held q l r w k (Marks.root i) f = HeldBy.root (k.cell i (roots_rest_at i (f i) w).named)
marked_held q l r w k (Marks.field i) f = absurd (let z = mutator_within w in omega arith)

pub mark_held : MarkHeld
mark_held s v m a b r i f = marked_held (process_of s m) (waiting_of s m) r (v.inv.formed.mutators m a b) (v.notes m a b) i f

-- ---- a store by its number, and as a member
numbered_in : (l : List Entry) (i c f v : ℕ) → (get_or l i no_entry).store ≡ store.Field c f v → FieldIn l c f v
numbered_in [] i c f v e = absurd (false≢true cc)
numbered_in (x ∷ l) zero c f v e = StoreIn.pends x (Memᴰ.head refl) e
numbered_in (x ∷ l) (suc i) c f v e = go (numbered_in l i c f v e)
  where
    go : FieldIn l c f v → FieldIn (x ∷ l) c f v
    go (StoreIn.pends d k h) = StoreIn.pends d (Memᴰ.tail k) h

in_numbered : (l : List Entry) (e : Entry) → Memᴰ e l → (i : ℕ) × (get_or l i no_entry ≡ e)
in_numbered [] e x' = elim x' [ ]
in_numbered (x ∷ l) e (Memᴰ.head z) = (0, sym z)
in_numbered (x ∷ l) e (Memᴰ.tail j) = let k = in_numbered l e j in (suc k.0, k.1)

-- ---- held is held by a mutator
pub held_somewhere : HeldSomewhere
held_somewhere s v c = go
  where
    -- the collector and nobody have neither roots nor an old value
    owner : (p : ℕ) → (Member (process_of s p).roots c) ⊎ (((process_of s p).old ≡ c) × (0 < c)) → (0 < p) × (p ≤ mutators_of s)
    owner p h = (by_cases (ℕ_discrete p 0) (λ z. absurd (first (rw z at h))) (λ z. omega arith), by_cases (dec_lt (mutators_of s) p) (λ l. absurd (nobody l h)) (λ l. omega arith))
      where
        first : (Member (process_of s 0).roots c) ⊎ (((process_of s 0).old ≡ c) × (0 < c)) → ⊥
        first (inl k) = not_both (rw v.formed.collector.no_roots at k) (member_empty c)
        first (inr k) = let e = v.formed.collector.no_old in let z = k.0 in let l = k.1 in omega arith

        nobody : mutators_of s < p → (Member (process_of s p).roots c) ⊎ (((process_of s p).old ≡ c) × (0 < c)) → ⊥
        nobody l (inl k) = not_both (rw (v.formed.nobody p l) at k) (member_empty c)
        nobody l (inr k) = let e = ap (λ (q : Process). q.old) (v.formed.nobody p l) in let z = k.0 in let h = k.1 in omega arith

    by : (p : ℕ) → (0 < p) × (p ≤ mutators_of s) → HeldAt s p c → (p : ℕ) × ((0 < p) × ((p ≤ mutators_of s) × HeldAt s p c))
    by p w h = (p, (w.0, (w.1, h)))

    go : Held s c → (p : ℕ) × ((0 < p) × ((p ≤ mutators_of s) × HeldAt s p c))
    go (Held.root p h) = by p (owner p (inl h)) (HeldBy.root h)
    go (Held.honorary p e l) = by p (owner p (inr (e, l))) (HeldBy.honorary e l)
    go (Held.target p i f x e l) = let k = numbered_in (waiting_of s p) i c f x e in by p (collector_fields s v p c f x k) (HeldBy.target f x k)
    go (Held.value p i d f e l) = let k = numbered_in (waiting_of s p) i d f c e in by p (collector_fields s v p d f c k) (HeldBy.value d f k l)

-- ---- and back: a pending store is to a cell
pub held_there : HeldThere
held_there s w p c = go
  where
    numbered : {f v d : ℕ} → FieldIn (waiting_of s p) d f v → (i : ℕ) × (store_at s p i ≡ store.Field d f v)
    numbered (StoreIn.pends e i h) = let k = in_numbered (waiting_of s p) e i in (k.0, ap (λ (x : Entry). x.store) k.1 ∙ h)

    cell : {f v : ℕ} → FieldIn (waiting_of s p) c f v → 0 < c
    cell (StoreIn.pends e i h) = let k = rw h at (pending_stores s.memory w.memory p e (rw (pending_is s.memory p) i)) in k.0.0

    go : HeldAt s p c → Held s c
    go (HeldBy.root h) = Held.root p h
    go (HeldBy.honorary e l) = Held.honorary p e l
    go (HeldBy.target f v h) = let k = numbered h in Held.target p k.0 f v k.1 (cell h)
    go (HeldBy.value d f h l) = let k = numbered h in Held.value p k.0 d f k.1 l
