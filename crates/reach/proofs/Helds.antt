-- The set of the cells held: `HeldExactly`. Assumes nothing.
--     held_from      a member is held
--     held_has       a cell that is held, up to 64, is a member
--     held_exactly   both
--     held_within    a cell held is at most N, where the state's parts are
use mathlib.Core.Path.{◌≡◌, refl}
use mathlib.Core.Logic.{◌⊎◌, inl, inr}
use Prim.Native.Nat.{ℕ, ◌≤◌, ◌<◌}
use native.Mathlib.Omega.{arith}
use lib.ListN.{get_or}
use Rattle.cells.specs.Sets.{max_set, no_cells, Member, add_of}
use Rattle.cells.proofs.Bools.{not_both}
use Rattle.cells.proofs.Members.{member_empty, member_pos, in_add, add_same, add_keeps}
use Rattle.cells.proofs.Belows.{below_member}
use Rattle.buffers.specs.declared.Store.{Store}
use Rattle.buffers.specs.declared.Store.TheVariants as store
use Rattle.buffers.specs.declared.Entry.{Entry}
use Rattle.buffers.specs.declared.Buffer.{Buffer}
use Rattle.buffers.specs.Stores.{no_entry}
use Rattle.buffers.specs.Buffers.{pending_of}
use Rattle.memory.specs.Memories.{no_buffer}
use Rattle.state.specs.declared.Process.{Process}
use Rattle.state.specs.declared.State.{State}
use Rattle.state.specs.States.{no_process, process_of}
use Rattle.reach.specs.Held.{store_at, Held, root, honorary, target, value, with_process_held, with_store_of, with_entry_of, with_buffer_of, of_processes_of, of_buffers_of, held_of}
use Rattle.reach.specs.Statements.{HeldExactly, Within}
use Rattle.reach.proofs.Folds.{fold_from, fold_keeps, fold_has, Joined, inside, alone, joined_from, joined_keeps, joined_has, joined_none}

-- what a process, a store and a buffer add
abbrev OfProcess : Process → ℕ → Type 0
OfProcess q c = Joined q.roots q.old c

data OfStore (t : Store) (c : ℕ) : Type 0 where
  to : (f v : ℕ) → t ≡ store.Field c f v → 0 < c → OfStore t c
  of : (d f : ℕ) → t ≡ store.Field d f c → 0 < c → OfStore t c

abbrev OfEntry : Entry → ℕ → Type 0
OfEntry e c = OfStore e.store c

abbrev OfBuffer : Buffer → ℕ → Type 0
OfBuffer b c = (i : ℕ) × OfEntry (get_or (pending_of b) i no_entry) c

module _ (c : ℕ) where
  -- ---- a store
  store_from : (h : ℕ) (t : Store) → Member (with_store_of h t) c → (Member h c) ⊎ (OfStore t c)
  store_from h (store.Mark d b) p = inl p
  store_from h (store.Field d f v) p = one (in_add (add_of h d) v c p)
    where
      pos : 0 < c
      pos = member_pos (add_of (add_of h d) v) c p

      two : (Member h c) ⊎ (d ≡ c) → (Member h c) ⊎ (OfStore (store.Field d f v) c)
      two (inl q) = inl q
      two (inr e) = inr (to f v (rw e refl) pos)

      one : (Member (add_of h d) c) ⊎ (v ≡ c) → (Member h c) ⊎ (OfStore (store.Field d f v) c)
      one (inl q) = two (in_add h d c q)
      one (inr e) = inr (of d f (rw e refl) pos)
  store_from h (store.Sense b) p = inl p
  store_from h (store.AllocSense b) p = inl p
  store_from h (store.Phase b) p = inl p

  store_keeps : (h : ℕ) (t : Store) → Member h c → Member (with_store_of h t) c
  store_keeps h (store.Mark d b) p = p
  store_keeps h (store.Field d f v) p = add_keeps (add_of h d) v c (add_keeps h d c p)
  store_keeps h (store.Sense b) p = p
  store_keeps h (store.AllocSense b) p = p
  store_keeps h (store.Phase b) p = p

  store_has : c ≤ max_set → (h : ℕ) (t : Store) → OfStore t c → Member (with_store_of h t) c
  store_has l h t (to f v e p) = rw e (add_keeps (add_of h c) v c (add_same h c p l))
  store_has l h t (of d f e p) = rw e (add_same (add_of h d) c p l)

  no_store_lem : OfEntry no_entry c → ⊥
  no_store_lem (to f v e p) = let z : ◌≡◌ {A = ℕ} 0 1 = cc in omega arith
  no_store_lem (of d f e p) = let z : ◌≡◌ {A = ℕ} 0 1 = cc in omega arith

  -- ---- a buffer
  entry_from : (h : ℕ) (e : Entry) → Member (with_entry_of h e) c → (Member h c) ⊎ (OfEntry e c)
  entry_from h e p = store_from h e.store p

  buffer_from : (h : ℕ) (b : Buffer) → Member (with_buffer_of h b) c → (Member h c) ⊎ (OfBuffer b c)
  buffer_from h b p = fold_from with_entry_of OfEntry no_entry c entry_from h (pending_of b) p

  entry_keeps : (h : ℕ) (e : Entry) → Member h c → Member (with_entry_of h e) c
  entry_keeps h e p = store_keeps h e.store p

  buffer_keeps : (h : ℕ) (b : Buffer) → Member h c → Member (with_buffer_of h b) c
  buffer_keeps h b p = fold_keeps with_entry_of OfEntry no_entry c entry_keeps h (pending_of b) p

  buffer_has : c ≤ max_set → (h : ℕ) (b : Buffer) → OfBuffer b c → Member (with_buffer_of h b) c
  buffer_has l h b p = fold_has with_entry_of OfEntry no_entry c entry_keeps (λ a e q. store_has l a e.store q) no_store_lem h (pending_of b) p.0 p.1

  no_buffer_lem : OfBuffer no_buffer c → ⊥
  no_buffer_lem p = no_store_lem p.1

-- ---- the whole state
pub held_from : (s : State) (c : ℕ) → Member (held_of s) c → Held s c
unfolding held_of of_buffers_of of_processes_of
held_from s c p = go (fold_from with_buffer_of OfBuffer no_buffer c (buffer_from c) (of_processes_of s) s.memory.buffers p)
  where
    own_of : (p : ℕ) → OfProcess (process_of s p) c → Held s c
    own_of p (inside q) = root p q
    own_of p (alone e q) = honorary p e q

    store_of : (p i : ℕ) → OfStore (store_at s p i) c → Held s c
    store_of p i (to f v e q) = target p i f v e q
    store_of p i (of d f e q) = value p i d f e q

    first : (Member no_cells c) ⊎ ((p : ℕ) × OfProcess (process_of s p) c) → Held s c
    first (inl q) = absurd (not_both q (member_empty c))
    first (inr q) = own_of q.0 q.1

    go : (Member (of_processes_of s) c) ⊎ ((p : ℕ) × OfBuffer (get_or s.memory.buffers p no_buffer) c) → Held s c
    go (inl q) = first (fold_from with_process_held OfProcess no_process c (λ h q. joined_from c h q.roots q.old) no_cells s.procs q)
    go (inr q) = store_of q.0 q.1.0 q.1.1

pub held_has : (s : State) (c : ℕ) → c ≤ max_set → Held s c → Member (held_of s) c
unfolding held_of of_buffers_of of_processes_of
held_has s c l = go
  where
    by_process : (p : ℕ) → OfProcess (process_of s p) c → Member (held_of s) c
    by_process p q =
        fold_keeps with_buffer_of OfBuffer no_buffer c (buffer_keeps c) (of_processes_of s) s.memory.buffers
        (fold_has with_process_held OfProcess no_process c (λ h q. joined_keeps c h q.roots q.old) (λ h q. joined_has c l h q.roots q.old) (joined_none c) no_cells s.procs p q)

    by_store : (p i : ℕ) → OfStore (store_at s p i) c → Member (held_of s) c
    by_store p i q = fold_has with_buffer_of OfBuffer no_buffer c (buffer_keeps c) (buffer_has c l) (no_buffer_lem c) (of_processes_of s) s.memory.buffers p (i, q)

    go : Held s c → Member (held_of s) c
    go (root p q) = by_process p (inside q)
    go (honorary p e q) = by_process p (alone e q)
    go (target p i f v e q) = by_store p i (to f v e q)
    go (value p i d f e q) = by_store p i (of d f e q)

pub held_exactly : HeldExactly
held_exactly s c l = (held_from s c, held_has s c l)

pub held_within : (s : State) → Within s → (c : ℕ) → Held s c → c ≤ s.memory.cells
held_within s w c (root p q) = below_member (process_of s p).roots s.memory.cells c (w.roots p) q
held_within s w c (honorary p e q) = omega (arith, w.old p)
held_within s w c (target p i f v e q) = w.target p i c f v e
held_within s w c (value p i d f e q) = w.value p i d f c e
