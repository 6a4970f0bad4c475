-- What memory holds, spot by spot: where a spot is there, and what a store, an allocation and a free do to it.
-- Assumes nothing.
--     there_mark, there_field, there_sense, there_alloc_sense, there_phase     a spot of a cell is there while the
--     cell is occupied, any other always
--     there_used                          so where a spot is there is decided by the occupied cells
--     held_mark, held_field, held_sense, held_alloc_sense, held_phase          memory's parts as what it holds at a
--     spot
--     held_same, field_same               marks, fields, senses and phase are the same, so the same is held everywhere
--     held_applied                        a store applied is held at its own spot, and every other spot is as before
--     applied_field                       so each field is as before, or has the value stored
--     applied_settled, applied_lock, applied_buffers     a store changes neither the occupied cells nor the counts,
--                                                        the lock and the buffers
--     mark_same, mark_other                            one cell's mark is put
--     cell_same, cell_other, cell_put, cell_either     one cell of an array is put
use mathlib.Core.Path.{◌≡◌, refl, sym, ◌∙◌, ap}
use mathlib.Core.Bool.{Bool, true, false}
use mathlib.Core.Logic.{◌⊎◌, inl, inr, by_cases}
use mathlib.Core.List.{List}
use Prim.Native.Nat.{ℕ, zero, suc, ◌-◌, ◌≤◌, ◌<◌}
use native.Mathlib.Omega.{arith}
use native.Mathlib.Decide.{ℕ_discrete, dec_lt}
use lib.Dec.{eqb, eqb-suc-zero}
use lib.ListN.{length}
use lib.Seq.{get_or-set_same, get_or-set_other}
use borrow.Author.Tests.{eqb-true, eq-eqb, ne_eqb}
use Rattle.base.specs.Pick.{pick}
use Rattle.base.specs.Every.{◌and◌}
use Rattle.base.proofs.Everies.{and_both}
use Rattle.cells.specs.Sets.{max_set, member_of, Member, add_of, remove_of}
use Rattle.cells.proofs.Bools.{same_test}
use Rattle.cells.proofs.Members.{member_pos, in_add, add_same, add_keeps, in_remove, remove_keeps, remove_gone}
use Rattle.buffers.specs.declared.Store.{Store}
use Rattle.buffers.specs.declared.Store.TheVariants as store
use Rattle.buffers.specs.declared.Spot.{Spot}
use Rattle.buffers.specs.declared.Spot.TheVariants as spot
use Rattle.buffers.specs.Stores.{spot_of, hits_of, value_of}
use Rattle.memory.specs.declared.Memory.{Memory}
use Rattle.memory.specs.Memories.{max_cells, at_cell, put_cell, used_of, mark_of, marked_of, field_of, put_field_of, there_of, stands_of, applied_of}
pub use Rattle.memory.specs.Shapes.{last_field, Plain}
pub use Rattle.memory.specs.Effects.{Alike, Settled}
use Rattle.memory.proofs.Shapes.{Shaped}
use Rattle.memory.proofs.Ends.{put_past}

-- ---- one cell's mark
module _ (s : ℕ) where
  pub mark_same : (c : ℕ) (b : Bool) → 0 < c → c ≤ max_set → member_of (marked_of s c b) c ≡ b
  mark_same c true p h = add_same s c p h
  mark_same c false p h = remove_gone s c

  pub mark_other : (c d : ℕ) (b : Bool) → (d ≡ c → ⊥) → member_of (marked_of s c b) d ≡ member_of s d
  mark_other c d true n = same_test (member_of (add_of s c) d) (member_of s d) (λ h. old (in_add s c d h)) (add_keeps s c d)
    where
      old : (Member s d) ⊎ (c ≡ d) → Member s d
      old (inl h) = h
      old (inr e) = absurd (n (sym e))
  mark_other c d false n = same_test (member_of (remove_of s c) d) (member_of s d) (λ h. (in_remove s c d h).0) (λ h. remove_keeps s c d h (λ e. n (sym e)))

-- ---- one cell of an array
module _ {A : Type 0} (l : List A) (z v : A) where
  pub cell_same : (c : ℕ) → 0 < c → c ≤ length l → at_cell (put_cell l c v) c z ≡ v
  cell_same zero p h = absurd (omega arith)
  cell_same (suc i) p h = let e : suc i - 1 ≡ i = omega arith in rw (eqb-suc-zero i, e) (get_or-set_same l i v z (omega arith))

  pub cell_other : (c d : ℕ) → (d ≡ c → ⊥) → at_cell (put_cell l c v) d z ≡ at_cell l d z
  cell_other zero d h = refl
  cell_other (suc i) zero h = refl
  cell_other (suc i) (suc j) h =
      let e : suc i - 1 ≡ i = omega arith in
      let k : suc j - 1 ≡ j = omega arith in
      rw (eqb-suc-zero i, eqb-suc-zero j, e, k) (get_or-set_other l i j v z (λ q. h (ap suc q)))

  pub cell_put : (c d : ℕ) → 0 < c → c ≤ length l → at_cell (put_cell l c v) d z ≡ pick (eqb c d) v (at_cell l d z)
  cell_put c d p h = go (ℕ_discrete d c)
    where
      go : Dec (d ≡ c) → at_cell (put_cell l c v) d z ≡ pick (eqb c d) v (at_cell l d z)
      go (yes e) = rw (eq-eqb c d (sym e), e) (cell_same c p h)
      go (no n) = rw (ne_eqb c d (λ q. n (sym q))) (cell_other c d n)

  -- each cell is as before, or has the value put
  pub cell_either : (c d : ℕ) → (at_cell (put_cell l c v) d z ≡ at_cell l d z) ⊎ (at_cell (put_cell l c v) d z ≡ v)
  cell_either zero d = inl refl
  cell_either (suc i) d = by_cases (ℕ_discrete d (suc i)) (λ e. by_cases (dec_lt i (length l)) (λ h. inr (here e h)) (λ h. inl (past h))) (λ n. inl (cell_other (suc i) d n))
    where
      here : d ≡ suc i → i < length l → at_cell (put_cell l (suc i) v) d z ≡ v
      here e h = rw e (cell_same (suc i) (omega arith) (omega arith))

      past : (i < length l → ⊥) → at_cell (put_cell l (suc i) v) d z ≡ at_cell l d z
      past h = ap (λ (k : List A). at_cell k d z) (sym (put_past l (suc i) (length l) refl (λ q. omega arith) (omega arith) v))

-- ---- where a spot is there
module _ (m : Memory) where
  pub there_mark : (c : ℕ) → there_of m (spot.Mark c) ≡ used_of m c
  unfolding there_of
  there_mark c = refl

  pub there_field : (c f : ℕ) → there_of m (spot.Field c f) ≡ used_of m c
  unfolding there_of
  there_field c f = refl

  pub there_sense : there_of m spot.Sense ≡ true
  unfolding there_of
  there_sense = refl

  pub there_alloc_sense : there_of m spot.AllocSense ≡ true
  unfolding there_of
  there_alloc_sense = refl

  pub there_phase : there_of m spot.Phase ≡ true
  unfolding there_of
  there_phase = refl

pub there_used : (m n : Memory) (at : Spot) → n.used ≡ m.used → there_of n at ≡ there_of m at
unfolding there_of
there_used m n (spot.Mark c) e = rw e
there_used m n (spot.Field c f) e = rw e
there_used m n spot.Sense e = refl
there_used m n spot.AllocSense e = refl
there_used m n spot.Phase e = refl

-- ---- what is held
module _ (m : Memory) where
  pub held_mark : (c : ℕ) → stands_of m (spot.Mark c) ≡ store.Mark c (mark_of m c)
  unfolding stands_of
  held_mark c = refl

  pub held_field : (c f : ℕ) → stands_of m (spot.Field c f) ≡ store.Field c f (field_of m c f)
  unfolding stands_of
  held_field c f = refl

  pub held_sense : stands_of m spot.Sense ≡ store.Sense m.fm
  unfolding stands_of
  held_sense = refl

  pub held_alloc_sense : stands_of m spot.AllocSense ≡ store.AllocSense m.fa
  unfolding stands_of
  held_alloc_sense = refl

  pub held_phase : stands_of m spot.Phase ≡ store.Phase m.phase.phase
  unfolding stands_of
  held_phase = refl

pub held_same : (m n : Memory) (at : Spot) → Alike m n → stands_of n at ≡ stands_of m at
unfolding stands_of
held_same m n (spot.Mark c) k = rw k.marks
held_same m n (spot.Field c f) k = rw (k.field0, k.field1)
held_same m n spot.Sense k = rw k.fm
held_same m n spot.AllocSense k = rw k.fa
held_same m n spot.Phase k = rw k.phase

pub field_same : (m n : Memory) (c f : ℕ) → Alike m n → field_of n c f ≡ field_of m c f
field_same m n c f k = rw (k.field0, k.field1)

-- ---- a store applied
pub applied_settled : (m : Memory) (s : Store) → Settled m (applied_of m s)
unfolding applied_of
applied_settled m (store.Mark c b) = record { cells = refl; processes = refl; used = refl }
applied_settled m (store.Field c f v) = record { cells = refl; processes = refl; used = refl }
applied_settled m (store.Sense b) = record { cells = refl; processes = refl; used = refl }
applied_settled m (store.AllocSense b) = record { cells = refl; processes = refl; used = refl }
applied_settled m (store.Phase x) = record { cells = refl; processes = refl; used = refl }

pub applied_lock : (m : Memory) (s : Store) → (applied_of m s).lock ≡ m.lock
unfolding applied_of
applied_lock m (store.Mark c b) = refl
applied_lock m (store.Field c f v) = refl
applied_lock m (store.Sense b) = refl
applied_lock m (store.AllocSense b) = refl
applied_lock m (store.Phase x) = refl

pub applied_buffers : (m : Memory) (s : Store) → (applied_of m s).buffers ≡ m.buffers
unfolding applied_of
applied_buffers m (store.Mark c b) = refl
applied_buffers m (store.Field c f v) = refl
applied_buffers m (store.Sense b) = refl
applied_buffers m (store.AllocSense b) = refl
applied_buffers m (store.Phase x) = refl

-- "A commit applies one's oldest store": each field is as before, or has the value stored
pub applied_field : (m : Memory) (s : Store) (d g : ℕ) → (field_of (applied_of m s) d g ≡ field_of m d g) ⊎ (field_of (applied_of m s) d g ≡ value_of s)
unfolding applied_of
applied_field m (store.Mark c b) d g = inl refl
applied_field m (store.Field c f v) d g = go (eqb f 0) (eqb g 0)
  where
    after : Bool → Bool → ℕ
    after a b = pick b (at_cell (pick a (put_cell m.field0 c v) m.field0) d 0) (at_cell (pick a m.field1 (put_cell m.field1 c v)) d 0)

    go : (a b : Bool) → (after a b ≡ pick b (at_cell m.field0 d 0) (at_cell m.field1 d 0)) ⊎ (after a b ≡ v)
    go true true = cell_either m.field0 0 v c d
    go true false = inl refl
    go false true = inl refl
    go false false = cell_either m.field1 0 v c d
applied_field m (store.Sense b) d g = inl refl
applied_field m (store.AllocSense b) d g = inl refl
applied_field m (store.Phase x) d g = inl refl

bit_field : (f : ℕ) → f ≤ last_field → (f ≡ 0) ⊎ (f ≡ 1)
bit_field f h = by_cases (ℕ_discrete f 0) inl (λ n. inr (omega arith))

pick_pick : {A : Type 0} (b : Bool) (x y : A) → pick (pick b true false) x y ≡ pick b x y
pick_pick true x y = refl
pick_pick false x y = refl

pick_never : {A : Type 0} (b : Bool) (x y : A) → pick (pick b false false) x y ≡ y
pick_never true x y = refl
pick_never false x y = refl

module _ (m : Memory) (z : Shaped m) where
  mark_applied : (c : ℕ) (b : Bool) (d : ℕ) → 0 < c → c ≤ max_cells → stands_of (applied_of m (store.Mark c b)) (spot.Mark d) ≡ pick (hits_of (spot.Mark d) (store.Mark c b)) (store.Mark c b) (stands_of m (spot.Mark d))
  unfolding stands_of applied_of hits_of
  mark_applied c b d p h = go (ℕ_discrete c d)
    where
      go : Dec (c ≡ d) → store.Mark d (member_of (marked_of m.marks c b) d) ≡ pick (pick (eqb c d) true false) (store.Mark c b) (store.Mark d (mark_of m d))
      go (yes e) = rw (eq-eqb c d e, ← e) (ap (store.Mark c) (mark_same m.marks c b p (omega arith)))
      go (no n) = rw (ne_eqb c d n) (ap (store.Mark d) (mark_other m.marks c d b (λ q. n (sym q))))

  field_put : (c f v d g : ℕ) → 0 < c → c ≤ max_cells → f ≤ last_field → g ≤ last_field → field_of (put_field_of m c f v) d g ≡ pick (pick (eqb c d) (eqb f g) false) v (field_of m d g)
  field_put c f v d g p h j i = go (bit_field f j) (bit_field g i)
    where
      go : (f ≡ 0) ⊎ (f ≡ 1) → (g ≡ 0) ⊎ (g ≡ 1) → field_of (put_field_of m c f v) d g ≡ pick (pick (eqb c d) (eqb f g) false) v (field_of m d g)
      go (inl a) (inl b) = rw (a, b) (cell_put m.field0 0 v c d p (omega (arith, z.field0)) ∙ sym (pick_pick (eqb c d) v (at_cell m.field0 d 0)))
      go (inl a) (inr b) = rw (a, b) (sym (pick_never (eqb c d) v (at_cell m.field1 d 0)))
      go (inr a) (inl b) = rw (a, b) (sym (pick_never (eqb c d) v (at_cell m.field0 d 0)))
      go (inr a) (inr b) = rw (a, b) (cell_put m.field1 0 v c d p (omega (arith, z.field1)) ∙ sym (pick_pick (eqb c d) v (at_cell m.field1 d 0)))

  field_applied : (c f v d g : ℕ) → 0 < c → c ≤ max_cells → f ≤ last_field → g ≤ last_field → stands_of (applied_of m (store.Field c f v)) (spot.Field d g) ≡ pick (hits_of (spot.Field d g) (store.Field c f v)) (store.Field c f v) (stands_of m (spot.Field d g))
  unfolding stands_of applied_of hits_of
  field_applied c f v d g p h j i = go (eqb c d and eqb f g) refl
    where
      go : (t : Bool) → eqb c d and eqb f g ≡ t → store.Field d g (field_of (put_field_of m c f v) d g) ≡ pick (eqb c d and eqb f g) (store.Field c f v) (store.Field d g (field_of m d g))
      go true e =
          let both = and_both (eqb c d) (eqb f g) e in
          let x : c ≡ d = eqb-true c d both.0 in
          let y : f ≡ g = eqb-true f g both.1 in
          rw (field_put c f v d g p h j i, e, x, y)
      go false e = rw (field_put c f v d g p h j i, e)

  pub held_applied : (s : Store) (at : Spot) → there_of m (spot_of s) ≡ true → Plain (spot_of s) → Plain at → stands_of (applied_of m s) at ≡ pick (hits_of at s) s (stands_of m at)
  unfolding there_of stands_of applied_of hits_of
  held_applied (store.Mark c b) (spot.Mark d) h j i = mark_applied c b d (member_pos m.used c h) (z.within c h)
  held_applied (store.Mark c b) (spot.Field d g) h j i = refl
  held_applied (store.Mark c b) spot.Sense h j i = refl
  held_applied (store.Mark c b) spot.AllocSense h j i = refl
  held_applied (store.Mark c b) spot.Phase h j i = refl
  held_applied (store.Field c f v) (spot.Mark d) h j i = refl
  held_applied (store.Field c f v) (spot.Field d g) h j i = field_applied c f v d g (member_pos m.used c h) (z.within c h) j i
  held_applied (store.Field c f v) spot.Sense h j i = refl
  held_applied (store.Field c f v) spot.AllocSense h j i = refl
  held_applied (store.Field c f v) spot.Phase h j i = refl
  held_applied (store.Sense b) (spot.Mark d) h j i = refl
  held_applied (store.Sense b) (spot.Field d g) h j i = refl
  held_applied (store.Sense b) spot.Sense h j i = refl
  held_applied (store.Sense b) spot.AllocSense h j i = refl
  held_applied (store.Sense b) spot.Phase h j i = refl
  held_applied (store.AllocSense b) (spot.Mark d) h j i = refl
  held_applied (store.AllocSense b) (spot.Field d g) h j i = refl
  held_applied (store.AllocSense b) spot.Sense h j i = refl
  held_applied (store.AllocSense b) spot.AllocSense h j i = refl
  held_applied (store.AllocSense b) spot.Phase h j i = refl
  held_applied (store.Phase x) (spot.Mark d) h j i = refl
  held_applied (store.Phase x) (spot.Field d g) h j i = refl
  held_applied (store.Phase x) spot.Sense h j i = refl
  held_applied (store.Phase x) spot.AllocSense h j i = refl
  held_applied (store.Phase x) spot.Phase h j i = refl
