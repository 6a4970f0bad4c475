-- What looks see: memory's values, where the process that looks has no such store pending. Assumes nothing.
--     scan_field, sweep_mark, sweep_free      the collector's looks at fields and its sweep's at marks
--     look_mark_lem, look_used, look_field_lem        anybody's looks at marks and fields
--     look_sense_lem, look_idle                   reads of fM and of the phase in a mark
use mathlib.Core.Path.{◌≡◌, refl, sym, ap, ◌∙◌}
use mathlib.Core.Bool.{Bool, true, false, false≢true}
use mathlib.Core.List.{Memᴰ}
use mathlib.Core.Logic.{◌⊎◌, inl, inr}
use Prim.Native.Nat.{ℕ, ◌<◌}
use native.Mathlib.Omega.{arith}
use native.Mathlib.Decide.{ℕ_discrete}
use Rattle.cells.proofs.Bools.{split}
use Rattle.buffers.specs.declared.Phase.{Phase}
use Rattle.buffers.specs.declared.Phase.TheVariants as phase
use Rattle.buffers.specs.declared.Store.{Store}
use Rattle.buffers.specs.declared.Store.TheVariants as store
use Rattle.buffers.specs.declared.Spot.{Spot}
use Rattle.buffers.specs.declared.Spot.TheVariants as spot
use Rattle.buffers.specs.declared.Entry.{Entry}
use Rattle.buffers.specs.Stores.{bit_of, value_of, phase_of, spot_of, kind_of}
use Rattle.buffers.proofs.Hits.{hits_other}
use Rattle.memory.specs.declared.Memory.{Memory}
use Rattle.memory.specs.Answers.{SeenBit, SeenValue, SeenPhase, Swept}
use Rattle.memory.specs.Memories.{used_of, mark_of, field_of, blocked_of, stands_of}
use Rattle.memory.specs.Looks.{look_mark_of, look_field_of, look_phase_of, look_swept_of}
use Rattle.memory.specs.Views.{pending_for, view_of}
use Rattle.memory.proofs.Shapes.{pending_is, view_misses, view_from, view_spot}
use Rattle.memory.proofs.Spots.{held_mark, held_field, held_phase}
use Rattle.memory.proofs.Sights.{look_mark_no, look_mark_taken, look_field_taken, look_phase_taken, look_swept_no, swept_used, swept_free}
use Rattle.state.specs.declared.State.{State}
use Rattle.state.specs.Codes.{row7_mark}
use Rattle.state.specs.States.{process_of}
use Rattle.formed.proofs.Gives.{collector_within}
use Rattle.model.specs.Rows.{sees_bit, sees_value, sees_phase, finds_mark, finds_free, Marks}
use Rattle.claims.specs.Pending.{waiting_of, MarksAndFields}
use Rattle.claims.specs.Inv.{Inv}
use Rattle.claims.proofs.Written.{sees_sense}
use Rattle.claims.proofs.Noted.{misses, sees_phase_lem}
use Rattle.spared.specs.Holds.{StoreIn, FieldIn}
use Rattle.spared.specs.Lemmas.{ScanField, SweepMark, SweptFree, LookMark, LookUsed, LookField, LookSense, LookIdle}
use Rattle.spared.proofs.Marks.{mark_counts}
use Rattle.spared.proofs.Eras.{Sends, SendsOf, collector_sends, mark_phase}

-- ---- one sees memory's store at a spot, where one has none to it pending
sees_memory : (s : State) (p : ℕ) (at : Spot) → ((e : Entry) → Memᴰ e (waiting_of s p) → spot_of e.store ≡ at → ⊥) → view_of s.memory p at ≡ stands_of s.memory at
sees_memory s p at f = view_misses s.memory p at (λ e i. hits_other at e.store (f e (rw (pending_is s.memory p) at i)))

-- the collector's, by what it has pending
collector_sees : (s : State) → Inv s → (at : Spot) → ((v : Store) → SendsOf s v → spot_of v ≡ at → ⊥) → view_of s.memory 0 at ≡ stands_of s.memory at
collector_sees s v at f = sees_memory s 0 at (λ e i. f e.store (collector_sends s v (StoreIn.pends e i refl)))

-- a store of another kind than the spot's is not to it
other_spot : {v u : Store} {at : Spot} → v ≡ u → spot_of v ≡ at → (kind_of (spot_of u) ≡ kind_of at → ⊥) → ⊥
other_spot e h n = n (ap kind_of (sym (ap spot_of e) ∙ h))

seen_mark : (m : Memory) (p c : ℕ) {b : Bool} → view_of m p (spot.Mark c) ≡ stands_of m (spot.Mark c) → look_mark_of m p c ≡ sees_bit b → mark_of m c ≡ b
seen_mark m p c g e =
    let k = look_mark_taken m p c (ap (λ (i : SeenBit). i.no) e) in
    sym (ap bit_of (g ∙ held_mark m c)) ∙ sym (ap (λ (i : SeenBit). i.bit) k) ∙ ap (λ (i : SeenBit). i.bit) e

seen_field : (m : Memory) (p c f : ℕ) {v : ℕ} → look_field_of m p c f ≡ sees_value v → v ≡ value_of (view_of m p (spot.Field c f))
seen_field m p c f e =
    let k = look_field_taken m p c f (ap (λ (i : SeenValue). i.no) e) in
    sym (ap (λ (i : SeenValue). i.value) e) ∙ ap (λ (i : SeenValue). i.value) k

-- ---- marks
pub look_used : LookUsed
look_used m p c b e = ((look_mark_no m p c).second.0 (ap (λ (i : SeenBit). i.no) e)).1

is_mark_lem : (x : Store) (c : ℕ) → spot_of x ≡ spot.Mark c → x ≡ store.Mark c (bit_of x)
is_mark_lem (store.Mark d b) c g = cc
is_mark_lem (store.Field d f v) c g = cc
is_mark_lem (store.Sense b) c g = cc
is_mark_lem (store.AllocSense b) c g = cc
is_mark_lem (store.Phase x) c g = cc

-- a mark waits at the unlock alone
pub look_mark_lem : LookMark
look_mark_lem s v p c b n e = seen_mark s.memory p c (sees_memory s p (spot.Mark c) (λ x i h. n (v.marks.waits p (mark_counts (waiting_of s p) (StoreIn.pends x i (is_mark_lem x.store c h)))))) e

-- the sweep's: by whether the cell is occupied
swept : (m : Memory) (p c : ℕ) (w : Swept) → look_swept_of m p c ≡ w → w.no ≡ 0 → blocked_of m p ≡ false
swept m p c w e z = (look_swept_no m p c).second.0 (ap (λ (i : Swept). i.no) e ∙ z)

pub sweep_free : SweptFree
sweep_free m p c e = go (split (used_of m c))
  where
    go : (used_of m c ≡ true) ⊎ (used_of m c ≡ false) → used_of m c ≡ false
    go (inl u) = absurd (false≢true (sym (ap (λ (i : Swept). i.used) e) ∙ ap (λ (i : Swept). i.used) (swept_used m p c (swept m p c finds_free e refl) u)))
    go (inr u) = u

pub sweep_mark : SweepMark
sweep_mark s v h c b e = go (split (used_of s.memory c))
  where
    open_to : blocked_of s.memory 0 ≡ false
    open_to = swept s.memory 0 c (finds_mark b) e refl

    none : (v : Store) → SendsOf s v → spot_of v ≡ spot.Mark c → ⊥
    none v (Sends.of_phase x i f) g = other_spot i g (λ k. omega arith)
    none v (Sends.of_sense i f) g = other_spot i g (λ k. omega arith)
    none v (Sends.of_alloc i f) g = other_spot i g (λ k. omega arith)
    none v (Sends.of_mark d i f) g = false≢true (rw h at f)

    go : (used_of s.memory c ≡ true) ⊎ (used_of s.memory c ≡ false) → (used_of s.memory c ≡ true) × (mark_of s.memory c ≡ b)
    go (inl u) =
        let k = swept_used s.memory 0 c open_to u in
        (u, sym (ap bit_of (collector_sees s v (spot.Mark c) none ∙ held_mark s.memory c)) ∙ sym (ap (λ (i : Swept). i.bit) k) ∙ ap (λ (i : Swept). i.bit) e)
    go (inr u) = absurd (false≢true (sym (ap (λ (i : Swept). i.used) (swept_free s.memory 0 c open_to u)) ∙ ap (λ (i : Swept). i.used) e))

-- ---- fields
no_field : (s : State) (v : Store) (c f : ℕ) → SendsOf s v → spot_of v ≡ spot.Field c f → ⊥
no_field s v c f (Sends.of_phase x i g) h = other_spot i h (λ k. omega arith)
no_field s v c f (Sends.of_sense i g) h = other_spot i h (λ k. omega arith)
no_field s v c f (Sends.of_alloc i g) h = other_spot i h (λ k. omega arith)
no_field s v c f (Sends.of_mark d i g) h = other_spot i h (λ k. omega arith)

pub scan_field : ScanField
scan_field s v c f x e = seen_field s.memory 0 c f e ∙ ap value_of (collector_sees s v (spot.Field c f) (λ y k. no_field s y c f k) ∙ held_field s.memory c f)

-- a store to the spot is memory's, or an own one
abbrev From : State → ℕ → ℕ → ℕ → Store → Type 0
From s p c f x = spot_of x ≡ spot.Field c f → (value_of x ≡ field_of s.memory c f) ⊎ FieldIn (waiting_of s p) c f (value_of x)

is_field : (x : Store) (c f : ℕ) → spot_of x ≡ spot.Field c f → x ≡ store.Field c f (value_of x)
is_field (store.Mark d b) c f g = cc
is_field (store.Field d h v) c f g = cc
is_field (store.Sense b) c f g = cc
is_field (store.AllocSense b) c f g = cc
is_field (store.Phase x) c f g = cc

pub look_field_lem : LookField
look_field_lem s p c f v l e =
    rw (seen_field s.memory p c f e)
    (view_from (From s p c f) s.memory p (spot.Field c f) (λ x i g. inr (StoreIn.pends x (rw (pending_is s.memory p) at i) (is_field x.store c f g)))
    (λ g. inl (ap value_of (held_field s.memory c f))) (view_spot s.memory p (spot.Field c f)))

-- ---- fM and the phase, in a mark
module _ (s : State) (v : Inv s) where
  plainly : (p : ℕ) → (p ≡ 0 → ⊥) → MarksAndFields (pending_for s.memory p)
  plainly p n = rw (pending_is s.memory p) (v.stores p (omega arith))

  -- the collector marks in row 7
  scans : {r : ℕ} → Marks (process_of s 0) r → (process_of s 0).place ≡ row7_mark
  scans (Marks.old i) = absurd (let b = (collector_within v.formed.collector).0 in omega arith)
  scans (Marks.new i) = absurd (let b = (collector_within v.formed.collector).0 in omega arith)
  scans (Marks.root i) = absurd (let b = (collector_within v.formed.collector).0 in omega arith)
  scans (Marks.field i) = i

  -- where it has neither pending
  no_sense : (process_of s 0).place ≡ row7_mark → (x : Store) → SendsOf s x → spot_of x ≡ spot.Sense → ⊥
  no_sense h x (Sends.of_phase i e f) g = other_spot e g (λ k. omega arith)
  no_sense h x (Sends.of_sense e f) g = false≢true (rw h at f)
  no_sense h x (Sends.of_alloc e f) g = other_spot e g (λ k. omega arith)
  no_sense h x (Sends.of_mark d e f) g = other_spot e g (λ k. omega arith)

  no_phase : (process_of s 0).place ≡ row7_mark → (x : Store) → SendsOf s x → spot_of x ≡ spot.Phase → ⊥
  no_phase h x (Sends.of_phase i e f) g = false≢true (sym (rw h at f))
  no_phase h x (Sends.of_sense e f) g = other_spot e g (λ k. omega arith)
  no_phase h x (Sends.of_alloc e f) g = other_spot e g (λ k. omega arith)
  no_phase h x (Sends.of_mark d e f) g = other_spot e g (λ k. omega arith)

  sees_mark : (process_of s 0).place ≡ row7_mark → {h : Phase} → look_phase_of s.memory 0 ≡ sees_phase h → h ≡ phase.Mark
  sees_mark i e =
      let k = look_phase_taken s.memory 0 (ap (λ (i : SeenPhase). i.no) e) in
      sym (ap (λ (i : SeenPhase). i.phase) e) ∙ ap (λ (i : SeenPhase). i.phase) k ∙ ap phase_of (collector_sees s v spot.Phase (no_phase i) ∙ held_phase s.memory) ∙ mark_phase s v (rw i refl) (rw i refl)

pub look_sense_lem : LookSense
look_sense_lem s v p r i l b e = sym (sees_sense s.memory p (go (ℕ_discrete p 0)) e)
  where
    go : Dec (p ≡ 0) → view_of s.memory p spot.Sense ≡ stands_of s.memory spot.Sense
    go (yes z) = rw z (collector_sees s v spot.Sense (no_sense s v (scans s v (rw z at i))))
    go (no z) = view_misses s.memory p spot.Sense (λ x j. misses spot.Sense (omega arith) (plainly s v p z x j))

pub look_idle : LookIdle
look_idle s v p r i l e = go (ℕ_discrete p 0)
  where
    go : Dec (p ≡ 0) → (0 < p) × (s.memory.phase.phase ≡ phase.Idle)
    go (yes z) = let g = sees_mark s v (scans s v (rw z at i)) (rw z at e) in absurd (false≢true cc)
    go (no z) = (omega arith, sym (sees_phase_lem s.memory p (plainly s v p z) e))
