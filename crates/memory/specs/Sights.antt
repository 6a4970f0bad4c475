-- What a look sees, and what each process sees after each step that is taken: statements, proved in proofs/Laws.
-- Assumes nothing.
-- A look hands no memory back, so it changes nothing.
use Rattle.std.specs.Prelude.{◌≡◌, Bool, true, false, ℕ}
use mathlib.Core.List.{List, ◌∷◌, ◌++◌, Memᴰ}
use Rattle.base.specs.Refusals.{as_taken, by_blocked}
use Rattle.buffers.specs.declared.Store.TheVariants as store
use Rattle.buffers.specs.declared.Spot.{Spot}
use Rattle.buffers.specs.declared.Spot.TheVariants as spot
use Rattle.buffers.specs.declared.Entry.{Entry}
use Rattle.buffers.specs.Stores.{spot_of, spot_cell_of, bit_of}
use Rattle.memory.specs.declared.Memory.{Memory}
use Rattle.memory.specs.Memories.{unseen, used_of, blocked_of, there_of, stands_of}
use Rattle.memory.specs.Looks.{look_of, seen_bit, seen_value, seen_phase, look_mark_of, look_field_of, look_sense_of, look_phase_of, look_swept_of}
use Rattle.memory.specs.Views.{pending_for, view_of}
use Rattle.memory.specs.Shapes.{Shaped, Plain}
use Rattle.memory.specs.Refusals.{LookNumbers}
use Rattle.memory.specs.Effects.{Written, Committed, Relocked, Reset}

-- "matching store": one to the spot; here, none of the list
abbrev pub Unwritten : Spot → List Entry → Type 0
Unwritten at es = (e : Entry) → Memᴰ e es → spot_of e.store ≡ at → ⊥

-- "A read gives the newest matching store of the reader's own buffer, else memory, and needs the reader unblocked."
pub record LookLaw (m : Memory) (p : ℕ) (at : Spot) : Type 0 where
  pub numbers : LookNumbers m p at
  -- a taken one tells the view, a refused one the empty store
  pub taken : (look_of m p at).no ≡ as_taken → look_of m p at ≡ record { no = as_taken; store = view_of m p at }
  pub refused : ((look_of m p at).no ≡ as_taken → ⊥) → look_of m p at ≡ unseen (look_of m p at).no
  -- "the newest matching store of the reader's own buffer": none after it matches
  pub own :
      (older newer : List Entry) (e : Entry) → pending_for m p ≡ older ++ (e ∷ newer) → spot_of e.store ≡ at → Unwritten at newer
      → view_of m p at ≡ e.store
  -- "else memory": none matches
  pub memory : Unwritten at (pending_for m p) → view_of m p at ≡ stands_of m at
  -- what is seen at a spot is a store to that spot
  pub spot : spot_of (view_of m p at) ≡ at

abbrev pub LookLaws : Type 0
LookLaws = (m : Memory) (p : ℕ) (at : Spot) → LookLaw m p at

-- "look at r's mark"; "read field 0"; "read fM"; "read phase": each is the one look, told as a bit, a value or a phase
pub record ReadLaw (m : Memory) (p : ℕ) : Type 0 where
  pub mark : (c : ℕ) → look_mark_of m p c ≡ seen_bit (look_of m p (spot.Mark c))
  pub field : (c f : ℕ) → look_field_of m p c f ≡ seen_value (look_of m p (spot.Field c f))
  pub sense : look_sense_of m p ≡ seen_bit (look_of m p spot.Sense)
  pub phase : look_phase_of m p ≡ seen_phase (look_of m p spot.Phase)

abbrev pub ReadLaws : Type 0
ReadLaws = (m : Memory) (p : ℕ) → ReadLaw m p

-- "the sweep's look excepted": it finds the cell occupied or free, and is refused by 7 alone
pub record SweepLaw (m : Memory) (p c : ℕ) : Type 0 where
  pub blocked : blocked_of m p ≡ true → look_swept_of m p c ≡ record { no = by_blocked; used = false; bit = false }
  pub used : blocked_of m p ≡ false → used_of m c ≡ true → look_swept_of m p c ≡ record { no = as_taken; used = true; bit = bit_of (view_of m p (spot.Mark c)) }
  pub free : blocked_of m p ≡ false → used_of m c ≡ false → look_swept_of m p c ≡ record { no = as_taken; used = false; bit = false }

abbrev pub SweepLaws : Type 0
SweepLaws = (m : Memory) (p c : ℕ) → SweepLaw m p c

-- a writer sees its store at once and all else as before; nobody else sees a change
pub record WriteSeen (m : Memory) (p : ℕ) (e : Entry) (n : Memory) : Type 0 where
  pub own : view_of n p (spot_of e.store) ≡ e.store
  pub elsewhere : (at : Spot) → (spot_of e.store ≡ at → ⊥) → view_of n p at ≡ view_of m p at
  pub others : (q : ℕ) (at : Spot) → (q ≡ p → ⊥) → view_of n q at ≡ view_of m q at

abbrev pub WriteShows : Type 0
WriteShows = (m : Memory) (p : ℕ) (e : Entry) (n : Memory) → Written m p e n → WriteSeen m p e n

-- memory holds a committed store at its spot and all else as before; the committer sees no change,
-- and another sees one at that spot alone, the store itself if it has none of its own to it
pub record CommitSeen (m : Memory) (p : ℕ) (n : Memory) (w : Committed m p n) : Type 0 where
  pub held : stands_of n (spot_of w.oldest.store) ≡ w.oldest.store
  pub elsewhere : (at : Spot) → Plain at → (spot_of w.oldest.store ≡ at → ⊥) → stands_of n at ≡ stands_of m at
  pub own : (at : Spot) → Plain at → view_of n p at ≡ view_of m p at
  pub others : (q : ℕ) (at : Spot) → Plain at → (spot_of w.oldest.store ≡ at → ⊥) → (q ≡ p → ⊥) → view_of n q at ≡ view_of m q at
  pub shows : (q : ℕ) → Unwritten (spot_of w.oldest.store) (pending_for m q) → (q ≡ p → ⊥) → view_of n q (spot_of w.oldest.store) ≡ w.oldest.store

abbrev pub CommitShows : Type 0
CommitShows = (m : Memory) (p : ℕ) (n : Memory) (w : Committed m p n) → Shaped m → Plain (spot_of w.oldest.store) → CommitSeen m p n w

-- a lock and an unlock are seen by nobody
abbrev pub RelockShows : Type 0
RelockShows = (m : Memory) (k : ℕ) (n : Memory) → Relocked m k n → (q : ℕ) (at : Spot) → view_of n q at ≡ view_of m q at

-- an allocation and a free are held at the spots of their cell, and are seen at no other
pub record ResetSeen (m : Memory) (c : ℕ) (b : Bool) (n : Memory) : Type 0 where
  pub mark : stands_of n (spot.Mark c) ≡ store.Mark c b
  pub field : (f : ℕ) → stands_of n (spot.Field c f) ≡ store.Field c f 0
  pub there : (at : Spot) → (spot_cell_of at ≡ c → ⊥) → there_of n at ≡ there_of m at
  pub elsewhere : (q : ℕ) (at : Spot) → (spot_cell_of at ≡ c → ⊥) → view_of n q at ≡ view_of m q at

abbrev pub ResetShows : Type 0
ResetShows = (m : Memory) (c : ℕ) (u b : Bool) (n : Memory) → Reset m c u b n → ResetSeen m c b n
