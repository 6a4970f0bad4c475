-- What each process sees, and what memory holds, after each step that is taken. Assumes nothing.
--     view_same                                  a view is decided by one's own list and by what memory holds at the
--                                                spot
--     written_own, written_others                the writer sees its store at its spot and all else as before; nobody
--                                                else sees any change
--     committed_own                              a commit changes nothing that its own process sees
--     committed_others                           what another then sees: its own store, else the committed one at its
--                                                spot, else as before
--     committed_miss, committed_hidden, committed_shows     so it sees a change only at that spot, and there exactly
--                                                           if it has no store of its own to it
--     relocked_view                              lock and unlock change no view
--     reset_held, reset_mark, reset_field        an allocation or a free changes only what is held at its cell
--     reset_there, reset_view                    .. and only whether its spots are there; other views stay
use mathlib.Core.Path.{◌≡◌, refl, sym, ◌∙◌}
use mathlib.Core.Bool.{Bool, true, false}
use Prim.Native.Nat.{ℕ}
use Rattle.base.specs.Pick.{pick}
use Rattle.buffers.specs.declared.Store.{Store}
use Rattle.buffers.specs.declared.Store.TheVariants as store
use Rattle.buffers.specs.declared.Spot.{Spot}
use Rattle.buffers.specs.declared.Spot.TheVariants as spot
use Rattle.buffers.specs.declared.Entry.{Entry}
use Rattle.std.specs.Prelude.{Option, Some, None, unwrap_or}
use Rattle.buffers.specs.Stores.{spot_of, spot_cell_of, hits_of}
use Rattle.buffers.specs.Buffers.{newest_of}
use Rattle.buffers.proofs.Newests.{newest_last, newest_first}
use Rattle.memory.specs.declared.Memory.{Memory}
use Rattle.memory.specs.Memories.{there_of, stands_of}
use Rattle.memory.specs.Views.{pending_for, view_of}
use Rattle.memory.proofs.Shapes.{Shaped, view_is}
use Rattle.memory.proofs.Spots.{Plain, held_same, held_mark, held_field}
use Rattle.memory.proofs.Effects.{Written, Committed, Relocked, Reset, committed_held}

pub view_same : (m n : Memory) (q : ℕ) (at : Spot) → pending_for n q ≡ pending_for m q → stands_of n at ≡ stands_of m at → view_of n q at ≡ view_of m q at
view_same m n q at e h = rw (view_is n q at, e, h) (sym (view_is m q at))

-- ---- write
seen_last : (b : Bool) (s : Store) (found : Option Store) (other : Store) → unwrap_or (pick b (Some s) found) other ≡ pick b s (unwrap_or found other)
seen_last true s found other = refl
seen_last false s found other = refl

module _ {m : Memory} {p : ℕ} {e : Entry} {n : Memory} (w : Written m p e n) where
  pub written_own : (at : Spot) → view_of n p at ≡ pick (hits_of at e.store) e.store (view_of m p at)
  written_own at =
      rw (view_is n p at, view_is m p at, w.own, held_same m n at w.alike, newest_last at (pending_for m p) e)
      (seen_last (hits_of at e.store) e.store (newest_of at (pending_for m p)) (stands_of m at))

  pub written_others : (q : ℕ) (at : Spot) → (q ≡ p → ⊥) → view_of n q at ≡ view_of m q at
  written_others q at ne = view_same m n q at (w.others q ne) (held_same m n at w.alike)

-- ---- commit
module _ {m : Memory} {p : ℕ} {n : Memory} (z : Shaped m) (w : Committed m p n) (plain : Plain (spot_of w.oldest.store)) where
  pub committed_own : (at : Spot) → Plain at → view_of n p at ≡ view_of m p at
  committed_own at i =
      rw (view_is n p at, view_is m p at, w.own, w.before, committed_held z w at plain i)
      (sym (newest_first at w.oldest w.rest (stands_of m at)))

  pub committed_others : (q : ℕ) (at : Spot) → (q ≡ p → ⊥) → Plain at → view_of n q at ≡ unwrap_or (newest_of at (pending_for m q)) (pick (hits_of at w.oldest.store) w.oldest.store (stands_of m at))
  committed_others q at ne i = rw (view_is n q at, w.others q ne, committed_held z w at plain i)

  pub committed_miss : (q : ℕ) (at : Spot) → Plain at → hits_of at w.oldest.store ≡ false → (q ≡ p → ⊥) → view_of n q at ≡ view_of m q at
  committed_miss q at i h ne = committed_others q at ne i ∙ rw (h, view_is m q at)

  pub committed_hidden : (q : ℕ) (at : Spot) (s : Store) → Plain at → newest_of at (pending_for m q) ≡ Some s → (q ≡ p → ⊥) → view_of n q at ≡ view_of m q at
  committed_hidden q at s i h ne = committed_others q at ne i ∙ rw (view_is m q at, h)

  pub committed_shows : (q : ℕ) (at : Spot) → Plain at → newest_of at (pending_for m q) ≡ None → hits_of at w.oldest.store ≡ true → (q ≡ p → ⊥) → view_of n q at ≡ w.oldest.store
  committed_shows q at i h k ne = committed_others q at ne i ∙ rw (h, k)

-- ---- lock, unlock
pub relocked_view : {m : Memory} {k : ℕ} {n : Memory} → Relocked m k n → (q : ℕ) (at : Spot) → view_of n q at ≡ view_of m q at
relocked_view {m} {k} {n} w q at = view_same m n q at (w.pending q) (held_same m n at w.alike)

-- ---- allocate, free
module _ {m : Memory} {c : ℕ} {u b : Bool} {n : Memory} (w : Reset m c u b n) where
  pub reset_mark : stands_of n (spot.Mark c) ≡ store.Mark c b
  reset_mark = held_mark n c ∙ rw w.mark

  pub reset_field : (f : ℕ) → stands_of n (spot.Field c f) ≡ store.Field c f 0
  reset_field f = held_field n c f ∙ rw (w.fields f)

  pub reset_held : (at : Spot) → (spot_cell_of at ≡ c → ⊥) → stands_of n at ≡ stands_of m at
  unfolding stands_of
  reset_held (spot.Mark d) ne = rw (w.marks_others d ne)
  reset_held (spot.Field d f) ne = rw (w.fields_others d f ne)
  reset_held spot.Sense ne = rw w.fm
  reset_held spot.AllocSense ne = rw w.fa
  reset_held spot.Phase ne = rw w.phase

  pub reset_there : (at : Spot) → (spot_cell_of at ≡ c → ⊥) → there_of n at ≡ there_of m at
  unfolding there_of
  reset_there (spot.Mark d) ne = w.used_others d ne
  reset_there (spot.Field d f) ne = w.used_others d ne
  reset_there spot.Sense ne = refl
  reset_there spot.AllocSense ne = refl
  reset_there spot.Phase ne = refl

  pub reset_view : (q : ℕ) (at : Spot) → (spot_cell_of at ≡ c → ⊥) → view_of n q at ≡ view_of m q at
  reset_view q at ne = view_same m n q at (w.pending q) (reset_held at ne)
