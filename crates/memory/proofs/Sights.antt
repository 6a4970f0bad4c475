-- Which number each look gives, exactly when, and what it sees. One and Two read in the order of the tests
-- (specs/Numbers). Assumes nothing.
--     look_no, look_mark_no, look_field_no, look_sense_no, look_phase_no, look_swept_no           the numbers of a look
--     look_taken, look_mark_taken, look_field_taken, look_sense_taken, look_phase_taken           a look that is
--     taken sees the view
--     look_refused                                                                                one that is refused
--                                                                                                 sees the empty
--                                                                                                 store
--     look_mark_is, look_field_is, look_sense_is, look_phase_is, look_swept_is                    each by the one look
--     swept_blocked, swept_used, swept_free                                                       the sweep's look
--     look_same                                                                                   a look is decided
--                                                                                                 by the lock, by
--                                                                                                 whether the spot is
--                                                                                                 there, and by the
--                                                                                                 view
use mathlib.Core.Path.{◌≡◌, refl, sym, ap}
use mathlib.Core.Bool.{Bool, true, false}
use Prim.Native.Nat.{ℕ}
use native.Mathlib.Omega.{arith}
use Rattle.base.specs.Pick.{pick}
use Rattle.base.specs.Refusals.{as_taken, by_blocked, by_free}
use Rattle.buffers.specs.declared.Store.{Store}
use Rattle.buffers.specs.declared.Spot.{Spot}
use Rattle.buffers.specs.declared.Spot.TheVariants as spot
use Rattle.std.specs.Prelude.{Option, Some, None}
use Rattle.buffers.specs.Stores.{bit_of, value_of, phase_of}
use Rattle.buffers.specs.Buffers.{pending_of}
use Rattle.buffers.proofs.Nearest.{source_none}
use Rattle.memory.specs.declared.Memory.{Memory}
use Rattle.memory.specs.Answers.{Seen}
use Rattle.memory.specs.Memories.{unseen, used_of, buffer_of, blocked_of, there_of}
use Rattle.memory.specs.Looks.{own_newest_of, source_of, source_by_of, from_of, swept_from_of, seen_of, look_of, seen_bit, seen_value, seen_phase, look_mark_of, look_field_of, look_sense_of, look_phase_of, swept_of, look_swept_of}
use Rattle.memory.specs.Views.{view_of}
use Rattle.memory.specs.Refusals.{LookNumbers}
use Rattle.memory.proofs.Spots.{there_mark, there_field, there_sense, there_phase}
use Rattle.memory.proofs.Chains.{itself, One, Two, one, two}

seen_pick : (t : Bool) (x y : Seen) {a b : ℕ} → x.no ≡ a → y.no ≡ b → (pick t x y).no ≡ pick t a b
seen_pick true x y e f = e
seen_pick false x y e f = f

module _ (m : Memory) (p : ℕ) where
  pub look_no : (at : Spot) → LookNumbers m p at
  unfolding look_of
  look_no at =
      two by_blocked as_taken by_free (blocked_of m p) (there_of m at) (λ x. omega arith) (λ x. omega arith) (λ x. omega arith)
      (seen_pick (blocked_of m p) (unseen by_blocked) _ refl (seen_pick (there_of m at) (record { no = as_taken; store = seen_of m p at }) (unseen by_free) refl refl))
      (itself (blocked_of m p))
      (λ x. itself (there_of m at))

  pub look_mark_no : (c : ℕ) → Two (look_mark_of m p c).no by_blocked as_taken by_free (blocked_of m p ≡ true) (blocked_of m p ≡ false) (used_of m c ≡ true) (used_of m c ≡ false)
  unfolding look_mark_of
  look_mark_no c = rw (there_mark m c) at (look_no (spot.Mark c))

  pub look_field_no : (c f : ℕ) → Two (look_field_of m p c f).no by_blocked as_taken by_free (blocked_of m p ≡ true) (blocked_of m p ≡ false) (used_of m c ≡ true) (used_of m c ≡ false)
  unfolding look_field_of
  look_field_no c f = rw (there_field m c f) at (look_no (spot.Field c f))

  always : (at : Spot) → there_of m at ≡ true → One (look_of m p at).no by_blocked as_taken (blocked_of m p ≡ true) (blocked_of m p ≡ false)
  unfolding look_of
  always at e = rw e (one by_blocked as_taken (blocked_of m p) (λ x. omega arith) (seen_pick (blocked_of m p) (unseen by_blocked) (record { no = as_taken; store = seen_of m p at }) refl refl) (itself (blocked_of m p)))

  pub look_sense_no : One (look_sense_of m p).no by_blocked as_taken (blocked_of m p ≡ true) (blocked_of m p ≡ false)
  unfolding look_sense_of
  look_sense_no = always spot.Sense (there_sense m)

  pub look_phase_no : One (look_phase_of m p).no by_blocked as_taken (blocked_of m p ≡ true) (blocked_of m p ≡ false)
  unfolding look_phase_of
  look_phase_no = always spot.Phase (there_phase m)

  pub look_taken : (at : Spot) → (look_of m p at).no ≡ as_taken → look_of m p at ≡ record { no = as_taken; store = view_of m p at }
  unfolding look_of view_of
  look_taken at h = let k = (look_no at).second.0 h in rw (k.0, k.1)

  pub look_refused : (at : Spot) → ((look_of m p at).no ≡ as_taken → ⊥) → look_of m p at ≡ unseen (look_of m p at).no
  unfolding look_of
  look_refused at h = go (blocked_of m p) (there_of m at) h
    where
      go : (t u : Bool) → ((pick {A = Seen} t (unseen by_blocked) (pick u (record { no = as_taken; store = seen_of m p at }) (unseen by_free))).no ≡ as_taken → ⊥) → pick {A = Seen} t (unseen by_blocked) (pick u (record { no = as_taken; store = seen_of m p at }) (unseen by_free)) ≡ unseen (pick {A = Seen} t (unseen by_blocked) (pick u (record { no = as_taken; store = seen_of m p at }) (unseen by_free))).no
      go true u h = refl
      go false true h = absurd (h refl)
      go false false h = refl

  pub look_mark_is : (c : ℕ) → look_mark_of m p c ≡ seen_bit (look_of m p (spot.Mark c))
  unfolding look_mark_of
  look_mark_is c = refl

  pub look_field_is : (c f : ℕ) → look_field_of m p c f ≡ seen_value (look_of m p (spot.Field c f))
  unfolding look_field_of
  look_field_is c f = refl

  pub look_sense_is : look_sense_of m p ≡ seen_bit (look_of m p spot.Sense)
  unfolding look_sense_of
  look_sense_is = refl

  pub look_phase_is : look_phase_of m p ≡ seen_phase (look_of m p spot.Phase)
  unfolding look_phase_of
  look_phase_is = refl

  pub look_swept_is : (c : ℕ) → look_swept_of m p c ≡ swept_of (look_mark_of m p c)
  unfolding look_swept_of
  look_swept_is c = refl

  pub look_mark_taken : (c : ℕ) → (look_mark_of m p c).no ≡ as_taken → look_mark_of m p c ≡ record { no = as_taken; bit = bit_of (view_of m p (spot.Mark c)) }
  unfolding look_mark_of
  look_mark_taken c h = ap seen_bit (look_taken (spot.Mark c) h)

  pub look_field_taken : (c f : ℕ) → (look_field_of m p c f).no ≡ as_taken → look_field_of m p c f ≡ record { no = as_taken; value = value_of (view_of m p (spot.Field c f)) }
  unfolding look_field_of
  look_field_taken c f h = ap seen_value (look_taken (spot.Field c f) h)

  pub look_sense_taken : (look_sense_of m p).no ≡ as_taken → look_sense_of m p ≡ record { no = as_taken; bit = bit_of (view_of m p spot.Sense) }
  unfolding look_sense_of
  look_sense_taken h = ap seen_bit (look_taken spot.Sense h)

  pub look_phase_taken : (look_phase_of m p).no ≡ as_taken → look_phase_of m p ≡ record { no = as_taken; phase = phase_of (view_of m p spot.Phase) }
  unfolding look_phase_of
  look_phase_taken h = ap seen_phase (look_taken spot.Phase h)

  -- ---- the sweep's look
  pub swept_blocked : (c : ℕ) → blocked_of m p ≡ true → look_swept_of m p c ≡ record { no = by_blocked; used = false; bit = false }
  unfolding look_swept_of look_mark_of look_of
  swept_blocked c b = rw b

  pub swept_used : (c : ℕ) → blocked_of m p ≡ false → used_of m c ≡ true → look_swept_of m p c ≡ record { no = as_taken; used = true; bit = bit_of (view_of m p (spot.Mark c)) }
  unfolding look_swept_of
  swept_used c b u = ap swept_of (look_mark_taken c ((look_mark_no c).second.1 (b, u)))

  pub swept_free : (c : ℕ) → blocked_of m p ≡ false → used_of m c ≡ false → look_swept_of m p c ≡ record { no = as_taken; used = false; bit = false }
  unfolding look_swept_of look_mark_of look_of
  swept_free c b u = rw (b, there_mark m c, u)

  pub look_swept_no : (c : ℕ) → One (look_swept_of m p c).no by_blocked as_taken (blocked_of m p ≡ true) (blocked_of m p ≡ false)
  look_swept_no c = go (blocked_of m p) refl (used_of m c) refl
    where
      go : (t : Bool) → blocked_of m p ≡ t → (u : Bool) → used_of m c ≡ u → One (look_swept_of m p c).no by_blocked as_taken (blocked_of m p ≡ true) (blocked_of m p ≡ false)
      go true e u f = one by_blocked as_taken (blocked_of m p) (λ x. omega arith) (rw (swept_blocked c e, e) refl) (itself (blocked_of m p))
      go false e true f = one by_blocked as_taken (blocked_of m p) (λ x. omega arith) (rw (swept_used c e f, e) refl) (itself (blocked_of m p))
      go false e false f = one by_blocked as_taken (blocked_of m p) (λ x. omega arith) (rw (swept_free c e f, e) refl) (itself (blocked_of m p))

-- ---- where a value came from: by the newest store of one's own
pub source_by_lem : (m : Memory) (p : ℕ) (at : Spot) → source_by_of (own_newest_of m p at) (source_of m p at) ≡ source_of m p at
source_by_lem m p at = go (own_newest_of m p at) refl
  where
    go : (n : Option Store) → own_newest_of m p at ≡ n → source_by_of n (source_of m p at) ≡ source_of m p at
    go None e = sym (source_none at (pending_of (buffer_of m p)) e)
    go (Some s) e = refl

-- ---- the sweep's look: a free cell's mark is read too
module _ (m : Memory) (p : ℕ) where
  pub swept_from_free : (c : ℕ) → (look_mark_of m p c).no ≡ by_free → swept_from_of m p c ≡ source_of m p (spot.Mark c)
  unfolding swept_from_of
  swept_from_free c e = rw ((look_mark_no m p c).third.0 e).0

  pub swept_from_used : (c : ℕ) → ((look_mark_of m p c).no ≡ by_free → ⊥) → swept_from_of m p c ≡ from_of m p (spot.Mark c)
  unfolding swept_from_of from_of
  swept_from_used c ne = go (blocked_of m p) refl (used_of m c) refl
    where
      go : (t : Bool) → blocked_of m p ≡ t → (u : Bool) → used_of m c ≡ u → swept_from_of m p c ≡ from_of m p (spot.Mark c)
      go true e u f = rw e
      go false e true f = rw (e, there_mark m c, f)
      go false e false f = absurd (ne ((look_mark_no m p c).third.1 (e, f)))

-- ---- a look is decided by the lock, by whether the spot is there, and by the view
pub look_same : (m n : Memory) (q : ℕ) (at : Spot) → blocked_of n q ≡ blocked_of m q → there_of n at ≡ there_of m at → view_of n q at ≡ view_of m q at → look_of n q at ≡ look_of m q at
unfolding look_of view_of
look_same m n q at b t v = rw (b, t, v)
