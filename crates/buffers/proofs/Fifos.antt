-- A buffer as the list of its pending entries, oldest first. Assumes nothing.
--     pending_length               as many are pending as `len` says
--     pending_none                 none is pending exactly if `len` is 0
--     push_room, push_full         a push is taken exactly while fewer than `max_stores` are pending, refused exactly
--                                  if `max_stores` are
--     push_last, push_same         a push that is taken appends; one that is refused leaves the buffer
--     turned                       how the code leaves out the oldest
--     pop_oldest, pop_none         a pop takes the oldest and leaves the others; of nothing it is refused, and leaves
--                                  the buffer
--     empty_pending                an empty buffer has none pending
--     empty_sized, push_sized, pop_sized     sizes are kept
use Prim.Native.Nat.{ℕ, zero, suc, ◌+◌, ◌-◌, ◌≤◌, ◌<◌}
use native.Mathlib.Numerals.{add-one}
use native.Mathlib.Omega.{arith}
use mathlib.Core.Bool.{true, false, false≢true}
use mathlib.Core.Path.{◌≡◌, refl, sym, ◌∙◌, ap}
use mathlib.Core.Logic.{◌↔◌, ◌⊎◌, inl, inr, ⊎_elim, by_cases}
use mathlib.Core.List.{List, [], ◌∷◌, ◌++◌}
use native.Mathlib.Decide.{dec_lt}
use lib.ListN.{length, take, drop, set, get_or, length-drop, length-append, length-set}
use lib.Seq.{take-suc-set, take-append-le, length-take-le, set-append_seam}
use borrow.Author.Tests.{lt-leb, le-leb, ne_eqb, eq-eqb}
use Rattle.buffers.specs.declared.Buffer.{Buffer}
use Rattle.buffers.specs.declared.Entry.{Entry}
use Rattle.buffers.specs.Stores.{no_entry}
use Rattle.buffers.specs.Buffers.{max_stores, empty_buffer, pending_of, Pushed, push_of, pop_of}
pub use Rattle.buffers.specs.Sizes.{Sized}

pub pending_length : (b : Buffer) → Sized b → length (pending_of b) ≡ b.len
pending_length b z = length-take-le b.len b.entries (omega arith)

pub pending_none : (b : Buffer) → Sized b → b.len ≡ 0 ↔ pending_of b ≡ []
pending_none b z = (λ e. rw e refl, λ e. sym (pending_length b z) ∙ ap length e)

pub empty_pending : pending_of empty_buffer ≡ []
empty_pending = refl

pub empty_sized : Sized empty_buffer
empty_sized = record { entries = refl; len = omega arith }

lt_or_le : (a b : ℕ) → (a < b) ⊎ (b ≤ a)
lt_or_le a b = by_cases (dec_lt a b) inl (λ n. inr (omega arith))

-- ---- push
module _ (b : Buffer) (e : Entry) where
  room : b.len < max_stores → push_of b e ≡ record { taken = true; buffer = record { entries = set b.entries b.len e; len = b.len + 1 } }
  unfolding push_of
  room l = rw (lt-leb max_stores b.len l)

  full : max_stores ≤ b.len → push_of b e ≡ record { taken = false; buffer = b }
  unfolding push_of
  full l = rw (le-leb max_stores b.len l)

  taken_room : (push_of b e).taken ≡ true → b.len < max_stores
  taken_room h = ⊎_elim (λ l. l) (λ l. absurd (false≢true (sym (ap (λ (r : Pushed). r.taken) (full l)) ∙ h))) (lt_or_le b.len max_stores)

  refused_full : (push_of b e).taken ≡ false → max_stores ≤ b.len
  refused_full h = ⊎_elim (λ l. absurd (false≢true (sym h ∙ ap (λ (r : Pushed). r.taken) (room l)))) (λ l. l) (lt_or_le b.len max_stores)

  pub push_room : Sized b → (push_of b e).taken ≡ true ↔ length (pending_of b) < max_stores
  push_room z = (λ h. rw (pending_length b z) (taken_room h), λ l. rw (room (rw (pending_length b z) at l)) refl)

  pub push_full : Sized b → (push_of b e).taken ≡ false ↔ length (pending_of b) ≡ max_stores
  push_full z = (λ h. rw (pending_length b z) (omega (arith, refused_full h)), λ l. rw (full (omega (arith, pending_length b z))) refl)

  pub push_last : Sized b → (push_of b e).taken ≡ true → pending_of (push_of b e).buffer ≡ pending_of b ++ (e ∷ [])
  push_last z h = rw (room (taken_room h), add-one) (take-suc-set b.entries b.len e (omega (arith, taken_room h)))

  pub push_same : (push_of b e).taken ≡ false → (push_of b e).buffer ≡ b
  push_same h = rw (full (refused_full h))

  pub push_sized : Sized b → Sized (push_of b e).buffer
  push_sized z = ⊎_elim (λ l. rw (room l) (record { entries = length-set b.entries b.len e ∙ z.entries; len = omega arith })) (λ l. rw (full l) z) (lt_or_le b.len max_stores)

-- ---- pop
-- the oldest turned to the last place, and there replaced
pub turned : (l : List Entry) (n : ℕ) (v : Entry) → length l ≡ n + 1 → set (drop 1 l ++ take 1 l) n v ≡ drop 1 l ++ (v ∷ [])
turned [] n v h = absurd (omega arith)
turned (x ∷ l) n v h = let e : length l ≡ n = omega arith in rw (← e) (set-append_seam l x [] v)

first_is : (n : ℕ) (l : List Entry) {e : Entry} {es : List Entry} → take n l ≡ e ∷ es → get_or l 0 no_entry ≡ e
first_is zero l h = cc
first_is (suc n) [] h = cc
first_is (suc n) (x ∷ l) h = cc

rest_is : (n : ℕ) (l : List Entry) {e : Entry} {es : List Entry} → take n l ≡ e ∷ es → take (n - 1) (drop 1 l) ≡ es
rest_is zero l h = cc
rest_is (suc n) [] h = cc
rest_is (suc n) (x ∷ l) h = let q : suc n - 1 ≡ n = omega arith in rw q (cc)

module _ (b : Buffer) (z : Sized b) where
  pub pop_none : pending_of b ≡ [] → pop_of b ≡ record { taken = false; entry = no_entry; buffer = b }
  unfolding pop_of
  pop_none h = rw (eq-eqb b.len 0 ((pending_none b z).1 h))

  some : {e : Entry} {es : List Entry} → pending_of b ≡ e ∷ es → 0 < b.len
  some h = omega (arith, pending_length b z, ap length h)

  popped : 0 < b.len → pop_of b ≡ record { taken = true; entry = get_or b.entries 0 no_entry; buffer = record { entries = drop 1 b.entries ++ (no_entry ∷ []); len = b.len - 1 } }
  unfolding pop_of
  popped h = rw (ne_eqb b.len 0 (λ q. omega arith))

  pub pop_oldest : {e : Entry} {es : List Entry} → pending_of b ≡ e ∷ es → ((pop_of b).taken ≡ true) × ((pop_of b).entry ≡ e) × (pending_of (pop_of b).buffer ≡ es)
  pop_oldest {e} {es} h =
      rw (popped (some h))
      (refl, first_is b.len b.entries h, take-append-le (b.len - 1) (drop 1 b.entries) (no_entry ∷ []) (omega (arith, length-drop 1 b.entries, some h)) ∙ rest_is b.len b.entries h)

  pub pop_sized : Sized (pop_of b).buffer
  pop_sized = ⊎_elim (λ l. rw (pop_none ((pending_none b z).0 (omega arith))) z) (λ l. rw (popped l) (record { entries = length-append (drop 1 b.entries) (no_entry ∷ []) ∙ rw (length-drop 1 b.entries) (omega arith); len = omega arith })) (lt_or_le b.len 1)
