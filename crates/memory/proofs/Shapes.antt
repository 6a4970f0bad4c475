-- What a process has pending and sees, of a memory that has its shape (specs/Shapes). Assumes nothing.
--     pending_is, view_is          `pending_for` and `view_of` by the definitions of specs/
--     there_or_not                 a process is one of those there can be, or it is not
--     pending_absent               a process that is not there has nothing pending
--     pending_fits                 no process has more pending than fits
--     pending_empty                nothing is pending exactly if the count is 0
--     pending_count                as many are pending as the count says
--     view_own, view_memory, view_misses, view_empty     one sees the newest store of one's own to the spot; memory,
--                                                        without one
--     view_from                    what is seen is a store of one's own list, or what memory holds
--     view_spot                    what is seen at a spot is a store to that spot
--     held_spot                    and so is what memory holds there
--     buffer_absent, buffer_same, buffer_other     the buffer of a process that is not there; a buffer replaced is
--                                                  the only one that changes
--     pending_same                 the lists are decided by the buffers
use mathlib.Core.Path.{◌≡◌, refl, ◌∙◌}
use mathlib.Core.Bool.{false}
use mathlib.Core.Logic.{◌↔◌, ◌⊎◌, inl, inr, ⊎_elim, by_cases}
use mathlib.Core.List.{[], Memᴰ}
use Prim.Native.Nat.{ℕ, ◌≤◌, ◌<◌}
use native.Mathlib.Omega.{arith}
use native.Mathlib.Decide.{dec_lt}
use lib.ListN.{length}
use lib.Seq.{get_or-set_same, get_or-set_other}
use Rattle.base.proofs.Lists.{beyond}
use Rattle.buffers.specs.declared.Store.{Store}
use Rattle.buffers.specs.declared.Spot.{Spot}
use Rattle.buffers.specs.declared.Spot.TheVariants as spot
use Rattle.buffers.specs.declared.Entry.{Entry}
use Rattle.buffers.specs.declared.Buffer.{Buffer}
use Rattle.std.specs.Prelude.{Option, Some, None, unwrap_or}
use Rattle.buffers.specs.Stores.{spot_of, hits_of}
use Rattle.buffers.specs.Buffers.{max_stores, pending_of, newest_of}
use Rattle.buffers.proofs.Fifos.{pending_length, pending_none}
use Rattle.buffers.proofs.Newests.{newest_none, newest_member, newest_spot}
use Rattle.memory.specs.declared.Memory.{Memory}
use Rattle.memory.specs.Memories.{max_processes, no_buffer, buffer_of, with_buffer, pending_len_of, stands_of}
use Rattle.memory.specs.Views.{pending_for, view_of}
pub use Rattle.memory.specs.Shapes.{Shaped, oldest_of}

pub pending_is : (m : Memory) (p : ℕ) → pending_for m p ≡ pending_of (buffer_of m p)
unfolding pending_for
pending_is m p = refl

pub view_is : (m : Memory) (p : ℕ) (at : Spot) → view_of m p at ≡ unwrap_or (newest_of at (pending_for m p)) (stands_of m at)
unfolding pending_for view_of
view_is m p at = refl

pub view_memory : (m : Memory) (p : ℕ) (at : Spot) → newest_of at (pending_for m p) ≡ None → view_of m p at ≡ stands_of m at
view_memory m p at h = view_is m p at ∙ rw h

pub view_misses : (m : Memory) (p : ℕ) (at : Spot) → ((e : Entry) → Memᴰ e (pending_for m p) → hits_of at e.store ≡ false) → view_of m p at ≡ stands_of m at
view_misses m p at f = view_memory m p at ((newest_none at (pending_for m p)).1 f)

pub view_empty : (m : Memory) (p : ℕ) (at : Spot) → pending_for m p ≡ [] → view_of m p at ≡ stands_of m at
view_empty m p at h = view_memory m p at (rw h refl)

pub view_own : (m : Memory) (p : ℕ) (at : Spot) (s : Store) → newest_of at (pending_for m p) ≡ Some s → view_of m p at ≡ s
view_own m p at s h = view_is m p at ∙ rw h

-- "A read gives the newest matching store of the reader's own buffer, else memory": what holds of both holds of what
-- is seen
pub view_from : (P : Store → Type 0) (m : Memory) (p : ℕ) (at : Spot) → ((e : Entry) → Memᴰ e (pending_for m p) → P e.store) → P (stands_of m at) → P (view_of m p at)
view_from P m p at own else = rw (view_is m p at) (go (newest_of at (pending_for m p)) refl)
  where
    go : (n : Option Store) → newest_of at (pending_for m p) ≡ n → P (unwrap_or n (stands_of m at))
    go None e = else
    go (Some s) e = let w = newest_member at (pending_for m p) s e in rw (← w.holds) (own w.entry w.there)

pub held_spot : (m : Memory) (at : Spot) → spot_of (stands_of m at) ≡ at
unfolding stands_of
held_spot m (spot.Mark c) = refl
held_spot m (spot.Field c f) = refl
held_spot m spot.Sense = refl
held_spot m spot.AllocSense = refl
held_spot m spot.Phase = refl

pub view_spot : (m : Memory) (p : ℕ) (at : Spot) → spot_of (view_of m p at) ≡ at
view_spot m p at = rw (view_is m p at) (newest_spot at (pending_for m p) (stands_of m at) (held_spot m at))

-- a process is one of those there can be, or it is not
pub there_or_not : (p : ℕ) → (p < max_processes) ⊎ (max_processes ≤ p)
there_or_not p = by_cases (dec_lt p max_processes) inl (λ n. inr (omega arith))

module _ (m : Memory) (z : Shaped m) where
  pub buffer_absent : (p : ℕ) → max_processes ≤ p → buffer_of m p ≡ no_buffer
  buffer_absent p h = beyond m.buffers no_buffer p max_processes z.buffers h

  pub pending_absent : (p : ℕ) → max_processes ≤ p → pending_for m p ≡ []
  pending_absent p h = pending_is m p ∙ rw (buffer_absent p h) refl

  pub pending_count : (p : ℕ) → length (pending_for m p) ≡ pending_len_of m p
  pending_count p = rw (pending_is m p) (⊎_elim (λ l. pending_length (buffer_of m p) (z.sized p l)) (λ l. rw (buffer_absent p l) refl) (there_or_not p))

  pub pending_fits : (p : ℕ) → length (pending_for m p) ≤ max_stores
  pending_fits p = rw (pending_count p) (⊎_elim (λ l. (z.sized p l).len) (λ l. rw (buffer_absent p l) (omega arith)) (there_or_not p))

  pub pending_empty : (p : ℕ) → pending_len_of m p ≡ 0 ↔ pending_for m p ≡ []
  pending_empty p =
      rw (pending_is m p)
      (⊎_elim (λ l. pending_none (buffer_of m p) (z.sized p l)) (λ l. rw (buffer_absent p l) (λ e. refl, λ e. refl)) (there_or_not p))

  -- ---- one buffer replaced
  pub buffer_same : (p : ℕ) (b : Buffer) → p < max_processes → buffer_of (with_buffer m p b) p ≡ b
  buffer_same p b l = get_or-set_same m.buffers p b no_buffer (omega (arith, z.buffers))

pub buffer_other : (m : Memory) (p q : ℕ) (b : Buffer) → (q ≡ p → ⊥) → buffer_of (with_buffer m p b) q ≡ buffer_of m q
buffer_other m p q b h = get_or-set_other m.buffers p q b no_buffer h

pub pending_same : (m n : Memory) (q : ℕ) → n.buffers ≡ m.buffers → pending_for n q ≡ pending_for m q
unfolding pending_for
pending_same m n q e = rw e
