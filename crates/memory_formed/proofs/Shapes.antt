-- What well-formed memory gives to the laws of memory. Assumes nothing.
--     shaped            it is shaped
--     pending_stores    every pending store fits
--     pending_entries, entries_pending     what holds of every entry of a buffer holds of the pending ones; and back,
--                                          if it holds of an unused one
--     plain, pending_plain     a store that fits has a plain spot, and so has every pending one
use mathlib.Core.Path.{◌≡◌, refl}
use mathlib.Core.Logic.{⊎_elim, by_cases}
use mathlib.Core.List.Memᴰ
use mathlib.Core.List.{List, [], ◌∷◌, Memᴰ}
use Prim.Native.Nat.{ℕ, zero, suc, ◌<◌}
use native.Mathlib.Omega.{arith}
use native.Mathlib.Decide.{dec_lt}
use lib.ListN.{length, take, get_or}
use Rattle.buffers.specs.declared.Store.{Store}
use Rattle.buffers.specs.declared.Store.TheVariants as store
use Rattle.buffers.specs.declared.Entry.{Entry}
use Rattle.buffers.specs.Stores.{no_entry, spot_of}
use Rattle.buffers.specs.Fits.{StoreFits, entry_of}
use Rattle.buffers.proofs.Fifos.{Sized, empty_sized}
use Rattle.buffers.proofs.Wells.{empty_fits}
use Rattle.memory.specs.declared.Memory.{Memory}
use Rattle.memory.specs.Memories.{max_processes, buffer_of}
use Rattle.memory.specs.Views.{pending_for}
use Rattle.memory.proofs.Shapes.{Shaped, pending_is, pending_absent, buffer_absent, there_or_not}
use Rattle.memory.proofs.Spots.{Plain}
use Rattle.memory_formed.specs.WellFormed.{MemoryFormed}

pub shaped : (m : Memory) → MemoryFormed m → Shaped m
shaped m w =
    record {
      field0 = w.field0_sized;
      field1 = w.field1_sized;
      buffers = w.buffers_sized;
      sized = sized;
      within = λ c h. omega (arith, (w.used_cells c h).1, w.few_cells);
    }
  where
    sized : (p : ℕ) → p < max_processes → Sized (buffer_of m p)
    sized p l = by_cases (dec_lt p m.processes) (λ i. record { entries = (w.buffers p i).sized; len = (w.buffers p i).within }) (λ n. rw (w.process_none p (omega arith) l) empty_sized)

every_taken : (P : Entry → Type 0) (n : ℕ) (l : List Entry) → ((i : ℕ) → i < n → P (get_or l i no_entry)) → (e : Entry) → Memᴰ e (take n l) → P e
every_taken P zero l f e i = absurd (Memᴰ.not-nil i)
every_taken P (suc n) [] f e i = absurd (Memᴰ.not-nil i)
every_taken P (suc n) (x ∷ l) f e i = ⊎_elim (λ (q : e ≡ x). rw q (f 0 (omega arith))) (λ j. every_taken P n l (λ k h. f (suc k) (omega arith)) e j) (Memᴰ.cases_cons i)

taken_has : (n : ℕ) (l : List Entry) (i : ℕ) → i < n → i < length l → Memᴰ (get_or l i no_entry) (take n l)
taken_has zero l i h k = absurd (omega arith)
taken_has (suc n) [] i h k = absurd (omega arith)
taken_has (suc n) (x ∷ l) zero h k = Memᴰ.head refl
taken_has (suc n) (x ∷ l) (suc i) h k = Memᴰ.tail (taken_has n l i (omega arith) (omega arith))

pub pending_entries : (P : Entry → Type 0) (m : Memory) (p : ℕ) → ((i : ℕ) → P (entry_of (buffer_of m p) i)) → (e : Entry) → Memᴰ e (pending_for m p) → P e
pending_entries P m p f e i = every_taken P (buffer_of m p).len (buffer_of m p).entries (λ k _. f k) e (rw (pending_is m p) at i)

-- "Unused: .. processes above M, entries past a buffer's length"
pub entries_pending : (P : Entry → Type 0) (m : Memory) → MemoryFormed m → (p : ℕ) → P no_entry → ((e : Entry) → Memᴰ e (pending_for m p) → P e) → (i : ℕ) → P (entry_of (buffer_of m p) i)
entries_pending P m w p unused each i = by_cases (dec_lt p m.processes) here (λ n. rw (none n) unused)
  where
    here : p < m.processes → P (entry_of (buffer_of m p) i)
    here l =
        let f = w.buffers p l in
        by_cases (dec_lt i (buffer_of m p).len)
        (λ h. each (entry_of (buffer_of m p) i) (rw (pending_is m p) (taken_has (buffer_of m p).len (buffer_of m p).entries i h (omega (arith, f.sized, f.within)))))
        (λ h. rw (f.unused i (omega arith)) unused)

    none : (p < m.processes → ⊥) → entry_of (buffer_of m p) i ≡ no_entry
    none n = ⊎_elim (λ l. rw (w.process_none p (omega arith) l) ((empty_fits m.cells).unused i (omega arith))) (λ l. rw (buffer_absent m (shaped m w) p l) refl) (there_or_not p)

pub pending_stores : (m : Memory) → MemoryFormed m → (p : ℕ) (e : Entry) → Memᴰ e (pending_for m p) → StoreFits m.cells e.store
pending_stores m w p e i = by_cases (dec_lt p m.processes) here (λ n. absurd (Memᴰ.not-nil (rw (none n) at i)))
  where
    here : p < m.processes → StoreFits m.cells e.store
    here l = every_taken (λ x. StoreFits m.cells x.store) (buffer_of m p).len (buffer_of m p).entries (w.buffers p l).pending e (rw (pending_is m p) at i)

    none : (p < m.processes → ⊥) → pending_for m p ≡ []
    none n = ⊎_elim (λ l. rw (pending_is m p, w.process_none p (omega arith) l) refl) (λ l. pending_absent m (shaped m w) p l) (there_or_not p)

pub plain : (n : ℕ) (s : Store) → StoreFits n s → Plain (spot_of s)
plain n (store.Mark c b) f = omega arith
plain n (store.Field c g v) f = omega (arith, f.1)
plain n (store.Sense b) f = omega arith
plain n (store.AllocSense b) f = omega arith
plain n (store.Phase x) f = omega arith

pub pending_plain : (m : Memory) → MemoryFormed m → (p : ℕ) (e : Entry) → Memᴰ e (pending_for m p) → Plain (spot_of e.store)
pending_plain m w p e i = plain m.cells e.store (pending_stores m w p e i)
