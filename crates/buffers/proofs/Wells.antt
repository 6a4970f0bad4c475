-- Well-formed buffers: the test and the facts agree, and a buffer's steps keep them. Assumes nothing.
--     cell_told, cell_test     a cell of 1 to n
--     unused_equal             the code's `==` with the unused entry is the test
--     every_is                 a test of each number below n, by its answer
--     well_formed_lem          `buffer_fits_of` holds exactly if `BufferFits` does
--     empty_fits               the empty buffer is well formed
--     none_pending_lem         a well-formed buffer with no store pending is the empty one
--     push_kept                kept by a push of a store that fits
--     pop_kept, pop_fits       kept by a pop, and the store popped fits
use mathlib.Core.Path.{◌≡◌, refl, sym, ap, ◌∙◌}
use mathlib.Core.Bool.{Bool, true, false, not, beq, ◌&&◌, false≢true}
use mathlib.Core.List.{List, [], ◌∷◌, ◌++◌}
use mathlib.Core.Logic.{◌↔◌}
use Prim.Native.Nat.{ℕ, zero, suc, ◌+◌, ◌≤◌, ◌<◌}
use native.Mathlib.Decide.{ℕ_discrete, dec_lt}
use native.Mathlib.Omega.{arith}
use lib.Dec.{eqb, ltb, leb}
use lib.ListN.{length, get_or, set, drop, replicate, length-append, length-drop, length-set}
use lib.Seq.{ext_get_or, get_or-set_same, get_or-set_other}
use borrow.Author.Tests.{leb-true, ltb-true, eqb-true, not-true, lt-ltb, le-ltb, le-leb, lt-leb, eq-eqb, ne_eqb}
use Rattle.base.specs.Every.{◌and◌, every}
use Rattle.base.proofs.Everies.{and_both, every_at, every_all, every_fails}
use Rattle.base.proofs.Lists.{beyond}
use Rattle.buffers.specs.declared.Store.{Store}
use Rattle.buffers.specs.declared.Store.TheVariants as store
use Rattle.buffers.specs.declared.Entry.{Entry}
use Rattle.buffers.specs.declared.Buffer.{Buffer}
use Rattle.buffers.specs.contracts.EntryPartialEq.TheImpl as entries
use Rattle.buffers.specs.Stores.{no_store, no_entry}
use Rattle.buffers.specs.Buffers.{max_stores, empty_buffer, push_of, pop_of}
use Rattle.buffers.specs.Fits.{max_fields, IsCell, StoreFits, entry_of, BufferFits, is_cell_of, store_fits_of, store_empty_of, entry_at_of, buffer_fits_of}

-- ---- a cell, a store, an unused entry
pub cell_told : (n c : ℕ) → is_cell_of n c ≡ true → IsCell n c
cell_told n c e = let a = and_both (ltb 0 c) (leb c n) e in (ltb-true 0 c a.0, leb-true c n a.1)

pub cell_test : (n c : ℕ) → IsCell n c → is_cell_of n c ≡ true
cell_test n c h = rw (lt-ltb 0 c h.0, le-leb c n h.1) refl

store_told : (n : ℕ) (s : Store) → store_fits_of n s ≡ true → StoreFits n s
store_told n (store.Mark c b) e = cell_told n c e
store_told n (store.Field c f v) e = let a = and_both (is_cell_of n c) (ltb f max_fields) e in (cell_told n c a.0, ltb-true f max_fields a.1)
store_told n (store.Sense b) e = tt
store_told n (store.AllocSense b) e = tt
store_told n (store.Phase p) e = tt

store_test : (n : ℕ) (s : Store) → StoreFits n s → store_fits_of n s ≡ true
store_test n (store.Mark c b) h = cell_test n c h
store_test n (store.Field c f v) h = rw (cell_test n c h.0, lt-ltb f max_fields h.1) refl
store_test n (store.Sense b) h = refl
store_test n (store.AllocSense b) h = refl
store_test n (store.Phase p) h = refl

-- the code compares with the unused entry
pub unused_equal : (e x : Entry) → x ≡ no_entry → (entries.ghosts).eq e x ≡ store_empty_of e.store
unused_equal e x q = rw q (go e.store)
  where
    unset : (a b : Bool) → (a && beq b false) ≡ (a and not b)
    unset true true = refl
    unset true false = refl
    unset false b = refl

    go : (s : Store) → (entries.ghosts).eq (record { store = s }) no_entry ≡ store_empty_of s
    go (store.Mark c b) = unset (eqb c 0) b
    go (store.Field c f v) = refl
    go (store.Sense b) = refl
    go (store.AllocSense b) = refl
    go (store.Phase p) = refl

empty_told : (s : Store) → store_empty_of s ≡ true → s ≡ no_store
empty_told (store.Mark c b) e = let a = and_both (eqb c 0) (not b) e in rw (eqb-true c 0 a.0, not-true b a.1) refl
empty_told (store.Field c f v) e = absurd (false≢true e)
empty_told (store.Sense b) e = absurd (false≢true e)
empty_told (store.AllocSense b) e = absurd (false≢true e)
empty_told (store.Phase p) e = absurd (false≢true e)

entry_told : (e : Entry) → store_empty_of e.store ≡ true → e ≡ no_entry
entry_told e h = ap (λ (s : Store). record { store = s }) (empty_told e.store h)

-- ---- the test and the facts
module _ (n : ℕ) (b : Buffer) where
  told : buffer_fits_of n b ≡ true → BufferFits n b
  unfolding buffer_fits_of
  told e =
      let x = and_both (eqb (length b.entries) max_stores) (leb b.len max_stores and every max_stores (entry_at_of n b)) e in
      let y = and_both (leb b.len max_stores) (every max_stores (entry_at_of n b)) x.1 in
      let s : length b.entries ≡ max_stores = eqb-true _ _ x.0 in
      let w : b.len ≤ max_stores = leb-true _ _ y.0 in
      record {
        sized = s;
        within = w;
        pending = λ i h. store_told n (entry_of b i).store (rw (lt-ltb i b.len h) at (every_at (entry_at_of n b) max_stores i y.1 (omega arith)));
        unused = λ i h. past i h s y.1 (dec_lt i max_stores);
      }
    where
      past : (i : ℕ) → b.len ≤ i → length b.entries ≡ max_stores → every max_stores (entry_at_of n b) ≡ true → Dec (i < max_stores) → entry_of b i ≡ no_entry
      past i h s e (yes l) = entry_told (entry_of b i) (rw (le-ltb i b.len h) at (every_at (entry_at_of n b) max_stores i e l))
      past i h s e (no l) = beyond b.entries no_entry i max_stores s (omega arith)

  test : BufferFits n b → buffer_fits_of n b ≡ true
  unfolding buffer_fits_of
  test w = rw (eq-eqb _ _ w.sized, le-leb _ _ w.within) (every_all (entry_at_of n b) max_stores (λ i l. at i (dec_lt i b.len)))
    where
      at : (i : ℕ) → Dec (i < b.len) → entry_at_of n b i ≡ true
      at i (yes h) = rw (lt-ltb i b.len h) (store_test n (entry_of b i).store (w.pending i h))
      at i (no h) = let e : entry_of b i ≡ no_entry = w.unused i (omega arith) in rw (le-ltb i b.len (omega arith), e) refl

  pub well_formed_lem : (buffer_fits_of n b ≡ true) ↔ BufferFits n b
  well_formed_lem = (told, test)

-- ---- the empty buffer
none_there : (k i : ℕ) → get_or (replicate k no_entry) i no_entry ≡ no_entry
none_there zero i = refl
none_there (suc k) zero = refl
none_there (suc k) (suc i) = none_there k i

pub empty_fits : (n : ℕ) → BufferFits n empty_buffer
empty_fits n =
    record { sized = refl; within = omega arith; pending = λ i h. absurd (omega arith); unused = λ i h. none_there max_stores i }

pub none_pending_lem : (n : ℕ) (b : Buffer) → BufferFits n b → b.len ≡ 0 → b ≡ empty_buffer
none_pending_lem n b w e =
    let same : b.entries ≡ replicate max_stores no_entry =
    ext_get_or no_entry b.entries (replicate max_stores no_entry) w.sized (λ i h. w.unused i (omega arith) ∙ sym (none_there max_stores i)) in
    rw (same, e) refl

-- ---- push
pub push_kept : (n : ℕ) (b : Buffer) (e : Entry) → BufferFits n b → StoreFits n e.store → BufferFits n (push_of b e).buffer
unfolding push_of
push_kept n b e w f = go (dec_lt b.len max_stores)
  where
    here : (i : ℕ) → b.len < max_stores → i < b.len + 1 → Dec (i ≡ b.len) → StoreFits n (get_or (set b.entries b.len e) i no_entry).store
    here i l h (yes q) = rw (q, get_or-set_same b.entries b.len e no_entry (omega (arith, w.sized))) f
    here i l h (no q) = rw (get_or-set_other b.entries b.len i e no_entry q) (w.pending i (omega arith))

    go : Dec (b.len < max_stores) → BufferFits n (push_of b e).buffer
    go (no l) = rw (le-leb max_stores b.len (omega arith)) w
    go (yes l) =
        rw (lt-leb max_stores b.len l)
        (record {
          sized = length-set b.entries b.len e ∙ w.sized;
          within = omega arith;
          pending = λ i h. here i l h (ℕ_discrete i b.len);
          unused = λ i h. get_or-set_other b.entries b.len i e no_entry (λ q. omega arith) ∙ w.unused i (omega arith);
        })

-- ---- pop: each place has what stood one place up
ended : (l : List Entry) (i : ℕ) → get_or (l ++ (no_entry ∷ [])) i no_entry ≡ get_or l i no_entry
ended [] zero = refl
ended [] (suc i) = refl
ended (x ∷ l) zero = refl
ended (x ∷ l) (suc i) = ended l i

moved_down : (l : List Entry) (i : ℕ) → get_or (drop 1 l ++ (no_entry ∷ [])) i no_entry ≡ get_or l (suc i) no_entry
moved_down [] zero = refl
moved_down [] (suc i) = refl
moved_down (x ∷ l) i = ended l i

pub pop_kept : (n : ℕ) (b : Buffer) → BufferFits n b → BufferFits n (pop_of b).buffer
unfolding pop_of
pop_kept n b w = go (ℕ_discrete b.len 0)
  where
    go : Dec (b.len ≡ 0) → BufferFits n (pop_of b).buffer
    go (yes q) = rw (eq-eqb b.len 0 q) w
    go (no q) =
        rw (ne_eqb b.len 0 q)
        (record {
          sized = simp (length-append, length-drop) (omega (arith, w.sized));
          within = omega (arith, w.within);
          pending = λ i h. rw (moved_down b.entries i) (w.pending (suc i) (omega arith));
          unused = λ i h. moved_down b.entries i ∙ w.unused (suc i) (omega arith);
        })

pub pop_fits : (n : ℕ) (b : Buffer) → BufferFits n b → 0 < b.len → StoreFits n (pop_of b).entry.store
unfolding pop_of
pop_fits n b w h = rw (ne_eqb b.len 0 (λ q. omega arith)) (w.pending 0 h)

-- a test of each number below n, told by its answer
pub every_is : (t : ℕ → Bool) (b : Bool) (n : ℕ) → (b ≡ true → (k : ℕ) → k < n → true ≡ t k) → (b ≡ false → (k : ℕ) × (k < n) × (false ≡ t k)) → b ≡ every n t
every_is t true n f g = sym (every_all t n (λ k l. sym (f refl k l)))
every_is t false n f g = let w = g refl in every_fails t n w.0 false w.1 w.2 refl
