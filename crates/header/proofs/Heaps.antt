-- The heap of an admitted log: what the header says, and sound. Assumes nothing.
--     opened_where, refused_else, opened_only      a log is opened exactly if it is admitted
--     heap_said                                    its heap is the one that the header says
--     heap_sound                                   and an opening can stand on it
use mathlib.Core.Path.{◌≡◌, refl, sym, ap, ◌∙◌}
use mathlib.Core.Bool.{Bool, true, false}
use mathlib.Core.List.{List}
use mathlib.Core.Logic.{◌⊎◌, inl, inr}
use Prim.Native.Nat.{ℕ, zero, suc, ◌+◌, ◌-◌, ◌≤◌, ◌<◌}
use native.Mathlib.Decide.{dec_lt, ℕ_discrete}
use native.Mathlib.Omega.{arith}
use lib.Dec.{eqb}
use lib.ListN.{length, get_or}
use borrow.Author.Tests.{lt-ltb, le-ltb, eq-eqb, ne_eqb}
use Rattle.base.specs.Pick.{pick, listed}
use Rattle.base.specs.Refusals.{not_admitted}
use Rattle.base.proofs.Lists.{length_listed, listed_at, beyond}
use Rattle.cells.specs.Sets.{no_cells, member_of, Sub}
use Rattle.cells.proofs.Bools.{split, not_both}
use Rattle.cells.proofs.Subsets.{sub_empty}
use Rattle.memory.specs.Memories.{max_cells, max_mutators, at_cell}
use Rattle.header.specs.Header.{version_said, cells_said, mutators_said, cell_fields, occupied_at, field_at, roots_read, used_among, admitted_of, field_in_of, fields_of, roots_in_of, roots_of, read_heap, heap_of, Opened, unopened, open_of}
use Rattle.header.specs.Admitted.{Admitted, Sound}
use Rattle.header.specs.Statements.{OpenedWhere, RefusedElse, OpenedOnly, NarrowRefused, Said, HeapSaid, HeapSound}
use Rattle.header.proofs.Used.{in_used, used_in, used_below}
use Rattle.header.proofs.Agrees.{most_cells, Names, CellFits, is_free, is_occupied, HeapFits, heap_fits_lem, tests, admitted_clauses, clauses_admitted}
use Rattle.header.proofs.Opens.{open_admitted, open_refused}

pub opened_where : OpenedWhere
opened_where log a = open_admitted log (clauses_admitted log a)

pub refused_else : RefusedElse
refused_else log n = go (split (admitted_of log))
  where
    go : (admitted_of log ≡ true) ⊎ (admitted_of log ≡ false) → open_of log ≡ unopened
    go (inl t) = absurd (n (admitted_clauses log t))
    go (inr f) = open_refused log f

pub opened_only : OpenedOnly
opened_only log z = go (split (admitted_of log))
  where
    go : (admitted_of log ≡ true) ⊎ (admitted_of log ≡ false) → Admitted log
    go (inl t) = admitted_clauses log t
    go (inr f) = let e : (open_of log).no ≡ not_admitted = ap (λ (o : Opened). o.no) (open_refused log f) in absurd (omega arith)

-- ---- what is read of the heap
-- past its end a list that is made so is 0, as what it is made of
read : (f : ℕ → ℕ) (m i : ℕ) → (m ≤ i → f i ≡ 0) → get_or (listed m f) i 0 ≡ f i
read f m i z = go (dec_lt i m)
  where
    go : Dec (i < m) → get_or (listed m f) i 0 ≡ f i
    go (yes h) = listed_at f m i 0 h
    go (no n) = beyond (listed m f) 0 i m (length_listed f m) (omega arith) ∙ sym (z (omega arith))

module _ (log : List ℕ) (a : Admitted log) where
  abbrev N : ℕ
  N = cells_said log

  abbrev M : ℕ
  M = mutators_said log

  abbrev U : ℕ
  U = used_among log (cells_said log)

  h : HeapFits log
  h = heap_fits_lem log (tests log (clauses_admitted log a)).heap

  field_in_lem : (f i : ℕ) → i < N → field_in_of log N f i ≡ field_at log i f
  field_in_lem f i l = rw (lt-ltb i N l) refl

  field_out : (f i : ℕ) → N ≤ i → field_in_of log N f i ≡ 0
  field_out f i l = rw (le-ltb i N l) refl

  roots_in_lem : (k : ℕ) → k < M → roots_in_of log N M k ≡ roots_read log N k
  roots_in_lem k l = rw (lt-ltb k M l) refl

  roots_out : (k : ℕ) → M ≤ k → roots_in_of log N M k ≡ no_cells
  roots_out k l = rw (le-ltb k M l) refl

  field_read : (f i : ℕ) → get_or (fields_of log N f) i 0 ≡ field_in_of log N f i
  unfolding fields_of
  field_read f i = read (field_in_of log N f) max_cells i (λ l. field_out f i (omega (arith, a.few_cells, most_cells (version_said log))))

  roots_read_lem : (k : ℕ) → get_or (roots_of log N M) k 0 ≡ roots_in_of log N M k
  unfolding roots_of
  roots_read_lem k = read (roots_in_of log N M) max_mutators k (λ l. roots_out k (omega (arith, a.few_mutators)))

  sized : (f : ℕ) → length (fields_of log N f) ≡ max_cells
  unfolding fields_of
  sized f = length_listed (field_in_of log N f) max_cells

  sized_roots : length (roots_of log N M) ≡ max_mutators
  unfolding roots_of
  sized_roots = length_listed (roots_in_of log N M) max_mutators

  -- ---- fields and roots
  names_in : (f i : ℕ) → f < cell_fields → Dec (i < N) → Names U (field_in_of log N f i)
  names_in f i b (no n) = inl (field_out f i (omega arith))
  names_in f i b (yes l) = rw (field_in_lem f i l) (go f b (h.cell i l))
    where
      go : (f : ℕ) → f < cell_fields → CellFits U (occupied_at log i) (field_at log i 0) (field_at log i 1) → Names U (field_at log i f)
      go zero b (is_free z x y) = inl x
      go (suc zero) b (is_free z x y) = inl y
      go (suc (suc f)) b (is_free z x y) = absurd (omega arith)
      go zero b (is_occupied z x y) = x
      go (suc zero) b (is_occupied z x y) = y
      go (suc (suc f)) b (is_occupied z x y) = absurd (omega arith)

  free_in : (f i : ℕ) → f < cell_fields → member_of U (i + 1) ≡ false → Dec (i < N) → field_in_of log N f i ≡ 0
  free_in f i b m (no n) = field_out f i (omega arith)
  free_in f i b m (yes l) = field_in_lem f i l ∙ go f b (h.cell i l)
    where
      go : (f : ℕ) → f < cell_fields → CellFits U (occupied_at log i) (field_at log i 0) (field_at log i 1) → field_at log i f ≡ 0
      go zero b (is_free z x y) = x
      go (suc zero) b (is_free z x y) = y
      go (suc (suc f)) b (is_free z x y) = absurd (omega arith)
      go f b (is_occupied z x y) =
          let e : i + 1 - 1 ≡ i = omega arith in
          absurd (not_both (used_in log N (i + 1) (omega (arith, a.few_cells, most_cells (version_said log))) (omega arith) (omega arith) (ap (occupied_at log) e ∙ z)) m)

  roots_sub : (k : ℕ) → Dec (k < M) → Sub (roots_in_of log N M k) U
  roots_sub k (yes l) = rw (roots_in_lem k l) (h.roots k l)
  roots_sub k (no n) = rw (roots_out k (omega arith)) (sub_empty U)

  names : (f i : ℕ) → f < cell_fields → Names U (get_or (fields_of log N f) i 0)
  names f i b = rw (field_read f i) (names_in f i b (dec_lt i N))

  free : (f i : ℕ) → f < cell_fields → member_of U (i + 1) ≡ false → get_or (fields_of log N f) i 0 ≡ 0
  free f i b m = field_read f i ∙ free_in f i b m (dec_lt i N)

  -- ---- by the cell's number
  names_at : (f c : ℕ) → f < cell_fields → Names U (at_cell (fields_of log N f) c 0)
  names_at f c b = go (ℕ_discrete c 0)
    where
      go : Dec (c ≡ 0) → Names U (at_cell (fields_of log N f) c 0)
      go (yes z) = inl (rw (eq-eqb c 0 z) refl)
      go (no n) = rw (ne_eqb c 0 n) (names f (c - 1) b)

  free_at : (f c : ℕ) → f < cell_fields → member_of U c ≡ false → at_cell (fields_of log N f) c 0 ≡ 0
  free_at f c b m = go (ℕ_discrete c 0)
    where
      go : Dec (c ≡ 0) → at_cell (fields_of log N f) c 0 ≡ 0
      go (yes z) = rw (eq-eqb c 0 z) refl
      go (no n) =
          let e : c ≡ c - 1 + 1 = omega arith in
          rw (ne_eqb c 0 n) (free f (c - 1) b (sym (ap (member_of U) e) ∙ m))

  names_field : (c : ℕ) (b : Bool) → Names U (pick b (at_cell (fields_of log N 0) c 0) (at_cell (fields_of log N 1) c 0))
  names_field c true = names_at 0 c (omega arith)
  names_field c false = names_at 1 c (omega arith)

  free_field : (c : ℕ) (b : Bool) → member_of U c ≡ false → pick b (at_cell (fields_of log N 0) c 0) (at_cell (fields_of log N 1) c 0) ≡ 0
  free_field c true m = free_at 0 c (omega arith) m
  free_field c false m = free_at 1 c (omega arith) m

  sound : Sound (heap_of log)
  unfolding read_heap
  sound =
      record {
        fits =
            record {
              cells = (a.some_cells, omega (arith, a.few_cells, most_cells (version_said log)));
              some = omega (arith, a.some_mutators);
              most = omega (arith, a.few_mutators);
              used = used_below log N;
              free = λ c f m. free_field c (eqb f 0) m;
              named = λ c f m. names_field c (eqb f 0);
              roots = λ p s l. rw (roots_read_lem (p - 1)) (roots_sub (p - 1) (dec_lt (p - 1) M));
              sized0 = sized 0;
              sized1 = sized 1;
            };
        no_roots = λ p l. roots_read_lem (p - 1) ∙ roots_out (p - 1) (omega arith);
        sized_roots = sized_roots;
      }

  said : Said log (heap_of log)
  unfolding read_heap
  said =
      record {
        cells = refl;
        processes = refl;
        used = λ c. (λ p. let q = in_used log N c p in ((q.some, q.within), q.said), λ o. used_in log N c (omega (arith, a.few_cells, most_cells (version_said log))) o.0.0 o.0.1 o.1);
        field0 = λ c i. field_read 0 (c - 1) ∙ field_in_lem 0 (c - 1) (omega (arith, i.0, i.1));
        field1 = λ c i. field_read 1 (c - 1) ∙ field_in_lem 1 (c - 1) (omega (arith, i.0, i.1));
        roots = λ k l. roots_read_lem k ∙ roots_in_lem k l;
      }

pub heap_said : HeapSaid
heap_said = said

pub heap_sound : HeapSound
heap_sound = sound

pub narrow_refused : NarrowRefused
narrow_refused log v h a = omega (arith, rw v at a.few_cells)
