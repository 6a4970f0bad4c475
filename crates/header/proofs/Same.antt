-- Only the header decides what a log opens to. Assumes nothing.
--     listed_same, below_same     lists made of the same
--     header_decides              two logs with the same header open to the same heap
--     cut_inside                  a log cut inside its header is not admitted
use mathlib.Core.Path.{◌≡◌, refl, ap, ap₂, ◌∙◌}
use mathlib.Core.Bool.{Bool}
use mathlib.Core.List.{List, [], ◌∷◌, ◌++◌}
use Prim.Native.Nat.{ℕ, zero, suc, ◌+◌, ◌*◌, ◌≤◌, ◌<◌}
use native.Mathlib.Decide.{dec_lt}
use native.Mathlib.Omega.{arith}
use lib.Dec.{eqb, ltb}
use lib.ListN.{length, take}
use lib.Seq.{get_or-take, length-take-le}
use borrow.Author.Tests.{le-ltb, le-leb}
use Rattle.base.specs.Pick.{pick, listed}
use Rattle.base.specs.Every.{◌and◌, every}
use Rattle.base.proofs.Picking.{pick_ind}
use Rattle.memory.specs.Memories.{max_cells, max_mutators}
use Rattle.header.specs.Bytes.{per_byte, byte_at, pair_at, little_at}
use Rattle.header.specs.Header.{max_log, version_place, version2, cells_place, mutators_place, heap_place, roots_size_of, version_said, cells_said, mutators_said, cell_fields, cell_place_of, roots_place_of, size_of_roots, size_of, occupied_at, field_at, roots_read, gained_of, used_among, letters_of, cell_said_at_of, roots_fit_of, roots_at_of, cells_said_fit_of, all_roots_fit_of, heap_fits_of, field_in_of, fields_of, roots_in_of, roots_of, read_heap, heap_of}
use Rattle.header.specs.Admitted.{Admitted}
use Rattle.header.specs.Statements.{SameHeader, HeaderDecides, CutInside}
use Rattle.header.proofs.Agrees.{tests, tested, admitted_clauses, clauses_admitted}

-- ---- tests and lists made of the same
every_same : (t u : ℕ → Bool) (n : ℕ) → ((i : ℕ) → i < n → t i ≡ u i) → every n t ≡ every n u
every_same t u zero f = refl
every_same t u (suc n) f = ap₂ ◌and◌ (every_same t u n (λ i h. f i (omega arith))) (f n (omega arith))

pub listed_same : (f g : ℕ → ℕ) (n : ℕ) → ((i : ℕ) → i < n → f i ≡ g i) → listed n f ≡ listed n g
listed_same f g zero e = refl
listed_same f g (suc n) e = ap₂ (λ (l : List ℕ) (x : ℕ). l ++ (x ∷ [])) (listed_same f g n (λ i h. e i (omega arith))) (e n (omega arith))

pub below_same : (n i x y : ℕ) → (i < n → x ≡ y) → pick (ltb i n) x 0 ≡ pick (ltb i n) y 0
below_same n i x y f = go (dec_lt i n)
  where
    go : Dec (i < n) → pick (ltb i n) x 0 ≡ pick (ltb i n) y 0
    go (yes h) = ap (λ (z : ℕ). pick (ltb i n) z 0) (f h)
    go (no h) = rw (le-ltb i n (omega arith)) refl

-- ---- the places of a header
size_least : (log : List ℕ) → heap_place ≤ size_of log
unfolding roots_place_of cell_place_of
size_least log = omega arith

cell_within : (w n m i f : ℕ) → i < n → f < cell_fields → cell_place_of i + 1 + f < roots_place_of w n m
unfolding roots_place_of cell_place_of
cell_within w n m i f h b = omega arith

occupied_within : (w n m i : ℕ) → i < n → cell_place_of i < roots_place_of w n m
unfolding roots_place_of cell_place_of
occupied_within w n m i h = omega arith

roots_within : (v n m k : ℕ) → k < m → roots_place_of (roots_size_of v) n k + roots_size_of v ≤ roots_place_of (roots_size_of v) n m
unfolding roots_place_of cell_place_of
roots_within v n m k h = pick_ind (λ (w : ℕ). cell_place_of n + w * k + w ≤ cell_place_of n + w * m) (eqb v version2) (λ _. omega arith) (λ _. omega arith)

module _ (log other : List ℕ) (s : SameHeader log other) where
  abbrev N : ℕ
  N = cells_said log

  abbrev M : ℕ
  M = mutators_said log

  at : (i : ℕ) → i < heap_place → byte_at other i ≡ byte_at log i
  at i h = s.bytes i (omega (arith, size_least log))

  pair : (i : ℕ) → i + 1 < heap_place → pair_at other i ≡ pair_at log i
  unfolding pair_at
  pair i h = ap₂ (λ (x y : ℕ). x + per_byte * y) (at i (omega arith)) (at (i + 1) h)

  little : (w i : ℕ) → i + w ≤ size_of log → little_at w other i ≡ little_at w log i
  little zero i h = refl
  little (suc w) i h = ap₂ (λ (x y : ℕ). x + per_byte * y) (s.bytes i (omega arith)) (little w (i + 1) (omega arith))

  same_roots : size_of_roots other ≡ size_of_roots log
  same_roots = ap roots_size_of (pair version_place (omega arith))

  same_size : size_of other ≡ size_of log
  same_size = rw (same_roots, at cells_place (omega arith), at mutators_place (omega arith)) refl

  occupied : (i : ℕ) → i < N → occupied_at other i ≡ occupied_at log i
  occupied i h = s.bytes (cell_place_of i) (occupied_within (size_of_roots log) N M i h)

  field : (i f : ℕ) → i < N → f < cell_fields → field_at other i f ≡ field_at log i f
  field i f h b = s.bytes (cell_place_of i + 1 + f) (cell_within (size_of_roots log) N M i f h b)

  roots : (k : ℕ) → k < M → roots_read other N k ≡ roots_read log N k
  roots k h = rw same_roots (little (size_of_roots log) (roots_place_of (size_of_roots log) N k) (roots_within (version_said log) N M k h))

  used : (n : ℕ) → n ≤ N → used_among other n ≡ used_among log n
  used zero h = refl
  used (suc i) h = ap₂ (λ (u o : ℕ). gained_of u o (i + 1)) (used i (omega arith)) (occupied i (omega arith))

  heap_fits_lem : (u : ℕ) → heap_fits_of other N M u ≡ heap_fits_of log N M u
  unfolding heap_fits_of cells_said_fit_of all_roots_fit_of
  heap_fits_lem u =
      ap₂ ◌and◌
      (every_same (cell_said_at_of other u) (cell_said_at_of log u) N (λ i h. rw (occupied i h, field i 0 h (omega arith), field i 1 h (omega arith)) refl))
      (every_same (roots_at_of other N u) (roots_at_of log N u) M (λ k h. ap (roots_fit_of N u) (roots k h)))

  letters : letters_of other ≡ letters_of log
  unfolding letters_of
  letters = rw (at 0 (omega arith), at 1 (omega arith), at 2 (omega arith), pair version_place (omega arith)) refl

  fields : (f : ℕ) → f < cell_fields → fields_of other N f ≡ fields_of log N f
  unfolding fields_of
  fields f b = listed_same (field_in_of other N f) (field_in_of log N f) max_cells (λ i h. below_same N i (field_at other i f) (field_at log i f) (λ l. field i f l b))

  all_roots : roots_of other N M ≡ roots_of log N M
  unfolding roots_of
  all_roots = listed_same (roots_in_of other N M) (roots_in_of log N M) max_mutators (λ k h. below_same M k (roots_read other N k) (roots_read log N k) (roots k))

  heap : heap_of other ≡ heap_of log
  unfolding read_heap
  heap =
      rw (at cells_place (omega arith), at mutators_place (omega arith), used N (omega arith), fields 0 (omega arith), fields 1 (omega arith), all_roots) refl

  admitted : Admitted log → Admitted other
  admitted a =
      let t = tests log (clauses_admitted log a) in
      admitted_clauses other
      (tested other
      (record {
        long = le-leb (length other) max_log s.not_long;
        letters = letters ∙ t.letters;
        counts = rw (pair version_place (omega arith), at cells_place (omega arith), at mutators_place (omega arith)) t.counts;
        short = le-leb (size_of other) (length other) (rw same_size s.not_short);
        heap = rw (at cells_place (omega arith), at mutators_place (omega arith), used N (omega arith)) (heap_fits_lem (used_among log N) ∙ t.heap);
      }))

pub header_decides : HeaderDecides
header_decides log other a s = record { size = same_size log other s; admitted = admitted log other s a; heap = heap log other s }

-- a cut log has the bytes before its end, so where N and M are among them it has the same size
pub cut_inside : CutInside
unfolding pair_at
cut_inside log j a h b = go (dec_lt j heap_place)
  where
    cut : length (take j log) ≡ j
    cut = length-take-le j log (omega (arith, a.not_short))

    cut_size : heap_place ≤ j → size_of (take j log) ≡ size_of log
    cut_size l = rw (get_or-take j log version_place 0 (omega arith), get_or-take j log (version_place + 1) 0 (omega arith), get_or-take j log cells_place 0 (omega arith), get_or-take j log mutators_place 0 (omega arith)) refl

    go : Dec (j < heap_place) → ⊥
    go (yes l) = omega (arith, b.not_short, size_least (take j log), cut)
    go (no n) =
        let e : size_of (take j log) ≡ size_of log = cut_size (omega arith) in
        omega (arith, b.not_short, cut, e)
