-- The header written from a heap in a version, and read again. Assumes nothing.
--     version_said_lem            the version that is read
--     sized, written_size     how long it is
--     said_in_two             every heap that fits can be said in version 2
--     written_bytes           each number of it is a byte
--     written_admitted        a log that begins with it is admitted
--     written_said            the heap that is read of such a log
use mathlib.Core.Path.{◌≡◌, refl, sym, ap, ◌∙◌}
use mathlib.Core.Bool.{Bool, true, false}
use mathlib.Core.List.{List, ◌++◌, append_assoc}
use mathlib.Core.Logic.{◌⊎◌, inl, inr}
use Prim.Native.Nat.{ℕ, zero, suc, ◌+◌, ◌-◌, ◌*◌, ◌^◌, ◌≤◌, ◌<◌}
use native.Mathlib.Decide.{dec_lt}
use native.Mathlib.Omega.{arith}
use lib.ListN.{length, get_or, length-append}
use lib.Seq.{get_or-append-add, ext_get_or}
use lib.Dec.{eqb}
use borrow.Author.Tests.{lt-ltb, le-ltb, ne_eqb}
use Rattle.base.specs.Pick.{pick, listed}
use Rattle.base.proofs.Lists.{length_listed, listed_at}
use Rattle.base.proofs.Picking.{pick_ind}
use Rattle.cells.specs.Sets.{member_of, Member, Sub, below_of}
use Rattle.cells.proofs.Bools.{split}
use Rattle.cells.proofs.Subsets.{sub_same}
use Rattle.cells.proofs.Belows.{below_lt, below_none, below_range, below_more, below_sub}
use Rattle.buffers.specs.Fits.{IsCell}
use Rattle.memory.specs.Memories.{max_cells, max_mutators, at_cell}
use Rattle.state.specs.declared.opening.Heap.{Heap}
use Rattle.state.specs.Openings.{open_memory, roots_at, opening_of}
use Rattle.formed.specs.Fits.{heap_field, HeapFits}
use Rattle.formed.proofs.Opens.{opening_formed}
use Rattle.header.specs.Bytes.{per_byte, byte_at, pair_at}
use Rattle.header.specs.Header.{max_log, version2, heap_place, cell_fields, cell_size, roots_size_of, most_cells_of, version_said, cells_said, mutators_said, cell_place_of, roots_place_of, occupied_at, field_at, roots_read, used_among, field_in_of, fields_of, roots_in_of, roots_of, read_heap, heap_of}
use Rattle.header.specs.Admitted.{said_of, field_said, IsVersion, Admitted}
use Rattle.header.specs.Written.{in_turn, Bytes, heap_mutators, cell_bytes, roots_bytes, front_bytes, bytes_of, SaidIn, roots_said, as_said, SaidInTwo, WrittenBytes, WrittenAdmitted, WrittenSize, WrittenSaid}
use Rattle.header.proofs.Used.{in_used, used_in}
use Rattle.header.proofs.Same.{listed_same, below_same}
use Rattle.header.proofs.Littles.{little_read, length_little, length_turns, turn_past, turn_at, bytes_join, bytes_each, bytes_little, bytes_turns}

-- the cell i + 1 of an array
at_cell_lem : (l : List ℕ) (i : ℕ) → at_cell l (suc i) 0 ≡ get_or l i 0
at_cell_lem l i = let e : suc i - 1 ≡ i = omega arith in rw (ne_eqb (suc i) 0 (λ z. omega arith), e) refl

-- a byte has eight bits
bits : (v : ℕ) → 2 ^ most_cells_of v ≡ per_byte ^ roots_size_of v
bits v = pick_ind (λ (w : ℕ). 2 ^ (8 * w) ≡ per_byte ^ w) (eqb v version2) (λ _. refl) (λ _. refl)

-- ---- what stands at each place
module _ (v : ℕ) (h : Heap) where
  abbrev N : ℕ
  N = h.cells

  abbrev M : ℕ
  M = heap_mutators h

  abbrev cells : List ℕ
  cells = in_turn N (cell_bytes h)

  abbrev roots : List ℕ
  roots = in_turn M (roots_bytes v h)

  abbrev W : ℕ
  W = roots_size_of v

  roots_sized : (k : ℕ) → length (roots_bytes v h k) ≡ W
  roots_sized k = length_little W (roots_at h k)

  pub sized : length (bytes_of v h) ≡ roots_place_of W N M
  unfolding bytes_of roots_place_of cell_place_of
  sized = omega (arith, length-append cells roots, length_turns (cell_bytes h) cell_size (λ i. refl) N, length_turns (roots_bytes v h) W roots_sized M)

  module _ (records : List ℕ) where
    abbrev log : List ℕ
    log = bytes_of v h ++ records

    heap_byte : (j : ℕ) → byte_at log (heap_place + j) ≡ get_or (cells ++ (roots ++ records)) j 0
    unfolding bytes_of
    heap_byte j = get_or-append-add (front_bytes v h) ((cells ++ roots) ++ records) j 0 ∙ ap (λ (l : List ℕ). get_or l j 0) (append_assoc cells roots records)

    cell_byte : (i j : ℕ) → i < N → j < cell_size → byte_at log (cell_place_of i + j) ≡ get_or (cell_bytes h i) j 0
    unfolding cell_place_of
    cell_byte i j l b =
        let e : heap_place + cell_size * i + j ≡ heap_place + (cell_size * i + j) = omega arith in
        rw e (heap_byte (cell_size * i + j) ∙ turn_at (cell_bytes h) cell_size (λ k. refl) N i j (roots ++ records) l b)

    -- the version
    pub version_said_lem : IsVersion v → version_said log ≡ v
    unfolding bytes_of pair_at
    version_said_lem (inl e) = rw e refl
    version_said_lem (inr e) = rw e refl

    roots_byte : (k j : ℕ) → k < M → j < W → byte_at log (roots_place_of W N k + j) ≡ get_or (roots_bytes v h k) j 0
    unfolding roots_place_of cell_place_of
    roots_byte k j l b =
        let e : heap_place + cell_size * N + W * k + j ≡ heap_place + (cell_size * N + (W * k + j)) = omega arith in
        rw e
        (heap_byte (cell_size * N + (W * k + j))
        ∙ turn_past (cell_bytes h) cell_size (λ i. refl) N (W * k + j) (roots ++ records)
        ∙ turn_at (roots_bytes v h) W roots_sized M k j records l b)

    occupied : (i : ℕ) → i < N → occupied_at log i ≡ pick (member_of h.used (suc i)) 1 0
    occupied i l = let e : cell_place_of i + 0 ≡ cell_place_of i = omega arith in rw e at (cell_byte i 0 l (omega arith))

    field : (i f : ℕ) → i < N → f < cell_fields → field_at log i f ≡ get_or (cell_bytes h i) (suc f) 0
    field i f l b = let e : cell_place_of i + 1 + f ≡ cell_place_of i + suc f = omega arith in rw e (cell_byte i (suc f) l (omega arith))

    roots_read_lem : IsVersion v → (k : ℕ) → k < M → roots_at h k < per_byte ^ W → roots_read log N k ≡ roots_at h k
    roots_read_lem i k l b = rw (version_said_lem i) (little_read W (roots_at h k) (roots_place_of W N k) log b (λ j. roots_byte k j l))

    -- by the cell's number
    said : (c : ℕ) → IsCell N c → said_of log c ≡ pick (member_of h.used c) 1 0
    said c i = let e : suc (c - 1) ≡ c = omega (arith, i.0) in rw e at (occupied (c - 1) (omega (arith, i.0, i.1)))

    field_said_lem : (c f : ℕ) → IsCell N c → f < cell_fields → field_said log c f ≡ heap_field h c f
    field_said_lem c f i b = go f b (field (c - 1) f (omega (arith, i.0, i.1)) b)
      where
        go : (f : ℕ) → f < cell_fields → field_said log c f ≡ get_or (cell_bytes h (c - 1)) (suc f) 0 → field_said log c f ≡ heap_field h c f
        go zero b e = rw (ne_eqb c 0 (λ z. omega (arith, i.0))) e
        go (suc zero) b e = rw (ne_eqb c 0 (λ z. omega (arith, i.0))) e
        go (suc (suc f)) b e = absurd (omega arith)

counts_said : (v : ℕ) (h : Heap) (records : List ℕ) → (cells_said (bytes_of v h ++ records) ≡ h.cells) × (mutators_said (bytes_of v h ++ records) ≡ heap_mutators h)
unfolding bytes_of
counts_said v h records = (refl, refl)

pub written_size : WrittenSize
written_size v h records i = let k = counts_said v h records in rw (version_said_lem v h records i, k.0, k.1) (sym (sized v h))

-- ---- every heap that fits can be said in version 2
pub said_in_two : SaidInTwo
said_in_two h w = record { version = inr refl; fits = w; few_cells = w.cells.1 }

-- ---- what a heap that is said in version v has
module _ (v : ℕ) (h : Heap) (s : SaidIn v h) where
  abbrev w : HeapFits h
  w = s.fits

  roots_sub : (k : ℕ) → k < M v h → Sub (roots_at h k) h.used
  roots_sub k l = let e : suc k - 1 ≡ k = omega arith in rw e at (w.roots (suc k) (omega arith) (omega arith))

  roots_below : (k : ℕ) → k < M v h → below_of (roots_at h k) (N v h) ≡ true
  roots_below k l = below_sub (roots_at h k) h.used (N v h) (roots_sub k l) w.used

  roots_fit_lem : (k : ℕ) → k < M v h → roots_at h k < per_byte ^ roots_size_of v
  roots_fit_lem k l = rw (← bits v) (below_lt (roots_at h k) (most_cells_of v) (below_more (roots_at h k) (N v h) (most_cells_of v) s.few_cells (roots_below k l)))

  field_small : (c f : ℕ) → heap_field h c f ≤ N v h
  unfolding opening_of open_memory
  field_small = (opening_formed h w).fields

  cell_bytes_lem : (i : ℕ) → Bytes (cell_bytes h i)
  cell_bytes_lem i =
      let a : get_or h.field0 i 0 ≤ N v h = omega (arith, at_cell_lem h.field0 i, field_small (suc i) 0) in
      let b : get_or h.field1 i 0 ≤ N v h = omega (arith, at_cell_lem h.field1 i, field_small (suc i) 1) in
      bytes_each (cell_bytes h i) (bit (member_of h.used (suc i)), omega (arith, w.cells.1))
    where
      bit : (b : Bool) → pick b 1 0 < per_byte
      bit true = omega arith
      bit false = omega arith

  all_bytes : Bytes (bytes_of v h)
  unfolding bytes_of
  all_bytes =
      bytes_join (front_bytes v h) (cells v h ++ roots v h) (bytes_each (front_bytes v h) (omega (arith, w.cells.1, w.most)))
      (bytes_join (cells v h) (roots v h) (bytes_turns (cell_bytes h) (N v h) (λ i l. cell_bytes_lem i)) (bytes_turns (roots_bytes v h) (M v h) (λ k l. bytes_little (roots_size_of v) (roots_at h k))))

  -- ---- the clauses
  module _ (records : List ℕ) where
    abbrev L : List ℕ
    L = bytes_of v h ++ records

    is_occupied : (c : ℕ) → Member h.used c → IsCell (N v h) c × (said_of L c ≡ 1)
    is_occupied c m = let i = below_range h.used (N v h) c w.used m in (i, said v h records c i ∙ rw m refl)

    is_member : (c : ℕ) → IsCell (N v h) c → said_of L c ≡ 1 → Member h.used c
    is_member c i e = one (member_of h.used c) (sym (said v h records c i) ∙ e)
      where
        one : (b : Bool) → ◌≡◌ {A = ℕ} (pick b 1 0) 1 → b ≡ true
        one true q = refl
        one false q = absurd (omega arith)

    no_member : (c : ℕ) → IsCell (N v h) c → said_of L c ≡ 0 → member_of h.used c ≡ false
    no_member c i e = none (member_of h.used c) (sym (said v h records c i) ∙ e)
      where
        none : (b : Bool) → ◌≡◌ {A = ℕ} (pick b 1 0) 0 → b ≡ false
        none true q = absurd (omega arith)
        none false q = refl

    admitted : length L ≤ max_log → Admitted L
    unfolding bytes_of pair_at
    admitted b =
        record {
          not_long = b;
          letters = refl;
          version = rw (version_said_lem v h records s.version) s.version;
          some_cells = w.cells.0;
          few_cells = rw (version_said_lem v h records s.version) s.few_cells;
          some_mutators = omega (arith, w.some);
          few_mutators = omega (arith, w.most);
          not_short = omega (arith, length-append (bytes_of v h) records, written_size v h records s.version);
          said = λ c i. said_either c i (split (member_of h.used c));
          fields = λ c f l o. rw (field_said_lem v h records c f o.0 l) (names (heap_field h c f) (w.named c f (is_member c o.0 o.1)));
          roots = λ k x l m. is_occupied x (roots_sub k l x (rw (roots_read_lem v h records s.version k l (roots_fit_lem k l)) at m));
          free = λ c f l o. field_said_lem v h records c f o.0 l ∙ w.free c f (no_member c o.0 o.1);
          within = λ k i l n. rw (roots_read_lem v h records s.version k l (roots_fit_lem k l)) (below_none (roots_at h k) (N v h) (i + 1) (roots_below k l) (omega arith));
        }
      where
        said_either : (c : ℕ) → IsCell (N v h) c → (member_of h.used c ≡ true) ⊎ (member_of h.used c ≡ false) → (said_of L c ≡ 0) ⊎ (said_of L c ≡ 1)
        said_either c i (inl m) = inr (said v h records c i ∙ rw m refl)
        said_either c i (inr m) = inl (said v h records c i ∙ rw m refl)

        names : (v : ℕ) → (v ≡ 0) ⊎ Member h.used v → (v ≡ 0) ⊎ (IsCell (N v h) v × (said_of L v ≡ 1))
        names v (inl z) = inl z
        names v (inr m) = inr (is_occupied v m)

    -- ---- the heap that is read
    used : used_among L (N v h) ≡ h.used
    used =
        sub_same (used_among L (N v h)) h.used
        (λ c m. let a = in_used L (N v h) c m in is_member c (a.some, a.within) a.said)
        (λ c m. let o = is_occupied c m in used_in L (N v h) c (omega (arith, w.cells.1)) o.0.0 o.0.1 o.1)

    fields : (l : List ℕ) (f : ℕ) → length l ≡ max_cells → ((i : ℕ) → i < N v h → field_at L i f ≡ get_or l i 0) → ((i : ℕ) → member_of h.used (suc i) ≡ false → get_or l i 0 ≡ 0) → fields_of L (N v h) f ≡ l
    unfolding fields_of
    fields l f s e z = ext_get_or 0 (listed max_cells (field_in_of L (N v h) f)) l (length_listed (field_in_of L (N v h) f) max_cells ∙ sym s) (λ i b. listed_at (field_in_of L (N v h) f) max_cells i 0 (omega (arith, length_listed (field_in_of L (N v h) f) max_cells)) ∙ at i (dec_lt i (N v h)))
      where
        at : (i : ℕ) → Dec (i < N v h) → field_in_of L (N v h) f i ≡ get_or l i 0
        at i (yes b) = rw (lt-ltb i (N v h) b) (e i b)
        at i (no n) = rw (le-ltb i (N v h) (omega arith)) (sym (z i (below_none h.used (N v h) (suc i) w.used (omega arith))))

    read : heap_of L ≡ as_said h
    unfolding bytes_of read_heap roots_of as_said
    read =
        let m : h.processes - 1 + 1 ≡ h.processes = omega (arith, w.some) in
        let f0 = fields h.field0 0 w.sized0 (λ i l. field v h records i 0 l (omega arith)) (λ i n. sym (at_cell_lem h.field0 i) ∙ w.free (suc i) 0 n) in
        let f1 = fields h.field1 1 w.sized1 (λ i l. field v h records i 1 l (omega arith)) (λ i n. sym (at_cell_lem h.field1 i) ∙ w.free (suc i) 1 n) in
        let r = listed_same (roots_in_of L (N v h) (M v h)) (roots_said h) max_mutators (λ k b. below_same (M v h) k (roots_read L (N v h) k) (roots_at h k) (λ l. roots_read_lem v h records s.version k l (roots_fit_lem k l))) in
        rw (m, used, f0, f1, r) refl

pub written_bytes : WrittenBytes
written_bytes = all_bytes

pub written_admitted : WrittenAdmitted
written_admitted v h records s = admitted v h s records

pub written_said : WrittenSaid
written_said v h records s = read v h s records
