-- The tests of a header and its clauses, which agree. Assumes nothing.
--     tests, tested            the tests of an admitted log, one by one; and together
--     admitted_clauses         where they hold, so does every clause
--     clauses_admitted         where every clause holds, so do they
--     tested_exactly           both
use mathlib.Core.Path.{◌≡◌, refl, sym, ap, ◌∙◌}
use mathlib.Core.Bool.{Bool, true, false}
use mathlib.Core.List.{List, [], ◌∷◌}
use mathlib.Core.Logic.{◌⊎◌, inl, inr}
use Prim.Native.Nat.{ℕ, zero, suc, ◌+◌, ◌-◌, ◌*◌, ◌≤◌, ◌<◌}
use native.Mathlib.Omega.{arith}
use lib.Dec.{eqb, leb}
use lib.ListN.{length, get_or, take}
use lib.Seq.{get_or-take}
use borrow.Author.Tests.{leb-true, eqb-true, le-leb, eq-eqb, ne_eqb}
use Rattle.base.specs.Pick.{pick}
use Rattle.base.specs.Every.{◌and◌}
use Rattle.base.proofs.Everies.{and_both, every_at, every_all}
use Rattle.base.proofs.Picking.{pick_ind}
use Rattle.cells.specs.Sets.{is_none, member_of, Member, Sub, minus_of, below_of}
use Rattle.cells.proofs.Bools.{split, not_both}
use Rattle.cells.proofs.Members.{is_none_true, is_none_empty}
use Rattle.cells.proofs.Subsets.{sub_of_minus, minus_of_sub}
use Rattle.cells.proofs.Belows.{below_none, below_of_lem}
use Rattle.memory.specs.Memories.{max_cells, max_mutators}
use Rattle.header.specs.Bytes.{byte_at}
use Rattle.header.specs.Header.{max_log, letter_m, letter_g, letter_t, version1, version2, most_cells_of, version_said, cells_said, mutators_said, cell_fields, cell_place_of, roots_place_of, size_of, occupied_at, field_at, roots_read, used_among, is_version_of, letters_of, counts_of, names_of, cell_said_fits_of, cell_said_at_of, roots_fit_of, roots_at_of, cells_said_fit_of, all_roots_fit_of, heap_fits_of, admitted_of}
use Rattle.header.specs.Admitted.{CellSaid, OccupiedSaid, FreeSaid, said_of, field_said, root_set, IsVersion, Admitted}
use Rattle.header.specs.Statements.{TestedExactly}
use Rattle.header.proofs.Used.{in_used, used_in}

-- ---- the tests, one by one
pub record Tests (log : List ℕ) : Type 0 where
  pub long : leb (length log) max_log ≡ true
  pub letters : letters_of log ≡ true
  pub counts : counts_of (most_cells_of (version_said log)) (cells_said log) (mutators_said log) ≡ true
  pub short : leb (size_of log) (length log) ≡ true
  pub heap : heap_fits_of log (cells_said log) (mutators_said log) (used_among log (cells_said log)) ≡ true

pub tests : (log : List ℕ) → admitted_of log ≡ true → Tests log
unfolding admitted_of
tests log e =
    let a = and_both (leb (length log) max_log) _ e in
    let b = and_both (letters_of log) _ a.1 in
    let c = and_both (counts_of (most_cells_of (version_said log)) (cells_said log) (mutators_said log)) _ b.1 in
    let d = and_both (leb (size_of log) (length log)) _ c.1 in
    record { long = a.0; letters = b.0; counts = c.0; short = d.0; heap = d.1 }

pub tested : (log : List ℕ) → Tests log → admitted_of log ≡ true
unfolding admitted_of
tested log t = rw (t.long, t.letters, t.counts, t.short) t.heap

-- a root set has no more bits than there can be cells
pub most_cells : (v : ℕ) → most_cells_of v ≤ max_cells
most_cells v = pick_ind (λ (w : ℕ). 8 * w ≤ max_cells) (eqb v version2) (λ _. omega arith) (λ _. omega arith)

record Counts (most n m : ℕ) : Type 0 where
  some_cells : 0 < n
  few_cells : n ≤ most
  some_mutators : 0 < m
  few_mutators : m ≤ max_mutators

counts : (most n m : ℕ) → counts_of most n m ≡ true → Counts most n m
unfolding counts_of
counts most n m e =
    let a = and_both (leb 1 n) _ e in
    let b = and_both (leb n most) _ a.1 in
    let c = and_both (leb 1 m) _ b.1 in
    record { some_cells = leb-true 1 n a.0; few_cells = leb-true n most b.0; some_mutators = leb-true 1 m c.0; few_mutators = leb-true m max_mutators c.1 }

counted : (most n m : ℕ) → Counts most n m → counts_of most n m ≡ true
unfolding counts_of
counted most n m k = rw (le-leb 1 n k.some_cells, le-leb n most k.few_cells, le-leb 1 m k.some_mutators) (le-leb m max_mutators k.few_mutators)

pub few_mutators : (log : List ℕ) → admitted_of log ≡ true → mutators_said log ≤ max_mutators
few_mutators log e = (counts (most_cells_of (version_said log)) (cells_said log) (mutators_said log) (tests log e).counts).few_mutators

-- ---- the letters
three : (l : List ℕ) → 3 ≤ length l → take 3 l ≡ byte_at l 0 ∷ byte_at l 1 ∷ byte_at l 2 ∷ []
three [] h = absurd (omega arith)
three (a ∷ []) h = absurd (omega arith)
three (a ∷ b ∷ []) h = absurd (omega arith)
three (a ∷ b ∷ c ∷ l) h = refl

least : (log : List ℕ) → 3 ≤ size_of log
unfolding roots_place_of cell_place_of
least log = omega arith

version : (v : ℕ) → is_version_of v ≡ true → IsVersion v
unfolding is_version_of
version v e = go (split (eqb v version1))
  where
    go : (eqb v version1 ≡ true) ⊎ (eqb v version1 ≡ false) → IsVersion v
    go (inl h) = inl (eqb-true v version1 h)
    go (inr h) = inr (eqb-true v version2 (rw h at e))

versioned : (v : ℕ) → IsVersion v → is_version_of v ≡ true
unfolding is_version_of
versioned v (inl e) = rw e refl
versioned v (inr e) = rw e refl

letters : (log : List ℕ) → 3 ≤ length log → letters_of log ≡ true → (take 3 log ≡ letter_m ∷ letter_g ∷ letter_t ∷ []) × IsVersion (version_said log)
unfolding letters_of
letters log h e =
    let a = and_both (eqb (byte_at log 0) letter_m) _ e in
    let b = and_both (eqb (byte_at log 1) letter_g) _ a.1 in
    let c = and_both (eqb (byte_at log 2) letter_t) _ b.1 in
    (three log h ∙ rw (eqb-true (byte_at log 0) letter_m a.0, eqb-true (byte_at log 1) letter_g b.0, eqb-true (byte_at log 2) letter_t c.0) refl, version (version_said log) c.1)

lettered : (log : List ℕ) → take 3 log ≡ letter_m ∷ letter_g ∷ letter_t ∷ [] → IsVersion (version_said log) → letters_of log ≡ true
unfolding letters_of
lettered log e v =
    let at : (i : ℕ) → i < 3 → byte_at log i ≡ get_or (letter_m ∷ letter_g ∷ letter_t ∷ []) i 0 = λ i h. sym (get_or-take 3 log i 0 h) ∙ ap (λ (l : List ℕ). get_or l i 0) e in
    rw (eq-eqb (byte_at log 0) letter_m (at 0 (omega arith)), eq-eqb (byte_at log 1) letter_g (at 1 (omega arith)), eq-eqb (byte_at log 2) letter_t (at 2 (omega arith)))
    (versioned (version_said log) v)

-- ---- a cell
abbrev pub Names : ℕ → ℕ → Type 0
Names used v = (v ≡ 0) ⊎ Member used v

pub data CellFits (used occupied a b : ℕ) : Type 0 where
  is_free : occupied ≡ 0 → a ≡ 0 → b ≡ 0 → CellFits used occupied a b
  is_occupied : occupied ≡ 1 → Names used a → Names used b → CellFits used occupied a b

parts : (t x y : Bool) → pick t x y ≡ true → ((t ≡ true) × (x ≡ true)) ⊎ ((t ≡ false) × (y ≡ true))
parts true x y e = inl (refl, e)
parts false x y e = inr (refl, e)

names : (used v : ℕ) → names_of used v ≡ true → Names used v
unfolding names_of
names used v e = go (parts (eqb v 0) true (member_of used v) e)
  where
    go : ((eqb v 0 ≡ true) × (true ≡ true)) ⊎ ((eqb v 0 ≡ false) × (member_of used v ≡ true)) → Names used v
    go (inl p) = inl (eqb-true v 0 p.0)
    go (inr p) = inr p.1

named : (used v : ℕ) → Names used v → names_of used v ≡ true
unfolding names_of
named used v (inl e) = rw (eq-eqb v 0 e) refl
named used v (inr p) = go (eqb v 0)
  where
    go : (b : Bool) → pick b true (member_of used v) ≡ true
    go true = refl
    go false = p

fits : (used occupied a b : ℕ) → cell_said_fits_of used occupied a b ≡ true → CellFits used occupied a b
unfolding cell_said_fits_of
fits used occupied a b e = go (parts (eqb occupied 0) (eqb a 0 and eqb b 0) (pick (eqb occupied 1) (names_of used a and names_of used b) false) e)
  where
    on : ((eqb occupied 1 ≡ true) × (names_of used a and names_of used b ≡ true)) ⊎ ((eqb occupied 1 ≡ false) × (false ≡ true)) → CellFits used occupied a b
    on (inl p) =
        let q = and_both (names_of used a) (names_of used b) p.1 in
        is_occupied (eqb-true occupied 1 p.0) (names used a q.0) (names used b q.1)
    on (inr p) = absurd (not_both p.1 refl)

    go : ((eqb occupied 0 ≡ true) × (eqb a 0 and eqb b 0 ≡ true)) ⊎ ((eqb occupied 0 ≡ false) × (pick (eqb occupied 1) (names_of used a and names_of used b) false ≡ true)) → CellFits used occupied a b
    go (inl p) = let q = and_both (eqb a 0) (eqb b 0) p.1 in is_free (eqb-true occupied 0 p.0) (eqb-true a 0 q.0) (eqb-true b 0 q.1)
    go (inr p) = on (parts (eqb occupied 1) (names_of used a and names_of used b) false p.1)

fitted : (used occupied a b : ℕ) → CellFits used occupied a b → cell_said_fits_of used occupied a b ≡ true
unfolding cell_said_fits_of
fitted used occupied a b (is_free o x y) = rw (eq-eqb occupied 0 o, eq-eqb a 0 x) (eq-eqb b 0 y)
fitted used occupied a b (is_occupied o x y) =
    let z : eqb occupied 0 ≡ false = ne_eqb occupied 0 (λ e. omega arith) in
    rw (z, eq-eqb occupied 1 o, named used a x) (named used b y)

-- ---- every cell, every root set
module _ (log : List ℕ) where
  abbrev N : ℕ
  N = cells_said log

  abbrev M : ℕ
  M = mutators_said log

  abbrev U : ℕ
  U = used_among log (cells_said log)

  pub record HeapFits : Type 0 where
    pub cell : (i : ℕ) → i < N → CellFits U (occupied_at log i) (field_at log i 0) (field_at log i 1)
    pub below : (k : ℕ) → k < M → below_of (roots_read log N k) N ≡ true
    pub roots : (k : ℕ) → k < M → Sub (roots_read log N k) U

  pub heap_fits_lem : heap_fits_of log N M U ≡ true → HeapFits
  unfolding heap_fits_of cells_said_fit_of all_roots_fit_of roots_fit_of
  heap_fits_lem e =
      let p = and_both (cells_said_fit_of log N U) (all_roots_fit_of log N M U) e in
      let r : (k : ℕ) → k < M → (below_of (roots_read log N k) N ≡ true) × (is_none (minus_of (roots_read log N k) U) ≡ true) = λ k h. and_both (below_of (roots_read log N k) N) (is_none (minus_of (roots_read log N k) U)) (every_at (roots_at_of log N U) M k p.1 h) in
      record {
        cell = λ i h. fits U (occupied_at log i) (field_at log i 0) (field_at log i 1) (every_at (cell_said_at_of log U) N i p.0 h);
        below = λ k h. (r k h).0;
        roots = λ k h. sub_of_minus (roots_read log N k) U (is_none_true (minus_of (roots_read log N k) U) (r k h).1);
      }

  heap_fitted : HeapFits → heap_fits_of log N M U ≡ true
  unfolding heap_fits_of cells_said_fit_of all_roots_fit_of roots_fit_of
  heap_fitted h =
      rw (every_all (cell_said_at_of log U) N (λ i l. fitted U (occupied_at log i) (field_at log i 0) (field_at log i 1) (h.cell i l)))
      (every_all (roots_at_of log N U) M (λ k l. rw (h.below k l, minus_of_sub (roots_read log N k) U (h.roots k l)) is_none_empty))

  -- ---- and the clauses
  abbrev occupied_of : (c : ℕ) → Member U c → OccupiedSaid log c
  occupied_of c p = let a = in_used log N c p in ((a.some, a.within), a.said)

  field_of : HeapFits → (c f : ℕ) → f < cell_fields → OccupiedSaid log c → Names U (field_said log c f)
  field_of h c f l o = go f l (h.cell (c - 1) (omega (arith, o.0.0, o.0.1)))
    where
      go : (f : ℕ) → f < cell_fields → CellFits U (occupied_at log (c - 1)) (field_at log (c - 1) 0) (field_at log (c - 1) 1) → Names U (field_said log c f)
      go f l (is_free z a b) = absurd (omega (arith, o.1, z))
      go zero l (is_occupied z a b) = a
      go (suc zero) l (is_occupied z a b) = b
      go (suc (suc f)) l (is_occupied z a b) = absurd (omega arith)

  free_of_lem : HeapFits → (c f : ℕ) → f < cell_fields → FreeSaid log c → field_said log c f ≡ 0
  free_of_lem h c f l o = go f l (h.cell (c - 1) (omega (arith, o.0.0, o.0.1)))
    where
      go : (f : ℕ) → f < cell_fields → CellFits U (occupied_at log (c - 1)) (field_at log (c - 1) 0) (field_at log (c - 1) 1) → field_said log c f ≡ 0
      go zero l (is_free z a b) = a
      go (suc zero) l (is_free z a b) = b
      go (suc (suc f)) l (is_free z a b) = absurd (omega arith)
      go f l (is_occupied z a b) = absurd (omega (arith, o.1, z))

  pub admitted_clauses : admitted_of log ≡ true → Admitted log
  admitted_clauses e =
      let t = tests log e in
      let k = counts (most_cells_of (version_said log)) N M t.counts in
      let s = leb-true (size_of log) (length log) t.short in
      let l = letters log (omega (arith, least log, s)) t.letters in
      let h = heap_fits_lem t.heap in
      record {
        not_long = leb-true (length log) max_log t.long;
        letters = l.0;
        version = l.1;
        some_cells = k.some_cells;
        few_cells = k.few_cells;
        some_mutators = k.some_mutators;
        few_mutators = k.few_mutators;
        not_short = s;
        said = λ c i. said_of_lem (h.cell (c - 1) (omega (arith, i.0, i.1)));
        fields = λ c f b o. names_of_lem (field_said log c f) (field_of h c f b o);
        roots = λ m x b p. occupied_of x (h.roots m b x p);
        free = free_of_lem h;
        within = λ m i b n. below_none (root_set log m) N (i + 1) (h.below m b) (omega arith);
      }
    where
      said_of_lem : {used o a b : ℕ} → CellFits used o a b → (o ≡ 0) ⊎ (o ≡ 1)
      said_of_lem (is_free z a b) = inl z
      said_of_lem (is_occupied z a b) = inr z

      names_of_lem : (v : ℕ) → Names U v → (v ≡ 0) ⊎ OccupiedSaid log v
      names_of_lem v (inl z) = inl z
      names_of_lem v (inr p) = inr (occupied_of v p)

  pub clauses_admitted : Admitted log → admitted_of log ≡ true
  clauses_admitted a =
      tested log
      (record {
        long = le-leb (length log) max_log a.not_long;
        letters = lettered log a.letters a.version;
        counts = counted (most_cells_of (version_said log)) N M (record { some_cells = a.some_cells; few_cells = a.few_cells; some_mutators = a.some_mutators; few_mutators = a.few_mutators });
        short = le-leb (size_of log) (length log) a.not_short;
        heap = heap_fitted (record { cell = cell; below = below; roots = λ k l x p. member_of_lem x (a.roots k x l p) });
      })
    where
      member_of_lem : (x : ℕ) → OccupiedSaid log x → Member U x
      member_of_lem x o = used_in log N x (omega (arith, a.few_cells, most_cells (version_said log))) o.0.0 o.0.1 o.1

      names_of_lem : (v : ℕ) → (v ≡ 0) ⊎ OccupiedSaid log v → Names U v
      names_of_lem v (inl z) = inl z
      names_of_lem v (inr o) = inr (member_of_lem v o)

      below : (k : ℕ) → k < M → below_of (roots_read log N k) N ≡ true
      below k l = below_of_lem (roots_read log N k) N (λ x p. (a.roots k x l p).0.1)

      cell : (i : ℕ) → i < N → CellFits U (occupied_at log i) (field_at log i 0) (field_at log i 1)
      cell i l =
          let e : i + 1 - 1 ≡ i = omega arith in
          let c : CellSaid log (i + 1) = (omega arith, omega arith) in
          go e c (a.said (i + 1) c)
        where
          go : i + 1 - 1 ≡ i → CellSaid log (i + 1) → (said_of log (i + 1) ≡ 0) ⊎ (said_of log (i + 1) ≡ 1) → CellFits U (occupied_at log i) (field_at log i 0) (field_at log i 1)
          go e c (inl z) =
              let q : CellFits U (said_of log (i + 1)) (field_said log (i + 1) 0) (field_said log (i + 1) 1) = is_free z (a.free (i + 1) 0 (omega arith) (c, z)) (a.free (i + 1) 1 (omega arith) (c, z)) in
              rw e at q
          go e c (inr z) =
              let q : CellFits U (said_of log (i + 1)) (field_said log (i + 1) 0) (field_said log (i + 1) 1) = is_occupied z (names_of_lem (field_said log (i + 1) 0) (a.fields (i + 1) 0 (omega arith) (c, z))) (names_of_lem (field_said log (i + 1) 1) (a.fields (i + 1) 1 (omega arith) (c, z))) in
              rw e at q

pub tested_exactly : TestedExactly
tested_exactly log = (admitted_clauses log, clauses_admitted log)
