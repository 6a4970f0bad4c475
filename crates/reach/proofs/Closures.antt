-- The closure that the passes compute. Assumes nothing.
--     Met                            reach as far as a set can tell: through the cells 1 to N, to cells that a set
--                                    can hold
--     follow_grows, follow_met, follow_has, pass_grows, pass_met, pass_has       what a step and a pass keep, add and
--     see
--     Going, going_start, going_next, going_end       what is known pass after pass
--     met_once                       only one set holds exactly the cells met
--     reached_met                    the computed set does
use mathlib.Core.Path.{◌≡◌, refl, sym, ap, ◌∙◌}
use mathlib.Core.Bool.{true, false}
use mathlib.Core.Logic.{◌⊎◌, inl, inr, ◌↔◌}
use Prim.Native.Nat.{ℕ, zero, suc, ◌+◌, ◌^◌, ◌≤◌, ◌<◌}
use native.Mathlib.Omega.{arith}
use native.Mathlib.Decide.{dec_lt, ℕ_discrete}
use borrow.Author.Tests.{eqb-true, eqb-false}
use lib.Dec.{eqb}
use Rattle.cells.specs.Sets.{max_set, member_of, Member, Sub, add_of, minus_of, inter_of, count_of}
use Rattle.cells.proofs.Bools.{split, not_both}
use Rattle.cells.proofs.Members.{member_pos, in_add, add_same, add_keeps, add_above}
use Rattle.cells.proofs.Subsets.{sub_same, sub_of_minus, inter_of_sub}
use Rattle.cells.proofs.Algebra.{inter_comm}
use Rattle.cells.proofs.Belows.{add_lt, minus_le}
use Rattle.cells.proofs.Counts.{count_max, count_minus, count_zero}
use Rattle.memory.specs.declared.Memory.{Memory}
use Rattle.memory.specs.Memories.{used_of, field_of}
use Rattle.reach.specs.Reach.{Names, first, second, counted, follow_of, pass_of, passes_of, most_passes, reached_of}

-- ---- one number added: what is new is that number, and fits
in_add_fits : (s x y : ℕ) → Member (add_of s x) y → (Member s y) ⊎ ((x ≡ y) × (y ≤ max_set))
in_add_fits s x y p = go (dec_lt max_set x)
  where
    old : (Member s y) ⊎ (x ≡ y) → x ≤ max_set → (Member s y) ⊎ ((x ≡ y) × (y ≤ max_set))
    old (inl q) l = inl q
    old (inr e) l = inr (e, omega arith)

    go : Dec (max_set < x) → (Member s y) ⊎ ((x ≡ y) × (y ≤ max_set))
    go (yes l) = inl (rw (add_above s x l) at p)
    go (no n) = old (in_add s x y p) (omega arith)

-- a set that gains a number counts more
count_less : (s t : ℕ) → Sub s t → t < 2 ^ max_set → (t ≡ s → ⊥) → count_of s < count_of t
count_less s t h l n = go (ℕ_discrete (count_of (minus_of t s)) 0)
  where
    e : count_of (inter_of t s) ≡ count_of s
    e = ap count_of (inter_comm t s ∙ inter_of_sub s t h)

    go : Dec (count_of (minus_of t s) ≡ 0) → count_of s < count_of t
    go (yes z) = absurd (n (sub_same t s (sub_of_minus t s (count_zero (minus_of t s) (omega (arith, minus_le t s)) z)) h))
    go (no z) = omega (arith, count_minus t s, e)

-- ---- reach, as far as a set can tell
pub data Met (m : Memory) (start : ℕ) : ℕ → Type 0 where
  begun : {c : ℕ} → Member start c → Met m start c
  led : {c d : ℕ} → Met m start c → c ≤ m.cells → used_of m c ≡ true → Names m c d → d ≤ max_set → Met m start d

module _ (m : Memory) where
  -- a step: it follows c, or does nothing
  data Followed (s c : ℕ) : Type 0 where
    on : Member s c → used_of m c ≡ true → follow_of m s c ≡ add_of (add_of s (field_of m c 0)) (field_of m c 1) → Followed s c
    off : (Member s c → used_of m c ≡ true → ⊥) → follow_of m s c ≡ s → Followed s c

  followed : (s c : ℕ) → Followed s c
  unfolding follow_of
  followed s c = go (split (member_of s c)) (split (used_of m c))
    where
      go : (member_of s c ≡ true) ⊎ (member_of s c ≡ false) → (used_of m c ≡ true) ⊎ (used_of m c ≡ false) → Followed s c
      go (inl p) (inl q) = on p q (rw (p, q))
      go (inl p) (inr q) = off (λ a b. not_both b q) (rw (p, q))
      go (inr p) u = off (λ a b. not_both a p) (rw p)

  pub follow_on : (s c : ℕ) → Member s c → used_of m c ≡ true → follow_of m s c ≡ add_of (add_of s (field_of m c 0)) (field_of m c 1)
  follow_on s c p u = go (followed s c)
    where
      go : Followed s c → follow_of m s c ≡ add_of (add_of s (field_of m c 0)) (field_of m c 1)
      go (on q w e) = e
      go (off n e) = absurd (n p u)

  pub follow_grows : (s c : ℕ) → Sub s (follow_of m s c)
  follow_grows s c x p = go (followed s c)
    where
      go : Followed s c → Member (follow_of m s c) x
      go (on q u e) = rw e (add_keeps (add_of s (field_of m c 0)) (field_of m c 1) x (add_keeps s (field_of m c 0) x p))
      go (off n e) = rw e p

  pub follow_has : (s c d : ℕ) → Member s c → used_of m c ≡ true → Names m c d → d ≤ max_set → Member (follow_of m s c) d
  follow_has s c d p u k l = go k (followed s c)
    where
      go : Names m c d → Followed s c → Member (follow_of m s c) d
      go k (off n e) = absurd (n p u)
      go (first a z) (on q w e) = rw e (add_keeps (add_of s (field_of m c 0)) (field_of m c 1) d (rw a (add_same s d z l)))
      go (second a z) (on q w e) = rw (e, a) (add_same (add_of s (field_of m c 0)) d z l)

  pub follow_met : (start s c : ℕ) → c ≤ m.cells → ((x : ℕ) → Member s x → Met m start x) → (x : ℕ) → Member (follow_of m s c) x → Met m start x
  follow_met start s c b h x p = go (followed s c)
    where
      go : Followed s c → Met m start x
      go (off n e) = h x (rw e at p)
      go (on q u e) = one (in_add_fits (add_of s (field_of m c 0)) (field_of m c 1) x (rw e at p))
        where
          pos : 0 < x
          pos = member_pos (follow_of m s c) x p

          two : (Member s x) ⊎ ((field_of m c 0 ≡ x) × (x ≤ max_set)) → Met m start x
          two (inl r) = h x r
          two (inr r) = led (h c q) b u (first r.0 pos) r.1

          one : (Member (add_of s (field_of m c 0)) x) ⊎ ((field_of m c 1 ≡ x) × (x ≤ max_set)) → Met m start x
          one (inl r) = two (in_add_fits s (field_of m c 0) x r)
          one (inr r) = led (h c q) b u (second r.0 pos) r.1

  pub follow_lt : (s c : ℕ) → s < 2 ^ max_set → follow_of m s c < 2 ^ max_set
  follow_lt s c h = go (followed s c)
    where
      go : Followed s c → follow_of m s c < 2 ^ max_set
      go (on q u e) = rw e (add_lt (add_of s (field_of m c 0)) (field_of m c 1) (add_lt s (field_of m c 0) h))
      go (off n e) = rw e h

  -- the first n cells of a pass
  cells_grow : (n s : ℕ) → Sub s (counted n (follow_of m) s)
  cells_grow zero s x p = p
  cells_grow (suc n) s x p = follow_grows (counted n (follow_of m) s) (suc n) x (cells_grow n s x p)

  cells_have : (n s c d : ℕ) → c ≤ n → Member s c → used_of m c ≡ true → Names m c d → d ≤ max_set → Member (counted n (follow_of m) s) d
  cells_have zero s c d b p u k l = absurd (omega (arith, member_pos s c p))
  cells_have (suc n) s c d b p u k l = go (ℕ_discrete c (suc n)) (λ a. cells_have n s c d a p u k l)
    where
      go : Dec (c ≡ suc n) → (c ≤ n → Member (counted n (follow_of m) s) d) → Member (follow_of m (counted n (follow_of m) s) (suc n)) d
      go (yes e) ih = rw (← e) (follow_has (counted n (follow_of m) s) c d (cells_grow n s c p) u k l)
      go (no q) ih = follow_grows (counted n (follow_of m) s) (suc n) d (ih (omega arith))

  cells_met : (start n s : ℕ) → n ≤ m.cells → ((x : ℕ) → Member s x → Met m start x) → (x : ℕ) → Member (counted n (follow_of m) s) x → Met m start x
  cells_met start zero s b h x p = h x p
  cells_met start (suc n) s b h x p = follow_met start (counted n (follow_of m) s) (suc n) b (cells_met start n s (omega arith) h) x p

  cells_lt : (n s : ℕ) → s < 2 ^ max_set → counted n (follow_of m) s < 2 ^ max_set
  cells_lt zero s h = h
  cells_lt (suc n) s h = follow_lt (counted n (follow_of m) s) (suc n) (cells_lt n s h)

  -- a whole pass
  pass_grows : (s : ℕ) → Sub s (pass_of m s)
  unfolding pass_of
  pass_grows s = cells_grow m.cells s

  pass_has : (s c d : ℕ) → c ≤ m.cells → Member s c → used_of m c ≡ true → Names m c d → d ≤ max_set → Member (pass_of m s) d
  unfolding pass_of
  pass_has s = cells_have m.cells s

  pass_met : (start s : ℕ) → ((x : ℕ) → Member s x → Met m start x) → (x : ℕ) → Member (pass_of m s) x → Met m start x
  unfolding pass_of
  pass_met start s h = cells_met start m.cells s (omega arith) h

  pass_lt : (s : ℕ) → s < 2 ^ max_set → pass_of m s < 2 ^ max_set
  unfolding pass_of
  pass_lt s h = cells_lt m.cells s h

  -- ---- pass after pass: what is seen holds start and is all met; next is a pass further
  record Going (start seen next : ℕ) : Type 0 where
    fits : seen < 2 ^ max_set
    is : next ≡ pass_of m seen
    from : Sub start seen
    met : (x : ℕ) → Member seen x → Met m start x

  going_start : (start next : ℕ) → start < 2 ^ max_set → next ≡ pass_of m start → Going start start next
  going_start start next h e = record { fits = h; is = e; from = λ x p. p; met = λ x p. begun p }

  module _ (start seen next : ℕ) (g : Going start seen next) where
    going_next : (next' : ℕ) → next' ≡ pass_of m next → Going start next next'
    going_next next' e = record {
      fits = rw g.is (pass_lt seen g.fits);
      is = e;
      from = λ x p. rw g.is (pass_grows seen x (g.from x p));
      met = λ x p. pass_met start seen g.met x (rw g.is at p);
    }

    count_more : (next ≡ seen → ⊥) → count_of seen < count_of next
    count_more n = count_less seen next (λ x p. rw g.is (pass_grows seen x p)) (rw g.is (pass_lt seen g.fits)) n

    going_end : next ≡ seen → (x : ℕ) → Member seen x ↔ Met m start x
    going_end e x = (g.met x, back)
      where
        back : {y : ℕ} → Met m start y → Member seen y
        back (begun p) = g.from _ p
        back (led {c = c} {d = d} r b u k l) = rw (sym g.is ∙ e) at (pass_has seen c d b (back r) u k l)

  -- only one set holds exactly the cells met
  pub met_once : (start r t : ℕ) → ((x : ℕ) → Member r x ↔ Met m start x) → ((x : ℕ) → Member t x ↔ Met m start x) → r ≡ t
  met_once start r t h k = sub_same r t (λ x p. (k x).1 ((h x).0 p)) (λ x p. (h x).1 ((k x).0 p))

  -- ---- the computed set
  passes_stop : (k s : ℕ) → eqb (pass_of m s) s ≡ true → passes_of (suc k) m s ≡ s
  unfolding passes_of
  passes_stop k s e = rw (e, passes_of)

  passes_on : (k s : ℕ) → eqb (pass_of m s) s ≡ false → passes_of (suc k) m s ≡ passes_of k m (pass_of m s)
  unfolding passes_of
  passes_on k s e = rw (e, passes_of)

  passes_met : (start k s : ℕ) → Going start s (pass_of m s) → max_set < k + count_of s → (x : ℕ) → Member (passes_of k m s) x ↔ Met m start x
  passes_met start zero s g h x = absurd (omega (arith, count_max s))
  passes_met start (suc k) s g h x = go (split (eqb (pass_of m s) s)) (λ b q. passes_met start k (pass_of m s) b q x)
    where
      go : (eqb (pass_of m s) s ≡ true) ⊎ (eqb (pass_of m s) s ≡ false)
          → (Going start (pass_of m s) (pass_of m (pass_of m s)) → max_set < k + count_of (pass_of m s) → Member (passes_of k m (pass_of m s)) x ↔ Met m start x)
          → Member (passes_of (suc k) m s) x ↔ Met m start x
      go (inl e) ih = rw (passes_stop k s e) (going_end start s (pass_of m s) g (eqb-true (pass_of m s) s e) x)
      go (inr e) ih =
          rw (passes_on k s e)
          (ih (going_next start s (pass_of m s) g (pass_of m (pass_of m s)) refl) (omega (arith, count_more start s (pass_of m s) g (eqb-false (pass_of m s) s e))))

  pub reached_met : (start : ℕ) → start < 2 ^ max_set → (x : ℕ) → Member (reached_of m start) x ↔ Met m start x
  unfolding reached_of
  reached_met start h = passes_met start most_passes start (going_start start (pass_of m start) h refl) (omega arith)
