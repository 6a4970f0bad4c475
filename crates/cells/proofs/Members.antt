-- Membership: what every operation holds, number by number, and that this decides the set. Assumes nothing.
--     member_null, member_digit      null is in no set; a number from 1 is in by its binary digit
--     member_empty, member_one, member_union, member_inter, member_minus, member_add, member_remove, member_full
--     each operation, as an equation of tests
--     one_power, add_is              the set of one number is a power of 2; to add is a union
--     add_null, add_above, add_member, remove_null, remove_above, remove_other      where adding and removing change
--     nothing
--     member_pos, above_none         members are from 1, and of a set below 2 ^ n at most n
--     same_members, same_below       two sets with the same members are one; below 2 ^ n the numbers 1 to n decide
--     none_is_empty, not_empty       empty exactly if no member
--     is_none_empty, is_none_true, is_none_false, is_none_member, is_none_none, is_none_of       the test of it
--     in_union, union_left, union_right, in_inter, inter_both, in_minus, minus_both, in_one, one_same     the
--     operations as facts
--     in_add, add_same, add_keeps, in_remove, remove_keeps, remove_gone, in_full, full_has
use mathlib.Core.Path.{◌≡◌, refl, sym, ◌∙◌}
use mathlib.Core.Bool.{true, false, not, ◌&&◌, ◌||◌, and-true, and-false}
use mathlib.Core.Logic.{◌⊎◌, inl, inr, ⊎_elim}
use Prim.Native.Nat.{ℕ, zero, suc, ◌-◌, ◌^◌, ◌≤◌, ◌<◌, min}
use native.Mathlib.Omega.{arith}
use native.Mathlib.Decide.{dec_lt}
use borrow.Author.Tests.{eqb-true, eq-eqb, ne_eqb, eqb-false, le-ltb, lt-ltb, leb-true, le-leb, not-true}
use lib.Dec.{eqb, leb, leb-zero, leb-suc-suc, eqb-zero-suc, eqb-suc-zero, eqb-suc-suc}
use lib.Bits.{or_zero_r, and_zero_r}
use Rattle.cells.specs.Sets.{max_set, no_cells, is_none, member_of, Member, one_of, add_of, remove_of, union_of, inter_of, minus_of, full_of}
use Rattle.cells.proofs.Bools.{not_both, same_test, or_left, or_right, or_cases, and_parts}
use Rattle.cells.proofs.Bits.{has, has_empty, has_power, has_union, has_inter, has_minus, has_full, has_above, ext}

-- ---- by the digit

pub member_null : (s : ℕ) → member_of s 0 ≡ false
unfolding member_of
member_null s = refl

pub member_digit : (s i : ℕ) → member_of s (suc i) ≡ has s i
unfolding member_of has
member_digit s i = let e : suc i - 1 ≡ i = omega arith in rw (eqb-suc-zero i, e)

pub one_power : (i : ℕ) → one_of (suc i) ≡ 2 ^ i
unfolding one_of
one_power i = let e : suc i - 1 ≡ i = omega arith in rw (eqb-suc-zero i, e)

-- ---- the operations, number by number

pub member_empty : (x : ℕ) → member_of no_cells x ≡ false
member_empty zero = member_null no_cells
member_empty (suc i) = member_digit no_cells i ∙ has_empty i

pub member_union : (s t x : ℕ) → member_of (union_of s t) x ≡ (member_of s x || member_of t x)
member_union s t zero = simp member_null
member_union s t (suc i) = simp member_digit (has_union s t i)

pub member_inter : (s t x : ℕ) → member_of (inter_of s t) x ≡ (member_of s x && member_of t x)
member_inter s t zero = simp member_null
member_inter s t (suc i) = simp member_digit (has_inter s t i)

pub member_minus : (s t x : ℕ) → member_of (minus_of s t) x ≡ (member_of s x && not (member_of t x))
member_minus s t zero = simp member_null
member_minus s t (suc i) = simp member_digit (has_minus s t i)

pub member_one : (x y : ℕ) → 0 < x → member_of (one_of x) y ≡ eqb x y
member_one zero y p = absurd (omega arith)
member_one (suc i) zero p = member_null (one_of (suc i)) ∙ sym (eqb-suc-zero i)
member_one (suc i) (suc j) p = rw (member_digit, one_power, has_power, eqb-suc-suc)

one_null : one_of 0 ≡ no_cells
unfolding one_of
one_null = refl

pub add_is : (s x : ℕ) → x ≤ max_set → add_of s x ≡ union_of s (one_of x)
unfolding add_of
add_is s x h = rw (le-ltb max_set x h)

pub add_above : (s x : ℕ) → max_set < x → add_of s x ≡ s
unfolding add_of
add_above s x h = rw (lt-ltb max_set x h)

pub add_null : (s : ℕ) → add_of s 0 ≡ s
unfolding union_of
add_null s = add_is s 0 (omega arith) ∙ rw one_null (or_zero_r s)

pub remove_null : (s : ℕ) → remove_of s 0 ≡ s
unfolding remove_of minus_of
remove_null s = rw one_null (omega (arith, and_zero_r s))

pub member_add : (s x y : ℕ) → 0 < x → x ≤ max_set → member_of (add_of s x) y ≡ (member_of s y || eqb x y)
member_add s x y p h = rw (add_is s x h, member_union s (one_of x) y, member_one x y p)

pub member_remove : (s x y : ℕ) → member_of (remove_of s x) y ≡ (member_of s y && not (eqb x y))
unfolding remove_of
member_remove s zero zero = rw (member_null (remove_of s 0), member_null s)
member_remove s zero (suc j) = rw (remove_null s, eqb-zero-suc j) (sym (and-true (member_of s (suc j))))
member_remove s (suc i) y = rw (member_minus s (one_of (suc i)) y, member_one (suc i) y (omega arith))

pub member_full : (n x : ℕ) → member_of (full_of n) x ≡ (leb 1 x && leb x (min n max_set))
unfolding full_of
member_full n zero = member_null (full_of n)
member_full n (suc i) = rw (member_digit, has_full, leb-suc-suc 0 i, leb-zero i)

-- ---- members are from 1, and below 2 ^ n at most n

pub member_pos : (s x : ℕ) → Member s x → 0 < x
member_pos s zero p = absurd (not_both p (member_null s))
member_pos s (suc i) p = omega arith

pub above_none : (n s x : ℕ) → s < 2 ^ n → n < x → member_of s x ≡ false
above_none n s zero h l = member_null s
above_none n s (suc i) h l = member_digit s i ∙ has_above n s i h (omega arith)

-- ---- two sets with the same members are one

pub same_members : (s t : ℕ) → ((x : ℕ) → member_of s x ≡ member_of t x) → s ≡ t
same_members s t h = ext s t (λ i. sym (member_digit s i) ∙ h (suc i) ∙ member_digit t i)

pub same_below : (n s t : ℕ) → s < 2 ^ n → t < 2 ^ n → ((x : ℕ) → 0 < x → x ≤ n → member_of s x ≡ member_of t x) → s ≡ t
same_below n s t hs ht h = same_members s t (λ x. go x (dec_lt n x))
  where
    go : (x : ℕ) → Dec (n < x) → member_of s x ≡ member_of t x
    go x (yes l) = above_none n s x hs l ∙ sym (above_none n t x ht l)
    go zero (no l) = member_null s ∙ sym (member_null t)
    go (suc i) (no l) = h (suc i) (omega arith) (omega arith)

-- ---- empty exactly if no member

pub none_is_empty : (s : ℕ) → ((x : ℕ) → member_of s x ≡ false) → s ≡ no_cells
none_is_empty s h = same_members s no_cells (λ x. h x ∙ sym (member_empty x))

pub not_empty : (s x : ℕ) → Member s x → s ≡ no_cells → ⊥
not_empty s x p e = not_both p (rw e (member_empty x))

pub is_none_empty : is_none no_cells ≡ true
unfolding is_none
is_none_empty = refl

pub is_none_true : (s : ℕ) → is_none s ≡ true → s ≡ no_cells
unfolding is_none
is_none_true s e = eqb-true s no_cells e

pub is_none_false : (s : ℕ) → is_none s ≡ false → s ≡ no_cells → ⊥
unfolding is_none
is_none_false s e = eqb-false s no_cells e

pub is_none_member : (s x : ℕ) → Member s x → is_none s ≡ false
unfolding is_none
is_none_member s x p = ne_eqb s no_cells (not_empty s x p)

pub is_none_none : (s x : ℕ) → is_none s ≡ true → member_of s x ≡ false
is_none_none s x e = rw (is_none_true s e) (member_empty x)

pub is_none_of : (s : ℕ) → ((x : ℕ) → member_of s x ≡ false) → is_none s ≡ true
unfolding is_none
is_none_of s h = eq-eqb s no_cells (none_is_empty s h)

-- ---- the operations as facts

pub in_union : (s t x : ℕ) → Member (union_of s t) x → (Member s x) ⊎ (Member t x)
in_union s t x p = or_cases (member_of s x) (member_of t x) (sym (member_union s t x) ∙ p)

pub union_left : (s t x : ℕ) → Member s x → Member (union_of s t) x
union_left s t x p = member_union s t x ∙ or_left (member_of t x) p

pub union_right : (s t x : ℕ) → Member t x → Member (union_of s t) x
union_right s t x p = member_union s t x ∙ or_right (member_of s x) p

pub in_inter : (s t x : ℕ) → Member (inter_of s t) x → (Member s x) × (Member t x)
in_inter s t x p = and_parts (member_of s x) (member_of t x) (sym (member_inter s t x) ∙ p)

pub inter_both : (s t x : ℕ) → Member s x → Member t x → Member (inter_of s t) x
inter_both s t x p q = member_inter s t x ∙ rw (p, q)

pub in_minus : (s t x : ℕ) → Member (minus_of s t) x → (Member s x) × (member_of t x ≡ false)
in_minus s t x p = let r = and_parts (member_of s x) (not (member_of t x)) (sym (member_minus s t x) ∙ p) in (r.0, not-true (member_of t x) r.1)

pub minus_both : (s t x : ℕ) → Member s x → member_of t x ≡ false → Member (minus_of s t) x
minus_both s t x p q = member_minus s t x ∙ rw (p, q)

pub in_one : (x y : ℕ) → Member (one_of x) y → x ≡ y
in_one zero y p = absurd (not_both p (rw one_null (member_empty y)))
in_one (suc i) y p = eqb-true (suc i) y (sym (member_one (suc i) y (omega arith)) ∙ p)

pub one_same : (x : ℕ) → 0 < x → Member (one_of x) x
one_same x p = member_one x x p ∙ eq-eqb x x refl

pub in_add : (s x y : ℕ) → Member (add_of s x) y → (Member s y) ⊎ (x ≡ y)
in_add s x y p = go (dec_lt max_set x)
  where
    go : Dec (max_set < x) → (Member s y) ⊎ (x ≡ y)
    go (yes l) = inl (rw (add_above s x l) at p)
    go (no l) = ⊎_elim (λ q. inl q) (λ q. inr (in_one x y q)) (in_union s (one_of x) y (rw (add_is s x (omega arith)) at p))

pub add_same : (s x : ℕ) → 0 < x → x ≤ max_set → Member (add_of s x) x
add_same s x p h = rw (add_is s x h) (union_right s (one_of x) x (one_same x p))

pub add_keeps : (s x y : ℕ) → Member s y → Member (add_of s x) y
add_keeps s x y p = go (dec_lt max_set x)
  where
    go : Dec (max_set < x) → Member (add_of s x) y
    go (yes l) = rw (add_above s x l) p
    go (no l) = rw (add_is s x (omega arith)) (union_left s (one_of x) y p)

pub in_remove : (s x y : ℕ) → Member (remove_of s x) y → (Member s y) × (x ≡ y → ⊥)
in_remove s x y p = let r = and_parts (member_of s y) (not (eqb x y)) (sym (member_remove s x y) ∙ p) in (r.0, eqb-false x y (not-true (eqb x y) r.1))

pub remove_keeps : (s x y : ℕ) → Member s y → (x ≡ y → ⊥) → Member (remove_of s x) y
remove_keeps s x y p n = member_remove s x y ∙ rw (p, ne_eqb x y n)

pub remove_gone : (s x : ℕ) → member_of (remove_of s x) x ≡ false
remove_gone s x = member_remove s x x ∙ rw (eq-eqb x x refl) (and-false (member_of s x))

pub in_full : (n x : ℕ) → Member (full_of n) x → (0 < x) × (x ≤ n) × (x ≤ max_set)
in_full n x p =
    let r = and_parts (leb 1 x) (leb x (min n max_set)) (sym (member_full n x) ∙ p) in
    let h : x ≤ min n max_set = leb-true x (min n max_set) r.1 in
    (leb-true 1 x r.0, omega arith, omega arith)

pub full_has : (n x : ℕ) → 0 < x → x ≤ n → x ≤ max_set → Member (full_of n) x
full_has n x p h k = member_full n x ∙ rw (le-leb 1 x p, le-leb x (min n max_set) (omega arith))

-- ---- a number that changes nothing

pub add_member : (s x : ℕ) → Member s x → add_of s x ≡ s
add_member s x p = same_members (add_of s x) s (λ y. same_test (member_of (add_of s x) y) (member_of s y) (λ q. go y (in_add s x y q)) (λ q. add_keeps s x y q))
  where
    go : (y : ℕ) → (Member s y) ⊎ (x ≡ y) → Member s y
    go y (inl q) = q
    go y (inr e) = rw e at p

pub remove_other : (s x : ℕ) → member_of s x ≡ false → remove_of s x ≡ s
remove_other s x p = same_members (remove_of s x) s (λ y. same_test (member_of (remove_of s x) y) (member_of s y) (λ q. (in_remove s x y q).0) (λ q. remove_keeps s x y q (λ e. not_both q (rw e at p))))

pub remove_above : (s x : ℕ) → s < 2 ^ max_set → max_set < x → remove_of s x ≡ s
remove_above s x h l = remove_other s x (above_none max_set s x h l)
