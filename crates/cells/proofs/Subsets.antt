-- Subsets: `Sub s t`, every number of s is in t. Assumes nothing.
--     sub_self, sub_trans, sub_same              an order; two sets, each within the other, are one
--     sub_empty, empty_sub                       the empty set is within each, and only it within itself
--     sub_union_left, sub_union_right, union_sub        both are within their union, and the union is the least such
--     inter_sub_left, inter_sub_right, sub_inter        the intersection is within both, and is the greatest such
--     minus_sub, minus_apart, sub_add, add_sub, remove_sub, sub_remove
--     inter_of_sub, sub_of_inter, union_of_sub, minus_of_sub, sub_of_minus      a subset, as an equation
use mathlib.Core.Path.{◌≡◌}
use mathlib.Core.Bool.{true, false}
use mathlib.Core.Logic.{◌⊎◌, inl, inr, ⊎_elim}
use Prim.Native.Nat.{ℕ}
use Rattle.cells.specs.Sets.{no_cells, member_of, Member, Sub, union_of, inter_of, minus_of, add_of, remove_of}
use Rattle.cells.proofs.Bools.{split, not_both, same_test}
use Rattle.cells.proofs.Members.{member_empty, same_members, in_union, union_left, union_right, in_inter, inter_both, in_minus, minus_both, in_add, add_keeps, in_remove, remove_keeps}

pub sub_self : (s : ℕ) → Sub s s
sub_self s x p = p

pub sub_trans : (s t u : ℕ) → Sub s t → Sub t u → Sub s u
sub_trans s t u h k x p = k x (h x p)

pub sub_same : (s t : ℕ) → Sub s t → Sub t s → s ≡ t
sub_same s t h k = same_members s t (λ x. same_test (member_of s x) (member_of t x) (h x) (k x))

pub sub_empty : (s : ℕ) → Sub no_cells s
sub_empty s x p = absurd (not_both p (member_empty x))

pub empty_sub : (s : ℕ) → Sub s no_cells → s ≡ no_cells
empty_sub s h = sub_same s no_cells h (sub_empty s)

-- ---- unions, intersections, differences

pub sub_union_left : (s t : ℕ) → Sub s (union_of s t)
sub_union_left s t x p = union_left s t x p

pub sub_union_right : (s t : ℕ) → Sub t (union_of s t)
sub_union_right s t x p = union_right s t x p

pub union_sub : (s t u : ℕ) → Sub s u → Sub t u → Sub (union_of s t) u
union_sub s t u h k x p = ⊎_elim (h x) (k x) (in_union s t x p)

pub inter_sub_left : (s t : ℕ) → Sub (inter_of s t) s
inter_sub_left s t x p = (in_inter s t x p).0

pub inter_sub_right : (s t : ℕ) → Sub (inter_of s t) t
inter_sub_right s t x p = (in_inter s t x p).1

pub sub_inter : (s t u : ℕ) → Sub u s → Sub u t → Sub u (inter_of s t)
sub_inter s t u h k x p = inter_both s t x (h x p) (k x p)

pub minus_sub : (s t : ℕ) → Sub (minus_of s t) s
minus_sub s t x p = (in_minus s t x p).0

pub minus_apart : (s t : ℕ) → inter_of (minus_of s t) t ≡ no_cells
minus_apart s t = empty_sub (inter_of (minus_of s t) t) (λ x p. let r = in_inter (minus_of s t) t x p in absurd (not_both r.1 (in_minus s t x r.0).1))

-- ---- one number more or less

pub sub_add : (s x : ℕ) → Sub s (add_of s x)
sub_add s x y p = add_keeps s x y p

pub add_sub : (s t x : ℕ) → Sub s t → Member t x → Sub (add_of s x) t
add_sub s t x h p y q = go (in_add s x y q)
  where
    go : (Member s y) ⊎ (x ≡ y) → Member t y
    go (inl r) = h y r
    go (inr e) = rw e at p

pub remove_sub : (s x : ℕ) → Sub (remove_of s x) s
remove_sub s x y p = (in_remove s x y p).0

pub sub_remove : (s t x : ℕ) → Sub s t → member_of s x ≡ false → Sub s (remove_of t x)
sub_remove s t x h n y p = remove_keeps t x y (h y p) (λ e. not_both p (rw e at n))

-- ---- a subset, as an equation

pub inter_of_sub : (s t : ℕ) → Sub s t → inter_of s t ≡ s
inter_of_sub s t h = sub_same (inter_of s t) s (inter_sub_left s t) (sub_inter s t s (sub_self s) h)

pub sub_of_inter : (s t : ℕ) → inter_of s t ≡ s → Sub s t
sub_of_inter s t e x p = inter_sub_right s t x (rw e p)

pub union_of_sub : (s t : ℕ) → Sub s t → union_of s t ≡ t
union_of_sub s t h = sub_same (union_of s t) t (union_sub s t t h (sub_self t)) (sub_union_right s t)

pub minus_of_sub : (s t : ℕ) → Sub s t → minus_of s t ≡ no_cells
minus_of_sub s t h = empty_sub (minus_of s t) (λ x p. let r = in_minus s t x p in absurd (not_both (h x r.0) r.1))

pub sub_of_minus : (s t : ℕ) → minus_of s t ≡ no_cells → Sub s t
sub_of_minus s t e x p = go (split (member_of t x))
  where
    go : (member_of t x ≡ true) ⊎ (member_of t x ≡ false) → Member t x
    go (inl q) = q
    go (inr q) = absurd (not_both (minus_both s t x p q) (rw e (member_empty x)))
