-- The algebra of sets. Assumes nothing.
--     union_comm, union_assoc, union_self, union_empty, empty_union
--     inter_comm, inter_assoc, inter_self, inter_empty, empty_inter, inter_union
--     minus_empty, empty_minus, minus_self, minus_union, union_minus
--     add_remove, remove_add, union_add, minus_add, remove_comm       one number more or less
use mathlib.Core.Path.{◌≡◌, refl, sym, ◌∙◌}
use mathlib.Core.Bool.{Bool, true, false, not, ◌&&◌, ◌||◌, and-true, and-false, or-false, and_self, or_self, and_comm, or_comm, and_assoc, or_assoc, and-not_self, and-or_distrib_left}
use mathlib.Core.Logic.{◌⊎◌, inl, inr}
use Prim.Native.Nat.{ℕ, ◌<◌, ◌≤◌}
use native.Mathlib.Decide.{dec_lt, ℕ_discrete}
use native.Mathlib.Omega.{arith}
use Rattle.cells.specs.Sets.{max_set, no_cells, member_of, Member, one_of, union_of, inter_of, minus_of, add_of, remove_of}
use Rattle.cells.proofs.Members.{member_empty, member_union, member_inter, member_minus, member_pos, same_members, add_is, add_above, in_add, add_keeps, add_same, in_remove, remove_keeps}
use Rattle.cells.proofs.Subsets.{sub_same, add_sub, remove_sub, sub_add, sub_remove}

-- ---- unions

pub union_comm : (s t : ℕ) → union_of s t ≡ union_of t s
union_comm s t = same_members (union_of s t) (union_of t s) (λ x. simp member_union (or_comm (member_of s x) (member_of t x)))

pub union_assoc : (s t u : ℕ) → union_of (union_of s t) u ≡ union_of s (union_of t u)
union_assoc s t u = same_members (union_of (union_of s t) u) (union_of s (union_of t u)) (λ x. simp member_union (or_assoc (member_of s x) (member_of t x) (member_of u x)))

pub union_self : (s : ℕ) → union_of s s ≡ s
union_self s = same_members (union_of s s) s (λ x. simp member_union (or_self (member_of s x)))

pub union_empty : (s : ℕ) → union_of s no_cells ≡ s
union_empty s = same_members (union_of s no_cells) s (λ x. simp (member_union, member_empty) (or-false (member_of s x)))

pub empty_union : (s : ℕ) → union_of no_cells s ≡ s
empty_union s = union_comm no_cells s ∙ union_empty s

-- ---- intersections

pub inter_comm : (s t : ℕ) → inter_of s t ≡ inter_of t s
inter_comm s t = same_members (inter_of s t) (inter_of t s) (λ x. simp member_inter (and_comm (member_of s x) (member_of t x)))

pub inter_assoc : (s t u : ℕ) → inter_of (inter_of s t) u ≡ inter_of s (inter_of t u)
inter_assoc s t u = same_members (inter_of (inter_of s t) u) (inter_of s (inter_of t u)) (λ x. simp member_inter (and_assoc (member_of s x) (member_of t x) (member_of u x)))

pub inter_self : (s : ℕ) → inter_of s s ≡ s
inter_self s = same_members (inter_of s s) s (λ x. simp member_inter (and_self (member_of s x)))

pub inter_empty : (s : ℕ) → inter_of s no_cells ≡ no_cells
inter_empty s = same_members (inter_of s no_cells) no_cells (λ x. simp (member_inter, member_empty) (and-false (member_of s x)))

pub empty_inter : (s : ℕ) → inter_of no_cells s ≡ no_cells
empty_inter s = inter_comm no_cells s ∙ inter_empty s

pub inter_union : (s t u : ℕ) → inter_of s (union_of t u) ≡ union_of (inter_of s t) (inter_of s u)
inter_union s t u =
    same_members (inter_of s (union_of t u)) (union_of (inter_of s t) (inter_of s u))
    (λ x. simp (member_inter, member_union) (and-or_distrib_left (member_of s x) (member_of t x) (member_of u x)))

-- ---- differences

pub minus_empty : (s : ℕ) → minus_of s no_cells ≡ s
minus_empty s = same_members (minus_of s no_cells) s (λ x. simp (member_minus, member_empty) (and-true (member_of s x)))

pub empty_minus : (s : ℕ) → minus_of no_cells s ≡ no_cells
empty_minus s = same_members (minus_of no_cells s) no_cells (λ x. simp (member_minus, member_empty))

pub minus_self : (s : ℕ) → minus_of s s ≡ no_cells
minus_self s = same_members (minus_of s s) no_cells (λ x. simp (member_minus, member_empty) (and-not_self (member_of s x)))

pub minus_union : (s t u : ℕ) → minus_of s (union_of t u) ≡ minus_of (minus_of s t) u
minus_union s t u = same_members (minus_of s (union_of t u)) (minus_of (minus_of s t) u) (λ x. simp (member_minus, member_union) (rule (member_of s x) (member_of t x) (member_of u x)))
  where
    rule : (a b c : Bool) → (a && not (b || c)) ≡ ((a && not b) && not c)
    rule false b c = refl
    rule true true c = refl
    rule true false c = refl

-- a set, cut by another
pub union_minus : (s t : ℕ) → union_of (minus_of s t) (inter_of s t) ≡ s
union_minus s t = same_members (union_of (minus_of s t) (inter_of s t)) s (λ x. simp (member_union, member_minus, member_inter) (rule (member_of s x) (member_of t x)))
  where
    rule : (a b : Bool) → ((a && not b) || (a && b)) ≡ a
    rule false b = refl
    rule true true = refl
    rule true false = refl

-- ---- one number more or less

pub add_remove : (s x : ℕ) → Member s x → x ≤ max_set → add_of (remove_of s x) x ≡ s
add_remove s x p h = sub_same (add_of (remove_of s x) x) s (add_sub (remove_of s x) s x (remove_sub s x) p) (λ y q. go y q (ℕ_discrete x y))
  where
    go : (y : ℕ) → Member s y → Dec (x ≡ y) → Member (add_of (remove_of s x) x) y
    go y q (yes e) = rw (← e) (add_same (remove_of s x) x (member_pos s x p) h)
    go y q (no n) = add_keeps (remove_of s x) x y (remove_keeps s x y q n)

pub remove_add : (s x : ℕ) → member_of s x ≡ false → remove_of (add_of s x) x ≡ s
remove_add s x n = sub_same (remove_of (add_of s x) x) s (λ y q. let r = in_remove (add_of s x) x y q in go y r.1 (in_add s x y r.0)) (sub_remove s (add_of s x) x (sub_add s x) n)
  where
    go : (y : ℕ) → (x ≡ y → ⊥) → (Member s y) ⊎ (x ≡ y) → Member s y
    go y f (inl q) = q
    go y f (inr e) = absurd (f e)

pub union_add : (s t x : ℕ) → union_of s (add_of t x) ≡ add_of (union_of s t) x
union_add s t x = go (dec_lt max_set x)
  where
    go : Dec (max_set < x) → union_of s (add_of t x) ≡ add_of (union_of s t) x
    go (yes l) = rw (add_above t x l, add_above (union_of s t) x l)
    go (no l) = rw (add_is t x (omega arith), add_is (union_of s t) x (omega arith)) (sym (union_assoc s t (one_of x)))

pub minus_add : (s t x : ℕ) → x ≤ max_set → minus_of s (add_of t x) ≡ remove_of (minus_of s t) x
unfolding remove_of
minus_add s t x h = rw (add_is t x h) (minus_union s t (one_of x))

pub remove_comm : (s x y : ℕ) → remove_of (remove_of s x) y ≡ remove_of (remove_of s y) x
unfolding remove_of
remove_comm s x y = sym (minus_union s (one_of x) (one_of y)) ∙ rw (union_comm (one_of x) (one_of y)) (minus_union s (one_of y) (one_of x))
