-- The members of a set that a loop over a list adds to. Assumes nothing.
--     fold_from     a member was there before, or an element adds it
--     fold_keeps    what was there stays
--     fold_has      what an element adds is there; past the end nothing is added
--     folds            the set, for a loop over an array or its front
--     Joined, joined_from, joined_keeps, joined_has, joined_none       what a set and one number, both added, add
use mathlib.Core.Path.{◌≡◌}
use mathlib.Core.List.{List, [], ◌∷◌}
use mathlib.Core.Logic.{◌⊎◌, inl, inr, ⊎_elim}
use Prim.Native.Nat.{ℕ, zero, suc, ◌≤◌, ◌<◌}
use native.Mathlib.Omega.{arith}
use lib.ListN.{get_or}
use Rattle.std.specs.Prelude.{fold}
use Rattle.std.proofs.iter.runs.Made.{chains}
use Rattle.base.proofs.Lists.{take_clamped}
use Rattle.cells.specs.Sets.{max_set, no_cells, Member, union_of, add_of}
use Rattle.cells.proofs.Bools.{not_both}
use Rattle.cells.proofs.Members.{member_empty, member_pos, in_add, add_same, add_keeps, in_union, union_left, union_right}

-- f adds to a set what its element adds: `Adds b c`, the element b adds the number c; `none`, the element past the
-- end, adds nothing
module _ {B : Type 0} (f : ℕ → B → ℕ) (Adds : B → ℕ → Type 0) (none : B) (c : ℕ) where
  pub fold_from : ((a : ℕ) (b : B) → Member (f a b) c → (Member a c) ⊎ (Adds b c)) → (a : ℕ) (l : List B) → Member (fold f a l) c → (Member a c) ⊎ ((i : ℕ) × Adds (get_or l i none) c)
  fold_from k a [] p = inl p
  fold_from k a (b ∷ bs) p = later (fold_from k (f a b) bs p)
    where
      now : (Member a c) ⊎ (Adds b c) → (Member a c) ⊎ ((i : ℕ) × Adds (get_or (b ∷ bs) i none) c)
      now (inl q) = inl q
      now (inr q) = inr (0, q)

      later : (Member (f a b) c) ⊎ ((i : ℕ) × Adds (get_or bs i none) c) → (Member a c) ⊎ ((i : ℕ) × Adds (get_or (b ∷ bs) i none) c)
      later (inl q) = now (k a b q)
      later (inr q) = inr (suc q.0, q.1)

  module _ (keeps : (a : ℕ) (b : B) → Member a c → Member (f a b) c) where
    pub fold_keeps : (a : ℕ) (l : List B) → Member a c → Member (fold f a l) c
    fold_keeps a [] p = p
    fold_keeps a (b ∷ bs) p = fold_keeps (f a b) bs (keeps a b p)

    pub fold_has : ((a : ℕ) (b : B) → Adds b c → Member (f a b) c) → (Adds none c → ⊥) → (a : ℕ) (l : List B) (i : ℕ) → Adds (get_or l i none) c → Member (fold f a l) c
    fold_has k empty a [] i p = absurd (empty p)
    fold_has k empty a (b ∷ bs) zero p = fold_keeps (f a b) bs (k a b p)
    fold_has k empty a (b ∷ bs) (suc i) p = fold_has k empty (f a b) bs i p

-- ---- a set and one number: null adds nothing
pub data Joined (t x c : ℕ) : Type 0 where
  inside : Member t c → Joined t x c
  alone : x ≡ c → 0 < c → Joined t x c

module _ (c : ℕ) where
  pub joined_from : (h t x : ℕ) → Member (add_of (union_of h t) x) c → (Member h c) ⊎ (Joined t x c)
  joined_from h t x p = go (in_add (union_of h t) x c p)
    where
      go : (Member (union_of h t) c) ⊎ (x ≡ c) → (Member h c) ⊎ (Joined t x c)
      go (inl r) = ⊎_elim (λ a. inl a) (λ a. inr (inside a)) (in_union h t c r)
      go (inr e) = inr (alone e (member_pos (add_of (union_of h t) x) c p))

  pub joined_keeps : (h t x : ℕ) → Member h c → Member (add_of (union_of h t) x) c
  joined_keeps h t x p = add_keeps (union_of h t) x c (union_left h t c p)

  pub joined_has : c ≤ max_set → (h t x : ℕ) → Joined t x c → Member (add_of (union_of h t) x) c
  joined_has l h t x (inside p) = add_keeps (union_of h t) x c (union_right h t c p)
  joined_has l h t x (alone e p) = rw e (add_same (union_of h t) c p l)

  pub joined_none : Joined no_cells 0 c → ⊥
  joined_none (inside p) = not_both p (member_empty c)
  joined_none (alone e p) = omega arith

pub ruleset folds = (chains, take_clamped)
