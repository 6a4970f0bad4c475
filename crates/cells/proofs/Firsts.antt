-- The least number of a set: `first_of s`. Assumes nothing.
--     first_empty, first_zero, first_pos         0 exactly if the set is empty
--     first_member                   a member, where the set is not empty
--     first_least, first_le          no member below it; at most each member
--     first_unique                   the one member with none below it
--     first_below                    at most n, where the set has none above n
use mathlib.Core.Path.{◌≡◌, refl, ap, ◌∙◌}
use mathlib.Core.Bool.{true, false}
use Prim.Native.Nat.{ℕ, zero, suc, ◌^◌, ◌≤◌, ◌<◌}
use native.Mathlib.Numerals.{add-one}
use native.Mathlib.Omega.{arith}
use native.Mathlib.Decide.{dec_lt, ℕ_discrete}
use borrow.Author.Tests.{ne_eqb}
use lib.Count.{count_trailing_zeros, trailing_le}
use lib.Pow.{pow_mono}
use Rattle.cells.specs.Sets.{max_set, no_cells, member_of, Member, first_of, below_of}
use Rattle.cells.proofs.Bools.{not_both}
use Rattle.cells.proofs.Bits.{lowest_in, lowest_least}
use Rattle.cells.proofs.Members.{member_null, member_digit, not_empty}
use Rattle.cells.proofs.Belows.{below_lt, below_member}

pub first_empty : first_of no_cells ≡ 0
unfolding first_of
first_empty = refl

first_is : (s : ℕ) → (s ≡ no_cells → ⊥) → first_of s ≡ suc (count_trailing_zeros max_set s)
unfolding first_of
first_is s n = rw (ne_eqb s no_cells n) (add-one (count_trailing_zeros max_set s))

pub first_pos : (s : ℕ) → (s ≡ no_cells → ⊥) → 0 < first_of s
first_pos s n = omega (arith, first_is s n)

pub first_zero : (s : ℕ) → first_of s ≡ 0 → s ≡ no_cells
first_zero s e = go (ℕ_discrete s no_cells)
  where
    go : Dec (s ≡ no_cells) → s ≡ no_cells
    go (yes p) = p
    go (no n) = absurd (omega (arith, first_pos s n))

pub first_member : (s : ℕ) → s < 2 ^ max_set → (s ≡ no_cells → ⊥) → Member s (first_of s)
first_member s h n = rw (first_is s n, member_digit) (lowest_in max_set s (omega arith) h)

pub first_least : (s y : ℕ) → y < first_of s → member_of s y ≡ false
first_least s zero l = member_null s
first_least s (suc j) l = go (ℕ_discrete s no_cells)
  where
    go : Dec (s ≡ no_cells) → member_of s (suc j) ≡ false
    go (yes p) = absurd (omega (arith, ap first_of p, first_empty))
    go (no n) = member_digit s j ∙ lowest_least max_set s j (omega (arith, first_is s n))

pub first_le : (s y : ℕ) → Member s y → first_of s ≤ y
first_le s y p = go (dec_lt y (first_of s))
  where
    go : Dec (y < first_of s) → first_of s ≤ y
    go (yes l) = absurd (not_both p (first_least s y l))
    go (no l) = omega arith

pub first_unique : (s x : ℕ) → s < 2 ^ max_set → Member s x → ((y : ℕ) → y < x → member_of s y ≡ false) → first_of s ≡ x
first_unique s x h p l = go (dec_lt (first_of s) x)
  where
    go : Dec (first_of s < x) → first_of s ≡ x
    go (yes a) = absurd (not_both (first_member s h (not_empty s x p)) (l (first_of s) a))
    go (no a) = omega (arith, first_le s x p)

pub first_below : (s n : ℕ) → below_of s n ≡ true → first_of s ≤ n
first_below s n e = go (ℕ_discrete s no_cells) (dec_lt max_set n)
  where
    go : Dec (s ≡ no_cells) → Dec (max_set < n) → first_of s ≤ n
    go (yes p) d = omega (arith, ap first_of p, first_empty)
    go (no q) (yes l) = omega (arith, first_is s q, trailing_le max_set s)
    go (no q) (no l) =
        let h : n ≤ max_set = omega arith in
        below_member s n (first_of s) e (first_member s (omega (arith, below_lt s n e, pow_mono h)) q)
