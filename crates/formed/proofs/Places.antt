-- The places: which there are, and what the table says of each group. Assumes nothing.
--     all_below, all_among, all_true   what holds of each number below n, or of each of a list, one by one
--     apart                        two lists of places with none in common
--     MutatorPlace, CollectorPlace     the groups of places; mutator-place, collector-place: each place is in one
--     uses_idle, uses_plain, uses_round      the row of each group of several places
use mathlib.Core.Path.{◌≡◌, refl, sym, ◌∙◌}
use mathlib.Core.Bool.{Bool, true, not, false≢true}
use mathlib.Core.List.{List, [], ◌∷◌}
use mathlib.Core.Logic.{◌≢◌, by_cases}
use Prim.Native.Nat.{ℕ, zero, suc, ◌+◌, ◌-◌, ◌≤◌, ◌<◌}
use native.Mathlib.Decide.{ℕ_discrete, dec_lt}
use native.Mathlib.Omega.{arith}
use lib.Dec.{leb}
use borrow.Author.Tests.{ne_eqb, not-true}
use Rattle.base.specs.Every.{◌and◌}
use Rattle.base.proofs.Everies.{and_both}
use Rattle.base.proofs.Lists.{beyond}
use Rattle.state.specs.Codes.{store_mark_old, store_mark_y, store_write, roots_mark, work_finish, row1_round, row3_round, row4_round, row5_round, row6_round, row8_round, row7_mark, row7_next, row7_drop, row10_look, row10_free, row11_write}
use Rattle.formed.specs.declared.table.Uses.{Uses}
use Rattle.formed.specs.Uses.{nothing_row, round_row, max_places, uses_table, uses_of}
use Rattle.formed.specs.Fits.{among_of, Among, idle_places, plain_places, round_places}

-- ---- one by one
abbrev pub AllBelow : (ℕ → Type 0) → ℕ → Type 0
AllBelow P zero = Unit {0}
AllBelow P (suc n) = AllBelow P n × P n

pub all_below : (P : ℕ → Type 0) (n : ℕ) → AllBelow P n → (k : ℕ) → k < n → P k
all_below P zero w k h = absurd (omega arith)
all_below P (suc n) w k h = go (all_below P n w.0 k) (ℕ_discrete k n)
  where
    go : (k < n → P k) → Dec (k ≡ n) → P k
    go f (yes e) = rw e w.1
    go f (no e) = f (omega arith)

abbrev pub AllAmong : (ℕ → Type 0) → List ℕ → Type 0
AllAmong P [] = Unit {0}
AllAmong P (a ∷ l) = P a × AllAmong P l

pub all_among : (P : ℕ → Type 0) (l : List ℕ) → AllAmong P l → (k : ℕ) → Among k l → P k
all_among P [] w k h = absurd (false≢true h)
all_among P (a ∷ l) w k h = go (all_among P l w.1 k) (ℕ_discrete k a)
  where
    go : (Among k l → P k) → Dec (k ≡ a) → P k
    go f (yes e) = rw e w.0
    go f (no e) = f (rw (ne_eqb k a e) at h)

-- the same, by a test of each
abbrev pub all_of : (ℕ → Bool) → List ℕ → Bool
all_of t [] = true
all_of t (a ∷ l) = t a and all_of t l

pub all_true : (t : ℕ → Bool) (l : List ℕ) → all_of t l ≡ true → (k : ℕ) → Among k l → t k ≡ true
all_true t [] w k h = absurd (false≢true h)
all_true t (a ∷ l) w k h = let b = and_both (t a) (all_of t l) w in go b.0 (all_true t l b.1 k) (ℕ_discrete k a)
  where
    go : t a ≡ true → (Among k l → t k ≡ true) → Dec (k ≡ a) → t k ≡ true
    go b f (yes e) = rw e b
    go b f (no e) = f (rw (ne_eqb k a e) at h)

-- two lists with none in common
pub apart : (l m : List ℕ) → all_of (λ k. not (among_of k m)) l ≡ true → (k : ℕ) → Among k l → Among k m → ⊥
apart l m w k h g = false≢true (sym (not-true (among_of k m) (all_true (λ k. not (among_of k m)) l w k h)) ∙ g)

-- ---- the groups
pub data MutatorPlace (k : ℕ) : Type 0 where
  is_idle_lem : Among k idle_places → MutatorPlace k
  is_mark_old : k ≡ store_mark_old → MutatorPlace k
  is_mark_y : k ≡ store_mark_y → MutatorPlace k
  is_write : k ≡ store_write → MutatorPlace k
  is_roots : k ≡ roots_mark → MutatorPlace k

pub mutator_place : (k : ℕ) → k ≤ work_finish → MutatorPlace k
mutator_place k h = all_below MutatorPlace (suc work_finish) each k (omega arith)
  where
    each : AllBelow MutatorPlace (suc work_finish)
    each = (((((((((((tt, is_idle_lem refl), is_mark_old refl), is_mark_y refl), is_write refl), is_idle_lem refl), is_idle_lem refl), is_idle_lem refl), is_roots refl), is_idle_lem refl), is_idle_lem refl), is_idle_lem refl)

pub data CollectorPlace (k : ℕ) : Type 0 where
  is_plain : Among k plain_places → CollectorPlace k
  is_round_lem : Among k round_places → CollectorPlace k
  is_scan_mark : k ≡ row7_mark → CollectorPlace k
  is_scan : k ≡ row7_next → CollectorPlace k
  is_drop : k ≡ row7_drop → CollectorPlace k
  is_sweep : k ≡ row10_look → CollectorPlace k
  is_sweep_free : k ≡ row10_free → CollectorPlace k

pub collector_place : (k : ℕ) → row1_round ≤ k → k ≤ row11_write → CollectorPlace k
collector_place k l h =
    let e : row1_round + (k - row1_round) ≡ k = omega arith in
    rw e at (all_below (λ j. CollectorPlace (row1_round + j)) (max_places - row1_round) each (k - row1_round) (omega arith))
  where
    each : AllBelow (λ j. CollectorPlace (row1_round + j)) (max_places - row1_round)
    each = (((((((((((((((((((((tt, is_round_lem refl), is_plain refl), is_plain refl), is_round_lem refl), is_plain refl), is_round_lem refl), is_plain refl), is_plain refl), is_round_lem refl), is_round_lem refl), is_plain refl), is_plain refl), is_scan_mark refl), is_scan refl), is_drop refl), is_round_lem refl), is_plain refl), is_plain refl), is_sweep refl), is_sweep_free refl), is_plain refl)

-- ---- the row of each group
abbrev Row : Uses → ℕ → Type 0
Row u k = uses_of k ≡ u

pub uses_idle : (k : ℕ) → Among k idle_places → uses_of k ≡ nothing_row
uses_idle = all_among (Row nothing_row) idle_places (refl, (refl, (refl, (refl, (refl, (refl, (refl, tt)))))))

pub uses_plain : (k : ℕ) → Among k plain_places → uses_of k ≡ nothing_row
uses_plain = all_among (Row nothing_row) plain_places (refl, (refl, (refl, (refl, (refl, (refl, (refl, (refl, (refl, (refl, tt))))))))))

pub uses_round : (k : ℕ) → Among k round_places → uses_of k ≡ round_row
uses_round = all_among (Row round_row) round_places (refl, (refl, (refl, (refl, (refl, (refl, tt))))))

-- ---- the mutator's places, and the collector's, as the tests have them
pub idle_mutator : (k : ℕ) → Among k idle_places → leb k work_finish ≡ true
idle_mutator = all_true (λ k. leb k work_finish) idle_places refl

abbrev pub is_collectors : ℕ → Bool
is_collectors k = leb row1_round k and leb k row11_write

pub plain_collector : (k : ℕ) → Among k plain_places → is_collectors k ≡ true
plain_collector = all_true is_collectors plain_places refl

pub round_collector : (k : ℕ) → Among k round_places → is_collectors k ≡ true
round_collector = all_true is_collectors round_places refl

-- ---- at any other place, and past the last, nothing is in use
abbrev pub used_places : List ℕ
used_places =
    store_mark_old ∷ store_mark_y ∷ store_write ∷ roots_mark ∷ row1_round ∷ row3_round ∷ row4_round ∷ row5_round ∷ row6_round ∷ row7_mark ∷ row7_next ∷ row7_drop ∷ row8_round ∷ row10_look ∷ row10_free ∷ []

abbrev Other : ℕ → Type 0
Other k = (Among k used_places → ⊥) → uses_of k ≡ nothing_row

other : (k : ℕ) → Other k
other k = by_cases (dec_lt k max_places) (λ l. all_below Other max_places each k l) (λ h n. beyond uses_table nothing_row k max_places refl (omega arith))
  where
    each : AllBelow Other max_places
    each = ((((((((((((((((((((((((((((((((tt, λ n. refl), λ n. absurd (n refl)), λ n. absurd (n refl)), λ n. absurd (n refl)), λ n. refl), λ n. refl), λ n. refl), λ n. absurd (n refl)), λ n. refl), λ n. refl), λ n. refl), λ n. absurd (n refl)), λ n. refl), λ n. refl), λ n. absurd (n refl)), λ n. refl), λ n. absurd (n refl)), λ n. refl), λ n. refl), λ n. absurd (n refl)), λ n. absurd (n refl)), λ n. refl), λ n. refl), λ n. absurd (n refl)), λ n. absurd (n refl)), λ n. absurd (n refl)), λ n. absurd (n refl)), λ n. refl), λ n. refl), λ n. absurd (n refl)), λ n. absurd (n refl)), λ n. refl)

pub uses_other : (k : ℕ) → AllAmong (λ j. k ≢ j) used_places → uses_of k ≡ nothing_row
uses_other k w = other k (λ h. all_among (λ j. k ≢ j) used_places w k h refl)
