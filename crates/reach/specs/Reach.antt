-- "reach goes through memory's fields of occupied cells". Assumes nothing.
use Rattle.std.specs.Prelude.{◌≡◌, true, false, ℕ, zero, suc, ◌+◌, ◌<◌, eqb}
use Rattle.base.specs.Pick.{pick}
use Rattle.cells.specs.Sets.{max_set, member_of, add_of}
use Rattle.memory.specs.declared.Memory.{Memory}
use Rattle.memory.specs.Memories.{used_of, field_of}

-- a memory field of the cell c names d; "0 is null" and names nothing
pub data Names (m : Memory) (c d : ℕ) : Type 0 where
  first : field_of m c 0 ≡ d → 0 < d → Names m c d
  second : field_of m c 1 ≡ d → 0 < d → Names m c d

-- the cells reached from those that are held: they themselves, and what a field of a reached and occupied cell names
pub data Reach (m : Memory) (Held : ℕ → Type 0) : ℕ → Type 0 where
  here : {c : ℕ} → Held c → Reach m Held c
  via : {c d : ℕ} → Reach m Held c → used_of m c ≡ true → Names m c d → Reach m Held d

-- ---- the same as a set, computed in passes over the cells
-- a step for each number from 1 to n
abbrev pub counted : {A : Type 0} → ℕ → (A → ℕ → A) → A → A
counted zero f a = a
counted (suc n) f a = f (counted n f a) (suc n)

-- the cells seen, with those that the fields of c name, if c is seen and occupied
unfoldable pub follow_of : Memory → ℕ → ℕ → ℕ
follow_of m seen c =
    pick (member_of seen c) (pick (used_of m c) (add_of (add_of seen (field_of m c 0)) (field_of m c 1)) seen) seen

-- one pass over the cells 1 to N
unfoldable pub pass_of : Memory → ℕ → ℕ
pass_of m seen = counted m.cells (follow_of m) seen

-- pass after pass, until one sees nothing new, at most k times
unfoldable pub passes_of : ℕ → Memory → ℕ → ℕ
passes_of zero m seen = seen
passes_of (suc k) m seen =
    let next = pass_of m seen in
    elim (eqb next seen) [ true ↦ seen | false ↦ passes_of k m next ]

-- each pass but the last sees a cell more, and a set holds at most 64: so many passes are enough
abbrev pub most_passes : ℕ
most_passes = max_set + 1

unfoldable pub reached_of : Memory → ℕ → ℕ
reached_of m start = passes_of most_passes m start
