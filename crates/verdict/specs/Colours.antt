-- The colours of cells: "White: occupied, mark unequal to memory's fM. Grey: on any work list or being greyed. Black:
-- occupied, not white, not grey." Assumes nothing.
use Rattle.std.specs.Prelude.{◌≡◌, Bool, true, false, not, ℕ, ◌≤◌, ◌<◌, fold}
use Rattle.base.specs.Pick.{pick, same_bit}
use Rattle.cells.specs.Sets.{no_cells, member_of, Member, union_of, add_of}
use Rattle.memory.specs.declared.Memory.{Memory}
use Rattle.memory.specs.Memories.{used_of, mark_of, field_of}
use Rattle.state.specs.declared.Process.{Process}
use Rattle.state.specs.declared.State.{State}
use Rattle.state.specs.States.{process_of}
use Rattle.reach.specs.Reach.{Names, counted}

-- "White: occupied, mark unequal to memory's fM."
pub record White (m : Memory) (c : ℕ) : Type 0 where
  pub occupied : used_of m c ≡ true
  pub unequal : mark_of m c ≡ m.fm → ⊥

-- "Grey: on any work list or being greyed.": on a process's list, on the system's, or the one cell that a process is
-- greying, if any
pub data Grey (s : State) (c : ℕ) : Type 0 where
  listed : (p : ℕ) → Member (process_of s p).work c → Grey s c
  gathered : Member s.system.work c → Grey s c
  greying : (p : ℕ) → (process_of s p).grey ≡ c → 0 < c → Grey s c

-- "Black: occupied, not white, not grey."
pub record Black (s : State) (c : ℕ) : Type 0 where
  pub occupied : used_of s.memory c ≡ true
  pub not_white : White s.memory c → ⊥
  pub not_grey : Grey s c → ⊥

-- "a black cell has a memory field naming a white one"
pub record BlackToWhite (s : State) (c : ℕ) : Type 0 where
  pub black : Black s c
  pub named : ℕ
  pub names : Names s.memory c named
  pub white : White s.memory named

-- ---- the same as tests and sets
unfoldable pub white_of : Memory → ℕ → Bool
white_of m c = pick (used_of m c) (not (same_bit (mark_of m c) m.fm)) false

abbrev pub with_greys_of : ℕ → Process → ℕ
with_greys_of g q = add_of (union_of g q.work) q.grey

unfoldable pub greys_of : State → ℕ
greys_of s = fold with_greys_of s.system.work s.procs

-- g is the set of the greys
unfoldable pub black_of : Memory → ℕ → ℕ → Bool
black_of m g c = pick (used_of m c) (pick (white_of m c) false (not (member_of g c))) false

unfoldable pub names_white_of : Memory → ℕ → Bool
names_white_of m c = pick (white_of m (field_of m c 0)) true (white_of m (field_of m c 1))

unfoldable pub black_names_white_of : Memory → ℕ → ℕ → Bool
black_names_white_of m g c = pick (black_of m g c) (names_white_of m c) false

-- the set, with c where the test holds
abbrev pub with_if_of : ℕ → ℕ → Bool → ℕ
with_if_of set c test = pick test (add_of set c) set

-- the numbers from 1 to n of which the test holds
abbrev pub such_of : ℕ → (ℕ → Bool) → ℕ
such_of n test = counted n (λ set c. with_if_of set c (test c)) no_cells

-- a test whose results are related by `post` answers as t of the numbers up to n
abbrev pub ActsAsUpTo : (ℕ → Bool → Type 0) → ℕ → (ℕ → Bool) → Type 0
ActsAsUpTo post n t = (c : ℕ) (r : Bool) → c ≤ n → post c r → r ≡ t c

unfoldable pub black_to_white_of : State → ℕ
black_to_white_of s = such_of s.memory.cells (black_names_white_of s.memory (greys_of s))
