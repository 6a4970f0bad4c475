-- The verdict of a well-formed state. Assumes nothing.
use Rattle.std.specs.Prelude.{◌≡◌, false, ℕ, ◌≤◌, Option}
use Rattle.std.specs.declared.option.Option.TheVariants as option
use Rattle.base.specs.Pick.{pick}
use Rattle.cells.specs.Sets.{is_none, minus_of, first_of}
use Rattle.memory.specs.Memories.{used_of}
use Rattle.state.specs.declared.State.{State}
use Rattle.reach.specs.Held.{Held, held_of}
use Rattle.reach.specs.Reach.{Reach, reached_of}
use Rattle.verdict.specs.declared.Verdict.{Verdict}
use Rattle.verdict.specs.declared.Verdict.TheVariants as verdict
use Rattle.verdict.specs.Colours.{BlackToWhite, black_to_white_of}
use Rattle.verdict.specs.Table.{Broken, broken_of}

-- the verdicts' numbers
abbrev pub is_sound : ℕ
is_sound = 0

abbrev pub is_loose : ℕ
is_loose = 1

abbrev pub is_black_to_white : ℕ
is_black_to_white = 2

abbrev pub is_handshake : ℕ
is_handshake = 3

abbrev pub is_malformed : ℕ
is_malformed = 4

-- a verdict and "the least such free cell (1), black cell (2) or mutator (3)"; the number is 0 with any other verdict
pub record Finding : Type 0 where
  pub verdict : ℕ
  pub number : ℕ

abbrev pub found : ℕ → ℕ → Finding
found v n = record { verdict = v; number = n }

-- document 01's numbers of each verdict
abbrev pub told : Verdict → Finding
told verdict.Sound = found is_sound 0
told (verdict.Loose c) = found is_loose c
told (verdict.BlackToWhite c) = found is_black_to_white c
told (verdict.Handshake p) = found is_handshake p
told verdict.Malformed = found is_malformed 0

-- "1 loose: some cell reachable from held references is free."
pub record Loose (s : State) (c : ℕ) : Type 0 where
  pub reached : Reach s.memory (Held s) c
  pub free : used_of s.memory c ≡ false

-- no number is such; some number is; n is the least that is
abbrev pub None : (ℕ → Type 0) → Type 0
None P = (c : ℕ) → P c → ⊥

abbrev pub Some : (ℕ → Type 0) → Type 0
Some P = (c : ℕ) × P c

pub record Least (P : ℕ → Type 0) (n : ℕ) : Type 0 where
  pub such : P n
  pub least : (c : ℕ) → P c → n ≤ c

-- "The least number from 1 to 3 that applies is given, with the least such free cell (1), black cell (2) or mutator
-- (3); 0 and 4 carry the number 0."
pub data Judged (s : State) : Finding → Type 0 where
  loose : {c : ℕ} → Least (Loose s) c → Judged s (found is_loose c)
  black_over_white : {c : ℕ} → None (Loose s) → Least (BlackToWhite s) c → Judged s (found is_black_to_white c)
  handshake : {p : ℕ} → None (Loose s) → None (BlackToWhite s) → Least (Broken s) p → Judged s (found is_handshake p)
  sound : None (Loose s) → None (BlackToWhite s) → None (Broken s) → Judged s (found is_sound 0)

-- ---- the same, computed: the set of what breaks each verdict, and its least number
unfoldable pub loose_of : State → ℕ
loose_of s = minus_of (reached_of s.memory (held_of s)) s.memory.used

abbrev pub least_of : ℕ → ℕ → Finding
least_of v set = found v (first_of set)

-- the least number of a set, if it has any
abbrev pub least_in : ℕ → Option ℕ
least_in set = pick (is_none set) option.None (option.Some (first_of set))

unfoldable pub judged_of : State → Finding
judged_of s =
    pick (is_none (loose_of s))
    (pick (is_none (black_to_white_of s))
    (pick (is_none (broken_of s)) (found is_sound 0) (least_of is_handshake (broken_of s)))
    (least_of is_black_to_white (black_to_white_of s)))
    (least_of is_loose (loose_of s))
