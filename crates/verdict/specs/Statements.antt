-- What is proved of the verdicts. Assumes nothing.
use Rattle.std.specs.Prelude.{◌≡◌, true, ◌↔◌, ℕ, ◌≤◌}
use Rattle.cells.specs.Sets.{max_set, Member}
use Rattle.memory.specs.declared.Memory.{Memory}
use Rattle.memory.specs.Memories.{max_mutators}
use Rattle.state.specs.declared.Part.{Part}
use Rattle.state.specs.declared.System.{System}
use Rattle.state.specs.declared.State.{State}
use Rattle.state.specs.States.{mutators_of}
use Rattle.reach.specs.Statements.{Within}
use Rattle.verdict.specs.Colours.{White, Grey, Black, BlackToWhite, white_of, greys_of, black_of, black_to_white_of}
use Rattle.verdict.specs.Table.{Right, Broken, right_of, broken_of}
use Rattle.verdict.specs.Judged.{Finding, is_sound, is_loose, is_black_to_white, is_handshake, Loose, None, Some, Least, Judged, loose_of, judged_of}

-- the part of well-formed that the verdicts lean on: nothing names a cell above N, and at most `max_mutators` mutators
pub record Bounded (s : State) : Type 0 where
  pub within : Within s
  pub mutators : mutators_of s ≤ max_mutators

-- ---- the tests and sets of the colours and of the table are the words of document 01; no number above 64 is in a
-- set, so of such a one they say nothing
abbrev pub WhiteExactly : Type 0
WhiteExactly = (m : Memory) (c : ℕ) → (white_of m c ≡ true) ↔ White m c

abbrev pub GreyExactly : Type 0
GreyExactly = (s : State) (c : ℕ) → c ≤ max_set → Member (greys_of s) c ↔ Grey s c

abbrev pub BlackExactly : Type 0
BlackExactly = (s : State) (c : ℕ) → c ≤ max_set → (black_of s.memory (greys_of s) c ≡ true) ↔ Black s c

abbrev pub RightExactly : Type 0
RightExactly = (h : System) (q : Part) → (right_of h q ≡ true) ↔ Right h q

-- ---- the three sets
abbrev pub LooseExactly : Type 0
LooseExactly = (s : State) → Bounded s → (c : ℕ) → Member (loose_of s) c ↔ Loose s c

abbrev pub BlackToWhiteExactly : Type 0
BlackToWhiteExactly = (s : State) → Bounded s → (c : ℕ) → Member (black_to_white_of s) c ↔ BlackToWhite s c

abbrev pub BrokenExactly : Type 0
BrokenExactly = (s : State) → Bounded s → (p : ℕ) → Member (broken_of s) p ↔ Broken s p

-- ---- the finding: what is computed is a finding of document 01's, and there is no other
abbrev pub JudgedExactly : Type 0
JudgedExactly = (s : State) → Bounded s → (f : Finding) → (f ≡ judged_of s) ↔ Judged s f

-- each verdict is given exactly if it applies and no lesser one does, with the least such number
pub record Verdicts (s : State) (f : Finding) : Type 0 where
  pub loose : (f.verdict ≡ is_loose) ↔ Some (Loose s)
  pub loose_least : f.verdict ≡ is_loose → Least (Loose s) f.number
  pub black_over_white : (f.verdict ≡ is_black_to_white) ↔ (None (Loose s) × Some (BlackToWhite s))
  pub black_to_white_least : f.verdict ≡ is_black_to_white → Least (BlackToWhite s) f.number
  pub handshake : (f.verdict ≡ is_handshake) ↔ (None (Loose s) × None (BlackToWhite s) × Some (Broken s))
  pub handshake_least : f.verdict ≡ is_handshake → Least (Broken s) f.number
  pub sound : (f.verdict ≡ is_sound) ↔ (None (Loose s) × None (BlackToWhite s) × None (Broken s))
  pub sound_number : f.verdict ≡ is_sound → f.number ≡ 0

abbrev pub VerdictsExactly : Type 0
VerdictsExactly = (s : State) → Bounded s → Verdicts s (judged_of s)
