-- The finding of any state: "4: malformed state", else the verdict of a well-formed one. Assumes nothing.
use Rattle.std.specs.Prelude.{◌≡◌, ◌↔◌}
use Rattle.base.specs.Pick.{pick}
use Rattle.state.specs.declared.State.{State}
use Rattle.formed.specs.Fits.{WellFormed}
use Rattle.formed.specs.WellFormed.{well_formed_of}
use Rattle.verdict.specs.Judged.{Finding, is_malformed, found, Judged, judged_of}
use Rattle.verdict.specs.Statements.{Bounded, Verdicts}

-- "4: malformed state. .. 0 and 4 carry the number 0."
pub data Found (s : State) : Finding → Type 0 where
  malformed : (WellFormed s → ⊥) → Found s (found is_malformed 0)
  formed : {f : Finding} → WellFormed s → Judged s f → Found s f

unfoldable pub finding_of : State → Finding
finding_of s = pick (well_formed_of s) (judged_of s) (found is_malformed 0)

-- ---- what is proved of it
-- a well-formed state keeps the bounds that the verdicts lean on
abbrev pub FormedBounded : Type 0
FormedBounded = (s : State) → WellFormed s → Bounded s

-- what is computed is a finding of document 01's, and there is no other
abbrev pub FoundExactly : Type 0
FoundExactly = (s : State) (f : Finding) → (f ≡ finding_of s) ↔ Found s f

-- verdict 4 is given exactly if the state is malformed
abbrev pub MalformedJudged : Type 0
MalformedJudged = (s : State) → ((finding_of s).verdict ≡ is_malformed) ↔ (WellFormed s → ⊥)

-- the finding of a well-formed state is the one that is made without looking for that
abbrev pub FormedJudged : Type 0
FormedJudged = (s : State) → WellFormed s → finding_of s ≡ judged_of s

-- and of a well-formed state each verdict exactly if it applies and no lesser one does, with the least such number
abbrev pub FormedVerdicts : Type 0
FormedVerdicts = (s : State) → WellFormed s → Verdicts s (finding_of s)
