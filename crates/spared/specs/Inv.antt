-- The whole invariant of the published claim, on top of demand 3's. Assumes nothing.
use Rattle.state.specs.declared.State.{State}
use Rattle.claims.specs.Inv.{Inv}
use Rattle.claims.specs.Runs.{Always}
use Rattle.spared.specs.Fenced.{PastFence}
use Rattle.spared.specs.Notes.{Notes}
use Rattle.spared.specs.Greying.{Greying, OfMarks}
use Rattle.spared.specs.Looked.{Looked}
use Rattle.spared.specs.Listed.{Listed, Unlisted}
use Rattle.spared.specs.Ends.{QuietZone, MarkingEnds}
use Rattle.spared.specs.Rested.{Rested, Blank}
use Rattle.spared.specs.Good.{HeldGood, Closed}
use Rattle.spared.specs.Tricolour.{Tricolour}
use Rattle.spared.specs.Barriers.{Barriers}
use Rattle.spared.specs.Snapshot.{Snapshot}
use Rattle.spared.specs.Scanned.{Scanned}
use Rattle.spared.specs.Swept.{SweptMarked}

pub record Spared (s : State) : Type 0 where
  pub inv : Inv s
  -- B1, B2
  pub fenced : PastFence s
  pub notes : Notes s
  -- B3, B3a, B4
  pub greying : Greying s
  pub of_marks : OfMarks s
  pub looked : Looked s
  -- B5, B6, B7, B8, B9, B10
  pub listed : Listed s
  pub rested : Rested s
  pub blank : Blank s
  pub quiet : QuietZone s
  pub unlisted : Unlisted s
  pub ends : MarkingEnds s
  -- B11, B12, B13
  pub held : HeldGood s
  pub closed : Closed s
  pub tricolour : Tricolour s
  -- B14, B15, B16
  pub barriers : Barriers s
  -- B17, B18, B19
  pub snapshot : Snapshot s
  pub scanned : Scanned s
  pub swept : SweptMarked s

-- after any choices
abbrev pub RunSpared : Type 0
RunSpared = Always Spared
