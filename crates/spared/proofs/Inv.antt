-- The whole invariant of the published claim holds after any choices. Assumes nothing.
--     row_spared      every row keeps it
--     run_spared      after any choices from an opening
use Rattle.state.specs.declared.State.{State}
use Rattle.state.specs.declared.Choice.{Choice}
use Rattle.state.specs.Openings.{opening_of}
use Rattle.model.specs.Rows.{Row}
use Rattle.claims.proofs.Runs.{run_keeps}
use Rattle.claims.proofs.Inv.{row_inv}
use Rattle.spared.specs.Inv.{Spared, RunSpared}
use Rattle.spared.proofs.Fenced.{step_fenced}
use Rattle.spared.proofs.Notes.{step_notes}
use Rattle.spared.proofs.Greying.{step_greying, step_of_marks}
use Rattle.spared.proofs.Looked.{step_looked}
use Rattle.spared.proofs.Listed.{step_listed}
use Rattle.spared.proofs.Rested.{step_rested}
use Rattle.spared.proofs.Blank.{step_blank}
use Rattle.spared.proofs.Quiet.{step_quiet}
use Rattle.spared.proofs.Unlisted.{step_unlisted}
use Rattle.spared.proofs.Ends.{step_ends}
use Rattle.spared.proofs.Good.{step_held}
use Rattle.spared.proofs.Closed.{step_closed}
use Rattle.spared.proofs.Tricolour.{step_tricolour}
use Rattle.spared.proofs.Barriers.{step_barriers}
use Rattle.spared.proofs.Snapshot.{step_snapshot}
use Rattle.spared.proofs.Scanned.{step_scanned}
use Rattle.spared.proofs.Swept.{step_swept}
use Rattle.spared.proofs.Opening.{opening_spared}

pub row_spared : (s : State) (c : Choice) (t : State) → Spared s → Row s c t → Spared t
row_spared s c t v r =
    record {
      inv = row_inv s c t v.inv r;
      fenced = step_fenced s t c v r;
      notes = step_notes s t c v r;
      greying = step_greying s t c v r;
      of_marks = step_of_marks s t c v r;
      looked = step_looked s t c v r;
      listed = step_listed s t c v r;
      rested = step_rested s t c v r;
      blank = step_blank s t c v r;
      quiet = step_quiet s t c v r;
      unlisted = step_unlisted s t c v r;
      ends = step_ends s t c v r;
      held = step_held s t c v r;
      closed = step_closed s t c v r;
      tricolour = step_tricolour s t c v r;
      barriers = step_barriers s t c v r;
      snapshot = step_snapshot s t c v r;
      scanned = step_scanned s t c v r;
      swept = step_swept s t c v r;
    }

pub run_spared : RunSpared
run_spared h f cs = run_keeps Spared row_spared (opening_of h) cs (opening_spared h f)
