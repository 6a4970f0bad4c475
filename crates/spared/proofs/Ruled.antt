-- A rule over the collector's moves, computed, holds of what any row makes of its place: it stays, or its own step
-- leads on. Assumes nothing.
--     row_ruled     the rule
use mathlib.Core.Path.{◌≡◌}
use mathlib.Core.Bool.{Bool, true}
use Prim.Native.Nat.{ℕ}
use Rattle.state.specs.declared.Process.{Process}
use Rattle.state.specs.declared.State.{State}
use Rattle.state.specs.declared.Choice.{Choice}
use Rattle.state.specs.States.{process_of}
use Rattle.formed.specs.Fits.{WellFormed}
use Rattle.model.specs.Rows.{Row}
use Rattle.claims.proofs.Rules.{Checked, ruled}
use Rattle.spared.specs.Seats.{all_stations, leads_to, Seated}
use Rattle.spared.proofs.Seats.{led, row_seated}

pub row_ruled : (rule : ℕ → ℕ → ℕ → ℕ → Bool) → Checked (λ k j. rule k j k j) → Checked (λ k j. all_stations (λ a. rule k j a.place a.stage) (leads_to k j)) →
    (s t : State) (c : Choice) → WellFormed s → Row s c t → rule (process_of s 0).place (process_of s 0).stage (process_of t 0).place (process_of t 0).stage ≡ true
row_ruled rule a b s t c w r = go (process_of t 0) (row_seated s t c w r)
  where
    go : (o : Process) → Seated c (process_of s 0) o → rule (process_of s 0).place (process_of s 0).stage o.place o.stage ≡ true
    go o (Seated.stays e f) = rw (e, f) (ruled (λ k j. rule k j k j) a s w)
    go o (Seated.leads z e l) = led rule b s w o.place o.stage l
