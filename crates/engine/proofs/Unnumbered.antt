-- How a step goes on never reads the number of what it was told: what holds of a sight with 0 holds of every sight.
-- Assumes nothing.
use Rattle.std.proofs.Common.{◌≡◌, refl}
use Rattle.base.specs.Refusals.{as_taken}
use Rattle.memory.specs.Answers.{Sight}
use Rattle.state.specs.declared.Process.{Process}
use Rattle.state.specs.declared.Choice.{Choice}
use Rattle.state.specs.declared.acts.Setting.{Setting}
use Rattle.collector.specs.Collectors.{row_go_of, list_go_of, collector_go}
use Rattle.own.specs.Owns.{own_go}
use Rattle.engine.specs.Steps.{go_of}

abbrev unnumbered : Sight → Sight
unnumbered v = record { no = as_taken; used = v.used; store = v.store; from = v.from }

pub collector_unnumbered : (c : Choice) (z : Setting) (v : Sight) (q : Process) → collector_go c z v q ≡ collector_go c z (unnumbered v) q
unfolding row_go_of list_go_of collector_go
collector_unnumbered c z v q = refl

pub own_unnumbered : (c : Choice) (z : Setting) (v : Sight) (q : Process) → own_go c z v q ≡ own_go c z (unnumbered v) q
unfolding row_go_of list_go_of collector_go own_go
own_unnumbered c z v q = refl

pub go_unnumbered : (c : Choice) (z : Setting) (v : Sight) (q : Process) → go_of c z v q ≡ go_of c z (unnumbered v) q
unfolding row_go_of list_go_of collector_go own_go go_of
go_unnumbered c z v q = refl
