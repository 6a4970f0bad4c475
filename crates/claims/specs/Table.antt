-- The handshake table holds. Assumes nothing.
use Rattle.std.specs.Prelude.{◌≡◌, ℕ, ◌≤◌, ◌<◌}
use Rattle.state.specs.declared.State.{State}
use Rattle.state.specs.States.{mutators_of, process_of}
use Rattle.verdict.specs.Judged.{is_handshake}
use Rattle.verdict.specs.Findings.{finding_of}
use Rattle.verdict.specs.Table.{Right}
use Rattle.claims.specs.Runs.{Always}

-- each mutator's line is in the handshake table, and "A raised flag implies not in step."
abbrev pub Table : State → Type 0
Table s = (m : ℕ) → 0 < m → m ≤ mutators_of s → Right s.system (process_of s m).part

-- the judge's finding is not "3: the handshake table is broken"
abbrev pub Unbroken : State → Type 0
Unbroken s = (finding_of s).verdict ≡ is_handshake → ⊥

-- demand 3, after any choices: "each mutator stands in the handshake table with the collector, at most one round
-- behind"
abbrev pub RunTable : Type 0
RunTable = Always Table

abbrev pub RunUnbroken : Type 0
RunUnbroken = Always Unbroken
