-- Every step from a well-formed state gives a well-formed one. Assumes nothing.
--     row_kept       for every row
--     rows_kept      the same, as the statement of specs/
use Prim.Native.Nat.{◌<◌}
use native.Mathlib.Omega.{arith}
use Rattle.memory_formed.specs.WellFormed.{MemoryFormed}
use Rattle.memory_formed.proofs.Kept.{commit_kept}
use Rattle.state.specs.declared.State.{State}
use Rattle.state.specs.declared.Choice.{Choice}
use Rattle.state.specs.States.{process_of}
use Rattle.formed.specs.Fits.{WellFormed}
use Rattle.model.specs.Rows.{Row}
use Rattle.stays_formed.specs.Kept.{RowKept}
use Rattle.stays_formed.proofs.Values.{commit_ranged}
use Rattle.stays_formed.proofs.Frames.{ranged, memory_framed}
use Rattle.stays_formed.proofs.Mutator.{mutator_kept}
use Rattle.stays_formed.proofs.Collector.{collector_kept}

pub row_kept : (s : State) (c : Choice) {t : State} → WellFormed s → Row s c t → WellFormed t
row_kept s c w (Row.collector k z r) = collector_kept s c (process_of s 0) w w.collector r
row_kept s c w (Row.mutator k {p = p} e pos mine r) = mutator_kept s c p (process_of s p) w pos mine (w.mutators p pos mine) r
row_kept s c w (Row.commits k {p = p} e mine b {m = m} h) =
    let here : p < s.memory.processes = omega (arith, w.memory.some_processes) in
    let k : MemoryFormed m = rw h at (commit_kept s.memory p w.memory here) in
    memory_framed s w m k (commit_ranged p w.memory k (ranged s w) h)

pub rows_kept : RowKept
rows_kept s c t = row_kept s c
