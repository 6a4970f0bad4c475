-- Demand 3 holds. Assumes nothing.
use Rattle.claims.specs.Demand.{Demand3}
use Rattle.claims.proofs.Theorems.{run_posted, run_table, run_lock, run_marks, run_noted}
use Rattle.claims.proofs.Counts.{run_behind}
use Rattle.claims.proofs.Occupied.{run_occupied}

pub demand3 : Demand3
demand3 = record { posted = run_posted; table = run_table; behind = run_behind; lock = run_lock; marks = run_marks; noted = run_noted; occupied = run_occupied }
