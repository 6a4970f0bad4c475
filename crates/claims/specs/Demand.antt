-- Demand 3, whole: what holds of the state after any list of choices from any opening heap. Assumes nothing.
use Rattle.claims.specs.Posted.{RunPosted}
use Rattle.claims.specs.Table.{RunTable}
use Rattle.claims.specs.Counts.{RunBehind}
use Rattle.claims.specs.Lock.{RunLock}
use Rattle.claims.specs.Pending.{RunMarks}
use Rattle.claims.specs.Noted.{RunNoted}
use Rattle.claims.specs.Occupied.{RunOccupied}

pub record Demand3 : Type 0 where
  -- "each mutator stands in the handshake table with the collector, at most one round behind"
  -- the table is of the mutator and the system, whose phase is told by where the collector stands
  pub posted : RunPosted
  pub table : RunTable
  pub behind : RunBehind
  -- "the memory lock is held by a process exactly while it is inside its compare and swap"
  pub lock : RunLock
  -- "a mark waits in a buffer only under that lock, one at most"
  pub marks : RunMarks
  -- "whoever holds the lock has noted the mark sense that stands in memory"
  pub noted : RunNoted
  -- "each cell is occupied exactly as its opening, allocations and frees say"
  pub occupied : RunOccupied
