-- What memory's steps leave alone: the counts. Assumes nothing.
--     settled_counted, allocate_counted, free_counted     the counts, as the statement of specs/
use Prim.Native.Nat.{ℕ}
use mathlib.Core.Path.{◌≡◌}
use Rattle.memory.specs.declared.Memory.{Memory}
use Rattle.memory.specs.Memories.{taken}
use Rattle.memory.specs.Steps.{allocate_of, free_of}
use Rattle.memory.proofs.Spots.{Settled}
use Rattle.memory.proofs.Effects.{allocate_counts, free_counts}
use Rattle.stays_formed.specs.Kept.{Counted}

module _ {m n : Memory} where
  pub settled_counted : Settled m n → Counted m n
  settled_counted a = record { cells = a.cells; processes = a.processes }

module _ (m : Memory) (p : ℕ) {n : Memory} where
  pub allocate_counted : (c : ℕ) → allocate_of m p c ≡ taken n → Counted m n
  allocate_counted c h = let a = allocate_counts m p c h in record { cells = a.0; processes = a.1 }

  pub free_counted : (c : ℕ) → free_of m p c ≡ taken n → Counted m n
  free_counted c h = let a = free_counts m p c h in record { cells = a.0; processes = a.1 }
