-- The process that steps, after every row: what holds of the process that a row puts in its place holds of it.
-- Assumes nothing.
--     After, arrives     process p is replaced by one of which P holds; so P holds of process p
--     row_after          for every row, by the collector's rows, a mutator's, and a commit, which leaves the process
use mathlib.Core.Path.{◌≡◌, refl}
use Prim.Native.Nat.{ℕ, ◌≤◌, ◌<◌}
use native.Mathlib.Omega.{arith}
use Rattle.memory.specs.Memories.{max_processes}
use Rattle.state.specs.declared.Process.{Process}
use Rattle.state.specs.declared.State.{State}
use Rattle.state.specs.declared.Choice.{Choice}
use Rattle.state.specs.States.{mutators_of, process_of, with_process_of}
use Rattle.formed.specs.Fits.{WellFormed}
use Rattle.model.specs.Rows.{Mutator, Collector, Row}
use Rattle.model.specs.Reasons.{mover}
use Rattle.stays_formed.proofs.Frames.{named}
use Rattle.stays_formed.proofs.Kept.{row_kept}
use Rattle.claims.proofs.Processes.{arrived}

pub data After (P : Process → Type 0) (p : ℕ) : State → Type 0 where
  after : (x : State) (o : Process) → P o → After P p (with_process_of x p o)

pub arrives : {P : Process → Type 0} {p : ℕ} {t : State} → p < max_processes → WellFormed t → After P p t → P (process_of t p)
arrives {p = p} l g (After.after x o h) = rw (arrived x p o l g) h

module _ (P : ℕ → Process → Type 0) (s : State) (c : Choice) (w : WellFormed s) where
  pub row_after : {t : State} → (WellFormed t → Collector s c 0 (process_of s 0) t → P 0 (process_of t 0)) → ((p : ℕ) → 0 < p → p ≤ mutators_of s → Mutator s c p (process_of s p) t → After (P p) p t) → (t.system ≡ s.system → P c.process (mover s c)) →
      Row s c t → P c.process (process_of t c.process)
  row_after {t} f g h (Row.collector k e r) = named (λ i. P i (process_of t i)) e (f (row_kept s c w (Row.collector k e r)) r)
  row_after {t} f g h (Row.mutator k {p} e pos mine r) =
      let few = w.memory.few_processes in
      named (λ i. P i (process_of t i)) e (arrives (omega arith) (row_kept s c w (Row.mutator k e pos mine r)) (g p pos mine r))
  row_after f g h (Row.commits k e mine b m) = h refl
