-- A process replaced, by what a well-formed state gives. Assumes nothing.
--     replaced     one of those that there are, in a well-formed state
--     arrived      one of the array, where the state after it is well formed
use mathlib.Core.Path.{◌≡◌, sym, ◌∙◌}
use Prim.Native.Nat.{ℕ, ◌≤◌, ◌<◌}
use native.Mathlib.Omega.{arith}
use lib.ListN.{length-set}
use Rattle.memory.specs.Memories.{max_processes}
use Rattle.state.specs.declared.Process.{Process}
use Rattle.state.specs.declared.State.{State}
use Rattle.state.specs.States.{mutators_of, process_of, with_process_of}
use Rattle.formed.specs.Fits.{WellFormed}
use Rattle.formed.proofs.Keeps.{process_same, mutators_most}

pub replaced : (s : State) → WellFormed s → (p : ℕ) (q : Process) → p ≤ mutators_of s → process_of (with_process_of s p q) p ≡ q
replaced s w p q h = process_same s p q w.sized (omega (arith, mutators_most s w))

pub arrived : (s : State) (p : ℕ) (q : Process) → p < max_processes → WellFormed (with_process_of s p q) → process_of (with_process_of s p q) p ≡ q
arrived s p q h w = process_same s p q (sym (length-set s.procs p q) ∙ w.sized) h
