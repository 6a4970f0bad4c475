-- "Opening: fM, fA and all marks of occupied cells 1, phase Idle, type roots, all in step, all handshake phases
-- IdleMarkSweep, flags down, buffers and lists empty, lock free, mutators at top, collector at row 1." What belongs
-- to no process is zero, and so is the collector's noted fM. Assumes nothing.
use Rattle.std.specs.Prelude.{true, false, ℕ, [], ◌∷◌, ltb, get_or, replicate}
use Rattle.base.specs.Pick.{pick}
use Rattle.buffers.specs.declared.Phase.TheVariants as phase
use Rattle.buffers.specs.Buffers.{empty_buffer}
use Rattle.memory.specs.declared.Memory.{Memory}
use Rattle.memory.specs.Memories.{max_processes}
use Rattle.state.specs.declared.Handshake.TheVariants as hand
use Rattle.state.specs.declared.RoundType.TheVariants as round
use Rattle.state.specs.declared.Process.{Process}
use Rattle.state.specs.declared.System.{System}
use Rattle.state.specs.declared.State.{State}
use Rattle.state.specs.declared.opening.Heap.{Heap}
use Rattle.state.specs.Codes.{row1_round, fence_stage}
use Rattle.state.specs.States.{no_process, at, listing, shaking}

-- "fM, fA and all marks of occupied cells 1, phase Idle, .. buffers .. empty, lock free"
unfoldable pub open_memory : Heap → Memory
open_memory h =
    record { cells = h.cells; processes = h.processes; used = h.used; marks = h.used; field0 = h.field0; field1 = h.field1; fm = true; fa = true; phase = record { phase = phase.Idle }; lock = 0; buffers = replicate max_processes empty_buffer }

-- "collector at row 1"
unfoldable pub open_collector : Process
open_collector = at row1_round fence_stage no_process

-- "mutators at top", "all in step", "flags down", "all handshake phases IdleMarkSweep"
unfoldable pub open_mutator : ℕ → Process
open_mutator roots = listing 0 roots (shaking false true hand.IdleMarkSweep no_process)

-- process p above 0; one above M is nobody
unfoldable pub open_process : Heap → ℕ → ℕ → Process
open_process h p roots = pick (ltb p h.processes) (open_mutator roots) no_process

-- "type roots, .. all handshake phases IdleMarkSweep, .. lists empty"
unfoldable pub open_system : System
open_system = record { kind = round.Roots; phase = hand.IdleMarkSweep; work = 0 }

-- the roots of mutator i + 1
abbrev pub roots_at : Heap → ℕ → ℕ
roots_at h i = get_or h.roots i 0

unfoldable pub opening_of : Heap → State
opening_of h =
    record {
      memory = open_memory h;
      procs = open_collector ∷ open_process h 1 (roots_at h 0) ∷ open_process h 2 (roots_at h 1) ∷ open_process h 3 (roots_at h 2) ∷ open_process h 4 (roots_at h 3) ∷ [];
      system = open_system;
    }
