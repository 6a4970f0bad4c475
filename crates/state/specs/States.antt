-- The state read and changed. antt has no update of a record: here is one setter for each field or group of fields.
-- Assumes nothing.
use Rattle.std.specs.Prelude.{Bool, false, ℕ, ◌-◌, get_or, set, Result, Ok, Err}
use Rattle.base.specs.Refusals.{refusal_number}
use Rattle.memory.specs.declared.Memory.{Memory}
use Rattle.state.specs.declared.Handshake.{Handshake}
use Rattle.state.specs.declared.Handshake.TheVariants as hand
use Rattle.state.specs.declared.RoundType.{RoundType}
use Rattle.state.specs.declared.RoundType.TheVariants as round
use Rattle.state.specs.declared.Part.{Part}
use Rattle.state.specs.declared.Process.{Process}
use Rattle.state.specs.declared.System.{System}
use Rattle.state.specs.declared.State.{State}
use Rattle.state.specs.declared.Refused.{Refused}

-- "The handshake phases run Idle, IdleInit, InitMark, Mark, IdleMarkSweep, Idle."
abbrev pub next_of : Handshake → Handshake
next_of hand.Idle = hand.IdleInit
next_of hand.IdleInit = hand.InitMark
next_of hand.InitMark = hand.Mark
next_of hand.Mark = hand.IdleMarkSweep
next_of hand.IdleMarkSweep = hand.Idle

abbrev pub phase_number : Handshake → ℕ
phase_number hand.Idle = 0
phase_number hand.IdleInit = 1
phase_number hand.InitMark = 2
phase_number hand.Mark = 3
phase_number hand.IdleMarkSweep = 4

-- "type (no-op, roots, work)"
abbrev pub type_number : RoundType → ℕ
type_number round.Noop = 0
type_number round.Roots = 1
type_number round.Work = 2

-- ---- a process: nobody, and one with some of its fields replaced
abbrev pub no_part : Part
no_part = record { raised = false; in_step = false; phase = hand.Idle }

abbrev pub no_process : Process
no_process = record { place = 0; stage = 0; x = 0; f = 0; y = 0; old = 0; left = 0; cell = 0; look = false; sense = false; grey = 0; work = 0; roots = 0; part = no_part }

-- its place and stage
abbrev pub at : ℕ → ℕ → Process → Process
at k j q = record { place = k; stage = j; x = q.x; f = q.f; y = q.y; old = q.old; left = q.left; cell = q.cell; look = q.look; sense = q.sense; grey = q.grey; work = q.work; roots = q.roots; part = q.part }

-- the notes of an operation or a row
abbrev pub noting : ℕ → ℕ → ℕ → ℕ → Process → Process
noting x f y old q = record { place = q.place; stage = q.stage; x = x; f = f; y = y; old = old; left = q.left; cell = q.cell; look = q.look; sense = q.sense; grey = q.grey; work = q.work; roots = q.roots; part = q.part }

-- what is left
abbrev pub leaving : ℕ → Process → Process
leaving l q = record { place = q.place; stage = q.stage; x = q.x; f = q.f; y = q.y; old = q.old; left = l; cell = q.cell; look = q.look; sense = q.sense; grey = q.grey; work = q.work; roots = q.roots; part = q.part }

-- the notes of a mark
abbrev pub marking : ℕ → Bool → Bool → ℕ → Process → Process
marking c l b g q = record { place = q.place; stage = q.stage; x = q.x; f = q.f; y = q.y; old = q.old; left = q.left; cell = c; look = l; sense = b; grey = g; work = q.work; roots = q.roots; part = q.part }

-- its work list and its roots
abbrev pub listing : ℕ → ℕ → Process → Process
listing w r q = record { place = q.place; stage = q.stage; x = q.x; f = q.f; y = q.y; old = q.old; left = q.left; cell = q.cell; look = q.look; sense = q.sense; grey = q.grey; work = w; roots = r; part = q.part }

-- its part in the handshakes
abbrev pub shaking : Bool → Bool → Handshake → Process → Process
shaking r i h q = record { place = q.place; stage = q.stage; x = q.x; f = q.f; y = q.y; old = q.old; left = q.left; cell = q.cell; look = q.look; sense = q.sense; grey = q.grey; work = q.work; roots = q.roots; part = record { raised = r; in_step = i; phase = h } }

-- ---- M: the processes without the collector
abbrev pub mutators_among : ℕ → ℕ
mutators_among n = n - 1

-- ---- the state: M; the p-th process, and nobody past the last
abbrev pub mutators_of : State → ℕ
mutators_of s = mutators_among s.memory.processes

abbrev pub process_of : State → ℕ → Process
process_of s p = get_or s.procs p no_process

abbrev pub with_process_of : State → ℕ → Process → State
with_process_of s p q = record { memory = s.memory; procs = set s.procs p q; system = s.system }

abbrev pub with_memory : State → Memory → State
with_memory s m = record { memory = m; procs = s.procs; system = s.system }

abbrev pub with_system : State → System → State
with_system s h = record { memory = s.memory; procs = s.procs; system = h }

-- ---- answers, with document 01's numbers: 0 and the next state, or the number of the refusal and the state as it came
pub record Answer : Type 0 where
  pub no : ℕ
  pub state : State

-- "A step refusal returns the number and the same state."
abbrev pub refused_of : ℕ → State → Answer
refused_of n s = record { no = n; state = s }

-- taken: t is the state after the step
abbrev pub taken_of : State → Answer
taken_of t = record { no = 0; state = t }

-- the code's answer
abbrev pub answered : Result State Refused → Answer
answered (Ok t) = taken_of t
answered (Err e) = refused_of (refusal_number e.why) e.state
