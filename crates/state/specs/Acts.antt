-- How a step goes on once memory has taken it: its process after it, and what it does to the system's part in the
-- handshakes and to the mutators' parts. Assumes nothing.
use Rattle.std.specs.Prelude.{true, false, List, ℕ, get_or, set}
use Rattle.state.specs.declared.Handshake.{Handshake}
use Rattle.state.specs.declared.RoundType.{RoundType}
use Rattle.state.specs.declared.RoundType.TheVariants as round
use Rattle.state.specs.declared.System.{System}
use Rattle.state.specs.declared.Process.{Process}
use Rattle.state.specs.declared.State.{State}
use Rattle.state.specs.declared.acts.Act.{Act}
use Rattle.state.specs.declared.acts.Act.TheVariants as act
use Rattle.state.specs.declared.acts.Going.{Going}
use Rattle.state.specs.declared.acts.Setting.{Setting}
use Rattle.state.specs.States.{next_of, shaking, no_process, mutators_of, process_of}

abbrev pub going_on : Process → Going
going_on q = record { process = q; act = act.Nothing }

abbrev pub going_with : Act → Process → Going
going_with a q = record { process = q; act = a }

-- ---- the system's part. "the system's handshake phase advances for no-op and roots"
abbrev pub advance_of : RoundType → Handshake → Handshake
advance_of round.Noop h = next_of h
advance_of round.Roots h = next_of h
advance_of round.Work h = h

unfoldable pub typed : System → RoundType → System
typed h k = record { kind = k; phase = advance_of k h.phase; work = h.work }

abbrev pub with_work_of : System → ℕ → System
with_work_of h w = record { kind = h.kind; phase = h.phase; work = w }

abbrev pub handed_of : System → Act → System
handed_of h act.Nothing = h
handed_of h (act.Lists w) = with_work_of h w
handed_of h (act.Types k) = typed h k
handed_of h (act.Raises x) = h

-- ---- the mutators' parts. "all in-step bits off"
abbrev pub stepped_out_of : Process → Process
stepped_out_of q = shaking q.part.raised false q.part.phase q

unfoldable pub out_at : List Process → ℕ → List Process
out_at l p = set l p (stepped_out_of (get_or l p no_process))

unfoldable pub all_out_of : List Process → List Process
all_out_of l = out_at (out_at (out_at (out_at l 1) 2) 3) 4

-- "raise each flag once, x naming the mutator"
abbrev pub flag_up_of : Process → Process
flag_up_of q = shaking true q.part.in_step q.part.phase q

unfoldable pub raised_of : List Process → ℕ → List Process
raised_of l x = set l x (flag_up_of (get_or l x no_process))

abbrev pub shaken_of : List Process → Act → List Process
shaken_of l act.Nothing = l
shaken_of l (act.Lists w) = l
shaken_of l (act.Types k) = all_out_of l
shaken_of l (act.Raises x) = raised_of l x

-- ---- the state after it: process p goes on, and its act is done
abbrev pub went_of : State → ℕ → Going → State
went_of s p g =
    record { memory = s.memory; procs = set (shaken_of s.procs g.act) p g.process; system = handed_of s.system g.act }

-- what a step may know besides its own process and what it saw
abbrev pub setting_of : State → ℕ → Setting
setting_of s x = record { cells = s.memory.cells; mutators = mutators_of s; system = s.system; up = (process_of s x).part.raised }
