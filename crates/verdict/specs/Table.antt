-- The handshake table, for each mutator. Assumes nothing.
use Rattle.std.specs.Prelude.{◌≡◌, Bool, true, false, not, ℕ, ◌≤◌, ◌<◌, eqb}
use Rattle.base.specs.Pick.{pick}
use Rattle.state.specs.declared.Handshake.{Handshake}
use Rattle.state.specs.declared.Handshake.TheVariants.{Idle, IdleInit, InitMark, Mark, IdleMarkSweep}
use Rattle.state.specs.declared.RoundType.{RoundType}
use Rattle.state.specs.declared.RoundType.TheVariants.{Noop, Roots, Work}
use Rattle.state.specs.declared.Part.{Part}
use Rattle.state.specs.declared.System.{System}
use Rattle.state.specs.declared.State.{State}
use Rattle.state.specs.States.{phase_number, process_of, mutators_of}
use Rattle.state.specs.Acts.{advance_of}
use Rattle.verdict.specs.Colours.{such_of}

-- the lines of the table: whether the mutator is in step, the type, the system's phase, the mutator's phase
pub data InTable : Bool → RoundType → Handshake → Handshake → Type 0 where
  -- "In step: no-op with both phases equal and one of Idle, IdleInit, InitMark, Mark;"
  idle : InTable true Noop Idle Idle
  idle_init : InTable true Noop IdleInit IdleInit
  init_mark : InTable true Noop InitMark InitMark
  mark : InTable true Noop Mark Mark
  -- "roots or work with both IdleMarkSweep."
  roots : InTable true Roots IdleMarkSweep IdleMarkSweep
  work : InTable true Work IdleMarkSweep IdleMarkSweep
  -- "Not in step (system, mutator): no-op with (Idle, IdleMarkSweep), (IdleInit, Idle), (InitMark, IdleInit), (Mark,
  -- InitMark);"
  to_idle : InTable false Noop Idle IdleMarkSweep
  to_idle_init : InTable false Noop IdleInit Idle
  to_init_mark : InTable false Noop InitMark IdleInit
  to_mark : InTable false Noop Mark InitMark
  -- "roots with (IdleMarkSweep, Mark); work with both IdleMarkSweep."
  to_roots : InTable false Roots IdleMarkSweep Mark
  to_work : InTable false Work IdleMarkSweep IdleMarkSweep

-- a mutator's part is right: its line is in the table, and "a raised flag implies not in step"
pub record Right (h : System) (q : Part) : Type 0 where
  pub line : InTable q.in_step h.kind h.phase q.phase
  pub flag : q.raised ≡ true → q.in_step ≡ false

-- "the handshake table is broken": for the mutator p of 1..M
pub record Broken (s : State) (p : ℕ) : Type 0 where
  pub above : 0 < p
  pub mutator : p ≤ mutators_of s
  pub wrong : Right s.system (process_of s p).part → ⊥

-- ---- the same as a test: in step the two phases are equal; not in step the mutator's answer will make them so, and
-- it advances the phase for no-op and roots
abbrev pub sweeping_of : Handshake → Bool
sweeping_of Idle = false
sweeping_of IdleInit = false
sweeping_of InitMark = false
sweeping_of Mark = false
sweeping_of IdleMarkSweep = true

abbrev pub offered_of : RoundType → Handshake → Bool
offered_of Noop h = not (sweeping_of h)
offered_of Roots h = sweeping_of h
offered_of Work h = sweeping_of h

abbrev pub same_phase : Handshake → Handshake → Bool
same_phase a b = eqb (phase_number a) (phase_number b)

unfoldable pub in_step_of : RoundType → Handshake → Handshake → Bool
in_step_of k system mutator = pick (same_phase system mutator) (offered_of k system) false

unfoldable pub behind_of : RoundType → Handshake → Handshake → Bool
behind_of k system mutator = in_step_of k system (advance_of k mutator)

unfoldable pub right_of : System → Part → Bool
right_of h q =
    pick q.in_step
    (pick q.raised false (in_step_of h.kind h.phase q.phase))
    (behind_of h.kind h.phase q.phase)

unfoldable pub wrong_of : State → ℕ → Bool
wrong_of s p = not (right_of s.system (process_of s p).part)

-- the mutators of 1..M whose part is not right
unfoldable pub broken_of : State → ℕ
broken_of s = such_of (mutators_of s) (wrong_of s)
