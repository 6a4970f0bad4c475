-- How far a mutator is behind the collector, counted over a run. Assumes nothing.
use Rattle.std.specs.Prelude.{◌≡◌, Bool, List, [], ◌∷◌, ℕ, ◌+◌, ◌≤◌, ◌<◌, eqb}
use Rattle.base.specs.Pick.{pick}
use Rattle.base.specs.Every.{◌and◌}
use Rattle.state.specs.declared.Process.{Process}
use Rattle.state.specs.declared.State.{State}
use Rattle.state.specs.declared.Choice.{Choice}
use Rattle.state.specs.declared.opening.Heap.{Heap}
use Rattle.state.specs.Codes.{noop_finish, roots_finish, work_finish, type_stage}
use Rattle.state.specs.States.{mutators_of, process_of}
use Rattle.state.specs.Openings.{opening_of}
use Rattle.formed.specs.Fits.{among_of, round_places, HeapFits}
use Rattle.engine.specs.Steps.{step_of}
use Rattle.claims.specs.Runs.{run_of}

-- "fence; set type": a place and stage where the collector's next step sets the type
abbrev pub types_at : ℕ → ℕ → Bool
types_at place stage = among_of place round_places and eqb stage type_stage

-- "then one step lowers the flag, sets in step": the places where a mutator's next step finishes its answer
abbrev pub finish_places : List ℕ
finish_places = noop_finish ∷ roots_finish ∷ work_finish ∷ []

-- the choice is an own step of the collector's that sets the type; of mutator m's that finishes an answer
abbrev pub sets_type : State → Choice → Bool
sets_type s c = eqb c.kind 0 and eqb c.process 0 and types_at (process_of s 0).place (process_of s 0).stage

abbrev pub finishes_answer : ℕ → State → Choice → Bool
finishes_answer m s c = eqb c.kind 0 and eqb c.process m and among_of (process_of s m).place finish_places

-- one for a choice that is taken and is such
abbrev pub once_of : (State → Choice → Bool) → State → Choice → ℕ
once_of such s c = pick (eqb (step_of s c).no 0) (pick (such s c) 1 0) 0

-- how many of a run's choices are taken and are such
abbrev pub times_of : (State → Choice → Bool) → State → List Choice → ℕ
times_of such s [] = 0
times_of such s (c ∷ cs) = once_of such s c + times_of such (step_of s c).state cs

-- the rounds that a mutator is behind: none in step, else one
abbrev pub behind_by : Bool → ℕ
behind_by inStep = pick inStep 0 1

abbrev pub rounds_behind : Process → ℕ
rounds_behind q = behind_by q.part.in_step

-- demand 3: "at most one round behind": the types set are the answers that m has finished, and one more exactly while
-- m is not in step
abbrev pub RunBehind : Type 0
RunBehind =
    (h : Heap) → HeapFits h → (cs : List Choice) (m : ℕ) → 0 < m → m ≤ mutators_of (opening_of h) →
    times_of sets_type (opening_of h) cs ≡ times_of (finishes_answer m) (opening_of h) cs + rounds_behind (process_of (run_of (opening_of h) cs) m)
