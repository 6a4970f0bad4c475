-- The run of a log: its records taken one by one, each by the step of the state before it, and the four numbers.
-- Assumes nothing.
use Rattle.std.specs.Prelude.{Bool, true, false, List, ℕ, zero, suc, ◌+◌, ◌-◌, ◌*◌, ◌/◌, ◌%◌, eqb, length, Result, Ok, Err, ◌≡◌}
use Rattle.base.specs.Pick.{pick}
use Rattle.base.specs.declared.Stop.{Stop}
use Rattle.base.specs.Refusals.{stop_number, not_admitted, wrong_check, few_left}
use Rattle.buffers.specs.declared.sources.Source.{Source}
use Rattle.buffers.specs.declared.sources.Source.TheVariants as source
use Rattle.buffers.specs.Sources.{nothing_read, source_number, read_after}
use Rattle.state.specs.declared.State.{State}
use Rattle.state.specs.States.{Answer}
use Rattle.state.specs.Openings.{opening_of}
use Rattle.engine.specs.Steps.{inner_of}
use Rattle.engine.specs.Readings.{read_by}
use Rattle.verdict.specs.Judged.{Finding, is_malformed, found, judged_of, told}
use Rattle.runlog.specs.declared as code
use Rattle.runlog.specs.declared.run as run
use Rattle.header.specs.Header.{size_of, admitted_of, heap_of}
use Rattle.runlog.specs.Answers.{Outcome, Run}
use Rattle.runlog.specs.declared.record.Record.{Record}
use Rattle.runlog.specs.Records.{record_size, record_at, right_check_of}

-- a run that has come to the state s, with k records taken and the stop n; the last value read came from v
abbrev pub ended_of : State → ℕ → ℕ → Source → Run
ended_of s k n v = record { steps = k; stop = n; state = s; read = v }

-- no record taken yet, no stop, and nothing read
abbrev pub start_of : State → Run
start_of s = ended_of s 0 0 source.Nothing

-- stopped: nothing else changes, so a refused record has read nothing
abbrev pub stopped_of : ℕ → Run → Run
stopped_of n run = ended_of run.state run.steps n run.read

-- one record more taken, to the state t; what it read, if anything, is the last
abbrev pub took_of : Run → Source → State → Run
took_of run v t = ended_of t (run.steps + 1) 0 (read_after run.read v)

-- "A refused record stops with its number."
abbrev pub after_answer : Run → Source → Answer → Run
after_answer run v a = pick (eqb a.no 0) (took_of run v a.state) (stopped_of a.no run)

-- a record's turn, by what the step answers to it: a wrong check comes before any refusal of that record
abbrev pub turned_of : Run → Record → Answer → Run
turned_of run r a = pick (right_check_of r) (after_answer run (read_by run.state r.choice) a) (stopped_of wrong_check run)

unfoldable pub turn_of : Run → Record → Run
turn_of run r = turned_of run r (inner_of run.state r.choice)

-- a run that has stopped takes no more records
abbrev pub onward_if : Bool → Run → Record → Run
onward_if true run r = turn_of run r
onward_if false run r = run

unfoldable pub onward_of : Run → Record → Run
onward_of run r = onward_if (eqb run.stop 0) run r

-- the run of the first k of the records that begin at a place
abbrev pub run_through : List ℕ → ℕ → State → ℕ → Run
run_through log at s zero = start_of s
run_through log at s (suc k) = onward_of (run_through log at s k) (record_at log (at + record_size * k))

-- "Fewer than 8 bytes left: stop 14. None left: stop 0."
unfoldable pub closed_of : Run → ℕ → Run
closed_of run left = pick (eqb run.stop 0) (pick (eqb left 0) run (stopped_of few_left run)) run

-- how many whole records follow the header, and how many bytes are left after them
abbrev pub whole_of : List ℕ → ℕ
whole_of log = (length log - size_of log) / record_size

abbrev pub left_of : List ℕ → ℕ
left_of log = (length log - size_of log) % record_size

unfoldable pub played_of : List ℕ → State → Run
played_of log s = closed_of (run_through log (size_of log) s (whole_of log)) (left_of log)

-- "the verdict is that of the state then, 4 on stop 12"; "255 if nothing was read"
unfoldable pub outcome_told_of : Run → Outcome
outcome_told_of run = record { steps = run.steps; stop = run.stop; verdict = (judged_of run.state).verdict; read = source_number run.read }

abbrev pub not_opened : Outcome
not_opened = record { steps = 0; stop = not_admitted; verdict = is_malformed; read = nothing_read }

abbrev pub judge_if : Bool → List ℕ → Outcome
judge_if true log = outcome_told_of (played_of log (opening_of (heap_of log)))
judge_if false log = not_opened

unfoldable pub judge_of : List ℕ → Outcome
judge_of log = judge_if (admitted_of log) log

-- "the verdict is that of the state then", with the cell or mutator that goes with it
abbrev pub found_if : Bool → List ℕ → Finding
found_if true log = judged_of (played_of log (opening_of (heap_of log))).state
found_if false log = found is_malformed 0

unfoldable pub found_of : List ℕ → Finding
found_of log = found_if (admitted_of log) log

-- "The last such answer of a run": where the last value read came from
abbrev pub origin_if : Bool → List ℕ → Source
origin_if true log = (played_of log (opening_of (heap_of log))).read
origin_if false log = source.Nothing

unfoldable pub origin_of : List ℕ → Source
origin_of log = origin_if (admitted_of log) log

-- ---- the code's answers, by these numbers
abbrev pub run_as : run.Run.Run → Run
run_as k = record { state = k.state; steps = k.steps; stop = stop_number k.stop; read = k.read }

abbrev pub outcome_as : code.Outcome.Outcome → Outcome
outcome_as o = record { steps = o.steps; stop = stop_number o.stop; verdict = (told o.verdict).verdict; read = source_number o.read }

-- and the numbers that the code makes of an outcome
abbrev pub numbers_as : code.Numbers.Numbers → Outcome
numbers_as n = record { steps = n.steps; stop = n.stop; verdict = n.verdict; read = n.read }

-- a record's turn leaves the state t: whatever the count and the last read, the run from s goes on there, or stops
abbrev pub Turned : State → Record → State → Result Source Stop → Type 0
Turned s r t (Ok v) = (k : ℕ) (last : Source) → ended_of t (k + 1) 0 (read_after last v) ≡ turn_of (ended_of s k 0 last) r
Turned s r t (Err n) = (stop_number n ≡ 0 → ⊥) × ((k : ℕ) (last : Source) → ended_of t k (stop_number n) last ≡ turn_of (ended_of s k 0 last) r)
