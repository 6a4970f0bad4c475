-- What is proved of the judge of a log, each statement by its name. Assumes nothing.
use Rattle.std.specs.Prelude.{◌≡◌, List, [], ◌∷◌, ◌++◌, ◌⊎◌, ◌↔◌, ℕ, zero, suc, ◌+◌, ◌-◌, ◌/◌, ◌%◌, ◌≤◌, ◌<◌, eqb, length, take}
use Rattle.base.specs.Pick.{pick}
use Rattle.base.specs.Refusals.{by_malformed, not_admitted, few_left}
use Rattle.state.specs.declared.State.{State}
use Rattle.state.specs.declared.Choice.{Choice}
use Rattle.state.specs.declared.opening.Heap.{Heap}
use Rattle.state.specs.Openings.{opening_of}
use Rattle.state.specs.States.{taken_of}
use Rattle.formed.specs.Fits.{HeapFits, WellFormed}
use Rattle.engine.specs.Steps.{step_of}
use Rattle.engine.specs.Runs as engine
use Rattle.verdict.specs.Judged.{is_malformed, found, told, Judged}
use Rattle.verdict.specs.Statements.{Verdicts}
use Rattle.header.specs.Bytes.{byte_at}
use Rattle.header.specs.Header.{max_log, version1, version2, size_of, heap_of}
use Rattle.header.specs.Admitted.{Admitted}
use Rattle.header.specs.Written.{bytes_of, SaidIn}
use Rattle.runlog.specs.declared as code
use Rattle.runlog.specs.Answers.{Outcome, Run}
use Rattle.runlog.specs.Records.{record_size}
use Rattle.runlog.specs.Runs.{turned_of, run_through, closed_of, whole_of, left_of, played_of, outcome_told_of, not_opened, judge_of, found_of, origin_of, outcome_as}
use Rattle.runlog.specs.Rule.{place_of, record_of, Taken, Judges}

-- the outcome is the one of the log's rule, and there is no other
abbrev pub OutcomeExactly : Type 0
OutcomeExactly = (log : List ℕ) (o : Outcome) → (o ≡ judge_of log) ↔ Judges log o

-- the contract of `judge`
pub record JudgeMet (log : List ℕ) (r : code.Outcome.Outcome) : Type 0 where
  pub numbers : outcome_as r ≡ judge_of log
  pub verdict : told r.verdict ≡ found_of log
  pub read : r.read ≡ origin_of log

-- only one of the code's outcomes meets it
abbrev pub OneOutcome : Type 0
OneOutcome = (log : List ℕ) (r t : code.Outcome.Outcome) → JudgeMet log r → JudgeMet log t → r ≡ t

-- a log that is not admitted has no run: "stop 12", with no step, verdict 4 and nothing read
abbrev pub NotAdmitted : Type 0
NotAdmitted = (log : List ℕ) → (Admitted log → ⊥) → judge_of log ≡ not_opened

-- the run of a log's first k records, and of the whole log
abbrev pub after_of : List ℕ → ℕ → Run
after_of log k = run_through log (size_of log) (opening_of (heap_of log)) k

abbrev pub ran_of : List ℕ → Run
ran_of log = played_of log (opening_of (heap_of log))

-- the four numbers of an admitted log are those of its run
abbrev pub NumbersOfRun : Type 0
NumbersOfRun = (log : List ℕ) → Admitted log → judge_of log ≡ outcome_told_of (ran_of log)

-- the run is the fold of the step over the records, prefix by prefix: "each record's state is its own step's". A run
-- that has stopped takes no more records.
abbrev pub EachItsOwn : Type 0
EachItsOwn =
    (log : List ℕ) (k : ℕ) → Admitted log
    → after_of log (suc k) ≡ pick (eqb (after_of log k).stop 0) (turned_of (after_of log k) (record_of log k) (step_of (after_of log k).state (record_of log k).choice)) (after_of log k)

-- the heap of an admitted log keeps the header's rules, and its opening is well formed
abbrev pub HeapFitting : Type 0
HeapFitting = (log : List ℕ) → Admitted log → HeapFits (heap_of log)

abbrev pub OpeningFormed : Type 0
OpeningFormed = (log : List ℕ) → Admitted log → WellFormed (opening_of (heap_of log))

-- the choices of the first k records
abbrev pub choices_of : List ℕ → ℕ → List Choice
choices_of log zero = []
choices_of log (suc k) = choices_of log k ++ (record_of log k).choice ∷ []

-- a run's state is the one that the choices of the records taken lead to from the opening, step by step
abbrev pub Chosen : List ℕ → Run → Type 0
Chosen log run = run.state ≡ engine.run_of (opening_of (heap_of log)) (choices_of log run.steps)

abbrev pub AfterChosen : Type 0
AfterChosen = (log : List ℕ) (k : ℕ) → Admitted log → Chosen log (after_of log k)

abbrev pub RanChosen : Type 0
RanChosen = (log : List ℕ) → Admitted log → Chosen log (ran_of log)

-- so every state of the judge's run is well formed
abbrev pub AfterFormed : Type 0
AfterFormed = (log : List ℕ) (k : ℕ) → Admitted log → WellFormed (after_of log k).state

abbrev pub RanFormed : Type 0
RanFormed = (log : List ℕ) → Admitted log → WellFormed (ran_of log).state

-- so no log stops with 1: "the state is malformed"
abbrev pub NeverMalformed : Type 0
NeverMalformed = (log : List ℕ) → (judge_of log).stop ≡ by_malformed → ⊥

-- "stop 12" exactly for a log that is not admitted, and verdict 4 too: "4 on stop 12"
abbrev pub StopNotAdmitted : Type 0
StopNotAdmitted = (log : List ℕ) → ((judge_of log).stop ≡ not_admitted) ↔ (Admitted log → ⊥)

abbrev pub VerdictNotAdmitted : Type 0
VerdictNotAdmitted = (log : List ℕ) → ((judge_of log).verdict ≡ is_malformed) ↔ (Admitted log → ⊥)

-- demand 2's verdict of a state, with the number that goes with it
pub record VerdictOf (s : State) (verdict : ℕ) : Type 0 where
  pub number : ℕ
  pub judged : Judged s (found verdict number)
  pub each : Verdicts s (found verdict number)

-- "the verdict is that of the state then"
abbrev pub RanJudged : Type 0
RanJudged = (log : List ℕ) → Admitted log → VerdictOf (ran_of log).state (judge_of log).verdict

-- what the opening has and every step keeps, every state of a run has
abbrev pub RunKeeps : Type 1
RunKeeps =
    (P : State → Type 0) → ((s t : State) (c : Choice) → P s → step_of s c ≡ taken_of t → P t)
    → (log : List ℕ) (k : ℕ) (s : State) → P (opening_of (heap_of log)) → Taken log k s → P s

-- two logs of one heap, with the same bytes after their headers
pub record SameRecords (a b : List ℕ) : Type 0 where
  pub heap : heap_of a ≡ heap_of b
  pub long : length a - size_of a ≡ length b - size_of b
  pub bytes : (i : ℕ) → byte_at a (size_of a + i) ≡ byte_at b (size_of b + i)

-- they have the same run, state by state, and the same four numbers, whatever their versions
pub record SameRun (a b : List ℕ) : Type 0 where
  pub after : (k : ℕ) → after_of a k ≡ after_of b k
  pub ran : ran_of a ≡ ran_of b
  pub numbers : judge_of a ≡ judge_of b

abbrev pub RecordsDecide : Type 0
RecordsDecide = (a b : List ℕ) → Admitted a → Admitted b → SameRecords a b → SameRun a b

-- so have the version 1 log and the version 2 log of a heap and records
abbrev pub VersionsAlike : Type 0
VersionsAlike =
    (h : Heap) (records : List ℕ) → SaidIn version1 h → length (bytes_of version1 h ++ records) ≤ max_log → length (bytes_of version2 h ++ records) ≤ max_log
    → SameRun (bytes_of version1 h ++ records) (bytes_of version2 h ++ records)

-- "A log that ends after any byte gives the run of its whole records."
abbrev pub CutAnywhere : Type 0
CutAnywhere =
    (log : List ℕ) (j : ℕ) → Admitted log → size_of log ≤ j → j ≤ length log
    → ran_of (take j log) ≡ closed_of (after_of log ((j - size_of log) / record_size)) ((j - size_of log) % record_size)

-- the same of the outcome; a log that ends inside its header is not opened
abbrev pub CutJudged : Type 0
CutJudged =
    (log : List ℕ) (j : ℕ) → Admitted log → size_of log ≤ j → j ≤ length log
    → judge_of (take j log) ≡ outcome_told_of (closed_of (after_of log ((j - size_of log) / record_size)) ((j - size_of log) % record_size))

abbrev pub CutInHeader : Type 0
CutInHeader = (log : List ℕ) (j : ℕ) → Admitted log → j < size_of log → judge_of (take j log) ≡ not_opened

-- cut back to its whole records a log has the same run, but for a stop by the bytes left
abbrev pub CutBack : Type 0
CutBack = (log : List ℕ) → Admitted log → ran_of log ≡ closed_of (ran_of (take (place_of log (whole_of log)) log)) (left_of log)

-- that is, the same steps, the same state and the same last read; and the same stop, or 14 where the whole records end
-- with 0
pub record SameButLeft (run whole : Run) : Type 0 where
  pub steps : run.steps ≡ whole.steps
  pub state : run.state ≡ whole.state
  pub read : run.read ≡ whole.read
  pub stop : (run.stop ≡ whole.stop) ⊎ ((run.stop ≡ few_left) × (whole.stop ≡ 0))

abbrev pub CutSame : Type 0
CutSame = (log : List ℕ) → Admitted log → SameButLeft (ran_of log) (ran_of (take (place_of log (whole_of log)) log))

-- a log that a refusal or a wrong check stopped: more bytes change nothing
abbrev pub MoreBytes : Type 0
MoreBytes =
    (log more : List ℕ) → Admitted log → length (log ++ more) ≤ max_log → ((judge_of log).stop ≡ 0 → ⊥) → ((judge_of log).stop ≡ few_left → ⊥)
    → judge_of (log ++ more) ≡ judge_of log
