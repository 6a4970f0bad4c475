-- The log's rule as facts, over the whole step and the finding of any state: which records are taken, where the run
-- stops and why, and the four numbers.
-- Assumes nothing.
use Rattle.std.specs.Prelude.{◌≡◌, List, ℕ, zero, suc, ◌+◌, ◌*◌, ◌≤◌, ◌<◌, length}
use Rattle.base.specs.Refusals.{not_admitted, wrong_check, few_left}
use Rattle.buffers.specs.declared.sources.Source.{Source}
use Rattle.buffers.specs.declared.sources.Source.TheVariants as source
use Rattle.buffers.specs.Sources.{nothing_read, source_number}
use Rattle.state.specs.declared.State.{State}
use Rattle.state.specs.Openings.{opening_of}
use Rattle.state.specs.States.{taken_of}
use Rattle.engine.specs.Steps.{step_of}
use Rattle.engine.specs.Readings.{ReadFrom}
use Rattle.verdict.specs.Judged.{is_malformed}
use Rattle.verdict.specs.Findings.{finding_of}
use Rattle.header.specs.Header.{size_of, heap_of}
use Rattle.header.specs.Admitted.{Admitted}
use Rattle.runlog.specs.Answers.{Outcome}
use Rattle.runlog.specs.declared.record.Record.{Record}
use Rattle.runlog.specs.Records.{record_size, record_at, check_sum_of}

-- "Records of 8 bytes", after the header: where the record k + 1 begins, and the record
abbrev pub place_of : List ℕ → ℕ → ℕ
place_of log k = size_of log + record_size * k

abbrev pub record_of : List ℕ → ℕ → Record
record_of log k = record_at log (place_of log k)

-- all its bytes are there
abbrev pub Whole : List ℕ → ℕ → Type 0
Whole log k = place_of log k + record_size ≤ length log

-- "a 16-bit check equal to the sum of those six plus 1"
abbrev pub RightCheck : Record → Type 0
RightCheck r = r.check ≡ check_sum_of r.choice

-- The first k records are taken, and lead from the opening to the state: each to its own step's.
pub data Taken (log : List ℕ) : ℕ → State → Type 0 where
  none : Taken log zero (opening_of (heap_of log))
  more : (k : ℕ) (s t : State) → Taken log k s → Whole log k → RightCheck (record_of log k) → step_of s (record_of log k).choice ≡ taken_of t → Taken log (suc k) t

-- Why the run stops there.
pub data Stops (log : List ℕ) (k : ℕ) (s : State) : ℕ → Type 0 where
  -- "None left: stop 0."
  ended : length log ≡ place_of log k → Stops log k s 0
  -- "Fewer than 8 bytes left: stop 14."
  short : place_of log k < length log → length log < place_of log k + record_size → Stops log k s few_left
  -- "(else stop 13)"
  wrong : Whole log k → (RightCheck (record_of log k) → ⊥) → Stops log k s wrong_check
  -- "A refused record stops with its number."
  refused : Whole log k → RightCheck (record_of log k) → ((step_of s (record_of log k).choice).no ≡ 0 → ⊥) → Stops log k s (step_of s (record_of log k).choice).no

-- The record i + 1, taken, read from v.
pub record ReadAt (log : List ℕ) (i : ℕ) (v : Source) : Type 0 where
  pub state : State
  pub taken : Taken log i state
  pub read : ReadFrom state (record_of log i).choice v

-- It read nothing.
abbrev pub Blind : List ℕ → ℕ → Type 0
Blind log i = ReadAt log i source.Nothing

-- "The last such answer of a run becomes a fourth number": the last of the first k records that reads decides; "255 if
-- nothing was read".
pub data LastRead (log : List ℕ) (k n : ℕ) : Type 0 where
  never : n ≡ nothing_read → ((i : ℕ) → i < k → Blind log i) → LastRead log k n
  last : (i : ℕ) (v : Source) → n ≡ source_number v → (v ≡ source.Nothing → ⊥) → i < k → ReadAt log i v → ((j : ℕ) → i < j → j < k → Blind log j) → LastRead log k n

-- "The count is of the records taken before the stop; the verdict is that of the state then"
pub record RunTo (log : List ℕ) (o : Outcome) : Type 0 where
  pub state : State
  pub taken : Taken log o.steps state
  pub stops : Stops log o.steps state o.stop
  pub verdict : o.verdict ≡ (finding_of state).verdict
  pub read : LastRead log o.steps o.read

-- "4 on stop 12"; no record is taken, and nothing is read
pub record Unopened (o : Outcome) : Type 0 where
  pub steps : o.steps ≡ 0
  pub stop : o.stop ≡ not_admitted
  pub verdict : o.verdict ≡ is_malformed
  pub read : o.read ≡ nothing_read

pub data Judges (log : List ℕ) (o : Outcome) : Type 0 where
  shut : (Admitted log → ⊥) → Unopened o → Judges log o
  runs : Admitted log → RunTo log o → Judges log o
