-- Records as bytes, written from choices: "Records of 8 bytes: process, kind, operation, x, f, y, and a 16-bit check
-- equal to the sum of those six plus 1". And what is proved of them, each statement by its name. Assumes nothing.
use Rattle.std.specs.Prelude.{◌≡◌, List, [], ◌∷◌, ◌++◌, ℕ, ◌≤◌, ◌<◌, length, get_or}
use Rattle.state.specs.declared.Choice.{Choice}
use Rattle.state.specs.declared.opening.Heap.{Heap}
use Rattle.header.specs.Bytes.{per_byte}
use Rattle.header.specs.Header.{max_log}
use Rattle.header.specs.Admitted.{IsVersion}
use Rattle.header.specs.Written.{little_of, in_turn, Bytes, bytes_of, SaidIn, Opens}
use Rattle.runlog.specs.declared.record.Record.{Record}
use Rattle.runlog.specs.Records.{record_size, record_at, check_sum_of}
use Rattle.runlog.specs.Rule.{record_of, RightCheck}
use Rattle.runlog.specs.Statements.{choices_of}

-- ---- the bytes of a choice
-- "a 16-bit check"
abbrev pub check_size : ℕ
check_size = 2

-- "process, kind, operation, x, f, y"
abbrev pub six_of : Choice → List ℕ
six_of c = c.process ∷ c.kind ∷ c.op ∷ c.x ∷ c.f ∷ c.y ∷ []

abbrev pub record_bytes : Choice → List ℕ
record_bytes c = six_of c ++ little_of check_size (check_sum_of c)

-- its six numbers are bytes
pub record ChoiceFits (c : Choice) : Type 0 where
  pub process : c.process < per_byte
  pub kind : c.kind < per_byte
  pub op : c.op < per_byte
  pub x : c.x < per_byte
  pub f : c.f < per_byte
  pub y : c.y < per_byte

-- the record of a choice with the check that it should have
abbrev pub right_record : Choice → Record
right_record c = record { choice = c; check = check_sum_of c }

-- ---- a whole log: the header of a heap in a version, and a record for each choice
abbrev pub no_choice : Choice
no_choice = record { process = 0; kind = 0; op = 0; x = 0; f = 0; y = 0 }

abbrev pub choice_of : List Choice → ℕ → Choice
choice_of cs k = get_or cs k no_choice

abbrev pub ChoicesFit : List Choice → Type 0
ChoicesFit cs = (k : ℕ) → k < length cs → ChoiceFits (choice_of cs k)

abbrev pub records_of : List Choice → List ℕ
records_of cs = in_turn (length cs) (λ k. record_bytes (choice_of cs k))

abbrev pub log_of : ℕ → Heap → List Choice → List ℕ
log_of v h cs = bytes_of v h ++ records_of cs

-- ---- what is proved of them
-- "Records of 8 bytes"
abbrev pub WrittenEight : Type 0
WrittenEight = (c : Choice) → length (record_bytes c) ≡ record_size

abbrev pub WrittenRecordBytes : Type 0
WrittenRecordBytes = (c : Choice) → ChoiceFits c → Bytes (record_bytes c)

-- read again at any place of a log they give the choice, and its check is right
abbrev pub WrittenRecordRead : Type 0
WrittenRecordRead = (before after : List ℕ) (c : Choice) → ChoiceFits c → record_at (before ++ (record_bytes c ++ after)) (length before) ≡ right_record c

abbrev pub WrittenRight : Type 0
WrittenRight = (before after : List ℕ) (c : Choice) → ChoiceFits c → RightCheck (record_at (before ++ (record_bytes c ++ after)) (length before))

-- a log written whole is an admitted log of bytes, and its records are those of the choices
abbrev pub LogOpens : Type 0
LogOpens = (v : ℕ) (h : Heap) (cs : List Choice) → SaidIn v h → ChoicesFit cs → length (log_of v h cs) ≤ max_log → Opens (log_of v h cs)

abbrev pub LogRecords : Type 0
LogRecords = (v : ℕ) (h : Heap) (cs : List Choice) → IsVersion v → ChoicesFit cs → (k : ℕ) → k < length cs → record_of (log_of v h cs) k ≡ right_record (choice_of cs k)

abbrev pub LogChoices : Type 0
LogChoices = (v : ℕ) (h : Heap) (cs : List Choice) → IsVersion v → ChoicesFit cs → choices_of (log_of v h cs) (length cs) ≡ cs
