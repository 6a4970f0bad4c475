-- The marked table: document 01's "Stalls we know". Each case is a log with its three numbers; case 12 has two logs, as
-- document 02 has them, and two whole headers of 33 cells beside them.
-- Where a line of document 01 gives no steps, none is taken; where it gives no verdict, it is 0, and 4 on stop 12.
-- Assumes nothing.
use Rattle.std.specs.Prelude.{◌≡◌, ℕ, zero, suc, ◌+◌, ◌*◌, set, replicate}
use mathlib.Core.List.{List, [], ◌∷◌, ◌++◌, drop_last}
use mathlib.Mathlib.Data.List.Defs.{Forall}
use Rattle.state.specs.declared.Handshake.TheVariants as hand
use Rattle.state.specs.declared.State.{State}
use Rattle.state.specs.States.{process_of}
use Rattle.header.specs.Header.{version_place, cells_place}
use Rattle.runlog.specs.Answers.{Outcome}
use Rattle.runlog.specs.Runs.{judge_of}
use Rattle.runlog.specs.Statements.{ran_of}

-- ---- the bytes
-- "Base log, 17 bytes": N 2, M 1, cell 1 occupied with null fields, cell 2 free, mutator 1 with the root 1
abbrev pub base : List ℕ
base = 0x4D ∷ 0x47 ∷ 0x54 ∷ 0x01 ∷ 0x00 ∷ 0x02 ∷ 0x01 ∷ 0x01 ∷ 0x00 ∷ 0x00 ∷ 0x00 ∷ 0x00 ∷ 0x00 ∷ 0x01 ∷ 0x00 ∷ 0x00 ∷ 0x00 ∷ []

-- ""a" is the record": mutator 1 allocates cell 2
abbrev pub a : List ℕ
a = 0x01 ∷ 0x00 ∷ 0x00 ∷ 0x02 ∷ 0x00 ∷ 0x00 ∷ 0x04 ∷ 0x00 ∷ []

-- "process, kind, operation, x, f, y, and a 16-bit check equal to the sum of those six plus 1"; here the sum is
-- always below 256
abbrev pub bytes : ℕ → ℕ → ℕ → ℕ → ℕ → ℕ → List ℕ
bytes process kind op x f y = process ∷ kind ∷ op ∷ x ∷ f ∷ y ∷ (process + kind + op + x + f + y + 1) ∷ 0 ∷ []

-- ---- the records: "0 (own step) or 1 (commit)"; the operations are those of a mutator at top
abbrev pub allocate : ℕ → ℕ → List ℕ
allocate p x = bytes p 0 0 x 0 0

abbrev pub store : ℕ → ℕ → ℕ → ℕ → List ℕ
store p x f y = bytes p 0 3 x f y

abbrev pub fence : ℕ → List ℕ
fence p = bytes p 0 4 0 0 0

abbrev pub answer : ℕ → List ℕ
answer p = bytes p 0 5 0 0 0

-- the process's next step, which names nothing, or names x
abbrev pub next : ℕ → List ℕ
next p = bytes p 0 0 0 0 0

abbrev pub naming : ℕ → ℕ → List ℕ
naming p x = bytes p 0 0 x 0 0

abbrev pub commit : ℕ → List ℕ
commit p = bytes p 1 0 0 0 0

-- so many times
abbrev pub times : ℕ → List ℕ → List ℕ
times zero bs = []
times (suc n) bs = bs ++ times n bs

-- ---- the logs that are longer than a record
-- "Store 1 in field 0 of cell 1: four steps": the read, whose old value is null; of the mark of 1 the look and the
-- read of fM, which stops it; the write
abbrev pub store_one : List ℕ
store_one = store 1 1 0 1 ++ next 1 ++ next 1 ++ next 1

-- "Store null in field 0 of cell 1": the read and the write; neither the old value nor y is marked
abbrev pub store_null : List ℕ
store_null = store 1 1 0 0 ++ next 1

-- "Collector: fence, type, raise 1; mutator: answer, fence, finish; collector: poll 1."
abbrev pub round : List ℕ
round = next 0 ++ next 0 ++ naming 0 1 ++ answer 1 ++ next 1 ++ next 1 ++ naming 0 1

-- a header of 33 free cells and one mutator, in version v, with no root in w bytes
abbrev pub free33 : ℕ → ℕ → List ℕ
free33 v w = 0x4D ∷ 0x47 ∷ 0x54 ∷ v ∷ 0x00 ∷ 33 ∷ 0x01 ∷ replicate (3 * 33 + w) 0

-- ---- the table
-- the numbers of the judge's line: "The program's line stays."
pub record Numbers : Type 0 where
  pub steps : ℕ
  pub stop : ℕ
  pub verdict : ℕ

abbrev pub line_of : Outcome → Numbers
line_of o = record { steps = o.steps; stop = o.stop; verdict = o.verdict }

pub record Case : Type 0 where
  pub number : ℕ
  pub log : List ℕ
  pub outcome : Numbers

abbrev pub case : ℕ → List ℕ → Numbers → Case
case number log outcome = record { number = number; log = log; outcome = outcome }

infix 20 steps◌stop◌verdict◌
-- the three numbers, in the order of the judge's line
abbrev pub steps◌stop◌verdict◌ : ℕ → ℕ → ℕ → Numbers
steps n stop m verdict v = record { steps = n; stop = m; verdict = v }

abbrev pub table : List Case
table =
    -- 1. "Base and a: writes exactly `steps 1 stop 0 verdict 0` and a newline."
    case 1 (base ++ a) (steps 1 stop 0 verdict 0)
    -- 2. "The same less its last byte: steps 0, stop 14."
    ∷ case 2 (drop_last (base ++ a)) (steps 0 stop 14 verdict 0)
    -- 3. "Allocate cell 1: stop 10."
    ∷ case 3 (base ++ allocate 1 1) (steps 0 stop 10 verdict 0)
    -- 4. "Cell 3: stop 4."
    ∷ case 4 (base ++ allocate 1 3) (steps 0 stop 4 verdict 0)
    -- 5. "Process 2: stop 2."
    ∷ case 5 (base ++ allocate 2 2) (steps 0 stop 2 verdict 0)
    -- 6. "Mutator commit first: stop 5."
    ∷ case 6 (base ++ commit 1) (steps 0 stop 5 verdict 0)
    -- 7. "Operation 5 first: stop 6."
    ∷ case 7 (base ++ answer 1) (steps 0 stop 6 verdict 0)
    -- 8. "Store 1 in field 0 of cell 1: four steps taken; then operation 4: stop 8."
    ∷ case 8 (base ++ store_one ++ fence 1) (steps 4 stop 8 verdict 0)
    -- 9. "As 8 with a commit before the fence: 6 steps, stop 0."
    ∷ case 9 (base ++ store_one ++ commit 1 ++ fence 1) (steps 6 stop 0 verdict 0)
    -- 10. "Store null in field 0 of cell 1 nine times, no commit: 17 steps, stop 9."
    ∷ case 10 (base ++ times 9 store_null) (steps 17 stop 9 verdict 0)
    -- 11. ".. 7 steps, verdict 0, both phases Idle."
    ∷ case 11 (base ++ round) (steps 7 stop 0 verdict 0)
    -- 12. "Version 2, or N 33: stop 12."; "Marked case 12 now refuses version 3, and N of 33 only in version 1."
    ∷ case 12 (set (base ++ a) version_place 3) (steps 0 stop 12 verdict 4)
    ∷ case 12 (set (base ++ a) cells_place 33) (steps 0 stop 12 verdict 4)
    ∷ case 12 (free33 1 4) (steps 0 stop 12 verdict 4)
    ∷ case 12 (free33 2 8) (steps 0 stop 0 verdict 0)
    ∷ []

-- "both phases Idle": the system's handshake phase and mutator 1's
pub record BothIdle (s : State) : Type 0 where
  pub system : s.system.phase ≡ hand.Idle
  pub mutator : (process_of s 1).part.phase ≡ hand.Idle

-- every case of the table gives its three numbers, and case 11 ends with both phases Idle
pub record MarkedLogs : Type 0 where
  pub numbers : Forall (λ c. line_of (judge_of c.log) ≡ c.outcome) table
  pub idle : BothIdle (ran_of (base ++ round)).state
