-- Memory's answers, with document 01's numbers: 0 where the step is taken. The rows and the reasons are said of these;
-- the code answers with an error in place of a number, and `done_as`, `read_as` and the like tell what its answers
-- are. Assumes nothing.
use Rattle.std.specs.Prelude.{Bool, ℕ}
use Rattle.buffers.specs.declared.Phase.{Phase}
use Rattle.buffers.specs.declared.Store.{Store}
use Rattle.buffers.specs.declared.sources.Source.{Source}
use Rattle.memory.specs.declared.Memory.{Memory}

-- a step's: a refusal hands the same memory back
pub record Done : Type 0 where
  pub no : ℕ
  pub memory : Memory

-- what a look sees, said as the store that would write it. A refused look sees the empty store
pub record Seen : Type 0 where
  pub no : ℕ
  pub store : Store

pub record SeenBit : Type 0 where
  pub no : ℕ
  pub bit : Bool

pub record SeenValue : Type 0 where
  pub no : ℕ
  pub value : ℕ

pub record SeenPhase : Type 0 where
  pub no : ℕ
  pub phase : Phase

-- what the sweep's look sees: it may find the cell free
pub record Swept : Type 0 where
  pub no : ℕ
  pub used : Bool
  pub bit : Bool

-- what each look tells: what it saw, and where that came from. Nothing was read where it is refused
pub record Read : Type 0 where
  pub seen : Seen
  pub from : Source

pub record ReadBit : Type 0 where
  pub seen : SeenBit
  pub from : Source

pub record ReadValue : Type 0 where
  pub seen : SeenValue
  pub from : Source

pub record ReadPhase : Type 0 where
  pub seen : SeenPhase
  pub from : Source

pub record ReadSwept : Type 0 where
  pub seen : Swept
  pub from : Source

-- what an ask that changes nothing is told: the number; what was seen, said as the store that would write it, and
-- where that came from; whether the sweep's cell is occupied
pub record Sight : Type 0 where
  pub no : ℕ
  pub used : Bool
  pub store : Store
  pub from : Source
