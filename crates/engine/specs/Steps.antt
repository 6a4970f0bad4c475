-- One record's step: "When the judge says no", checks 1 to 3, and a commit beside the own steps of the two programs.
-- Assumes nothing.
use Rattle.std.specs.Prelude.{ℕ, eqb, leb, Result, Ok, Err}
use Rattle.base.specs.declared.Refusal.{Refusal}
use Rattle.buffers.specs.declared.sources.Source.{Source}
use Rattle.base.specs.Pick.{pick}
use Rattle.base.specs.Refusals.{as_taken, by_malformed, by_no_process, by_no_kind, by_not_offered, refusal_number}
use Rattle.memory.specs.declared.asks.Ask.{Ask}
use Rattle.memory.specs.declared.asks.Ask.TheVariants as ask
use Rattle.memory.specs.declared.asks.Change.TheVariants as change
use Rattle.memory.specs.Answers.{Sight}
use Rattle.memory.specs.Memories.{max_processes}
use Rattle.memory.specs.Asks.{told_of}
use Rattle.state.specs.declared.Process.{Process}
use Rattle.state.specs.declared.State.{State}
use Rattle.state.specs.declared.Choice.{Choice}
use Rattle.state.specs.States.{Answer, process_of, refused_of, taken_of}
use Rattle.state.specs.declared.acts.Going.{Going}
use Rattle.state.specs.declared.acts.Setting.{Setting}
use Rattle.state.specs.Choices.{is_blank}
use Rattle.state.specs.Acts.{going_on, setting_of}
use Rattle.formed.specs.WellFormed.{well_formed_of}
use Rattle.own.specs.Owns.{own_refuses, own_ask, own_go, answered_of}

-- a commit uses no argument
unfoldable pub commit_refuses_of : Choice → ℕ
commit_refuses_of c = pick (is_blank c) as_taken by_not_offered

-- 2: "the process is above M", and there are at most 5 processes; 3: "the kind is not 0 (own step) or 1 (commit)".
--    The number of the refusal, or 0
unfoldable pub refuses_of : ℕ → ℕ → Choice → Process → ℕ
refuses_of m n c q =
    pick (leb m c.process) by_no_process
    (pick (leb max_processes c.process) by_no_process
    (pick (eqb c.kind 0) (own_refuses n c q)
    (pick (eqb c.kind 1) (commit_refuses_of c)
    by_no_kind)))

-- what the record asks of memory: "A commit applies one's oldest store, unblocked."
unfoldable pub ask_of : Choice → Process → Ask
ask_of c q = pick (eqb c.kind 1) (ask.Make change.Commit) (own_ask c q)

-- how it goes on: a commit leaves the process as it is
unfoldable pub go_of : Choice → Setting → Sight → Process → Going
go_of c z v q = pick (eqb c.kind 1) (going_on q) (own_go c z v q)

-- checks 2 to 11
unfoldable pub inner_of : State → Choice → Answer
inner_of s c =
    let q = process_of s c.process in
    let n = refuses_of s.memory.processes s.memory.cells c q in
    pick (eqb n 0) (answered_of s c.process (λ v. go_of c (setting_of s c.x) v q) (told_of s.memory c.process (ask_of c q))) (refused_of n s)

-- the code's answer, which leaves the state t: what it read goes beside
abbrev pub turned_as : State → Result Source Refusal → Answer
turned_as t (Ok v) = taken_of t
turned_as t (Err r) = refused_of (refusal_number r) t

-- 1: "the state is malformed"
unfoldable pub step_of : State → Choice → Answer
step_of s c = pick (well_formed_of s) (inner_of s c) (refused_of by_malformed s)
