-- An own step of either program: what its place offers, what it asks of memory, and how it goes on with what was
-- seen. The place tells the program. Assumes nothing.
use Rattle.std.specs.Prelude.{Bool, ℕ, eqb, ltb}
use Rattle.base.specs.Pick.{pick}
use Rattle.base.specs.Refusals.{as_taken, by_not_offered, by_flag_down}
use Rattle.memory.specs.declared.asks.Ask.{Ask}
use Rattle.memory.specs.Answers.{Sight}
use Rattle.memory.specs.Asks.{Told}
use Rattle.state.specs.declared.Process.{Process}
use Rattle.state.specs.declared.State.{State}
use Rattle.state.specs.declared.Choice.{Choice}
use Rattle.state.specs.States.{Answer, with_memory, refused_of, taken_of}
use Rattle.state.specs.declared.acts.Going.{Going}
use Rattle.state.specs.declared.acts.Setting.{Setting}
use Rattle.state.specs.Codes.{row1_round}
use Rattle.state.specs.Acts.{going_on, went_of}
use Rattle.own.specs.declared.Program.{Program}
use Rattle.own.specs.declared.Program.TheVariants as program
use Rattle.marking.specs.Marks.{is_site_of, mark_offers, mark_ask, mark_go}
use Rattle.mutator.specs.Mutators.{mutator_offers, flag_waits, mutator_ask, mutator_go}
use Rattle.collector.specs.Collectors.{collector_offers, collector_ask, collector_go}

-- ---- the program of a place
unfoldable pub program_at_of : ℕ → Program
program_at_of k = pick (is_site_of k) program.Mark (pick (ltb k row1_round) program.Mutator program.Collector)

-- ---- checks 4 and 6, among n cells: the number of the refusal, or 0
unfoldable pub own_offers : ℕ → Choice → Process → Bool
own_offers n c q =
    pick (is_site_of q.place) (mark_offers c q)
    (pick (ltb q.place row1_round) (mutator_offers n c q)
    (collector_offers c q))

unfoldable pub own_refuses : ℕ → Choice → Process → ℕ
own_refuses n c q = pick (own_offers n c q) (pick (flag_waits c q) by_flag_down as_taken) by_not_offered

-- ---- what is asked of memory
unfoldable pub own_ask : Choice → Process → Ask
own_ask c q =
    pick (is_site_of q.place) (mark_ask c q)
    (pick (ltb q.place row1_round) (mutator_ask c q)
    (collector_ask c q))

-- ---- how it goes on
unfoldable pub own_go : Choice → Setting → Sight → Process → Going
own_go c z v q =
    pick (is_site_of q.place) (going_on (mark_go c v.store q))
    (pick (ltb q.place row1_round) (mutator_go c v.store z.system q)
    (collector_go c z v q))

-- memory's answer to process p: refused, or the process goes on with what was seen
unfoldable pub answered_of : State → ℕ → (Sight → Going) → Told → Answer
answered_of s p go t = pick (eqb t.no 0) (taken_of (went_of (with_memory s t.memory) p (go t.sight))) (refused_of t.no s)
