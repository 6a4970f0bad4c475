-- "A round is: fence; set type (all in-step bits off; the system's handshake phase advances for no-op and roots);
-- raise each flag once, x naming the mutator; poll, x naming one still awaited, until none is. A poll that finds the
-- flag up is taken and changes nothing." What a step offers, what it asks of memory, and how it goes on.
-- The collector is q now, in the round r. Assumes nothing.
use Rattle.std.specs.Prelude.{Bool, false, ℕ, eqb}
use Rattle.base.specs.Pick.{pick}
use Rattle.cells.specs.Sets.{remove_of, full_of}
use Rattle.memory.specs.declared.asks.Ask.{Ask}
use Rattle.memory.specs.declared.asks.Ask.TheVariants as ask
use Rattle.state.specs.declared.Process.{Process}
use Rattle.state.specs.declared.Choice.{Choice}
use Rattle.state.specs.declared.acts.Act.TheVariants as act
use Rattle.state.specs.declared.acts.Going.{Going}
use Rattle.state.specs.declared.acts.Setting.{Setting}
use Rattle.state.specs.Codes.{fence_stage, type_stage, raise_stage, poll_stage}
use Rattle.state.specs.States.{at, leaving}
use Rattle.state.specs.Choices.{is_blank, is_naming}
use Rattle.state.specs.Acts.{going_on, going_with}
use Rattle.rounds.specs.declared.Round.{Round}

-- ---- what is offered: "raise each flag once, x naming the mutator; poll, x naming one still awaited"
unfoldable pub round_offers : Choice → Process → Bool
round_offers c q =
    pick (eqb q.stage fence_stage) (is_blank c)
    (pick (eqb q.stage type_stage) (is_blank c)
    (pick (eqb q.stage raise_stage) (is_naming c q.left)
    (pick (eqb q.stage poll_stage) (is_naming c q.left)
    false)))

-- ---- what is asked: "fence"
unfoldable pub round_ask : Process → Ask
round_ask q = pick (eqb q.stage fence_stage) ask.Fence ask.Nothing

-- ---- how it goes on
abbrev pub round_fenced : Process → Process
round_fenced q = at q.place type_stage q

-- "set type": every flag is then to be raised
abbrev pub typing : ℕ → Process → Process
typing all q = at q.place raise_stage (leaving all q)

-- "raise each flag once": the last one raised, all are awaited
unfoldable pub raising : ℕ → ℕ → Process → Process
raising all left q = pick (eqb left 0) (at q.place poll_stage (leaving all q)) (leaving left q)

-- "until none is"
unfoldable pub polling : ℕ → Process → Round → Process
polling left q r = pick (eqb left 0) (at r.place r.stage (leaving left q)) (leaving left q)

-- "A poll that finds the flag up is taken and changes nothing."
unfoldable pub poll_go : Bool → Choice → Process → Round → Process
poll_go up c q r = pick up q (polling (remove_of q.left c.x) q r)

unfoldable pub round_go : Choice → Setting → Process → Round → Going
round_go c z q r =
    pick (eqb q.stage fence_stage) (going_on (round_fenced q))
    (pick (eqb q.stage type_stage) (going_with (act.Types r.kind) (typing (full_of z.mutators) q))
    (pick (eqb q.stage raise_stage) (going_with (act.Raises c.x) (raising (full_of z.mutators) (remove_of q.left c.x) q))
    (pick (eqb q.stage poll_stage) (going_on (poll_go z.up c q r))
    (going_on q))))
