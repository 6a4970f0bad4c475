-- "Marking a cell r": "Null: nothing. Otherwise: look at r's mark; read fM, stop if equal; read phase, stop if Idle;
-- lock; look again; if the two looks agree, write mark := noted fM (r is now being greyed); unlock. .. Each of these
-- seven is one step." What a step offers, what it asks of memory, and how it goes on with what was seen.
-- Assumes nothing.
use Rattle.std.specs.Prelude.{Bool, true, false, ℕ, eqb}
use Rattle.base.specs.Pick.{pick, same_bit}
use Rattle.base.specs.Every.{◌and◌}
use Rattle.cells.specs.Sets.{add_of, remove_of}
use Rattle.buffers.specs.declared.Phase.{Phase}
use Rattle.buffers.specs.declared.Phase.TheVariants as phase
use Rattle.buffers.specs.declared.Spot.TheVariants as spot
use Rattle.buffers.specs.declared.Store.{Store}
use Rattle.buffers.specs.declared.Store.TheVariants as store
use Rattle.buffers.specs.Stores.{bit_of, phase_of}
use Rattle.memory.specs.declared.asks.Ask.{Ask}
use Rattle.memory.specs.declared.asks.Ask.TheVariants as ask
use Rattle.memory.specs.declared.asks.Change.TheVariants as change
use Rattle.state.specs.declared.Process.{Process}
use Rattle.state.specs.declared.Choice.{Choice}
use Rattle.state.specs.Codes.{store_mark_old, store_mark_y, store_write, roots_mark, roots_finish, row7_mark, row7_next, row7_drop, no_stage, look_stage, sense_stage, phase_stage, lock_stage, again_stage, write_stage, unlock_stage}
use Rattle.state.specs.States.{at, leaving, marking, listing}
use Rattle.state.specs.Choices.{is_blank, is_naming}

-- the sites: a store's old value and its y, a root, and a field's value in row 7
unfoldable pub is_site_of : ℕ → Bool
is_site_of k =
    pick (eqb k store_mark_old) true
    (pick (eqb k store_mark_y) true
    (pick (eqb k roots_mark) true
    (pick (eqb k row7_mark) true
    false)))

-- ---- what is offered: "the choice x naming which remaining one at its first look"; else nothing
unfoldable pub names_root_of : Process → Bool
names_root_of q = eqb q.place roots_mark and eqb q.stage look_stage

unfoldable pub mark_offers : Choice → Process → Bool
mark_offers c q = pick (names_root_of q) (is_naming c q.left) (is_blank c)

-- ---- what is asked. The cell being marked: a running store's old value or y, the root that is named, else the one
-- noted
unfoldable pub marked_cell : Choice → Process → ℕ
marked_cell c q =
    pick (eqb q.place store_mark_old) q.old
    (pick (eqb q.place store_mark_y) q.y
    (pick (names_root_of q) c.x
    q.cell))

-- "look at r's mark; read fM, ..; read phase, ..; lock; look again; .. write mark := noted fM ..; unlock"
unfoldable pub stage_ask_of : ℕ → Process → Ask
stage_ask_of r q =
    pick (eqb q.stage look_stage) (ask.Look (spot.Mark r))
    (pick (eqb q.stage sense_stage) (ask.Look spot.Sense)
    (pick (eqb q.stage phase_stage) (ask.Look spot.Phase)
    (pick (eqb q.stage lock_stage) (ask.Make change.Lock)
    (pick (eqb q.stage again_stage) (ask.Look (spot.Mark r))
    (pick (eqb q.stage write_stage) (ask.Make (change.Write (store.Mark r q.sense)))
    (pick (eqb q.stage unlock_stage) (ask.Make change.Unlock)
    ask.Nothing))))))

unfoldable pub mark_ask : Choice → Process → Ask
mark_ask c q = stage_ask_of (marked_cell c q) q

-- ---- how it goes on. The root that is named leaves those left, and is the cell to mark
unfoldable pub named_root_of : Choice → Process → Process
named_root_of c q = pick (names_root_of q) (leaving (remove_of q.left c.x) (marking c.x q.look q.sense q.grey q)) q

-- the mark goes on at the stage j
abbrev pub on_stage : ℕ → Process → Process
on_stage j q = at q.place j q

-- the mark is over: "notes once their .. mark .. is over (not the collector's noted fM ..)" are zero
unfoldable pub over_of : ℕ → Process → Process
over_of p q = pick (eqb p 0) (on_stage no_stage (marking 0 false q.sense 0 q)) (on_stage no_stage (marking 0 false false 0 q))

-- "look at r's mark"
unfoldable pub look_go : Bool → Process → Process
look_go b q = on_stage sense_stage (marking q.cell b q.sense q.grey q)

-- "read fM, stop if equal"; "The collector's read of fM here renews its one noted fM."
unfoldable pub sense_go : ℕ → Bool → Process → Process
sense_go p b q =
    pick (same_bit q.look b)
    (over_of p (marking q.cell q.look b q.grey q))
    (on_stage phase_stage (marking q.cell q.look b q.grey q))

-- "read phase, stop if Idle"
abbrev pub is_idle_of : Phase → Bool
is_idle_of phase.Idle = true
is_idle_of phase.Init = false
is_idle_of phase.Mark = false
is_idle_of phase.Sweep = false

unfoldable pub phase_go : ℕ → Phase → Process → Process
phase_go p h q = pick (is_idle_of h) (over_of p q) (on_stage lock_stage q)

-- "look again; if the two looks agree, .."
unfoldable pub again_go : Bool → Process → Process
again_go b q = pick (same_bit q.look b) (on_stage write_stage q) (on_stage unlock_stage q)

-- ".. write mark := noted fM (r is now being greyed)"
unfoldable pub write_go : ℕ → Process → Process
write_go r q = on_stage unlock_stage (marking q.cell q.look q.sense r q)

-- "unlock. The unlock also puts a winner's r on its list and ends its greying."
unfoldable pub unlock_go : ℕ → ℕ → Process → Process
unlock_go p r q = pick (eqb q.grey 0) (over_of p q) (over_of p (listing (add_of q.work r) q.roots q))

-- a step of the mark of r by p, at its stage, with what was seen
unfoldable pub stage_go_of : ℕ → ℕ → Store → Process → Process
stage_go_of p r v q =
    pick (eqb q.stage look_stage) (look_go (bit_of v) q)
    (pick (eqb q.stage sense_stage) (sense_go p (bit_of v) q)
    (pick (eqb q.stage phase_stage) (phase_go p (phase_of v) q)
    (pick (eqb q.stage lock_stage) (on_stage again_stage q)
    (pick (eqb q.stage again_stage) (again_go (bit_of v) q)
    (pick (eqb q.stage write_stage) (write_go r q)
    (pick (eqb q.stage unlock_stage) (unlock_go p r q)
    q))))))

-- where the process goes when the mark of its site is over: "then mark the old; mark y; write the field"; "mark each
-- root"; to "a field not yet scanned", or to the drop
unfoldable pub past_of : Process → Process
past_of q =
    pick (eqb q.place store_mark_old) (pick (eqb q.y 0) (at store_write q.stage q) (at store_mark_y look_stage q))
    (pick (eqb q.place store_mark_y) (at store_write q.stage q)
    (pick (eqb q.place roots_mark) (pick (eqb q.left 0) (at roots_finish q.stage q) (on_stage look_stage q))
    (pick (eqb q.place row7_mark) (pick (eqb q.left 0) (at row7_drop q.stage q) (at row7_next q.stage q))
    q)))

-- a mark that is over has no stage
unfoldable pub past_over_of : Process → Process
past_over_of q = pick (eqb q.stage no_stage) (past_of q) q

unfoldable pub mark_go : Choice → Store → Process → Process
mark_go c v q = past_over_of (stage_go_of c.process (marked_cell c q) v (named_root_of c q))
