-- "Collector": rows 1 to 11 of its table, but for row 7's mark. What each place offers, what its step asks of
-- memory, and how it goes on with what was seen. Assumes nothing.
use Rattle.std.specs.Prelude.{Bool, true, false, not, ℕ, ◌+◌, eqb, ltb}
use Rattle.base.specs.Pick.{pick, same_bit}
use Rattle.cells.specs.Sets.{remove_of, full_of}
use Rattle.buffers.specs.declared.Phase.TheVariants as phase
use Rattle.buffers.specs.declared.Spot.TheVariants as spot
use Rattle.buffers.specs.declared.Store.TheVariants as store
use Rattle.buffers.specs.Stores.{bit_of, value_of}
use Rattle.memory.specs.declared.asks.Ask.{Ask}
use Rattle.memory.specs.declared.asks.Ask.TheVariants as ask
use Rattle.memory.specs.declared.asks.Change.TheVariants as change
use Rattle.memory.specs.Answers.{Sight}
use Rattle.state.specs.declared.RoundType.TheVariants as round
use Rattle.state.specs.declared.Process.{Process}
use Rattle.state.specs.declared.Choice.{Choice}
use Rattle.state.specs.declared.acts.Act.TheVariants as act
use Rattle.state.specs.declared.acts.Going.{Going}
use Rattle.state.specs.declared.acts.Setting.{Setting}
use Rattle.state.specs.Codes.{row1_round, row2_read, row2_write, row3_round, row4_write, row4_round, row5_phase, row5_alloc, row5_round, row6_round, row6_take, row7_first, row7_mark, row7_next, row7_drop, row8_round, row8_take, row9_write, row10_look, row10_free, row11_write, no_stage, look_stage, fence_stage}
use Rattle.state.specs.States.{at, noting, leaving, marking, listing}
use Rattle.state.specs.Choices.{all_fields, field_left_of, is_blank, is_naming, is_scanning, is_scanning_on}
use Rattle.state.specs.Acts.{going_on, going_with}
use Rattle.marking.specs.Marks.{past_of}
use Rattle.rounds.specs.declared.Round.{Round}
use Rattle.rounds.specs.Rounds.{round_offers, round_ask, round_go}

-- the rounds of rows 1, 3, 4, 5, 6 and 8
unfoldable pub is_round_of : ℕ → Bool
is_round_of k =
    pick (eqb k row1_round) true
    (pick (eqb k row3_round) true
    (pick (eqb k row4_round) true
    (pick (eqb k row5_round) true
    (pick (eqb k row6_round) true
    (pick (eqb k row8_round) true
    false)))))

-- ---- what is offered: "x from its list, named at the first read"; "the choice's f names a field not yet scanned";
-- "for each cell number, x naming one left"; else no argument. A place that is none of the collector's offers nothing
unfoldable pub row_offers_of : Choice → Process → Bool
row_offers_of c q =
    pick (eqb q.place row7_first) (is_scanning c q.work)
    (pick (eqb q.place row7_next) (is_scanning_on c q.left)
    (pick (eqb q.place row10_look) (is_naming c q.left)
    (pick (ltb q.place row1_round) false
    (pick (ltb q.place (row11_write + 1)) (is_blank c)
    false))))

unfoldable pub collector_offers : Choice → Process → Bool
collector_offers c q = pick (is_round_of q.place) (round_offers c q) (row_offers_of c q)

-- ---- what is asked, row by row
unfoldable pub row_ask_of : Choice → Process → Ask
row_ask_of c q =
    pick (eqb q.place row2_read) (ask.Look spot.Sense)
    (pick (eqb q.place row2_write) (ask.Make (change.Write (store.Sense (not q.sense))))
    (pick (eqb q.place row4_write) (ask.Make (change.Write (store.Phase phase.Init)))
    (pick (eqb q.place row5_phase) (ask.Make (change.Write (store.Phase phase.Mark)))
    (pick (eqb q.place row5_alloc) (ask.Make (change.Write (store.AllocSense q.sense)))
    (pick (eqb q.place row7_first) (ask.Look (spot.Field c.x c.f))
    (pick (eqb q.place row7_next) (ask.Look (spot.Field q.x c.f))
    (pick (eqb q.place row9_write) (ask.Make (change.Write (store.Phase phase.Sweep)))
    (pick (eqb q.place row10_look) (ask.Sweep c.x)
    (pick (eqb q.place row10_free) (ask.Make (change.Free q.x))
    (pick (eqb q.place row11_write) (ask.Make (change.Write (store.Phase phase.Idle)))
    ask.Nothing))))))))))

unfoldable pub collector_ask : Choice → Process → Ask
collector_ask c q = pick (is_round_of q.place) (round_ask q) (row_ask_of c q)

-- ---- how it goes on
-- row 2: "read fM, then write its opposite, which becomes the noted fM"
unfoldable pub sensed : Bool → Process → Process
sensed b q = at row2_write q.stage (marking q.cell q.look b q.grey q)

unfoldable pub flipped : Process → Process
flipped q = at row3_round fence_stage (marking q.cell q.look (not q.sense) q.grey q)

-- rows 6 and 8: "it replaces the collector's own); empty: row 9"
unfoldable pub taking : ℕ → Process → Process
taking w q = pick (eqb w 0) (at row9_write q.stage (listing w q.roots q)) (at row7_first q.stage (listing w q.roots q))

-- row 7: the fields left past the one that the choice names; "mark it", or past the mark if it is null
unfoldable pub others_of : ℕ → Choice → ℕ
others_of l c = remove_of l (field_left_of c.f)

unfoldable pub scanning : ℕ → ℕ → ℕ → Process → Process
scanning x l v q =
    pick (eqb v 0)
    (past_of (at row7_mark q.stage (leaving l (noting x q.f q.y q.old q))))
    (at row7_mark look_stage (marking v q.look q.sense q.grey (leaving l (noting x q.f q.y q.old q))))

-- "drop x (one step); until empty"
unfoldable pub dropping : ℕ → Process → Process
dropping w q =
    pick (eqb w 0)
    (at row8_round fence_stage (listing w q.roots (noting 0 q.f q.y q.old q)))
    (at row7_first q.stage (listing w q.roots (noting 0 q.f q.y q.old q)))

-- row 10: "for each cell number"
unfoldable pub sweep_from_of : ℕ → Process → Process
sweep_from_of n q = at row10_look q.stage (leaving (full_of n) q)

unfoldable pub sweeping : Process → Process
sweeping q =
    pick (eqb q.left 0)
    (at row11_write q.stage (noting 0 q.f q.y q.old q))
    (at row10_look q.stage (noting 0 q.f q.y q.old q))

-- "look at the mark; occupied and unequal to noted fM: free it, as a further step"
unfoldable pub swept : ℕ → Bool → Bool → Process → Process
swept x u b q =
    pick u
    (pick (same_bit q.sense b)
    (sweeping (leaving (remove_of q.left x) q))
    (at row10_free q.stage (noting x q.f q.y q.old (leaving (remove_of q.left x) q))))
    (sweeping (leaving (remove_of q.left x) q))

-- the round of a place: its type, and the place and stage that follow it
unfoldable pub row_round_of : ℕ → Round
row_round_of k =
    pick (eqb k row1_round) (record { kind = round.Noop; place = row2_read; stage = no_stage })
    (pick (eqb k row3_round) (record { kind = round.Noop; place = row4_write; stage = no_stage })
    (pick (eqb k row4_round) (record { kind = round.Noop; place = row5_phase; stage = no_stage })
    (pick (eqb k row5_round) (record { kind = round.Noop; place = row6_round; stage = fence_stage })
    (pick (eqb k row6_round) (record { kind = round.Roots; place = row6_take; stage = no_stage })
    (record { kind = round.Work; place = row8_take; stage = no_stage })))))

-- among n cells
unfoldable pub row_go_of : Choice → ℕ → Sight → Process → Process
row_go_of c n v q =
    pick (eqb q.place row2_read) (sensed (bit_of v.store) q)
    (pick (eqb q.place row2_write) (flipped q)
    (pick (eqb q.place row4_write) (at row4_round fence_stage q)
    (pick (eqb q.place row5_phase) (at row5_alloc no_stage q)
    (pick (eqb q.place row5_alloc) (at row5_round fence_stage q)
    (pick (eqb q.place row7_first) (scanning c.x (others_of all_fields c) (value_of v.store) q)
    (pick (eqb q.place row7_next) (scanning q.x (others_of q.left c) (value_of v.store) q)
    (pick (eqb q.place row7_drop) (dropping (remove_of q.work q.x) q)
    (pick (eqb q.place row9_write) (sweep_from_of n q)
    (pick (eqb q.place row10_look) (swept c.x v.used (bit_of v.store) q)
    (pick (eqb q.place row10_free) (sweeping q)
    (pick (eqb q.place row11_write) (at row1_round fence_stage q)
    q)))))))))))

-- rows 6 and 8: "take the system's list (one step, emptying it; ..)"
unfoldable pub list_go_of : Choice → Setting → Sight → Process → Going
list_go_of c z v q =
    pick (eqb q.place row6_take) (going_with (act.Lists 0) (taking z.system.work q))
    (pick (eqb q.place row8_take) (going_with (act.Lists 0) (taking z.system.work q))
    (going_on (row_go_of c z.cells v q)))

unfoldable pub collector_go : Choice → Setting → Sight → Process → Going
collector_go c z v q = pick (is_round_of q.place) (round_go c z q (row_round_of q.place)) (list_go_of c z v q)
