-- "Mutator": a mutator's program, but for its marks. What each place offers, what its step asks of memory, and how it
-- goes on with what was seen. Assumes nothing.
use Rattle.std.specs.Prelude.{Bool, true, false, not, ℕ, ◌+◌, eqb, leb, ltb}
use Rattle.base.specs.Pick.{pick}
use Rattle.base.specs.Every.{◌and◌}
use Rattle.cells.specs.Sets.{member_of, add_of, remove_of, union_of}
use Rattle.buffers.specs.declared.Spot.TheVariants as spot
use Rattle.buffers.specs.declared.Store.{Store}
use Rattle.buffers.specs.declared.Store.TheVariants as store
use Rattle.buffers.specs.Fits.{is_cell_of}
use Rattle.buffers.specs.Stores.{value_of}
use Rattle.memory.specs.declared.asks.Ask.{Ask}
use Rattle.memory.specs.declared.asks.Ask.TheVariants as ask
use Rattle.memory.specs.declared.asks.Change.TheVariants as change
use Rattle.state.specs.declared.Handshake.{Handshake}
use Rattle.state.specs.declared.RoundType.{RoundType}
use Rattle.state.specs.declared.RoundType.TheVariants as round
use Rattle.state.specs.declared.System.{System}
use Rattle.state.specs.declared.Process.{Process}
use Rattle.state.specs.declared.Choice.{Choice}
use Rattle.state.specs.declared.acts.Act.TheVariants as act
use Rattle.state.specs.declared.acts.Going.{Going}
use Rattle.state.specs.Codes.{top, store_mark_old, store_write, noop_fence, noop_finish, roots_fence, roots_mark, roots_finish, work_fence, work_finish, look_stage}
use Rattle.state.specs.States.{next_of, at, noting, leaving, listing, shaking}
use Rattle.state.specs.Choices.{is_blank, is_bare, is_of_x}
use Rattle.state.specs.Acts.{going_on, going_with}
use Rattle.marking.specs.Marks.{past_of}

-- ---- what is offered, among n cells. "At top the choice names an operation: 0 allocate free cell x": "cell 0 or
-- above N" is none
unfoldable pub allocates : ℕ → Choice → Bool
allocates n c = is_of_x c and is_cell_of n c.x

-- "1 drop root x"
unfoldable pub drops : Choice → Process → Bool
drops c q = is_of_x c and member_of q.roots c.x

-- "2 read field f of root x"
unfoldable pub reads_field_of : Choice → Process → Bool
reads_field_of c q = leb c.f 1 and eqb c.y 0 and member_of q.roots c.x

-- "3 store y (a root or 0) in field f of root x"
unfoldable pub stores_field_of : Choice → Process → Bool
stores_field_of c q = leb c.f 1 and member_of q.roots c.x and (pick (eqb c.y 0) true (member_of q.roots c.y))

-- "4 fence"; "5 answer a raised handshake"; "operation above 5": none
unfoldable pub top_offers_of : ℕ → Choice → Process → Bool
top_offers_of n c q =
    pick (eqb c.op 0) (allocates n c)
    (pick (eqb c.op 1) (drops c q)
    (pick (eqb c.op 2) (reads_field_of c q)
    (pick (eqb c.op 3) (stores_field_of c q)
    (pick (eqb c.op 4) (is_bare c)
    (pick (eqb c.op 5) (is_bare c)
    false)))))

-- past top the place uses no argument; one that is none of a mutator's offers nothing
unfoldable pub mutator_offers : ℕ → Choice → Process → Bool
mutator_offers n c q = pick (eqb q.place top) (top_offers_of n c q) (pick (ltb q.place (work_finish + 1)) (is_blank c) false)

-- "operation 5, flag down"
unfoldable pub flag_waits : Choice → Process → Bool
flag_waits c q = eqb q.place top and eqb c.op 5 and not q.part.raised

-- ---- what is asked. At top, by the operation: allocate, drop, read, store (which reads the old value), fence, answer
unfoldable pub top_ask_of : Choice → Ask
top_ask_of c =
    pick (eqb c.op 0) (ask.Make (change.Allocate c.x))
    (pick (eqb c.op 2) (ask.Look (spot.Field c.x c.f))
    (pick (eqb c.op 3) (ask.Look (spot.Field c.x c.f))
    (pick (eqb c.op 4) ask.Fence
    ask.Nothing)))

unfoldable pub mutator_ask : Choice → Process → Ask
mutator_ask c q =
    pick (eqb q.place top) (top_ask_of c)
    (pick (eqb q.place store_write) (ask.Make (change.Write (store.Field q.x q.f q.y)))
    (pick (eqb q.place noop_fence) ask.Fence
    (pick (eqb q.place roots_fence) ask.Fence
    (pick (eqb q.place work_fence) ask.Fence
    ask.Nothing))))

-- ---- how it goes on. "x becomes a root"; "drop root x"; "a non-null value becomes a root"
abbrev pub rooting : ℕ → Process → Process
rooting r q = listing q.work r q

-- "Store: the first step reads the old value; then mark the old": past its mark if it is null
unfoldable pub storing : Choice → ℕ → Process → Process
storing c old q =
    pick (eqb old 0)
    (past_of (at store_mark_old q.stage (noting c.x c.f c.y old q)))
    (at store_mark_old look_stage (noting c.x c.f c.y old q))

-- "5 answer a raised handshake": "read the type"
abbrev pub answer_place_of : RoundType → ℕ
answer_place_of round.Noop = noop_fence
answer_place_of round.Roots = roots_fence
answer_place_of round.Work = work_fence

unfoldable pub answering : System → Process → Process
answering h q = at (answer_place_of h.kind) q.stage q

unfoldable pub top_go_of : Choice → Store → System → Process → Process
top_go_of c v h q =
    pick (eqb c.op 0) (rooting (add_of q.roots c.x) q)
    (pick (eqb c.op 1) (rooting (remove_of q.roots c.x) q)
    (pick (eqb c.op 2) (rooting (add_of q.roots (value_of v)) q)
    (pick (eqb c.op 3) (storing c (value_of v) q)
    (pick (eqb c.op 4) q
    (pick (eqb c.op 5) (answering h q)
    q)))))

-- "write the field, clearing the honorary root"
unfoldable pub written : Process → Process
written q = at top q.stage (noting 0 0 0 0 q)

abbrev pub to : ℕ → Process → Process
to k q = at k q.stage q

-- "Answer: read the type; fence": then for roots to the first root if there is one, else to the last step
unfoldable pub past_fence_of : Process → Process
past_fence_of q = pick (eqb q.roots 0) (to roots_finish q) (at roots_mark look_stage (leaving q.roots q))

-- "then one step lowers the flag, sets in step, and, for roots or work, moves its list to the system's (joining what
-- is there; a no-op answer moves nothing).
-- That step advances the mutator's handshake phase for no-op and roots."
unfoldable pub stepping : Handshake → Process → Process
stepping h q = at top q.stage (shaking false true h q)

abbrev pub phase_now_of : Process → Handshake
phase_now_of q = q.part.phase

abbrev pub phase_next_of : Process → Handshake
phase_next_of q = next_of q.part.phase

unfoldable pub handing : Handshake → System → Process → Going
handing p h q = going_with (act.Lists (union_of h.work q.work)) (stepping p (listing 0 q.roots q))

unfoldable pub mutator_go : Choice → Store → System → Process → Going
mutator_go c v h q =
    pick (eqb q.place top) (going_on (top_go_of c v h q))
    (pick (eqb q.place store_write) (going_on (written q))
    (pick (eqb q.place noop_fence) (going_on (to noop_finish q))
    (pick (eqb q.place noop_finish) (going_on (stepping (phase_next_of q) q))
    (pick (eqb q.place roots_fence) (going_on (past_fence_of q))
    (pick (eqb q.place roots_finish) (handing (phase_next_of q) h q)
    (pick (eqb q.place work_fence) (going_on (to work_finish q))
    (pick (eqb q.place work_finish) (handing (phase_now_of q) h q)
    (going_on q))))))))
