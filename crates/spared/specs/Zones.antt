-- Where the clauses of the published claim hold: tests of the collector's place and stage, and of a mutator's
-- handshake phase. Assumes nothing.
use Rattle.std.specs.Prelude.{Bool, true, false, ◌&&◌, ◌||◌, List, [], ◌∷◌, ℕ, eqb, leb}
use Rattle.state.specs.declared.Handshake.{Handshake}
use Rattle.state.specs.declared.Handshake.TheVariants as hand
use Rattle.state.specs.Codes.{store_mark_old, store_mark_y, store_write, noop_finish, roots_mark, roots_finish, work_finish, row2_write, row3_round, row6_round, row6_take, row7_first, row7_mark, row7_next, row7_drop, row8_round, row8_take, row9_write, row10_look, row10_free, row11_write, fence_stage, raise_stage}
use Rattle.formed.specs.Fits.{among_of}

-- a mutator's places: of a running store; of one that has marked the old value; after the fence of an answer; of a
-- root answer's marks and after them
abbrev pub store_places : List ℕ
store_places = store_mark_old ∷ store_mark_y ∷ store_write ∷ []

abbrev pub insert_places : List ℕ
insert_places = store_mark_y ∷ store_write ∷ []

abbrev pub fenced_places : List ℕ
fenced_places = noop_finish ∷ roots_mark ∷ roots_finish ∷ work_finish ∷ []

abbrev pub root_places : List ℕ
root_places = roots_mark ∷ roots_finish ∷ []

-- row 7, and row 7 with its x in hand
abbrev pub in_scan : ℕ → Bool
in_scan place = among_of place (row7_first ∷ row7_mark ∷ row7_next ∷ row7_drop ∷ [])

abbrev pub in_hand : ℕ → Bool
in_hand place = among_of place (row7_mark ∷ row7_next ∷ row7_drop ∷ [])

-- rows 11, 1 and 2: from the sweep's end to the flip
abbrev pub rests : ℕ → Bool
rests place = leb place row2_write || eqb place row11_write

-- from the end of marking to the fence of row 3
abbrev pub quiet : ℕ → ℕ → Bool
quiet place stage = leb row9_write place || leb place row2_write || (eqb place row3_round && eqb stage fence_stage)

-- the rounds of rows 6 and 8 once their type is set, and their takes
abbrev pub gathers : ℕ → ℕ → Bool
gathers place stage = ((eqb place row6_round || eqb place row8_round) && leb raise_stage stage) || eqb place row6_take || eqb place row8_take

-- from row 6's type to row 9's write
abbrev pub region : ℕ → ℕ → Bool
region place stage = (eqb place row6_round && leb raise_stage stage) || (leb row6_take place && leb place row9_write)

-- row 10
abbrev pub in_sweep : ℕ → Bool
in_sweep place = eqb place row10_look || eqb place row10_free

-- "a handshake phase for .. each mutator": what it stores is marked from InitMark on, what it overwrites from Mark on
abbrev pub inserting : Handshake → Bool
inserting hand.Idle = false
inserting hand.IdleInit = false
inserting hand.InitMark = true
inserting hand.Mark = true
inserting hand.IdleMarkSweep = true

abbrev pub deleting : Handshake → Bool
deleting hand.Idle = false
deleting hand.IdleInit = false
deleting hand.InitMark = false
deleting hand.Mark = true
deleting hand.IdleMarkSweep = true
