-- The places and the stages, by name. Assumes nothing.
use Rattle.std.specs.Prelude.{ℕ}

-- ---- the places of a mutator's program
abbrev pub top : ℕ
top = 0

abbrev pub store_mark_old : ℕ
store_mark_old = 1

abbrev pub store_mark_y : ℕ
store_mark_y = 2

abbrev pub store_write : ℕ
store_write = 3

abbrev pub noop_fence : ℕ
noop_fence = 4

abbrev pub noop_finish : ℕ
noop_finish = 5

abbrev pub roots_fence : ℕ
roots_fence = 6

abbrev pub roots_mark : ℕ
roots_mark = 7

abbrev pub roots_finish : ℕ
roots_finish = 8

abbrev pub work_fence : ℕ
work_fence = 9

abbrev pub work_finish : ℕ
work_finish = 10

-- ---- the places of the collector's program: the rows of document 01's table
abbrev pub row1_round : ℕ
row1_round = 11

abbrev pub row2_read : ℕ
row2_read = 12

abbrev pub row2_write : ℕ
row2_write = 13

abbrev pub row3_round : ℕ
row3_round = 14

abbrev pub row4_write : ℕ
row4_write = 15

abbrev pub row4_round : ℕ
row4_round = 16

abbrev pub row5_phase : ℕ
row5_phase = 17

abbrev pub row5_alloc : ℕ
row5_alloc = 18

abbrev pub row5_round : ℕ
row5_round = 19

abbrev pub row6_round : ℕ
row6_round = 20

abbrev pub row6_take : ℕ
row6_take = 21

abbrev pub row7_first : ℕ
row7_first = 22

abbrev pub row7_mark : ℕ
row7_mark = 23

abbrev pub row7_next : ℕ
row7_next = 24

abbrev pub row7_drop : ℕ
row7_drop = 25

abbrev pub row8_round : ℕ
row8_round = 26

abbrev pub row8_take : ℕ
row8_take = 27

abbrev pub row9_write : ℕ
row9_write = 28

abbrev pub row10_look : ℕ
row10_look = 29

abbrev pub row10_free : ℕ
row10_free = 30

abbrev pub row11_write : ℕ
row11_write = 31

-- ---- the stages of a mark, and of a round; 0 where there is neither
abbrev pub no_stage : ℕ
no_stage = 0

abbrev pub look_stage : ℕ
look_stage = 1

abbrev pub sense_stage : ℕ
sense_stage = 2

abbrev pub phase_stage : ℕ
phase_stage = 3

abbrev pub lock_stage : ℕ
lock_stage = 4

abbrev pub again_stage : ℕ
again_stage = 5

abbrev pub write_stage : ℕ
write_stage = 6

abbrev pub unlock_stage : ℕ
unlock_stage = 7

abbrev pub fence_stage : ℕ
fence_stage = 1

abbrev pub type_stage : ℕ
type_stage = 2

abbrev pub raise_stage : ℕ
raise_stage = 3

abbrev pub poll_stage : ℕ
poll_stage = 4
