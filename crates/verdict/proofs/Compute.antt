-- The definitions compute: findings of states that are written out. Assumes nothing.
use mathlib.Core.Path.{◌≡◌, refl}
use mathlib.Core.List.{[], ◌∷◌}
use Prim.Native.Nat.{ℕ}
use lib.Count.{count_trailing_zeros}
use lib.ListN.{set, replicate}
use Rattle.base.specs.Pick.{same_bit}
use Rattle.cells.specs.Sets.{is_none, member_of, one_of, union_of, minus_of, add_of, first_of}
use Rattle.memory.specs.Memories.{max_cells}
use Rattle.state.specs.declared.opening.Heap.{Heap}
use Rattle.state.specs.Openings.{open_memory, open_collector, open_mutator, open_process, open_system, opening_of}
use Rattle.reach.specs.Held.{of_processes_of, of_buffers_of, held_of}
use Rattle.reach.specs.Reach.{follow_of, pass_of, passes_of, reached_of}
use Rattle.verdict.specs.Colours.{white_of, greys_of, black_of, names_white_of, black_names_white_of, black_to_white_of}
use Rattle.verdict.specs.Table.{in_step_of, behind_of, right_of, wrong_of, broken_of}
use Rattle.verdict.specs.Judged.{is_sound, is_loose, found, loose_of, judged_of}

-- two cells, of which the first is occupied and a root of the one mutator; its first field names d
heap : ℕ → Heap
heap d = record { cells = 2; processes = 2; used = 1; field0 = set (replicate max_cells 0) 0 d; field1 = replicate max_cells 0; roots = 1 ∷ 0 ∷ 0 ∷ 0 ∷ [] }

null_field : judged_of (opening_of (heap 0)) ≡ found is_sound 0
unfolding heap judged_of loose_of reached_of passes_of pass_of follow_of held_of of_buffers_of of_processes_of black_to_white_of black_names_white_of names_white_of black_of greys_of white_of broken_of wrong_of right_of behind_of in_step_of opening_of open_system open_process open_mutator open_collector open_memory is_none member_of one_of union_of minus_of add_of first_of same_bit count_trailing_zeros
null_field = refl

field_to_free : judged_of (opening_of (heap 2)) ≡ found is_loose 2
unfolding heap judged_of loose_of reached_of passes_of pass_of follow_of held_of of_buffers_of of_processes_of black_to_white_of black_names_white_of names_white_of black_of greys_of white_of broken_of wrong_of right_of behind_of in_step_of opening_of open_system open_process open_mutator open_collector open_memory is_none member_of one_of union_of minus_of add_of first_of same_bit count_trailing_zeros
field_to_free = refl
