-- The marked table holds, by computing: each log is run by the definitions. Assumes nothing.
use mathlib.Core.Path.{refl}
use mathlib.Mathlib.Data.List.Defs.{Forall}
use Rattle.base.specs.Pick as picks
use Rattle.cells.specs.Sets as sets
use Rattle.buffers.specs.Buffers as bufs
use Rattle.buffers.specs.Stores as stores
use Rattle.memory.specs.Memories as memories
use Rattle.memory.specs.Looks as looks
use Rattle.memory.specs.Steps as memorySteps
use Rattle.memory.specs.Asks as asks
use Rattle.state.specs.Choices as choices
use Rattle.state.specs.Openings as openings
use Rattle.state.specs.Acts as acts
use Rattle.marking.specs.Marks as marks
use Rattle.mutator.specs.Mutators as mutators
use Rattle.rounds.specs.Rounds as rounds
use Rattle.collector.specs.Collectors as collectors
use Rattle.own.specs.Owns as owns
use Rattle.engine.specs.Steps as steps
use Rattle.reach.specs.Held as held
use Rattle.reach.specs.Reach as reach
use Rattle.verdict.specs.Colours as colours
use Rattle.verdict.specs.Table as handshakes
use Rattle.verdict.specs.Judged as judged
use Rattle.header.specs.Bytes as headerBytes
use Rattle.header.specs.Header as headers
use Rattle.runlog.specs.Records as records
use Rattle.runlog.specs.Runs as runs
use Rattle.claims.specs.Marked.{MarkedLogs}

pub marked : MarkedLogs
unfolding Forall picks.same_bit sets.is_none sets.member_of sets.one_of sets.union_of sets.inter_of sets.minus_of sets.add_of sets.remove_of sets.full_of sets.below_of bufs.push_of bufs.pop_of stores.hits_of memories.blocked_of memories.there_of memories.stands_of memories.applied_of looks.look_of looks.look_mark_of looks.look_field_of looks.look_sense_of memorySteps.write_of memorySteps.commit_of memorySteps.fence_of memorySteps.allocate_of choices.is_of_x choices.is_bare choices.is_blank choices.is_naming choices.is_cell openings.open_memory openings.open_collector openings.open_mutator openings.open_process openings.open_system openings.opening_of asks.looked_of asks.swept_sight acts.typed acts.out_at acts.all_out_of acts.raised_of marks.is_site_of marks.names_root_of marks.mark_offers marks.marked_cell marks.stage_ask_of marks.mark_ask marks.named_root_of marks.over_of marks.look_go marks.sense_go marks.phase_go marks.again_go marks.write_go marks.unlock_go marks.stage_go_of marks.past_of marks.past_over_of marks.mark_go mutators.allocates mutators.drops mutators.reads_field_of mutators.stores_field_of mutators.top_offers_of mutators.mutator_offers mutators.flag_waits mutators.top_ask_of mutators.mutator_ask mutators.storing mutators.answering mutators.top_go_of mutators.written mutators.past_fence_of mutators.stepping mutators.handing mutators.mutator_go rounds.round_offers rounds.round_ask rounds.raising rounds.polling rounds.poll_go rounds.round_go collectors.is_round_of collectors.row_offers_of collectors.collector_offers collectors.row_ask_of collectors.collector_ask collectors.sensed collectors.flipped collectors.taking collectors.scanning collectors.dropping collectors.sweep_from_of collectors.sweeping collectors.swept collectors.row_round_of collectors.row_go_of collectors.list_go_of collectors.collector_go owns.own_offers owns.own_refuses owns.own_ask owns.own_go owns.answered_of steps.commit_refuses_of steps.refuses_of steps.ask_of steps.go_of steps.inner_of held.of_processes_of held.of_buffers_of held.held_of reach.follow_of reach.pass_of reach.passes_of reach.reached_of colours.white_of colours.greys_of colours.black_of colours.names_white_of colours.black_names_white_of colours.black_to_white_of handshakes.in_step_of handshakes.right_of handshakes.wrong_of handshakes.broken_of judged.loose_of judged.judged_of headerBytes.pair_at headers.cell_place_of headers.roots_place_of headers.is_version_of headers.letters_of headers.counts_of headers.names_of headers.cell_said_fits_of headers.roots_fit_of headers.cells_said_fit_of headers.all_roots_fit_of headers.heap_fits_of headers.admitted_of headers.fields_of headers.roots_of headers.read_heap records.choice_at records.record_at records.check_sum_of runs.turn_of runs.onward_of runs.closed_of runs.played_of runs.outcome_told_of runs.judge_of
marked = record { numbers = (refl, (refl, (refl, (refl, (refl, (refl, (refl, (refl, (refl, (refl, (refl, (refl, (refl, (refl, refl)))))))))))))); idle = record { system = refl; mutator = refl } }
