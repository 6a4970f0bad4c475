-- Memory's laws, each by the lemmas of the files below. Assumes nothing.
--     look_laws, read_laws, sweep_laws                                  what a look sees (specs/Sights)
--     write_shows, commit_shows, relock_shows, reset_shows              what each process sees after a step
--     pending_laws                                                      what can be pending (specs/Laws)
--     write_laws, commit_laws, fence_laws, lock_laws, unlock_laws, allocate_laws, free_laws     numbers, effect and
--     refusal of each step `blocked_is` and `unblocked_is` stand in Blocks, `write_again` and `allocate_again` in
--     Again.
use mathlib.Core.Path.{◌≡◌, ◌∙◌}
use mathlib.Core.Bool.{false}
use mathlib.Core.List.{List, Memᴰ}
use Rattle.buffers.specs.declared.Spot.{Spot}
use Rattle.buffers.specs.declared.Entry.{Entry}
use Rattle.buffers.specs.Stores.{spot_of, hits_of}
use Rattle.buffers.proofs.Hits.{hits_own, hits_is, hits_other}
use Rattle.buffers.proofs.Newests.{newest_among, newest_none}
use Rattle.memory.specs.Memories.{stands_of}
use Rattle.memory.specs.Views.{pending_for}
use Rattle.memory.specs.Sights.{Unwritten, LookLaws, ReadLaws, SweepLaws, WriteShows, CommitShows, RelockShows, ResetShows}
use Rattle.memory.specs.Laws.{PendingLaws, WriteLaws, CommitLaws, FenceLaws, LockLaws, UnlockLaws, AllocateLaws, FreeLaws}
use Rattle.memory.proofs.Shapes.{view_is, view_misses, view_spot, pending_fits, pending_count, pending_absent}
use Rattle.memory.proofs.Keeps.{write_shaped, commit_shaped, lock_shaped, unlock_shaped, allocate_shaped, free_shaped}
use Rattle.memory.proofs.Effects.{write_taken, commit_taken, fence_taken, lock_taken, unlock_taken, allocate_taken, free_taken, write_settled, commit_settled, unlock_settled, allocate_used, allocate_counts, free_used, free_counts, committed_held}
use Rattle.memory.proofs.Refusals.{write_no, commit_no, fence_no, lock_no, unlock_no, allocate_no, free_no, write_same, commit_same, fence_same, lock_same, unlock_same, allocate_same, free_same}
use Rattle.memory.proofs.Sights.{look_no, look_taken, look_refused, look_mark_is, look_field_is, look_sense_is, look_phase_is, swept_blocked, swept_used, swept_free}
use Rattle.memory.proofs.Views.{written_own, written_others, committed_own, committed_miss, committed_shows, relocked_view, reset_mark, reset_field, reset_there, reset_view}

-- ---- what a look sees
misses : {at : Spot} {es : List Entry} → Unwritten at es → (e : Entry) → Memᴰ e es → hits_of at e.store ≡ false
misses {at} f e i = hits_other at e.store (f e i)

pub look_laws : LookLaws
look_laws m p at =
    record {
      numbers = look_no m p at;
      taken = look_taken m p at;
      refused = look_refused m p at;
      own = λ older newer e h s f. view_is m p at ∙ rw h (newest_among at older newer e (stands_of m at) ((hits_is at e.store).1 s) ((newest_none at newer).1 (misses f)));
      memory = λ f. view_misses m p at (misses f);
      spot = view_spot m p at;
    }

pub read_laws : ReadLaws
read_laws m p = record { mark = look_mark_is m p; field = look_field_is m p; sense = look_sense_is m p; phase = look_phase_is m p }

pub sweep_laws : SweepLaws
sweep_laws m p c = record { blocked = swept_blocked m p c; used = swept_used m p c; free = swept_free m p c }

-- ---- what each process sees after a step
pub write_shows : WriteShows
write_shows m p e n w =
    record {
      own = written_own w (spot_of e.store) ∙ rw (hits_own e.store);
      elsewhere = λ at ne. written_own w at ∙ rw (hits_other at e.store ne);
      others = written_others w;
    }

pub commit_shows : CommitShows
commit_shows m p n w z plain =
    let s = w.oldest.store in
    record {
      held = committed_held z w (spot_of s) plain plain ∙ rw (hits_own s);
      elsewhere = λ at i ne. committed_held z w at plain i ∙ rw (hits_other at s ne);
      own = committed_own z w plain;
      others = λ q at i ne. committed_miss z w plain q at i (hits_other at s ne);
      shows = λ q f. committed_shows z w plain q (spot_of s) plain ((newest_none (spot_of s) (pending_for m q)).1 (misses f)) (hits_own s);
    }

pub relock_shows : RelockShows
relock_shows m k n w = relocked_view w

pub reset_shows : ResetShows
reset_shows m c u b n w = record { mark = reset_mark w; field = reset_field w; there = reset_there w; elsewhere = reset_view w }

-- ---- the steps
pub pending_laws : PendingLaws
pending_laws m p = record { fits = λ z. pending_fits m z p; count = λ z. pending_count m z p; absent = λ z. pending_absent m z p }

pub write_laws : WriteLaws
write_laws m p e =
    record {
      numbers = write_no m p e;
      effect = λ n. write_taken p e;
      settled = λ n. write_settled m p e;
      refused = write_same m p e;
      shaped = λ z. write_shaped m z p e;
    }

pub commit_laws : CommitLaws
commit_laws m p =
    record {
      numbers = commit_no m p;
      effect = λ n. commit_taken p;
      settled = λ n. commit_settled m p;
      refused = commit_same m p;
      shaped = λ z. commit_shaped m z p;
    }

pub fence_laws : FenceLaws
fence_laws m p = record { numbers = fence_no m p; effect = λ n. fence_taken p; same = fence_same m p }

pub lock_laws : LockLaws
lock_laws m p = record { numbers = lock_no m p; effect = λ n. lock_taken p; refused = lock_same m p; shaped = λ z. lock_shaped m z p }

pub unlock_laws : UnlockLaws
unlock_laws m p =
    record {
      numbers = unlock_no m p;
      effect = λ n. unlock_taken p;
      settled = λ n. unlock_settled m p;
      refused = unlock_same m p;
      shaped = λ z. unlock_shaped m z p;
    }

pub allocate_laws : AllocateLaws
allocate_laws m p c =
    record {
      numbers = allocate_no m p c;
      effect = λ n. allocate_taken p c;
      used = λ n. allocate_used m p c;
      counts = λ n. allocate_counts m p c;
      refused = allocate_same m p c;
      shaped = λ z. allocate_shaped m z p c;
    }

pub free_laws : FreeLaws
free_laws m p c =
    record {
      numbers = free_no m p c;
      effect = λ n. free_taken p c;
      used = λ n. free_used m p c;
      counts = λ n. free_counts m p c;
      refused = free_same m p c;
      shaped = λ z. free_shaped m z p c;
    }
