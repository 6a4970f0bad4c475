-- "When the judge says no": why a step is refused, and why a run ends, by number; 0 where it is taken, or where the
-- log ends. Assumes nothing.
use Rattle.std.specs.Prelude.{ℕ, Result, Ok, Err}
use Rattle.base.specs.declared.Refusal.{Refusal}
use Rattle.base.specs.declared.Refusal.TheVariants as refusal
use Rattle.base.specs.declared.Stop.{Stop}
use Rattle.base.specs.declared.Stop.TheVariants as stop

abbrev pub as_taken : ℕ
as_taken = 0

-- "the state is malformed"
abbrev pub by_malformed : ℕ
by_malformed = 1

-- "the process is above M"
abbrev pub by_no_process : ℕ
by_no_process = 2

-- "the kind is not 0 (own step) or 1 (commit)"
abbrev pub by_no_kind : ℕ
by_no_kind = 3

-- "an argument this place doesn't use isn't zero, or one it uses isn't offered"
abbrev pub by_not_offered : ℕ
by_not_offered = 4

-- "a commit with an empty buffer"
abbrev pub by_none_pending : ℕ
by_none_pending = 5

-- "operation 5, flag down"
abbrev pub by_flag_down : ℕ
by_flag_down = 6

-- "a memory or own-buffer read, commit, allocation or free while blocked; a lock step while any process holds the lock"
abbrev pub by_blocked : ℕ
by_blocked = 7

-- "fence or unlock, own buffer not empty"
abbrev pub by_pending : ℕ
by_pending = 8

-- "a write, 8 stores pending"
abbrev pub by_full : ℕ
by_full = 9

-- "allocation of an occupied cell"
abbrev pub by_occupied : ℕ
by_occupied = 10

-- "a look, field read, or commit of a mark or field on a free cell"
abbrev pub by_free : ℕ
by_free = 11

-- stops: "Otherwise, or if short: stop 12"; "(else stop 13)"; "Fewer than 8 bytes left: stop 14."
abbrev pub not_admitted : ℕ
not_admitted = 12

abbrev pub wrong_check : ℕ
wrong_check = 13

abbrev pub few_left : ℕ
few_left = 14

-- ---- the code's answers by these numbers
-- a refusal's
abbrev pub refusal_number : Refusal → ℕ
refusal_number refusal.Malformed = by_malformed
refusal_number refusal.NoProcess = by_no_process
refusal_number refusal.NoKind = by_no_kind
refusal_number refusal.NotOffered = by_not_offered
refusal_number refusal.NonePending = by_none_pending
refusal_number refusal.FlagDown = by_flag_down
refusal_number refusal.Blocked = by_blocked
refusal_number refusal.Pending = by_pending
refusal_number refusal.Full = by_full
refusal_number refusal.Occupied = by_occupied
refusal_number refusal.Free = by_free

-- a stop's: "Its number is the refusal's"
abbrev pub stop_by : Refusal → Stop
stop_by r = stop.Refused r

abbrev pub stop_number : Stop → ℕ
stop_number stop.Ended = as_taken
stop_number (stop.Refused r) = refusal_number r
stop_number stop.NotAdmitted = not_admitted
stop_number stop.WrongCheck = wrong_check
stop_number stop.FewLeft = few_left

-- an answer's: 0 where it is taken
abbrev pub number_of : {A : Type 0} → Result A Refusal → ℕ
number_of (Ok x) = as_taken
number_of (Err r) = refusal_number r
