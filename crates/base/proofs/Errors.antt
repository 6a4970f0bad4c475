-- What leaves a function by a `?`. Assumes nothing.
use Rattle.std.proofs.Common.{◌≡◌, refl, arith}
use Rattle.std.specs.Prelude.{Result, Ok, Err}
use Rattle.std.specs.Result.{IsErrAnd}
use Rattle.base.specs.declared.Refusal.{Refusal}
use Rattle.base.specs.declared.Refusal.TheVariants as refusal
use Rattle.base.specs.declared.Stop.{Stop}
use Rattle.base.specs.declared.Stop.TheVariants as stop
use Rattle.base.specs.Refusals.{as_taken, refusal_number, stop_number}

-- the error that came, where it is not converted
pub passed : {T E : Type 0} (r : Result T E) (e : E) → IsErrAnd r (λ y. y ≡ e) → r ≡ Err e
passed (Ok x) e h = absurd h
passed (Err y) e h = rw h

-- no refusal has the number 0
pub refused_by : (r : Refusal) → refusal_number r ≡ as_taken → ⊥
refused_by refusal.Malformed e = omega arith
refused_by refusal.NoProcess e = omega arith
refused_by refusal.NoKind e = omega arith
refused_by refusal.NotOffered e = omega arith
refused_by refusal.NonePending e = omega arith
refused_by refusal.FlagDown e = omega arith
refused_by refusal.Blocked e = omega arith
refused_by refusal.Pending e = omega arith
refused_by refusal.Full e = omega arith
refused_by refusal.Occupied e = omega arith
refused_by refusal.Free e = omega arith

-- but a log's own end no stop has the number 0
pub stopped_by : (s : Stop) → (s ≡ stop.Ended → ⊥) → stop_number s ≡ as_taken → ⊥
stopped_by stop.Ended n e = n refl
stopped_by (stop.Refused r) n e = refused_by r e
stopped_by stop.NotAdmitted n e = omega arith
stopped_by stop.WrongCheck n e = omega arith
stopped_by stop.FewLeft n e = omega arith
