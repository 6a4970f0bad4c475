-- What can be done again after a step that is taken. Assumes nothing.
--     write_again           "Room in a buffer is usable again after each commit": the same process can write
--     allocate_again        "a freed cell may be allocated again", by any process that is not blocked
--     locked_own, locked_others, locked_held       after a lock its process is not blocked, everybody else is, and
--                                                  nobody can lock
--     unlocked_all, lock_again                     after an unlock nobody is blocked, and anybody can lock
use mathlib.Core.Path.{◌≡◌, ap}
use mathlib.Core.Bool.{true, false}
use Prim.Native.Nat.{ℕ, ◌+◌}
use native.Mathlib.Omega.{arith}
use lib.ListN.{length}
use Rattle.base.specs.Refusals.{by_blocked}
use Rattle.memory.specs.declared.Memory.{Memory}
use Rattle.memory.specs.Memories.{taken, with_lock, blocked_of}
use Rattle.memory.specs.Steps.{lock_of}
use Rattle.memory.specs.Laws.{RoomAgain, CellAgain}
use Rattle.memory.proofs.Shapes.{Shaped, pending_fits}
use Rattle.memory.proofs.Blocks.{free_unblocked, own_unblocked, other_blocked}
use Rattle.memory.proofs.Keeps.{commit_shaped}
use Rattle.memory.proofs.Effects.{Locked, Unlocked, commit_taken, free_taken}
use Rattle.memory.proofs.Refusals.{write_goes, allocate_goes, lock_goes, lock_no}

pub write_again : RoomAgain
write_again m n p e z h =
    let w = commit_taken p z h in
    let s : Shaped n = rw h at (commit_shaped m z p) in
    write_goes n p e s w.process (rw w.own (omega (arith, pending_fits m z p, ap length w.before)))

pub allocate_again : CellAgain
allocate_again m n p q c z pos l h b = allocate_goes n q c b (free_taken p c z pos l h).after.used

module _ {m : Memory} {p : ℕ} {n : Memory} where
  pub locked_own : Locked m p n → blocked_of n p ≡ false
  locked_own w = own_unblocked n p w.after.lock

  pub locked_others : Locked m p n → (q : ℕ) → (q ≡ p → ⊥) → blocked_of n q ≡ true
  locked_others w q ne = let k = w.after.lock in other_blocked n q (λ e. omega arith) (λ e. ne (omega arith))

  pub locked_held : Locked m p n → (q : ℕ) → (lock_of n q).no ≡ by_blocked
  locked_held w q = let k = w.after.lock in (lock_no n q).second.1 (λ e. omega arith)

  pub unlocked_all : Unlocked m p n → (q : ℕ) → blocked_of n q ≡ false
  unlocked_all w q = free_unblocked n q w.after.lock

  pub lock_again : Unlocked m p n → (q : ℕ) → lock_of n q ≡ taken (with_lock n (q + 1))
  lock_again w q = lock_goes n q w.after.lock
