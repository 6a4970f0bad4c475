-- What the invariant gives after any choices. Assumes nothing.
--     run_posted        the system's handshake phase is told by where the collector stands
--     run_typed         so is the type
--     run_table         each mutator stands in the handshake table
--     run_unbroken      verdict 3 is never given
--     run_lock          the lock is held by a process exactly while it is inside its compare and swap
--     run_lock_free     it is free exactly while nobody is inside
--     run_marks         a mark waits in a buffer only under the lock, one at most
--     run_noted         whoever holds the lock has noted memory's fM
use Rattle.state.specs.Openings.{opening_of}
use Rattle.verdict.proofs.Formed.{formed_verdicts}
use Rattle.claims.specs.Runs.{run_of}
use Rattle.claims.specs.Posted.{RunPosted, RunTyped}
use Rattle.claims.specs.Table.{RunTable, RunUnbroken}
use Rattle.claims.specs.Lock.{RunLock, RunLockFree}
use Rattle.claims.specs.Pending.{RunMarks}
use Rattle.claims.specs.Noted.{RunNoted}
use Rattle.claims.proofs.Lock.{lock_free}
use Rattle.claims.proofs.Pending.{marks_locked}
use Rattle.claims.proofs.Noted.{holder_noted}
use Rattle.claims.proofs.Inv.{run_inv}

pub run_posted : RunPosted
run_posted h f cs = (run_inv h f cs).handshakes.posted

pub run_typed : RunTyped
run_typed h f cs = (run_inv h f cs).handshakes.typed

pub run_table : RunTable
run_table h f cs = (run_inv h f cs).handshakes.table

pub run_unbroken : RunUnbroken
run_unbroken h f cs e =
    let v = run_inv h f cs in
    let b = ((formed_verdicts _ v.formed).handshake.0 e).2 in
    b.1.wrong (v.handshakes.table b.0 b.1.above b.1.mutator)

pub run_lock : RunLock
run_lock h f cs = (run_inv h f cs).lock

pub run_lock_free : RunLockFree
run_lock_free h f cs = lock_free (run_of (opening_of h) cs) (run_inv h f cs).lock

pub run_marks : RunMarks
run_marks h f cs = let v = run_inv h f cs in marks_locked _ v.lock v.marks

pub run_noted : RunNoted
run_noted h f cs = let v = run_inv h f cs in holder_noted _ v.formed v.lock v.written v.noted
