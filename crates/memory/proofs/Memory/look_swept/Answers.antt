use Rattle.memory.proofs.Lookings.{swept_seen, swept_none, swept_refused}
use Rattle.memory.proofs.Memory.look_swept.Goals as goal

pub returns-in-Ok : goal.returns-in-Ok
returns-in-Ok c = let a = c.args in swept_seen a.self a.p a.c c.in-Ok.look c.in-Ok.ensures

pub returns-in-Free : goal.returns-in-Free
returns-in-Free c = let a = c.args in rw c.source.ensures (swept_none a.self a.p a.c (rw c.in-Free.is at c.in-Err.ensures))

pub returns-in_default : goal.returns-in_default
returns-in_default c = let a = c.args in swept_refused a.self a.p a.c c.in-Err.why c.in_default.not-Free c.in-Err.ensures
