use mathlib.Core.Path.{refl}
use Rattle.memory.specs.Looks.{look_of, from_of, read_of}
use Rattle.memory.proofs.Sights.{source_by_lem}
use Rattle.memory.proofs.Memory.look.Goals as goal

pub returns-then-blocked : goal.returns-then-blocked
unfolding look_of from_of read_of
returns-then-blocked c = rw (← c.if-blocked.ensures) refl

pub returns-then-not-there : goal.returns-then-not-there
unfolding look_of from_of read_of
returns-then-not-there c = rw (← c.if-blocked.ensures, ← c.if-not-there.ensures) refl

pub returns : goal.returns
unfolding look_of from_of read_of
returns c =
    let a = c.args in
    rw (← c.if-blocked.ensures, ← c.if-not-there.ensures, c.source_by-from.ensures, c.unwrap_or-saw.ensures, c.stands.ensures, c.newest-own.ensures, source_by_lem a.self a.p a.at) refl
