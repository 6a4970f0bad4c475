use mathlib.Core.Path.{refl, ap}
use borrow.Author.Rules.{rules}
use Rattle.base.proofs.Lists.{beyond, carried}
use Rattle.base.proofs.Picks.{picks}
use Rattle.buffers.specs.Buffers.{Popped}
use Rattle.buffers.proofs.Pops.{pop_none_pending, pop_some_pending}
use Rattle.memory.specs.Memories.{max_processes, no_buffer, buffer_of}
use Rattle.memory.specs.Steps.{commit_of}
use Rattle.memory.proofs.Memory.commit.Goals as goal

pub returns-then-i-ge-PROCESSES : goal.returns-then-i-ge-PROCESSES
unfolding commit_of
returns-then-i-ge-PROCESSES c = let a = c.args in rw (beyond a.self.buffers no_buffer a.p max_processes (search (rules, carried)) c.if-i-ge-PROCESSES.true) refl

pub returns-in_default : goal.returns-in_default
unfolding commit_of
returns-in_default c = let a = c.args in rw (pop_none_pending (buffer_of a.self a.p) (ap (λ (r : Popped). r.taken) (c.in_default.ensures))) refl

pub returns-then-blocked : goal.returns-then-blocked
unfolding commit_of
returns-then-blocked c = let a = c.args in rw (pop_some_pending (buffer_of a.self a.p) (ap (λ (r : Popped). r.taken) (c.in-Some.ensures))) (search (rules, picks) depth 9)

pub returns-then-not-there : goal.returns-then-not-there
unfolding commit_of
returns-then-not-there c =
    let a = c.args in
    rw (pop_some_pending (buffer_of a.self a.p) (ap (λ (r : Popped). r.taken) (c.in-Some.ensures)), ← c.in-Some.ensures, ← c.spot.ensures) (search (rules, picks) depth 9)

pub returns : goal.returns
unfolding commit_of
returns c =
    let a = c.args in
    rw (pop_some_pending (buffer_of a.self a.p) (ap (λ (r : Popped). r.taken) (c.in-Some.ensures)), ← c.in-Some.ensures, ← c.spot.ensures, ← c.apply.ensures) (search (rules, picks) depth 9)
