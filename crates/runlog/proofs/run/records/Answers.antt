-- `runlog::run::records` meets its contract.
use Rattle.std.proofs.Common.{◌∙◌, ◌+◌, ap, arith}
use Rattle.base.specs.Refusals.{stop_number}
use Rattle.runlog.specs.Runs.{ended_of}
use Rattle.runlog.proofs.Turns.{halted, goes}
use Rattle.runlog.proofs.run.records.Goals as goal

pub returns-in-Err : goal.returns-in-Err
returns-in-Err c =
    let a = c.args in
    let l = c.loop-steps in
    let e = c.in-Err.ensures in
    halted a.log.now a.at a.start l.state l.steps a.whole l.read c.read.result l.invariant.1 c.read.ensures c.loop-steps-test.true c.turn.new.s (stop_number c.in-Err.stop) e.0 (e.1 l.steps l.read)

pub loop-steps-preserved : goal.loop-steps-preserved
loop-steps-preserved c =
    let a = c.args in
    let l = c.loop-steps in
    let o = c.in-Ok.ensures in (
      omega (arith, c.loop-steps-test.true),
      goes a.log.now a.at a.start l.state l.steps a.whole l.read c.read.result l.invariant.1 c.read.ensures c.loop-steps-test.true c.turn.new.s c.after-read.result
          (ap (ended_of c.turn.new.s (l.steps + 1) 0) c.after-read.ensures ∙ o l.steps l.read),
    )
