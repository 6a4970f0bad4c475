use native.Mathlib.Omega.{arith}
use Rattle.state.specs.Acts.{out_at}
use Rattle.state.proofs.Lists.{outs_more, outs_end}
use Rattle.state.proofs.acts.all_out.Goals as goal

pub loop-i-preserved : goal.loop-i-preserved
unfolding out_at
loop-i-preserved c = let l = c.loop-i in outs_more c.args.procs.now l.i l.invariant l.auto.i

pub returns : goal.returns
returns c = let l = c.loop-i in outs_end c.args.procs.now l.i l.invariant c.loop-i-test.false (l.auto.i-end (omega arith))
