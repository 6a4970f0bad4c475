use Rattle.std.proofs.Common.{◌≡◌, ◌-◌}
use Rattle.state.proofs.Lists.{outs}
use Rattle.state.proofs.acts.all_out.Given as goal

abbrev pub invariant-loop-i : goal.invariant-loop-i
invariant-loop-i l = l.procs ≡ outs l.fn.procs (l.i - 1)
