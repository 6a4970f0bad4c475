-- What an act makes of the list of processes; "all in-step bits off", mutator by mutator, as a loop over them does it.
-- Assumes nothing.
--     shaken_sized           no act changes how many there are
--     outs                   the first k put out of step
--     outs_more, outs_end    one more; all of them
use mathlib.Core.Path.{◌≡◌, refl}
use mathlib.Core.List.{List}
use Prim.Native.Nat.{ℕ, zero, suc, ◌+◌, ◌-◌, ◌≤◌}
use native.Mathlib.Omega.{arith}
use lib.ListN.{length, length-set}
use Rattle.memory.specs.Memories.{max_mutators, max_processes}
use Rattle.state.specs.declared.Process.{Process}
use Rattle.state.specs.declared.acts.Act.{Act}
use Rattle.state.specs.declared.acts.Act.TheVariants as act
use Rattle.state.specs.Acts.{out_at, all_out_of, raised_of, shaken_of}

pub shaken_sized : (l : List Process) (a : Act) → length (shaken_of l a) ≡ length l
unfolding out_at all_out_of raised_of
shaken_sized l act.Nothing = refl
shaken_sized l (act.Lists w) = refl
shaken_sized l (act.Types k) = simp length-set
shaken_sized l (act.Raises x) = simp length-set

-- ---- the mutators put out of step, one after the other: the first k
abbrev pub outs : List Process → ℕ → List Process
outs l zero = l
outs l (suc k) = out_at (outs l k) (suc k)

pub outs_more : {m : List Process} (l : List Process) (i : ℕ) → m ≡ outs l (i - 1) → 1 ≤ i → out_at m i ≡ outs l (i + 1 - 1)
outs_more l zero e h = absurd (omega arith)
outs_more l (suc k) e h =
    let a : suc k - 1 ≡ k = omega arith in
    let b : suc k + 1 - 1 ≡ suc k = omega arith in
    rw (e, a, b) refl

pub outs_end : {m : List Process} (l : List Process) (i : ℕ) → m ≡ outs l (i - 1) → max_processes ≤ i → i ≤ max_processes → m ≡ all_out_of l
unfolding all_out_of
outs_end l i e h k = let a : i - 1 ≡ max_mutators = omega arith in rw a at e
