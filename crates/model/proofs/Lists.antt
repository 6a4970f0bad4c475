-- The list of processes, as the rows and the code change it. Assumes nothing.
--     all_off_lem      "all in-step bits off": by the list, and process by process
--     put_back     a process that is put back as it was changes nothing
use mathlib.Core.Path.{◌≡◌, refl, ap}
use mathlib.Core.List.{List, [], ◌∷◌}
use Prim.Native.Nat.{ℕ}
use native.Mathlib.Omega.{arith}
use lib.ListN.{length}
use lib.Seq.{set-get_or}
use Rattle.memory.specs.Memories.{max_processes}
use Rattle.state.specs.declared.Process.{Process}
use Rattle.state.specs.declared.State.{State}
use Rattle.state.specs.States.{no_process, process_of, with_process_of}
use Rattle.state.specs.Acts.{out_at, all_out_of}
use Rattle.model.specs.Rows.{all_off, with_processes}

pub all_off_lem : (l : List Process) → length l ≡ max_processes → all_out_of l ≡ all_off l
unfolding out_at all_out_of
all_off_lem [] e = absurd (omega arith)
all_off_lem (a ∷ []) e = absurd (omega arith)
all_off_lem (a ∷ b ∷ []) e = absurd (omega arith)
all_off_lem (a ∷ b ∷ c ∷ []) e = absurd (omega arith)
all_off_lem (a ∷ b ∷ c ∷ d ∷ []) e = absurd (omega arith)
all_off_lem (a ∷ b ∷ c ∷ d ∷ f ∷ []) e = refl
all_off_lem (a ∷ b ∷ c ∷ d ∷ f ∷ g ∷ l) e = absurd (omega arith)

pub put_back : (s : State) (p : ℕ) → with_process_of s p (process_of s p) ≡ s
put_back s p = ap (with_processes s) (set-get_or s.procs p no_process)
