-- What the clauses give of the verdict. Assumes nothing.
--     reach_good     what is reached from held references is occupied, and marked while the sweep runs
--     sound          the finding is verdict 0, number 0
use mathlib.Core.Path.{◌≡◌, sym}
use Prim.Native.Nat.{ℕ}
use Rattle.cells.proofs.Bools.{not_both}
use Rattle.state.specs.declared.State.{State}
use Rattle.reach.specs.Reach.{Reach, here, via}
use Rattle.reach.specs.Held.{Held}
use Rattle.verdict.specs.Judged.{is_sound, found, Judged}
use Rattle.verdict.specs.Findings.{finding_of, Found}
use Rattle.verdict.proofs.Formed.{found_exactly}
use Rattle.spared.specs.Good.{Good}
use Rattle.spared.specs.Inv.{Spared}

module _ (s : State) (v : Spared s) where
  pub reach_good : {c : ℕ} → Reach s.memory (Held s) c → Good s c
  reach_good {c} (here i) = v.held c i
  reach_good (via {c} {d} i u e) = v.closed c d (reach_good i) e

  pub sound : finding_of s ≡ found is_sound 0
  sound =
      sym ((found_exactly s (found is_sound 0)).1
      (Found.formed v.inv.formed
      (Judged.sound (λ c l. not_both (reach_good l.reached).occupied l.free) v.tricolour (λ p b. b.wrong (v.inv.handshakes.table p b.above b.mutator)))))
