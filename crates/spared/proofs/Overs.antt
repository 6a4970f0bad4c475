-- The end of a mark, and the value of a field store. Assumes nothing.
--     held_used      what is held is occupied
--     mark_over_lem      at the end of a mark its cell is marked (L10)
--     value_safe     the value of a field store is null or marked, or fA is to follow (L11)
use mathlib.Core.Path.{◌≡◌, refl, sym, ◌∙◌}
use mathlib.Core.Bool.{true, false, false≢true}
use mathlib.Core.Logic.{◌⊎◌, inl, inr, by_cases}
use Prim.Native.Nat.{ℕ, ◌≤◌, ◌<◌}
use native.Mathlib.Omega.{arith}
use native.Mathlib.Decide.{ℕ_discrete}
use lib.Dec.{leb}
use Rattle.cells.proofs.Bools.{not_both}
use Rattle.memory.specs.declared.Memory.{Memory}
use Rattle.memory.specs.Memories.{taken, used_of}
use Rattle.memory.specs.Steps.{unlock_of}
use Rattle.memory.proofs.Shapes.{pending_is}
use Rattle.memory.proofs.Effects.{unlock_taken}
use Rattle.memory_formed.proofs.Shapes.{shaped}
use Rattle.state.specs.declared.State.{State}
use Rattle.state.specs.Codes.{row5_round, unlock_stage}
use Rattle.state.specs.States.{mutators_of, process_of}
use Rattle.spared.specs.Shades.{Marked, NullOrMarked, AllMarked}
use Rattle.spared.specs.Holds.{HeldBy, HeldAt, Every}
use Rattle.spared.specs.Zones.{inserting, deleting}
use Rattle.spared.specs.Inv.{Spared}
use Rattle.spared.specs.Lemmas.{Era, MarkOver, ValueSafe}
use Rattle.spared.proofs.Sights.{look_sense_lem, look_idle}
use Rattle.spared.proofs.Holds.{mark_held, held_there}
use Rattle.spared.proofs.Eras.{era_of, idle_marked, collector_fields}

pub held_used : (s : State) → Spared s → (p c : ℕ) → HeldAt s p c → used_of s.memory c ≡ true
held_used s v p c h = (v.held c (held_there s v.inv.formed p c h)).occupied

pub mark_over_lem : MarkOver
mark_over_lem s v p r l n i h =
    record {
      equal = λ e f. (v.looked p).seen i e (λ a b. false≢true (rw b at (n a))) (sym (look_sense_lem s v.inv p r i l (process_of s p).look f));
      idle = λ e f. let g = look_idle s v.inv p r i l f in idle g.0 (idle_marked s v g.1);
      unlocks = unlocks;
    }
  where
    -- "stop if Idle": by a mutator
    idle : 0 < p → AllMarked s.memory ⊎ Every s (λ q. inserting q.part.phase ≡ false) → Marked s.memory r
    idle a (inl k) = k r (held_used s v p r (mark_held s v p a l r i h))
    idle a (inr k) = absurd (not_both (n a) (k p a l))

    -- "Unlock needs one's own buffer empty": no mark is pending any more
    unlocks : (process_of s p).stage ≡ unlock_stage → {m : Memory} → unlock_of s.memory p ≡ taken m → Marked s.memory r
    unlocks e f = (v.looked p).done i e (rw (sym (pending_is s.memory p) ∙ (unlock_taken p (shaped s.memory v.inv.formed.memory) f).empty) refl)

pub value_safe : ValueSafe
value_safe s v p c f x i = let m = collector_fields s v.inv p c f x i in go m.0 m.1 (era_of s v)
  where
    go : 0 < p → p ≤ mutators_of s → Era s → (NullOrMarked s.memory x) ⊎ ((s.memory.fa ≡ s.memory.fm → ⊥) × ((leb (process_of s 0).place row5_round ≡ true) × Every s (λ q. deleting q.part.phase ≡ false)))
    go a b (Era.rested k) = inl (by_cases (ℕ_discrete x 0) (λ z. inl z) (λ z. inr (k x (held_used s v p x (HeldBy.value c f i (omega arith))))))
    go a b (Era.blank g h d) = inr (g, (h, d))
    go a b (Era.marking k) = inl ((v.barriers p a b).inserted (k p a b) c f x i)
