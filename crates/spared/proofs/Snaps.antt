-- The snapshot through a step. Assumes nothing.
--     some_mutator     there is a mutator
--     region_sense     in the region memory's fM stays
--     snap_stays       and the snapshot loses nothing (L3)
use mathlib.Core.Path.{◌≡◌}
use mathlib.Core.Bool.{true, false≢true}
use mathlib.Core.Logic.{inl, inr, ⊎_elim}
use Prim.Native.Nat.{ℕ, ◌≤◌, ◌<◌}
use native.Mathlib.Omega.{arith}
use Rattle.memory.specs.Memories.{used_of, field_of}
use Rattle.state.specs.declared.State.{State}
use Rattle.state.specs.declared.Choice.{Choice}
use Rattle.state.specs.Codes.{row10_free, no_stage}
use Rattle.state.specs.States.{mutators_of, process_of}
use Rattle.formed.specs.Fits.{WellFormed}
use Rattle.model.specs.Rows.{At, Row}
use Rattle.reach.specs.Reach.{here, via}
use Rattle.claims.specs.Pending.{waiting_of}
use Rattle.spared.specs.Shades.{Marked, NullOrMarked, Snap}
use Rattle.spared.specs.Zones.{region}
use Rattle.spared.specs.Inv.{Spared}
use Rattle.spared.specs.Lemmas.{SnapStays}
use Rattle.spared.proofs.Effects.{row_effect}
use Rattle.spared.proofs.Eras.{region_deletes, collector_fields}
use Rattle.spared.proofs.Flips.{row_sense}
use Rattle.spared.proofs.Stays.{marked_stays, used_or_freed}
use Rattle.spared.proofs.Names.{Stayed, names_stay}

pub some_mutator : (s : State) → WellFormed s → 1 ≤ mutators_of s
some_mutator s w = omega (arith, w.memory.some_processes)

-- everybody deletes, and at the flip everybody is in Idle
pub region_sense : (s t : State) (c : Choice) → Spared s → Row s c t → region (process_of s 0).place (process_of s 0).stage ≡ true → t.memory.fm ≡ s.memory.fm
region_sense s t c v r z =
    let one = some_mutator s v.inv.formed in
    ⊎_elim (λ e. e) (λ f. absurd (false≢true (rw (f.idle 1 (omega arith) one) at (region_deletes s v.inv z 1 (omega arith) one)))) (row_sense s t c v r)

-- the edge that a committed store takes away led to null or to a marked cell, which is in the snapshot by itself
pub snap_stays : SnapStays
snap_stays s t c v r z x k = go k
  where
    marked : (d : ℕ) → Marked s.memory d → Snap t.memory d
    marked d h = here (marked_stays s t c v r (region_sense s t c v r z) d h)

    freed : (p : ℕ) → p ≡ 0 → At row10_free no_stage (process_of s p) → ⊥
    freed p e a = false≢true (rw (rw e at a.place) at z)

    occupied : (d : ℕ) → used_of s.memory d ≡ true → used_of t.memory d ≡ true
    occupied d u = ⊎_elim (λ e. e) (λ h. absurd (freed c.process h.1.1 h.0)) (used_or_freed s t c v r d u)

    lost : (d e : ℕ) → NullOrMarked s.memory e → e ≡ d → 0 < d → Snap t.memory d
    lost d e (inl i) j n = absurd (omega arith)
    lost d e (inr i) j n = marked d (rw j at i)

    edge : (a d : ℕ) → used_of s.memory a ≡ true → Snap t.memory a → Stayed (waiting_of s c.process) s.memory t.memory a d → Snap t.memory d
    edge a d u h (Stayed.still n) = via h (occupied a u) n
    edge a d u h (Stayed.overwritten y f w i e n) =
        let b = collector_fields s v.inv c.process y f w i in
        lost d (field_of s.memory y f) ((v.barriers c.process b.0 b.1).deleted (region_deletes s v.inv z c.process b.0 b.1) y f w i) e n

    go : {d : ℕ} → Snap s.memory d → Snap t.memory d
    go (here {c = d} h) = marked d h
    go (via {c = a} {d} h u n) = edge a d u (go h) (names_stay a d (row_effect s t c v.inv.formed r) u (occupied a u) n)
