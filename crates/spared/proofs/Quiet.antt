-- B8: from the end of marking to the fence of row 3 no cell is grey. Assumes nothing.
--     step_quiet      after each row
use mathlib.Core.Path.{◌≡◌, refl, sym, ap, subst, ◌∙◌}
use mathlib.Core.Bool.{true, false, false≢true}
use mathlib.Core.Logic.{◌⊎◌, inl, inr}
use Prim.Native.Nat.{ℕ, ◌≤◌, ◌<◌}
use native.Mathlib.Omega.{arith}
use native.Mathlib.Decide.{ℕ_discrete}
use Rattle.state.specs.declared.State.{State}
use Rattle.state.specs.declared.Choice.{Choice}
use Rattle.state.specs.declared.Part.{Part}
use Rattle.state.specs.Codes.{row6_take, row8_take, no_stage, lock_stage, write_stage}
use Rattle.state.specs.States.{mutators_of, process_of}
use Rattle.formed.proofs.Gives.{collector_within}
use Rattle.model.specs.Rows.{At, Marks}
use Rattle.verdict.specs.Colours.{White}
use Rattle.claims.specs.Noted.{Reached}
use Rattle.claims.specs.Posted.{busy_of}
use Rattle.claims.proofs.Moves.{marks_place}
use Rattle.claims.proofs.Handshakes.{settled_handshakes}
use Rattle.spared.specs.Shades.{NoGrey}
use Rattle.spared.specs.Zones.{quiet, gathers}
use Rattle.spared.specs.Ends.{QuietZone}
use Rattle.spared.specs.Inv.{Spared}
use Rattle.spared.specs.Lemmas.{Greyed, RowsKeep}
use Rattle.spared.proofs.Shades.{marked_not_white}
use Rattle.spared.proofs.Holds.{mark_held}
use Rattle.spared.proofs.Quiets.{quiet_held}
use Rattle.spared.proofs.Greys.{grey_was}
use Rattle.spared.proofs.Begins.{TakesNone, row_begins}
use Rattle.spared.proofs.Ends.{collector_rests, none_gathered}

-- ---- in the zone no mark is written
module _ (s : State) (v : Spared s) (q : quiet (process_of s 0).place (process_of s 0).stage ≡ true) where
  -- the collector is not in row 7
  rests : {r : ℕ} → Marks (process_of s 0) r → ⊥
  rests (Marks.old e) = omega (arith, (collector_within v.inv.formed.collector).0)
  rests (Marks.new e) = omega (arith, (collector_within v.inv.formed.collector).0)
  rests (Marks.root e) = omega (arith, (collector_within v.inv.formed.collector).0)
  rests (Marks.field e) = false≢true (rw e at q)

  -- a mutator at its write has left Idle, so its cell, which is held, is marked
  no_write : (p r : ℕ) → p ≤ mutators_of s → Marks (process_of s p) r → (process_of s p).stage ≡ write_stage → White s.memory r → ⊥
  no_write p r l i j w = go (ℕ_discrete p 0)
    where
      reached : Reached lock_stage (process_of s p)
      reached = rw (marks_place i, j) refl

      go : Dec (p ≡ 0) → ⊥
      go (yes z) = rests (subst (λ k. Marks (process_of s k) r) z i)
      go (no z) =
          let a : 0 < p = omega arith in
          marked_not_white (quiet_held s v q p a l ((v.inv.noted p a l).left reached) r (mark_held s v p a l r i (λ _ e. omega arith))) w

-- ---- at the take of nothing everybody is in step, so nobody has anything
module _ (s : State) (v : Spared s) where
  taken : (c : Choice) → TakesNone s c (process_of s 0) → (gathers (process_of s 0).place (process_of s 0).stage ≡ true) × (busy_of (process_of s 0).place (process_of s 0).stage ≡ false)
  taken c k = go k.take
    where
      go : (At row6_take no_stage (process_of s 0)) ⊎ (At row8_take no_stage (process_of s 0)) → (gathers (process_of s 0).place (process_of s 0).stage ≡ true) × (busy_of (process_of s 0).place (process_of s 0).stage ≡ false)
      go (inl a) = rw a.place (refl, refl)
      go (inr a) = rw a.place (refl, refl)

  none : (c : Choice) → TakesNone s c (process_of s 0) → NoGrey s
  none c k =
      let a = taken c k in
      none_gathered s v a.0 k.none (v.ends a.0 k.none (λ m i j e. absurd (false≢true (sym e ∙ ap (λ (x : Part). x.in_step) (settled_handshakes s v.inv.handshakes a.1 m i j)))))

pub step_quiet : RowsKeep QuietZone
step_quiet s t c v r q d h = go ((row_begins s t c v.inv.formed r).ended q) (grey_was s t c v r d h)
  where
    go : (quiet (process_of s 0).place (process_of s 0).stage ≡ true) ⊎ TakesNone s c (process_of s 0) → Greyed s c d → ⊥
    go (inl i) (Greyed.was k) = v.quiet i d k
    go (inl i) (Greyed.now k j w l) = no_write s v i c.process d l k j w
    go (inr i) (Greyed.was k) = none s v c i d k
    go (inr i) (Greyed.now k j w l) = collector_rests s v (taken s v c i).0 (subst (λ p. Marks (process_of s p) d) i.process k)
