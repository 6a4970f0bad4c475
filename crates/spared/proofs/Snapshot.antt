-- B17: in the region what a mutator that has given its roots holds is in the snapshot. Assumes nothing.
--     step_snapshot     the clause is kept
use mathlib.Core.Path.{◌≡◌, refl, sym, ap, ◌∙◌}
use mathlib.Core.Bool.{Bool, true, false, not, false≢true}
use mathlib.Core.Logic.{◌⊎◌, inl, inr}
use Prim.Native.Nat.{ℕ, ◌≤◌, ◌<◌}
use native.Mathlib.Omega.{arith}
use native.Mathlib.Decide.{ℕ_discrete}
use lib.Dec.{leb}
use borrow.Author.Tests.{not-true}
use Rattle.base.specs.Pick.{pick}
use Rattle.base.specs.Every.{◌and◌}
use Rattle.base.proofs.Everies.{and_both}
use Rattle.cells.specs.Sets.{member_of}
use Rattle.cells.proofs.Bools.{split, not_both}
use Rattle.cells.proofs.Members.{member_empty, member_pos}
use Rattle.state.specs.declared.Handshake.{Handshake}
use Rattle.state.specs.declared.Handshake.TheVariants as hand
use Rattle.state.specs.declared.RoundType.TheVariants as round
use Rattle.state.specs.declared.Part.{Part}
use Rattle.state.specs.declared.Process.{Process}
use Rattle.state.specs.declared.State.{State}
use Rattle.state.specs.declared.Choice.{Choice}
use Rattle.state.specs.Codes.{roots_finish, row6_round, no_stage}
use Rattle.state.specs.States.{next_of, mutators_of, process_of}
use Rattle.formed.proofs.Gives.{idle_at}
use Rattle.model.specs.Rows.{At, Row}
use Rattle.stays_formed.proofs.Frames.{named}
use Rattle.reach.specs.Reach.{here, via}
use Rattle.verdict.specs.Table.{InTable, sweeping_of}
use Rattle.claims.specs.Posted.{posted_of, busy_of}
use Rattle.claims.proofs.Moves.{marks_place}
use Rattle.claims.proofs.Answering.{implied}
use Rattle.claims.proofs.Handshakes.{settled_handshakes}
use Rattle.claims.proofs.Rules.{Checked, ruled}
use Rattle.spared.specs.Shades.{Marked, Covered, Snap}
use Rattle.spared.specs.Holds.{HeldBy, HeldAt}
use Rattle.spared.specs.Zones.{region}
use Rattle.spared.specs.Views.{Paces, Aside}
use Rattle.spared.specs.Seats.{all_stations, leads_to, Seated}
use Rattle.spared.specs.Snapshot.{Snapshot}
use Rattle.spared.specs.Inv.{Spared}
use Rattle.spared.specs.Lemmas.{RowsKeep, Gained}
use Rattle.spared.proofs.Paces.{row_paces, row_aside, row_mutators}
use Rattle.spared.proofs.Seats.{led, row_seated}
use Rattle.spared.proofs.Holds.{held_there}
use Rattle.spared.proofs.Eras.{alloc_follows}
use Rattle.spared.proofs.Snaps.{region_sense, snap_stays}
use Rattle.spared.proofs.Gains.{held_was}

-- ---- handshakes
-- no no-op answer leads to IdleMarkSweep
no_noop : {h a : Handshake} → InTable false round.Noop h a → next_of a ≡ hand.IdleMarkSweep → ⊥
no_noop InTable.to_idle e = false≢true (ap sweeping_of e)
no_noop InTable.to_idle_init e = false≢true (ap sweeping_of e)
no_noop InTable.to_init_mark e = false≢true (ap sweeping_of e)
no_noop InTable.to_mark e = false≢true (ap sweeping_of e)

aside_phase : {o u : Process} → Aside o u → u.part.phase ≡ o.part.phase
aside_phase (Aside.aside r i e) = ap (λ (q : Process). q.part.phase) e

-- ---- the collector's places: the region is of row 6 and later, and it is entered from where no round is on and the
-- phase posted is not IdleMarkSweep
abbrev later_rule_lem : ℕ → ℕ → Bool
later_rule_lem k j = pick (region k j) (leb row6_round k) true

later_rule : Checked later_rule_lem
later_rule = ((((((((tt, refl), refl), refl), refl), refl), refl), refl), refl)

abbrev enter_rule : ℕ → ℕ → ℕ → ℕ → Bool
enter_rule k j h i = pick (region h i) (pick (region k j) true (not (busy_of k j) and not (sweeping_of (posted_of k j)))) true

enter_leads : Checked (λ k j. all_stations (λ a. enter_rule k j a.place a.stage) (leads_to k j))
enter_leads = ((((((((tt, refl), refl), refl), refl), refl), refl), refl), refl)

unless : (b : Bool) {a : Bool} → pick b true a ≡ true → b ≡ false → a ≡ true
unless b e f = rw f at e

-- ---- "move its list": at the end of a root answer all that is held is marked
module _ (s : State) (v : Spared s) (m : ℕ) (pos : 0 < m) (mine : m ≤ mutators_of s) (a : At roots_finish no_stage (process_of s m)) where
  covered_marked : (d : ℕ) → 0 < d → Covered s.memory (process_of s m) d → Marked s.memory d
  covered_marked d n (Covered.safe (inl e)) = absurd (omega arith)
  covered_marked d n (Covered.safe (inr h)) = h
  covered_marked d n (Covered.now i) = absurd (false≢true (rw a.place at (marks_place i)))

  given : (d : ℕ) → HeldAt s m d → Marked s.memory d
  given d (HeldBy.root i) =
      let e : member_of (process_of s m).left d ≡ false = rw (idle_at roots_finish refl a.place (v.inv.formed.mutators m pos mine)).left (member_empty d) in
      covered_marked d (member_pos (process_of s m).roots d i) ((v.barriers m pos mine).roots (rw a.place refl) d i e)
  given d (HeldBy.honorary e n) = absurd (omega (arith, (idle_at roots_finish refl a.place (v.inv.formed.mutators m pos mine)).notes.no_old))
  given d (HeldBy.target f y i) = absurd (v.fenced m pos mine (rw a.place refl) d f y i)
  given d (HeldBy.value x f i n) = absurd (v.fenced m pos mine (rw a.place refl) x f d i)

-- ---- a step
module _ (s t : State) (c : Choice) (v : Spared s) (r : Row s c t) (m : ℕ) (pos : 0 < m) (mine : m ≤ mutators_of s) where
  -- in the region: what is held was in the snapshot
  module _ (z : region (process_of s 0).place (process_of s 0).stage ≡ true) where
    gained_snap : (d : ℕ) → ((x : ℕ) → HeldAt s m x → Snap s.memory x) → Gained s t m d → Snap t.memory d
    gained_snap d k (Gained.was h) = snap_stays s t c v r z d (k d h)
    gained_snap d k (Gained.named x h n) = snap_stays s t c v r z d (via (k x h) (v.held x (held_there s v.inv.formed m x h)).occupied n)
    gained_snap d k (Gained.fresh u e) =
        let y = implied (region (process_of s 0).place (process_of s 0).stage) (ruled later_rule_lem later_rule s v.inv.formed) z in
        here (record { occupied = u; equal = e ∙ alloc_follows s v.inv (inl y) ∙ sym (region_sense s t c v r z) })

    -- it had given its roots before, or does so now
    own_held : {o : Process} → Paces (process_of s m) o → o.part.phase ≡ hand.IdleMarkSweep → (x : ℕ) → HeldAt s m x → Snap s.memory x
    own_held (Paces.keeps f) e = v.snapshot z m pos mine (sym f ∙ e)
    own_held (Paces.advances (inl a) b f) e = absurd (no_noop line (sym f ∙ e))
      where
        line : InTable false round.Noop s.system.phase (process_of s m).part.phase
        line =
            let k = v.inv.handshakes.answering m pos mine round.Noop (rw a.place refl) in
            let h = v.inv.handshakes.table m pos mine in
            rw (h.flag k.0, k.1) at h.line
    own_held (Paces.advances (inr a) b f) e = λ x h. here (given s v m pos mine a x h)

    held : (process_of t m).part.phase ≡ hand.IdleMarkSweep → (x : ℕ) → HeldAt s m x → Snap s.memory x
    held e = go (ℕ_discrete m c.process)
      where
        go : Dec (m ≡ c.process) → (x : ℕ) → HeldAt s m x → Snap s.memory x
        go (yes i) = own_held (named (λ j. Paces (process_of s j) (process_of t j)) i (row_paces s t c v.inv.formed r)) e
        go (no i) = v.snapshot z m pos mine (sym (aside_phase (row_aside s t c v.inv.formed r m i)) ∙ e)

  -- the region is entered when row 6's type is set: then everybody is in step, in Mark
  enters : region (process_of s 0).place (process_of s 0).stage ≡ false → region (process_of t 0).place (process_of t 0).stage ≡ true → (process_of t m).part.phase ≡ hand.IdleMarkSweep → ⊥
  enters z y e = go (row_seated s t c v.inv.formed r)
    where
      go : Seated c (process_of s 0) (process_of t 0) → ⊥
      go (Seated.stays f g) = not_both (rw (f, g) at y) z
      go (Seated.leads k p l) =
          let q = process_of s 0 in
          let u = unless (region q.place q.stage) (implied (region (process_of t 0).place (process_of t 0).stage) (led enter_rule enter_leads s v.inv.formed (process_of t 0).place (process_of t 0).stage l) y) z in
          let b = and_both (not (busy_of q.place q.stage)) (not (sweeping_of (posted_of q.place q.stage))) u in
          let h = ap (λ (i : Part). i.phase) (settled_handshakes s v.inv.handshakes (not-true (busy_of q.place q.stage) b.0) m pos mine) ∙ v.inv.handshakes.posted in
          let i = aside_phase (row_aside s t c v.inv.formed r m (λ n. omega arith)) in
          not_both (ap sweeping_of (sym h ∙ sym i ∙ e)) (not-true (sweeping_of (posted_of q.place q.stage)) b.1)

pub step_snapshot : RowsKeep Snapshot
step_snapshot s t c v r z m pos mine e d h = go (split (region (process_of s 0).place (process_of s 0).stage))
  where
    there : m ≤ mutators_of s
    there = rw (row_mutators s t c r) at mine

    go : (region (process_of s 0).place (process_of s 0).stage ≡ true) ⊎ (region (process_of s 0).place (process_of s 0).stage ≡ false) → Snap t.memory d
    go (inl y) = gained_snap s t c v r m pos there y d (held s t c v r m pos there y e) (held_was s t c v r m pos there d h)
    go (inr y) = absurd (enters s t c v r m pos there y z e)
