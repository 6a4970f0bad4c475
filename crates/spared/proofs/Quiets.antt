-- The quiet zone: from the end of marking to the fence of row 3. Assumes nothing.
--     sweeping_ended     from row 9's write on every phase is IdleMarkSweep, and no mark is pending (S11)
--     quiet_held         what a mutator past Idle holds is marked (S13)
use mathlib.Core.Path.{◌≡◌, refl, sym, ap, ◌∙◌}
use mathlib.Core.Bool.{Bool, true, false, not, ◌&&◌, ◌||◌}
use mathlib.Core.Logic.{◌⊎◌, inl, inr}
use Prim.Native.Nat.{ℕ, ◌≤◌, ◌<◌}
use lib.Dec.{eqb, leb}
use borrow.Author.Tests.{eqb-true}
use Rattle.base.specs.Pick.{pick}
use Rattle.cells.proofs.Bools.{or_cases, or_left, and_parts}
use Rattle.state.specs.declared.Part.{Part}
use Rattle.state.specs.declared.State.{State}
use Rattle.state.specs.Codes.{row9_write}
use Rattle.state.specs.States.{mutators_of, process_of}
use Rattle.verdict.specs.Table.{sweeping_of}
use Rattle.verdict.specs.Colours.{Grey}
use Rattle.claims.specs.Posted.{posted_of, busy_of}
use Rattle.claims.specs.Inv.{Inv}
use Rattle.claims.proofs.Answering.{implied}
use Rattle.claims.proofs.Handshakes.{settled_handshakes}
use Rattle.claims.proofs.Rules.{Checked, ruled}
use Rattle.claims.proofs.Senses.{idle_of, is_idle_lem}
use Rattle.spared.specs.Shades.{Marked}
use Rattle.spared.specs.Zones.{rests, quiet, in_sweep}
use Rattle.spared.specs.Lemmas.{SweepingEnded, QuietHeld}
use Rattle.spared.proofs.Eras.{is_sweeping}
use Rattle.spared.proofs.Holds.{held_there}
use Rattle.spared.proofs.Marks.{mark_store, marked_cell_lem}
use Rattle.spared.proofs.Shades.{snap_marked}

-- ---- the phases, where no round is under way
not-true : (a : Bool) → not a ≡ true → a ≡ false
not-true true e = sym e
not-true false e = refl

posted : (s : State) → Inv s → not (busy_of (process_of s 0).place (process_of s 0).stage) ≡ true → (m : ℕ) → 0 < m → m ≤ mutators_of s → (process_of s m).part.phase ≡ posted_of (process_of s 0).place (process_of s 0).stage
posted s v e m a b = ap (λ (i : Part). i.phase) (settled_handshakes s v.handshakes (not-true (busy_of (process_of s 0).place (process_of s 0).stage) e) m a b) ∙ v.handshakes.posted

-- ---- from row 9's write on
abbrev ended_rule_lem : ℕ → ℕ → Bool
ended_rule_lem k j = pick (leb row9_write k) (not (busy_of k j) && sweeping_of (posted_of k j)) true

ended_rule : Checked ended_rule_lem
ended_rule = ((((((((tt, refl), refl), refl), refl), refl), refl), refl), refl)

pub sweeping_ended : SweepingEnded
sweeping_ended s v e =
    let k = (process_of s 0).place in
    let j = (process_of s 0).stage in
    let h = and_parts (not (busy_of k j)) (sweeping_of (posted_of k j)) (implied (leb row9_write k) (ruled ended_rule_lem ended_rule s v.inv.formed) e) in
    (λ m a b. posted s v.inv h.0 m a b ∙ is_sweeping (posted_of k j) h.1, λ p c b i. v.quiet (or_left _ (or_left _ e)) c (Grey.greying p (mark_store s v p c b i).grey (marked_cell_lem s v.inv.formed p i)))

-- ---- what is held: rows 11 to 2 and the sweep by their own clauses, row 9's write by the snapshot; at row 3's fence
-- everybody is in Idle
abbrev quiet_rule_lem : ℕ → ℕ → Bool
quiet_rule_lem k j = pick (quiet k j) (rests k || (in_sweep k || (eqb k row9_write || (not (busy_of k j) && idle_of (posted_of k j))))) true

quiet_rule : Checked quiet_rule_lem
quiet_rule = ((((((((tt, refl), refl), refl), refl), refl), refl), refl), refl)

pub quiet_held : QuietHeld
quiet_held s v z m a b n c h = rest (or_cases (rests k) (in_sweep k || (eqb k row9_write || (not (busy_of k j) && idle_of (posted_of k j)))) (implied (quiet k j) (ruled quiet_rule_lem quiet_rule s v.inv.formed) z))
  where
    k : ℕ
    k = (process_of s 0).place

    j : ℕ
    j = (process_of s 0).stage

    last : (eqb (process_of s 0).place row9_write ≡ true) ⊎ ((not (busy_of (process_of s 0).place (process_of s 0).stage) && idle_of (posted_of (process_of s 0).place (process_of s 0).stage)) ≡ true) → Marked s.memory c
    last (inl e) =
        let y = eqb-true k row9_write e in
        snap_marked s v (v.quiet z) c (v.snapshot (rw y refl) m a b ((sweeping_ended s v (rw y refl)).0 m a b) c h)
    last (inr e) =
        let y = and_parts (not (busy_of k j)) (idle_of (posted_of k j)) e in
        absurd (n (posted s v.inv y.0 m a b ∙ is_idle_lem (posted_of k j) y.1))

    sweep : (in_sweep (process_of s 0).place ≡ true) ⊎ ((eqb (process_of s 0).place row9_write || (not (busy_of (process_of s 0).place (process_of s 0).stage) && idle_of (posted_of (process_of s 0).place (process_of s 0).stage))) ≡ true) → Marked s.memory c
    sweep (inl e) = (v.held c (held_there s v.inv.formed m c h)).marked e
    sweep (inr e) = last (or_cases (eqb k row9_write) (not (busy_of k j) && idle_of (posted_of k j)) e)

    rest : (rests (process_of s 0).place ≡ true) ⊎ ((in_sweep (process_of s 0).place || (eqb (process_of s 0).place row9_write || (not (busy_of (process_of s 0).place (process_of s 0).stage) && idle_of (posted_of (process_of s 0).place (process_of s 0).stage)))) ≡ true) → Marked s.memory c
    rest (inl e) = v.rested.at e c (v.held c (held_there s v.inv.formed m c h)).occupied
    rest (inr e) = sweep (or_cases (in_sweep k) (eqb k row9_write || (not (busy_of k j) && idle_of (posted_of k j))) e)
