-- B11: no held reference is free, and none is white while the sweep runs. Assumes nothing.
--     sweeps_from       the sweep is entered from row 9's write
--     ended_sense       from row 9's write on fM stays
--     ended_held        .. what is held is marked
--     ended_names       .. and what marked cells name
--     step_held         the clause is kept
use mathlib.Core.Path.{◌≡◌, refl, sym, ap, ◌∙◌}
use mathlib.Core.Bool.{Bool, true, false≢true}
use mathlib.Core.Logic.{inl, ⊎_elim}
use Prim.Native.Nat.{ℕ, ◌≤◌, ◌<◌}
use native.Mathlib.Omega.{arith}
use lib.Dec.{leb}
use borrow.Author.Tests.{leb-true, le-leb}
use Rattle.base.specs.Pick.{pick}
use Rattle.state.specs.declared.Handshake.TheVariants as hand
use Rattle.state.specs.declared.State.{State}
use Rattle.state.specs.declared.Choice.{Choice}
use Rattle.state.specs.Codes.{row6_round, row9_write, row10_free, no_stage}
use Rattle.state.specs.States.{mutators_of, process_of}
use Rattle.model.specs.Rows.{At, Row}
use Rattle.reach.specs.Reach.{here, via, Names}
use Rattle.claims.proofs.Answering.{implied}
use Rattle.claims.proofs.Rules.{Checked}
use Rattle.claims.proofs.Inv.{row_inv}
use Rattle.spared.specs.Shades.{Marked}
use Rattle.spared.specs.Holds.{HeldAt}
use Rattle.spared.specs.Zones.{quiet, in_sweep, deleting}
use Rattle.spared.specs.Seats.{all_stations, leads_to}
use Rattle.spared.specs.Good.{Good, HeldGood}
use Rattle.spared.specs.Inv.{Spared}
use Rattle.spared.specs.Lemmas.{RowsKeep, Gained}
use Rattle.spared.proofs.Paces.{row_mutators}
use Rattle.spared.proofs.Ruled.{row_ruled}
use Rattle.spared.proofs.Holds.{held_somewhere, held_there}
use Rattle.spared.proofs.Eras.{alloc_follows}
use Rattle.spared.proofs.Shades.{marked_not_white, snap_marked}
use Rattle.spared.proofs.Flips.{row_sense}
use Rattle.spared.proofs.Stays.{freed_white, marked_stays, used_or_freed}
use Rattle.spared.proofs.Snaps.{some_mutator}
use Rattle.spared.proofs.Gains.{held_was}
use Rattle.spared.proofs.Quiets.{sweeping_ended, quiet_held}

-- ---- the sweep is entered at row 9's write
abbrev sweep_rule_lem : ℕ → ℕ → ℕ → ℕ → Bool
sweep_rule_lem k j h i = pick (in_sweep h) (leb row9_write k) true

sweep_stays : Checked (λ k j. sweep_rule_lem k j k j)
sweep_stays = ((((((((tt, refl), refl), refl), refl), refl), refl), refl), refl)

sweep_leads : Checked (λ k j. all_stations (λ a. sweep_rule_lem k j a.place a.stage) (leads_to k j))
sweep_leads = ((((((((tt, refl), refl), refl), refl), refl), refl), refl), refl)

pub sweeps_from : (s t : State) (c : Choice) → Spared s → Row s c t → in_sweep (process_of t 0).place ≡ true → leb row9_write (process_of s 0).place ≡ true
sweeps_from s t c v r z = implied (in_sweep (process_of t 0).place) (row_ruled sweep_rule_lem sweep_stays sweep_leads s t c v.inv.formed r) z

-- ---- from row 9's write on
module _ (s : State) (v : Spared s) (z : leb row9_write (process_of s 0).place ≡ true) where
  ended_quiet : quiet (process_of s 0).place (process_of s 0).stage ≡ true
  ended_quiet = rw z refl

  not_idle : (m : ℕ) → 0 < m → m ≤ mutators_of s → (process_of s m).part.phase ≡ hand.Idle → ⊥
  not_idle m pos mine e = false≢true (ap deleting (sym e ∙ (sweeping_ended s v z).0 m pos mine))

  -- every phase is IdleMarkSweep, and at the flip every one is Idle
  pub ended_sense : (t : State) (c : Choice) → Row s c t → t.memory.fm ≡ s.memory.fm
  ended_sense t c r = ⊎_elim (λ e. e) (λ f. let one = some_mutator s v.inv.formed in absurd (not_idle 1 (omega arith) one (f.idle 1 (omega arith) one))) (row_sense s t c v r)

  pub ended_held : (m : ℕ) → 0 < m → m ≤ mutators_of s → (d : ℕ) → HeldAt s m d → Marked s.memory d
  ended_held m pos mine d h = quiet_held s v ended_quiet m pos mine (not_idle m pos mine) d h

  pub ended_names : (a d : ℕ) → Marked s.memory a → Names s.memory a d → Marked s.memory d
  ended_names a d h n = snap_marked s v (v.quiet ended_quiet) d (via (here h) h.occupied n)

-- ---- a step
module _ (s t : State) (c : Choice) (v : Spared s) (r : Row s c t) where
  -- the cell that is freed is white, so it is not good
  not_freed : (d p : ℕ) → p ≡ 0 → At row10_free no_stage (process_of s p) → (process_of s p).x ≡ d → Good s d → ⊥
  not_freed d p e a i g = marked_not_white (g.marked (rw (rw e at a.place) refl)) (rw i at (freed_white s v p a))

  -- a good cell stays good, if it was marked where the sweep begins or runs
  stays_good : (d : ℕ) → Good s d → (leb row9_write (process_of s 0).place ≡ true → Marked s.memory d) → Good t d
  stays_good d g k =
      record {
        occupied = ⊎_elim (λ u. u) (λ f. absurd (not_freed d c.process f.1.1 f.0 f.1.0 g)) (used_or_freed s t c v r d g.occupied);
        marked = λ z. let y = sweeps_from s t c v r z in marked_stays s t c v r (ended_sense s v y t c r) d (k y);
      }

  gained_good : (p d : ℕ) → 0 < p → p ≤ mutators_of s → Gained s t p d → Good t d
  gained_good p d pos mine (Gained.was h) = stays_good d (v.held d (held_there s v.inv.formed p d h)) (λ z. ended_held s v z p pos mine d h)
  gained_good p d pos mine (Gained.named a h n) =
      stays_good d (v.closed a d (v.held a (held_there s v.inv.formed p a h)) n) (λ z. ended_names s v z a d (ended_held s v z p pos mine a h) n)
  gained_good p d pos mine (Gained.fresh u e) =
      record {
        occupied = u;
        marked = λ z.
            let y = sweeps_from s t c v r z in
            let k = leb-true row9_write (process_of s 0).place y in
            record { occupied = u; equal = e ∙ alloc_follows s v.inv (inl (le-leb row6_round (process_of s 0).place (omega arith))) ∙ sym (ended_sense s v y t c r) };
      }

pub step_held : RowsKeep HeldGood
step_held s t c v r d h =
    let a = held_somewhere t (row_inv s c t v.inv r) d h in
    let mine : a.0 ≤ mutators_of s = rw (row_mutators s t c r) at a.1.1.0 in
    gained_good s t c v r a.0 d a.1.0 mine (held_was s t c v r a.0 a.1.0 mine d a.1.1.1)
