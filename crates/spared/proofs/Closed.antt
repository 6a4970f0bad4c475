-- B12: good cells lead to good cells. Assumes nothing.
--     step_closed     the clause is kept
use mathlib.Core.Path.{◌≡◌, refl, sym, ◌∙◌}
use mathlib.Core.Bool.{Bool, true, false, ◌||◌}
use mathlib.Core.List.{List}
use mathlib.Core.Logic.{◌⊎◌, inl, inr, ⊎_elim, by_cases}
use Prim.Native.Nat.{ℕ}
use native.Mathlib.Decide.{ℕ_discrete}
use lib.Dec.{leb}
use Rattle.base.specs.Pick.{pick}
use Rattle.cells.proofs.Bools.{split, not_both, or_cases}
use Rattle.buffers.specs.declared.Store.TheVariants as store
use Rattle.buffers.specs.declared.Entry.{Entry}
use Rattle.memory.specs.declared.Memory.{Memory}
use Rattle.memory.specs.Memories.{used_of, mark_of}
use Rattle.state.specs.declared.Process.{Process}
use Rattle.state.specs.declared.State.{State}
use Rattle.state.specs.declared.Choice.{Choice}
use Rattle.state.specs.Codes.{row9_write, row10_free, no_stage}
use Rattle.state.specs.States.{process_of}
use Rattle.model.specs.Rows.{At, Row}
use Rattle.reach.specs.Reach.{Names}
use Rattle.claims.specs.Pending.{waiting_of}
use Rattle.claims.proofs.Answering.{implied}
use Rattle.claims.proofs.Rules.{Checked, ruled}
use Rattle.spared.specs.Shades.{Marked}
use Rattle.spared.specs.Holds.{StoreIn, HeldBy}
use Rattle.spared.specs.Zones.{rests, in_sweep}
use Rattle.spared.specs.Views.{Effect}
use Rattle.spared.specs.Seats.{all_stations, leads_to}
use Rattle.spared.specs.Good.{Good, Closed}
use Rattle.spared.specs.Inv.{Spared}
use Rattle.spared.specs.Lemmas.{RowsKeep}
use Rattle.spared.proofs.Effects.{row_effect}
use Rattle.spared.proofs.Ruled.{row_ruled}
use Rattle.spared.proofs.Holds.{held_there}
use Rattle.spared.proofs.Eras.{collector_fields}
use Rattle.spared.proofs.Shades.{marked_good}
use Rattle.spared.proofs.Stays.{marked_stays, used_or_freed}
use Rattle.spared.proofs.Names.{Named, names_were}
use Rattle.spared.proofs.Quiets.{sweeping_ended}
use Rattle.spared.proofs.Rested.{step_rested}
use Rattle.spared.proofs.Good.{sweeps_from, ended_sense, ended_held, ended_names}

-- ---- the collector's places: the sweep runs from row 9's write on, and after it all is marked
abbrev sweep_rule_lem : ℕ → ℕ → Bool
sweep_rule_lem k j = pick (in_sweep k) (leb row9_write k) true

sweep_rule : Checked sweep_rule_lem
sweep_rule = ((((((((tt, refl), refl), refl), refl), refl), refl), refl), refl)

abbrev over_rule : ℕ → ℕ → ℕ → ℕ → Bool
over_rule k j h i = pick (in_sweep k) (in_sweep h || rests h) true

over_stays : Checked (λ k j. over_rule k j k j)
over_stays = ((((((((tt, refl), refl), refl), refl), refl), refl), refl), refl)

over_leads : Checked (λ k j. all_stations (λ a. over_rule k j a.place a.stage) (leads_to k j))
over_leads = ((((((((tt, refl), refl), refl), refl), refl), refl), refl), refl)

-- ---- where no mark is pending a marked cell was marked
module _ {m n : Memory} (a : ℕ) (g : n.fm ≡ m.fm) (u : used_of m a ≡ true) where
  like : mark_of n a ≡ mark_of m a → Marked n a → Marked m a
  like e h = record { occupied = u; equal = sym e ∙ h.equal ∙ g }

  marked_was : {c : Choice} {q : Process} {l : List Entry} → ((x : ℕ) (b : Bool) → StoreIn l (store.Mark x b) → ⊥) → Effect c q l m n → Marked n a → Marked m a
  marked_was none (Effect.calm y b f s) h = like (b a) h
  marked_was none (Effect.marks {x} {b} i o e w y f s) h = absurd (none x b i)
  marked_was none (Effect.stores i o f e b y w s) h = like (w a) h
  marked_was none (Effect.flips i e f y b w) h = like (b a) h
  marked_was none (Effect.follows i e f y b w) h = like (b a) h
  marked_was {c = c} none (Effect.allocates p o i f y e v b w k s) h = by_cases (ℕ_discrete a c.x) (λ z. absurd (not_both u (rw z f))) (λ z. like (w a z) h)
  marked_was {q = q} none (Effect.frees p y b w k s) h = by_cases (ℕ_discrete a q.x) (λ z. absurd (not_both h.occupied (rw z y))) (λ z. like (w a z) h)

module _ (s t : State) (c : Choice) (v : Spared s) (r : Row s c t) where
  -- ---- from row 9's write on marked cells lead to marked cells
  module _ (z : leb row9_write (process_of s 0).place ≡ true) where
    to_marked : (a d : ℕ) → Marked t.memory a → Named (waiting_of s c.process) s.memory a d → Marked s.memory d
    to_marked a d h (Named.was u n) =
        ended_names s v z a d (marked_was a (ended_sense s v z t c r) u ((sweeping_ended s v z).1 c.process) (row_effect s t c v.inv.formed r) h) n
    to_marked a d h (Named.stored x f i n) = let b = collector_fields s v.inv c.process x f d i in ended_held s v z c.process b.0 b.1 d (HeldBy.value x f i n)

    marked_leads : (a d : ℕ) → Marked t.memory a → Names t.memory a d → Good t d
    marked_leads a d h n = marked_good (marked_stays s t c v r (ended_sense s v z t c r) d (to_marked a d h (names_were a d (row_effect s t c v.inv.formed r) h.occupied n)))

  -- ---- outside the sweep occupied cells lead to occupied cells
  module _ (z : in_sweep (process_of s 0).place ≡ false) where
    good : (d : ℕ) → used_of s.memory d ≡ true → Good s d
    good d u = record { occupied = u; marked = λ y. absurd (not_both y z) }

    occupied_was : (a d : ℕ) → Named (waiting_of s c.process) s.memory a d → used_of s.memory d ≡ true
    occupied_was a d (Named.was u n) = (v.closed a d (good a u) n).occupied
    occupied_was a d (Named.stored x f i n) = (v.held d (held_there s v.inv.formed c.process d (HeldBy.value x f i n))).occupied

    freed : (p : ℕ) → p ≡ 0 → At row10_free no_stage (process_of s p) → ⊥
    freed p e a = not_both (rw (rw e at a.place) refl) z

    occupied_leads : (a d : ℕ) → used_of t.memory a ≡ true → Names t.memory a d → used_of t.memory d ≡ true
    occupied_leads a d u n =
        ⊎_elim (λ e. e) (λ h. absurd (freed c.process h.1.1 h.0)) (used_or_freed s t c v r d (occupied_was a d (names_were a d (row_effect s t c v.inv.formed r) u n)))

pub step_closed : RowsKeep Closed
step_closed s t c v r a d g n = go (split (in_sweep (process_of t 0).place)) (split (in_sweep (process_of s 0).place))
  where
    over : in_sweep (process_of s 0).place ≡ true → Marked t.memory a
    over y =
        ⊎_elim (λ e. g.marked e) (λ e. (step_rested s t c v r).at e a g.occupied)
        (or_cases (in_sweep (process_of t 0).place) (rests (process_of t 0).place) (implied (in_sweep (process_of s 0).place) (row_ruled over_rule over_stays over_leads s t c v.inv.formed r) y))

    go : (in_sweep (process_of t 0).place ≡ true) ⊎ (in_sweep (process_of t 0).place ≡ false) → (in_sweep (process_of s 0).place ≡ true) ⊎ (in_sweep (process_of s 0).place ≡ false) → Good t d
    go (inl z) y = marked_leads s t c v r (sweeps_from s t c v r z) a d (g.marked z) n
    go (inr z) (inl y) = marked_leads s t c v r (implied (in_sweep (process_of s 0).place) (ruled sweep_rule_lem sweep_rule s v.inv.formed) y) a d (over y) n
    go (inr z) (inr y) = record { occupied = occupied_leads s t c v r y a d g.occupied n; marked = λ e. absurd (not_both e z) }
