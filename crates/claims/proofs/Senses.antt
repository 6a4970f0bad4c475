-- What the collector's place tells of the handshakes and of memory together. Assumes nothing.
--     flip_idle       while fM waits in the collector's buffer every mutator's handshake phase is Idle
--     idle_phase      while a mutator's handshake phase is Idle, so is memory's phase
--     scan_sense      inside its compare and swap the collector has noted memory's fM
use mathlib.Core.Path.{◌≡◌, refl, sym, ap, ◌∙◌}
use mathlib.Core.Bool.{Bool, true, false, not, false≢true}
use mathlib.Core.List.{List, ◌∷◌}
use mathlib.Core.Logic.{◌⊎◌, inl, inr}
use Prim.Native.Nat.{ℕ, ◌≤◌, ◌<◌}
use Rattle.base.specs.Pick.{pick}
use Rattle.base.specs.Every.{◌and◌}
use Rattle.base.proofs.Everies.{and_both}
use Rattle.cells.proofs.Bools.{split, not_both}
use Rattle.buffers.specs.declared.Phase.{Phase}
use Rattle.buffers.specs.declared.Phase.TheVariants as phase
use Rattle.buffers.specs.declared.Store.TheVariants as store
use Rattle.buffers.specs.declared.Entry.{Entry}
use Rattle.memory.specs.Views.{pending_for}
use Rattle.memory.proofs.Shapes.{pending_is}
use Rattle.state.specs.declared.Handshake.{Handshake}
use Rattle.state.specs.declared.Handshake.TheVariants as hand
use Rattle.state.specs.declared.RoundType.{RoundType}
use Rattle.state.specs.declared.Part.{Part}
use Rattle.state.specs.declared.Process.{Process}
use Rattle.state.specs.declared.State.{State}
use Rattle.state.specs.States.{mutators_of, process_of}
use Rattle.formed.specs.Fits.{WellFormed}
use Rattle.verdict.specs.Table.{InTable}
use Rattle.claims.specs.Lock.{inside_at, Inside}
use Rattle.claims.specs.Posted.{posted_of, busy_of}
use Rattle.claims.specs.Flags.{Flagged}
use Rattle.claims.specs.Handshakes.{Handshakes}
use Rattle.claims.specs.Written.{Stretch, Moment, stretch_of, moment_of, entry_for, Wrote, CollectorWrote}
use Rattle.claims.proofs.Rules.{Checked, ruled}
use Rattle.claims.proofs.Flags.{settled}
use Rattle.claims.proofs.Answering.{implied}
use Rattle.claims.proofs.Handshakes.{settled_handshakes}

-- ---- handshake phases
abbrev pub idle_of : Handshake → Bool
idle_of hand.Idle = true
idle_of hand.IdleInit = false
idle_of hand.InitMark = false
idle_of hand.Mark = false
idle_of hand.IdleMarkSweep = false

abbrev idle_init_of : Handshake → Bool
idle_init_of hand.Idle = false
idle_init_of hand.IdleInit = true
idle_init_of hand.InitMark = false
idle_init_of hand.Mark = false
idle_init_of hand.IdleMarkSweep = false

pub is_idle_lem : (h : Handshake) → idle_of h ≡ true → h ≡ hand.Idle
is_idle_lem hand.Idle e = refl
is_idle_lem hand.IdleInit e = absurd (false≢true e)
is_idle_lem hand.InitMark e = absurd (false≢true e)
is_idle_lem hand.Mark e = absurd (false≢true e)
is_idle_lem hand.IdleMarkSweep e = absurd (false≢true e)

-- ---- fM waits
abbrev flips_of : Stretch → Moment → Bool
flips_of Stretch.flipped Moment.fences = true
flips_of Stretch.flipped Moment.unlocks = false
flips_of Stretch.flipped Moment.goes = false
flips_of Stretch.rests w = false
flips_of Stretch.flips w = false
flips_of Stretch.opens w = false
flips_of Stretch.allocates w = false
flips_of Stretch.allocated w = false
flips_of Stretch.marks w = false
flips_of Stretch.sweeps w = false

sense_flips : {n : Bool} {z : Stretch} {w : Moment} {x : Bool} {l : List Entry} {b d : Bool} {h : Phase} → Wrote n z w (entry_for (store.Sense x) ∷ l) b d h → flips_of z w ≡ true
sense_flips Wrote.sense = refl

abbrev flip_rule_lem : ℕ → ℕ → Bool
flip_rule_lem k j = pick (flips_of (stretch_of k) (moment_of k j)) (not (busy_of k j) and idle_of (posted_of k j)) true

flip_rule : Checked flip_rule_lem
flip_rule = ((((((((tt, refl), refl), refl), refl), refl), refl), refl), refl)

not_true_false : (a : Bool) → not a ≡ true → a ≡ false
not_true_false true e = sym e
not_true_false false e = refl

pub flip_idle : (s : State) {x : Bool} {l : List Entry} → WellFormed s → Handshakes s → CollectorWrote s → pending_for s.memory 0 ≡ entry_for (store.Sense x) ∷ l → (m : ℕ) → 0 < m → m ≤ mutators_of s → (process_of s m).part.phase ≡ hand.Idle
flip_idle s w v k e m a b =
    let q = process_of s 0 in
    let f = sense_flips (rw (sym (pending_is s.memory 0) ∙ e) at k) in
    let g = and_both (not (busy_of q.place q.stage)) (idle_of (posted_of q.place q.stage)) (implied (flips_of (stretch_of q.place) (moment_of q.place q.stage)) (ruled flip_rule_lem flip_rule s w) f) in
    ap (λ (i : Part). i.phase) (settled_handshakes s v (not_true_false (busy_of q.place q.stage) g.0) m a b) ∙ v.posted ∙ is_idle_lem (posted_of q.place q.stage) g.1

-- ---- a mutator's handshake phase is Idle
abbrev calm_of : Stretch → Moment → Bool
calm_of Stretch.rests Moment.fences = false
calm_of Stretch.rests Moment.unlocks = true
calm_of Stretch.rests Moment.goes = true
calm_of Stretch.flips w = true
calm_of Stretch.flipped w = true
calm_of Stretch.opens w = false
calm_of Stretch.allocates w = false
calm_of Stretch.allocated w = false
calm_of Stretch.marks w = false
calm_of Stretch.sweeps w = false

calm_phase : {n : Bool} {z : Stretch} {w : Moment} {l : List Entry} {b d : Bool} {h : Phase} → Wrote n z w l b d h → calm_of z w ≡ true → h ≡ phase.Idle
calm_phase Wrote.both_idle e = absurd (false≢true e)
calm_phase Wrote.idle e = absurd (false≢true e)
calm_phase Wrote.rests e = refl
calm_phase Wrote.flips e = refl
calm_phase Wrote.sense e = refl
calm_phase Wrote.flipped e = refl
calm_phase Wrote.init e = refl
calm_phase Wrote.opens e = absurd (false≢true e)
calm_phase Wrote.marking e = absurd (false≢true e)
calm_phase Wrote.marked e = absurd (false≢true e)
calm_phase Wrote.both_alloc e = absurd (false≢true e)
calm_phase Wrote.alloc e = absurd (false≢true e)
calm_phase Wrote.overtaken e = absurd (false≢true e)
calm_phase Wrote.allocated e = absurd (false≢true e)
calm_phase Wrote.marks e = absurd (false≢true e)
calm_phase Wrote.mark e = absurd (false≢true e)
calm_phase Wrote.sweep e = absurd (false≢true e)
calm_phase Wrote.sweeps e = absurd (false≢true e)

-- in step the system's is Idle too; not in step it is IdleInit, and the round is under way
idle_line : {i : Bool} {k : RoundType} {a : Handshake} → InTable i k a hand.Idle → (idle_of a ≡ true) ⊎ ((idle_init_of a ≡ true) × (i ≡ false))
idle_line InTable.idle = inl refl
idle_line InTable.to_idle_init = inr (refl, refl)

abbrev idle_rule_lem : ℕ → ℕ → Bool
idle_rule_lem k j = pick (idle_of (posted_of k j)) (calm_of (stretch_of k) (moment_of k j)) true

idle_rule : Checked idle_rule_lem
idle_rule = ((((((((tt, refl), refl), refl), refl), refl), refl), refl), refl)

abbrev behind_rule_lem : ℕ → ℕ → Bool
behind_rule_lem k j = pick (idle_init_of (posted_of k j) and busy_of k j) (calm_of (stretch_of k) (moment_of k j)) true

behind_rule : Checked behind_rule_lem
behind_rule = ((((((((tt, refl), refl), refl), refl), refl), refl), refl), refl)

out_busy : (o : Process) (m : ℕ) {p : Part} → Flagged o m p → p.in_step ≡ false → busy_of o.place o.stage ≡ true
out_busy o m f e = go (split (busy_of o.place o.stage))
  where
    go : (busy_of o.place o.stage ≡ true) ⊎ (busy_of o.place o.stage ≡ false) → busy_of o.place o.stage ≡ true
    go (inl h) = h
    go (inr h) = absurd (not_both (settled o m h f).1 e)

both : {a b : Bool} → a ≡ true → b ≡ true → (a and b) ≡ true
both e f = rw (e, f) refl

pub idle_phase : (s : State) → WellFormed s → Handshakes s → CollectorWrote s → (m : ℕ) → 0 < m → m ≤ mutators_of s → (process_of s m).part.phase ≡ hand.Idle → s.memory.phase.phase ≡ phase.Idle
idle_phase s w v k m a b e = calm_phase k (go (idle_line (rw e at (v.table m a b).line)))
  where
    o : Process
    o = process_of s 0

    go : (idle_of s.system.phase ≡ true) ⊎ ((idle_init_of s.system.phase ≡ true) × ((process_of s m).part.in_step ≡ false)) →
        calm_of (stretch_of (process_of s 0).place) (moment_of (process_of s 0).place (process_of s 0).stage) ≡ true
    go (inl h) = implied (idle_of (posted_of (process_of s 0).place (process_of s 0).stage)) (ruled idle_rule_lem idle_rule s w) (rw v.posted at h)
    go (inr h) =
        implied (idle_init_of (posted_of (process_of s 0).place (process_of s 0).stage) and busy_of (process_of s 0).place (process_of s 0).stage) (ruled behind_rule_lem behind_rule s w)
        (both (rw v.posted at h.0) (out_busy (process_of s 0) m (v.flags m a b) h.1))

-- ---- the collector inside its compare and swap
abbrev marks_of : Stretch → Bool
marks_of Stretch.rests = false
marks_of Stretch.flips = false
marks_of Stretch.flipped = false
marks_of Stretch.opens = false
marks_of Stretch.allocates = false
marks_of Stretch.allocated = false
marks_of Stretch.marks = true
marks_of Stretch.sweeps = false

marks_sense : {n : Bool} {z : Stretch} {w : Moment} {l : List Entry} {b d : Bool} {h : Phase} → Wrote n z w l b d h → marks_of z ≡ true → n ≡ b
marks_sense Wrote.both_idle e = refl
marks_sense Wrote.idle e = refl
marks_sense Wrote.rests e = absurd (false≢true e)
marks_sense Wrote.flips e = refl
marks_sense Wrote.sense e = absurd (false≢true e)
marks_sense Wrote.flipped e = refl
marks_sense Wrote.init e = refl
marks_sense Wrote.opens e = refl
marks_sense Wrote.marking e = refl
marks_sense Wrote.marked e = refl
marks_sense Wrote.both_alloc e = refl
marks_sense Wrote.alloc e = refl
marks_sense Wrote.overtaken e = refl
marks_sense Wrote.allocated e = refl
marks_sense Wrote.marks e = refl
marks_sense Wrote.mark e = refl
marks_sense Wrote.sweep e = refl
marks_sense Wrote.sweeps e = refl

abbrev inside_rule_lem : ℕ → ℕ → Bool
inside_rule_lem k j = pick (inside_at k j) (marks_of (stretch_of k)) true

inside_rule : Checked inside_rule_lem
unfolding inside_at
inside_rule = ((((((((tt, refl), refl), refl), refl), refl), refl), refl), refl)

pub scan_sense : (s : State) → WellFormed s → CollectorWrote s → Inside (process_of s 0) → (process_of s 0).sense ≡ s.memory.fm
scan_sense s w k i = marks_sense k (implied (inside_at (process_of s 0).place (process_of s 0).stage) (ruled inside_rule_lem inside_rule s w) i)
