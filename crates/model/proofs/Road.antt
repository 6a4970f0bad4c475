-- The road of an own step: offered, its flag up where it answers, told by memory, gone on. Checks 4 to 11 once for
-- all rows. Assumes nothing.
--     own_of         the answer to an own step
--     ask_told      what memory answers to an ask is the first reason that holds of its deed, or none holds
--     Step, step_view     the view of a step, from what it offers and asks: left is the row that it goes to
--     own_goes      and back: where it goes, offered and taken
use mathlib.Core.Path.{◌≡◌, refl}
use mathlib.Core.Bool.{Bool, true, false, false≢true}
use Prim.Native.Nat.{ℕ}
use native.Mathlib.Omega.{arith}
use lib.Dec.{eqb}
use Rattle.base.specs.Pick.{pick}
use Rattle.base.proofs.Picking.{pick_ind}
use Rattle.base.specs.Refusals.{by_flag_down}
use Rattle.buffers.specs.declared.Spot.{Spot}
use Rattle.buffers.specs.declared.Spot.TheVariants as spot
use Rattle.memory.specs.declared.asks.Ask.{Ask}
use Rattle.memory.specs.declared.asks.Ask.TheVariants as ask
use Rattle.memory.specs.declared.asks.Change.{Change}
use Rattle.memory.specs.declared.asks.Change.TheVariants as change
use Rattle.memory.specs.Memories.{blocked_of, there_of}
use Rattle.memory.specs.Looks.{look_of, look_mark_of, look_field_of, look_sense_of, look_phase_of}
use Rattle.memory.specs.Asks as memory
use Rattle.memory.specs.Asks.{looked_of, swept_sight, told_of}
use Rattle.state.specs.declared.State.{State}
use Rattle.state.specs.declared.Choice.{Choice}
use Rattle.state.specs.States.{Answer, with_memory, refused_of, taken_of}
use Rattle.state.specs.Acts.{setting_of, went_of}
use Rattle.mutator.specs.Mutators.{flag_waits}
use Rattle.model.specs.Deeds.{Deed, reads, sweeps, writes, fences, locks, unlocks, allocates, frees, apart, deed_of}
use Rattle.model.specs.Reasons.{mover, FlagDown}
use Rattle.model.specs.Views.{View, stops, goes}
use Rattle.model.proofs.Numbers as number
use Rattle.model.proofs.Numbers.{is_blocked, un_blocked, Buffered, Looked, mark_looked, field_looked, sense_looked, phase_looked, swept, freed, allocated, locked, fenced, unlocked, written}
use Rattle.model.proofs.Deeds.{Offered, Ready, Told, clear, read_told, sweep_told, write_told, fence_told, lock_told, unlock_told, allocate_told, free_told, apart_clear, flag_down_lem, declines, asks}
use Rattle.own.specs.Owns.{own_offers, own_refuses, own_ask, own_go, answered_of}

-- ---- the answer to an own step
abbrev pub told_by : State → Choice → Ask → memory.Told
told_by s c a = told_of s.memory c.process a

-- the state that it goes on to, told t
abbrev pub gone_on : State → Choice → memory.Told → State
gone_on s c t = went_of (with_memory s t.memory) c.process (own_go c (setting_of s c.x) t.sight (mover s c))

unfoldable pub own_of : State → Choice → Answer
own_of s c =
    let n = own_refuses s.memory.cells c (mover s c) in
    pick (eqb n 0) (answered_of s c.process (λ v. own_go c (setting_of s c.x) v (mover s c)) (told_by s c (own_ask c (mover s c)))) (refused_of n s)

-- ---- an ask in the words of the reasons of refusal; a commit is no own step's
abbrev change_deed : Change → Deed
change_deed (change.Write v) = writes v
change_deed change.Commit = apart
change_deed change.Lock = locks
change_deed change.Unlock = unlocks
change_deed (change.Allocate x) = allocates x
change_deed (change.Free x) = frees x

abbrev pub deed_for : Ask → Deed
deed_for ask.Nothing = apart
deed_for (ask.Look at) = reads at
deed_for (ask.Sweep x) = sweeps x
deed_for ask.Fence = fences
deed_for (ask.Make d) = change_deed d

abbrev changes_but : Change → Bool
changes_but (change.Write v) = true
changes_but change.Commit = false
changes_but change.Lock = true
changes_but change.Unlock = true
changes_but (change.Allocate x) = true
changes_but (change.Free x) = true

abbrev pub is_own : Ask → Bool
is_own ask.Nothing = true
is_own (ask.Look at) = true
is_own (ask.Sweep x) = true
is_own ask.Fence = true
is_own (ask.Make d) = changes_but d

module _ (s : State) (c : Choice) (b : Buffered s.memory c.process) where
  looked : (at : Spot) → Looked s.memory c.process at (look_of s.memory c.process at).no
  unfolding look_of look_mark_of look_field_of look_sense_of look_phase_of there_of
  looked (spot.Mark x) = mark_looked s.memory c.process x
  looked (spot.Field x f) = field_looked s.memory c.process x f
  looked spot.Sense = sense_looked s.memory c.process
  looked spot.AllocSense = go (blocked_of s.memory c.process) refl
    where
      go : (t : Bool) → blocked_of s.memory c.process ≡ t → Looked s.memory c.process spot.AllocSense (look_of s.memory c.process spot.AllocSense).no
      go true h = number.blocked (rw h refl) (is_blocked s.memory c.process h)
      go false h = number.seen (rw h refl) (un_blocked s.memory c.process h) (λ f. f)
  looked spot.Phase = phase_looked s.memory c.process

  pub ask_told : (a : Ask) → is_own a ≡ true → Ready s c (deed_for a) → Told s c (told_by s c a).no
  unfolding looked_of swept_sight
  ask_told ask.Nothing n r = clear refl (apart_clear s c r)
  ask_told (ask.Look at) n r = read_told s c r (looked at)
  ask_told (ask.Sweep x) n r = sweep_told s c r (swept s.memory c.process x)
  ask_told ask.Fence n r = fence_told s c r (fenced s.memory c.process b)
  ask_told (ask.Make (change.Write v)) n r = write_told s c r (written s.memory c.process b (record { store = v }))
  ask_told (ask.Make change.Commit) n r = absurd (false≢true n)
  ask_told (ask.Make change.Lock) n r = lock_told s c r (locked s.memory c.process)
  ask_told (ask.Make change.Unlock) n r = unlock_told s c r (unlocked s.memory c.process b)
  ask_told (ask.Make (change.Allocate x)) n r = allocate_told s c r (allocated s.memory c.process x)
  ask_told (ask.Make (change.Free x)) n r = free_told s c r (freed s.memory c.process x)

  -- ---- a step, against the rows R: what it offers, when its flag is asked for, its ask, its deed, and the row that
  -- it goes to
  pub record Step (R : State → Type 0) (a : Ask) : Type 0 where
    pub kind : c.kind ≡ 0
    pub offers : own_offers s.memory.cells c (mover s c) ≡ true → Offered s c
    pub refuses : own_offers s.memory.cells c (mover s c) ≡ false → Offered s c → ⊥
    pub down : flag_waits c (mover s c) ≡ true → FlagDown s c
    pub up : flag_waits c (mover s c) ≡ false → FlagDown s c → ⊥
    pub asked : own_ask c (mover s c) ≡ a
    pub deed : deed_of c (mover s c) ≡ deed_for a
    pub own : is_own a ≡ true
    pub row : Offered s c → flag_waits c (mover s c) ≡ false → (told_by s c a).no ≡ 0 → R (gone_on s c (told_by s c a))

  pub step_view : {R : State → Type 0} {a : Ask} → Step R a → View R s c (own_of s c)
  unfolding own_of own_refuses answered_of
  step_view {R} {a} w =
      let P : ℕ → Type 0 = λ n. View R s c (pick (eqb n 0) (answered_of s c.process (λ v. own_go c (setting_of s c.x) v (mover s c)) (told_by s c (own_ask c (mover s c)))) (refused_of n s)) in
      pick_ind P (own_offers s.memory.cells c (mover s c))
      (λ o. pick_ind P (flag_waits c (mover s c))
      (λ d. stops by_flag_down (omega arith) (flag_down_lem s c (w.offers o) (w.down d)))
      (λ u. rw w.asked
      (asks s c R (ask_told a w.own (record { kind = w.kind; offered = w.offers o; flag = w.up u; deed = w.deed }))
      (λ n k. goes k (w.row (w.offers o) u n)))))
      (λ o. declines s c R w.kind (w.refuses o))

-- ---- and back: an own step that is offered and whose flag is up, told a number 0
pub own_goes : (s : State) (c : Choice) {a : Ask} {t : State} → own_offers s.memory.cells c (mover s c) ≡ true → flag_waits c (mover s c) ≡ false → own_ask c (mover s c) ≡ a → (told_by s c a).no ≡ 0
    → gone_on s c (told_by s c a) ≡ t → own_of s c ≡ taken_of t
unfolding own_of own_refuses answered_of
own_goes s c o u e n g = rw (o, u, e, n, g) refl
