-- From what memory answers to an own step, by what the step does with memory: which reason is the first, or that none
-- holds. Assumes nothing.
--     Ready, Offered               the choice is an own step and offered; its flag is up where it answers, and it
--                                  does d with memory
--     Cause, because               a reason of a step that is ready is one of its deed
--     Told                         the number tells: 0, no reason holds; else it is the first that does
--     read_told, sweep_told, write_told, fence_told, lock_told, unlock_told, allocate_told, free_told     so for each
--     deed
--     apart_clear                  a step apart from memory: no reason holds
--     not_offered_lem, flag_down_lem       the first reason is 4, or 6
--     told_ind, asks               the view of a step that asks memory
--     declines                     the view of one that is not offered
use mathlib.Core.Path.{◌≡◌, refl, sym, ◌∙◌, subst}
use mathlib.Core.Bool.{true, false≢true}
use mathlib.Core.Logic.{◌⊎◌, inl, inr, ⊎_elim}
use mathlib.Core.List.{[]}
use Prim.Native.Nat.{ℕ, ◌≤◌, ◌<◌}
use native.Mathlib.Omega.{arith}
use lib.Dec.{eqb}
use lib.ListN.{length}
use Rattle.base.specs.Pick.{pick}
use Rattle.base.proofs.Picking.{pick_no}
use Rattle.base.specs.Refusals.{by_no_kind, by_not_offered, by_flag_down, by_blocked, by_pending, by_full, by_occupied, by_free}
use Rattle.buffers.specs.declared.Spot.{Spot}
use Rattle.buffers.specs.declared.Store.{Store}
use Rattle.buffers.specs.Buffers.{max_stores}
use Rattle.memory.specs.Memories.{used_of}
use Rattle.state.specs.declared.State.{State}
use Rattle.state.specs.declared.Choice.{Choice}
use Rattle.state.specs.States.{Answer, refused_of}
use Rattle.model.specs.Offers.{AmongOffered, offer_of}
use Rattle.model.specs.Deeds.{Deed, reads, sweeps, writes, fences, locks, unlocks, allocates, frees, apart, deed_of}
use Rattle.model.specs.Reasons as reason
use Rattle.model.specs.Reasons.{mover, waiting, Blocked, OnFree, FlagDown, NotOffered, Hindered, Waits, OfFree, Reason}
use Rattle.model.specs.Views.{OwnFirst, OwnClear, View, stops}
use Rattle.model.proofs.Numbers as number
use Rattle.model.proofs.Numbers.{Looked, Unblocked, Granted, Lent, Drained, Roomed}

-- the choice is among what the mover's place offers
abbrev pub Offered : State → Choice → Type 0
Offered s c = AmongOffered s.memory.cells c (mover s c) (offer_of (mover s c))

pub record Ready (s : State) (c : Choice) (d : Deed) : Type 0 where
  pub kind : c.kind ≡ 0
  pub offered : Offered s c
  pub flag : FlagDown s c → ⊥
  pub deed : deed_of c (mover s c) ≡ d

-- why a step that does d can be refused by k
abbrev pub Cause : State → Choice → ℕ → Deed → Type 0
Cause s c k (reads at) = ((k ≡ by_blocked) × Blocked s.memory c.process) ⊎ ((k ≡ by_free) × OnFree s.memory at)
Cause s c k (sweeps x) = (k ≡ by_blocked) × Blocked s.memory c.process
Cause s c k (writes v) = (k ≡ by_full) × max_stores ≤ length (waiting s c)
Cause s c k fences = (k ≡ by_pending) × (waiting s c ≡ [] → ⊥)
Cause s c k locks = (k ≡ by_blocked) × (s.memory.lock ≡ 0 → ⊥)
Cause s c k unlocks = (k ≡ by_pending) × (waiting s c ≡ [] → ⊥)
Cause s c k (allocates x) = ((k ≡ by_blocked) × Blocked s.memory c.process) ⊎ ((k ≡ by_occupied) × (used_of s.memory x ≡ true))
Cause s c k (frees x) = (k ≡ by_blocked) × Blocked s.memory c.process
Cause s c k apart = ⊥

module _ (s : State) (c : Choice) where
  no_commit : c.kind ≡ 0 → c.kind ≡ 1 → ⊥
  no_commit e f = omega arith

  among : c.kind ≡ 0 → Offered s c → NotOffered s c → ⊥
  among e o (reason.own k h) = h o
  among e o (reason.commit k h) = no_commit e k

  -- the cause named by the reason's own deed
  by : {d : Deed} (k : ℕ) → deed_of c (mover s c) ≡ d → Cause s c k d → Cause s c k (deed_of c (mover s c))
  by k e h = subst (Cause s c k) (sym e) h

  by_held : (k : ℕ) → c.kind ≡ 0 → k ≡ by_blocked → Hindered s c → Cause s c k (deed_of c (mover s c))
  by_held k e n (reason.reading o b) = by k o.1 (inl (n, b))
  by_held k e n (reason.sweeping o b) = by k o.1 (n, b)
  by_held k e n (reason.allocating o b) = by k o.1 (inl (n, b))
  by_held k e n (reason.freeing o b) = by k o.1 (n, b)
  by_held k e n (reason.committing o b) = absurd (no_commit e o)
  by_held k e n (reason.locking o b) = by k o.1 (n, b)

  by_waits : (k : ℕ) → k ≡ by_pending → Waits s c → Cause s c k (deed_of c (mover s c))
  by_waits k n (reason.fencing o w) = by k o.1 (n, w)
  by_waits k n (reason.unlocking o w) = by k o.1 (n, w)

  by_free_lem : (k : ℕ) → c.kind ≡ 0 → k ≡ by_free → OfFree s c → Cause s c k (deed_of c (mover s c))
  by_free_lem k e n (reason.reading o f) = by k o.1 (inr (n, f))
  by_free_lem k e n (reason.committing o w f) = absurd (no_commit e o)

  by_deed : (k : ℕ) → c.kind ≡ 0 → Offered s c → (FlagDown s c → ⊥) → by_no_kind < k → Reason s c k → Cause s c k (deed_of c (mover s c))
  by_deed k e o f l (reason.malformed n h) = absurd (omega arith)
  by_deed k e o f l (reason.no_process n h) = absurd (omega arith)
  by_deed k e o f l (reason.no_kind n h i) = absurd (omega arith)
  by_deed k e o f l (reason.not_offered n h) = absurd (among e o h)
  by_deed k e o f l (reason.none_pending n h i) = absurd (no_commit e h)
  by_deed k e o f l (reason.flag_down n h) = absurd (f h)
  by_deed k e o f l (reason.blocked n h) = by_held k e n h
  by_deed k e o f l (reason.pending n h) = by_waits k n h
  by_deed k e o f l (reason.full n h i) = by k h.1 (n, i)
  by_deed k e o f l (reason.occupied n h i) = by k h.1 (inr (n, i))
  by_deed k e o f l (reason.free n h) = by_free_lem k e n h

  pub because : {d : Deed} → Ready s c d → (k : ℕ) → by_no_kind < k → Reason s c k → Cause s c k d
  because r k l h = subst (Cause s c k) r.deed (by_deed k r.kind r.offered r.flag l h)

  -- ---- what the number tells
  pub data Told (n : ℕ) : Type 0 where
    clear : n ≡ 0 → OwnClear s c → Told n
    first : by_no_kind < n → OwnFirst s c n → Told n

  pub read_told : {at : Spot} {n : ℕ} → Ready s c (reads at) → Looked s.memory c.process at n → Told n
  read_told r (number.blocked e b) =
      first (omega arith) (reason.blocked e (reason.reading (r.kind, r.deed) b), λ k l i h. ⊎_elim (λ x. omega (arith, x.0)) (λ x. omega (arith, x.0)) (because r k l h))
  read_told r (number.free e u f) =
      first (omega arith) (reason.free e (reason.reading (r.kind, r.deed) f), λ k l i h. ⊎_elim (λ x. u x.1) (λ x. omega (arith, x.0)) (because r k l h))
  read_told r (number.seen e u f) = clear e (λ k l h. ⊎_elim (λ x. u x.1) (λ x. f x.1) (because r k l h))

  pub allocate_told : {x n : ℕ} → Ready s c (allocates x) → Granted s.memory c.process x n → Told n
  allocate_told r (number.blocked e b) =
      first (omega arith) (reason.blocked e (reason.allocating (r.kind, r.deed) b), λ k l i h. ⊎_elim (λ x. omega (arith, x.0)) (λ x. omega (arith, x.0)) (because r k l h))
  allocate_told r (number.occupied e u f) =
      first (omega arith) (reason.occupied e (r.kind, r.deed) f, λ k l i h. ⊎_elim (λ x. u x.1) (λ x. omega (arith, x.0)) (because r k l h))
  allocate_told r (number.granted e u f) = clear e (λ k l h. ⊎_elim (λ x. u x.1) (λ x. false≢true (sym f ∙ x.1)) (because r k l h))

  pub sweep_told : {x n : ℕ} → Ready s c (sweeps x) → Unblocked s.memory c.process n → Told n
  sweep_told r (number.blocked e b) = first (omega arith) (reason.blocked e (reason.sweeping (r.kind, r.deed) b), λ k l i h. omega (arith, (because r k l h).0))
  sweep_told r (number.clear e u) = clear e (λ k l h. u (because r k l h).1)

  pub free_told : {x n : ℕ} → Ready s c (frees x) → Unblocked s.memory c.process n → Told n
  free_told r (number.blocked e b) = first (omega arith) (reason.blocked e (reason.freeing (r.kind, r.deed) b), λ k l i h. omega (arith, (because r k l h).0))
  free_told r (number.clear e u) = clear e (λ k l h. u (because r k l h).1)

  pub lock_told : {n : ℕ} → Ready s c locks → Lent s.memory n → Told n
  lock_told r (number.held e b) = first (omega arith) (reason.blocked e (reason.locking (r.kind, r.deed) b), λ k l i h. omega (arith, (because r k l h).0))
  lock_told r (number.lent e u) = clear e (λ k l h. (because r k l h).1 u)

  pub fence_told : {n : ℕ} → Ready s c fences → Drained s.memory c.process n → Told n
  fence_told r (number.pending e w) = first (omega arith) (reason.pending e (reason.fencing (r.kind, r.deed) w), λ k l i h. omega (arith, (because r k l h).0))
  fence_told r (number.drained e u) = clear e (λ k l h. (because r k l h).1 u)

  pub unlock_told : {n : ℕ} → Ready s c unlocks → Drained s.memory c.process n → Told n
  unlock_told r (number.pending e w) = first (omega arith) (reason.pending e (reason.unlocking (r.kind, r.deed) w), λ k l i h. omega (arith, (because r k l h).0))
  unlock_told r (number.drained e u) = clear e (λ k l h. (because r k l h).1 u)

  pub write_told : {v : Store} {n : ℕ} → Ready s c (writes v) → Roomed s.memory c.process n → Told n
  write_told r (number.full e w) = first (omega arith) (reason.full e (r.kind, r.deed) w, λ k l i h. omega (arith, (because r k l h).0))
  write_told r (number.roomed e u) = clear e (λ k l h. omega (arith, (because r k l h).1))

  pub apart_clear : Ready s c apart → OwnClear s c
  apart_clear r k l h = because r k l h

  -- ---- checks 4 and 6
  pub not_offered_lem : c.kind ≡ 0 → (Offered s c → ⊥) → OwnFirst s c by_not_offered
  not_offered_lem e h = (reason.not_offered refl (reason.own e h), λ k l i w. omega arith)

  before_six : (k : ℕ) → c.kind ≡ 0 → Offered s c → by_no_kind < k → k < by_flag_down → Reason s c k → ⊥
  before_six k e o l i (reason.malformed n h) = omega arith
  before_six k e o l i (reason.no_process n h) = omega arith
  before_six k e o l i (reason.no_kind n h j) = omega arith
  before_six k e o l i (reason.not_offered n h) = among e o h
  before_six k e o l i (reason.none_pending n h j) = no_commit e h
  before_six k e o l i (reason.flag_down n h) = omega arith
  before_six k e o l i (reason.blocked n h) = omega arith
  before_six k e o l i (reason.pending n h) = omega arith
  before_six k e o l i (reason.full n h j) = omega arith
  before_six k e o l i (reason.occupied n h j) = omega arith
  before_six k e o l i (reason.free n h) = omega arith

  pub flag_down_lem : Offered s c → FlagDown s c → OwnFirst s c by_flag_down
  flag_down_lem o f = (reason.flag_down refl f, λ k l i h. before_six k f.kind o l i h)

  -- a step that asks memory: with what the number tells on each side
  pub told_ind : {A : Type 0} (P : A → Type 0) {n : ℕ} {x y : A} → Told n → (n ≡ 0 → OwnClear s c → P x) → (by_no_kind < n → OwnFirst s c n → P y) → P (pick (eqb n 0) x y)
  told_ind P {n} (clear e h) f g = pick_no P n 0 (λ _. f e h) (λ i. absurd (i e))
  told_ind P {n} (first l h) f g = pick_no P n 0 (λ e. absurd (omega arith)) (λ _. g l h)

  -- ---- views
  module _ (R : State → Type 0) where
    -- 4 is given
    pub declines : c.kind ≡ 0 → (Offered s c → ⊥) → View R s c (refused_of by_not_offered s)
    declines e h = stops by_not_offered (omega arith) (not_offered_lem e h)

    -- memory's number n decides: taken to a where it is 0
    pub asks : {n : ℕ} {a : Answer} → Told n → (n ≡ 0 → OwnClear s c → View R s c a) → View R s c (pick (eqb n 0) a (refused_of n s))
    asks {n} w f = told_ind (View R s c) w f (λ l h. stops n l h)
