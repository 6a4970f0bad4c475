-- A commit's answer, against the reasons of refusal and the rows. Assumes nothing.
--     committed_of     the answer to a commit
--     commit_view     refused for the first reason that holds, or taken as the row of a commit
--     commit_row      the row of a commit is its answer
use mathlib.Core.Path.{◌≡◌, refl, sym, ap, ◌∙◌, subst}
use mathlib.Core.Bool.{true, false, false≢true}
use mathlib.Core.Logic.{⊎_elim}
use mathlib.Core.List.{List, [], ◌∷◌}
use Prim.Native.Nat.{ℕ, ◌≤◌, ◌<◌}
use native.Mathlib.Omega.{arith}
use lib.Dec.{eqb}
use Rattle.base.specs.Pick.{pick}
use Rattle.base.proofs.Picking.{pick_ind, pick_no}
use Rattle.base.specs.Refusals.{as_taken, by_no_kind, by_not_offered, by_none_pending, by_blocked, by_free}
use Rattle.buffers.specs.declared.Entry.{Entry}
use Rattle.buffers.specs.declared.Spot.{Spot}
use Rattle.buffers.specs.declared.Spot.TheVariants as spot
use Rattle.buffers.specs.Stores.{spot_of}
use Rattle.memory.specs.declared.Memory.{Memory}
use Rattle.memory.specs.declared.asks.Ask.TheVariants as ask
use Rattle.memory.specs.declared.asks.Change.TheVariants as change
use Rattle.memory.specs.Asks.{told_of}
use Rattle.memory.specs.Memories.{taken, there_of}
use Rattle.memory.specs.Steps.{commit_of}
use Rattle.memory.specs.Views.{pending_for}
use Rattle.memory.proofs.Shapes.{Shaped, pending_is, oldest_of}
use Rattle.memory.proofs.Spots.{there_mark, there_field, there_sense, there_alloc_sense, there_phase}
use Rattle.memory.proofs.Refusals.{commit_no}
use Rattle.memory.proofs.Effects.{is_taken}
use Rattle.state.specs.declared.State.{State}
use Rattle.state.specs.declared.Choice.{Choice}
use Rattle.state.specs.States.{Answer, mutators_of, process_of, with_memory, refused_of, taken_of}
use Rattle.state.specs.Acts.{going_on}
use Rattle.state.specs.Choices.{is_blank}
use Rattle.model.specs.Offers.{Bare}
use Rattle.model.specs.Rows.{Row}
use Rattle.model.specs.Rows as row
use Rattle.model.specs.Reasons as reason
use Rattle.model.specs.Reasons.{waiting, Blocked, OnFree, NotOffered, Hindered, Waits, OfFree, Reason}
use Rattle.model.specs.Views.{OwnFirst, OwnClear, View, stops, goes}
use Rattle.model.proofs.Numbers.{is_blocked, un_blocked}
use Rattle.model.proofs.Offering.{blank_bare, bare_blank}
use Rattle.model.proofs.Lists.{put_back}
use Rattle.own.specs.Owns.{answered_of}

-- ---- the answer to a commit: its process goes on as it is
abbrev pub commits : State → Choice → Answer
commits s c = answered_of s c.process (λ v. going_on (process_of s c.process)) (told_of s.memory c.process (ask.Make change.Commit))

unfoldable pub committed_of : State → Choice → Answer
committed_of s c = pick (is_blank c) (commits s c) (refused_of by_not_offered s)

-- so the state after it is the state with memory after it
committed : (s : State) (c : Choice)
    → committed_of s c ≡ pick (is_blank c) (let k = commit_of s.memory c.process in pick (eqb k.no 0) (taken_of (with_memory s k.memory)) (refused_of k.no s)) (refused_of by_not_offered s)
unfolding committed_of answered_of
committed s c =
    let k = commit_of s.memory c.process in
    ap (λ (t : State). pick (is_blank c) (pick (eqb k.no 0) (taken_of t) (refused_of k.no s)) (refused_of by_not_offered s)) (put_back (with_memory s k.memory) c.process)

-- a mark or a field of a free cell is not there, and every other spot is
on_free : (m : Memory) (at : Spot) → there_of m at ≡ false → OnFree m at
on_free m (spot.Mark c) h = sym (there_mark m c) ∙ h
on_free m (spot.Field c f) h = sym (there_field m c f) ∙ h
on_free m spot.Sense h = false≢true (sym h ∙ there_sense m)
on_free m spot.AllocSense h = false≢true (sym h ∙ there_alloc_sense m)
on_free m spot.Phase h = false≢true (sym h ∙ there_phase m)

not_free : (m : Memory) (at : Spot) → there_of m at ≡ true → OnFree m at → ⊥
not_free m (spot.Mark c) h o = false≢true (sym o ∙ sym (there_mark m c) ∙ h)
not_free m (spot.Field c f) h o = false≢true (sym o ∙ sym (there_field m c f) ∙ h)
not_free m spot.Sense h o = o
not_free m spot.AllocSense h o = o
not_free m spot.Phase h o = o

module _ (s : State) (c : Choice) (kind : c.kind ≡ 1) where
  no_own : {A : Type 0} → c.kind ≡ 0 → A
  no_own e = absurd (omega arith)

  -- why a commit that is bare can be refused by k
  data Cause (k : ℕ) : Type 0 where
    none : k ≡ by_none_pending → waiting s c ≡ [] → Cause k
    held : k ≡ by_blocked → Blocked s.memory c.process → Cause k
    free : k ≡ by_free → {e : Entry} {l : List Entry} → waiting s c ≡ e ∷ l → OnFree s.memory (spot_of e.store) → Cause k

  offered : {k : ℕ} → Bare c → NotOffered s c → Cause k
  offered b (reason.own e n) = no_own e
  offered b (reason.commit e n) = absurd (n b)

  blocked : {k : ℕ} → k ≡ by_blocked → Hindered s c → Cause k
  blocked h (reason.reading o b) = no_own o.0
  blocked h (reason.sweeping o b) = no_own o.0
  blocked h (reason.allocating o b) = no_own o.0
  blocked h (reason.freeing o b) = no_own o.0
  blocked h (reason.committing e b) = held h b
  blocked h (reason.locking o n) = no_own o.0

  waits : {k : ℕ} → Waits s c → Cause k
  waits (reason.fencing o n) = no_own o.0
  waits (reason.unlocking o n) = no_own o.0

  freed : {k : ℕ} → k ≡ by_free → OfFree s c → Cause k
  freed h (reason.reading o n) = no_own o.0
  freed h (reason.committing e w n) = free h w n

  because : Bare c → (k : ℕ) → by_no_kind < k → Reason s c k → Cause k
  because b k l (reason.malformed e n) = absurd (omega arith)
  because b k l (reason.no_process e n) = absurd (omega arith)
  because b k l (reason.no_kind e n o) = absurd (omega arith)
  because b k l (reason.not_offered e n) = offered b n
  because b k l (reason.none_pending e o w) = none e w
  because b k l (reason.flag_down e f) = no_own f.kind
  because b k l (reason.blocked e h) = blocked e h
  because b k l (reason.pending e w) = waits w
  because b k l (reason.full e o w) = no_own o.0
  because b k l (reason.occupied e o w) = no_own o.0
  because b k l (reason.free e o) = freed e o

  -- what memory found, in the words of the reasons
  module _ (z : Shaped s.memory) where
    abbrev number : ℕ
    number = (commit_of s.memory c.process).no

    is_waiting : pending_for s.memory c.process ≡ waiting s c
    is_waiting = pending_is s.memory c.process

    data Found (n : ℕ) : Type 0 where
      nothing : n ≡ by_none_pending → waiting s c ≡ [] → Found n
      withheld : n ≡ by_blocked → (waiting s c ≡ [] → ⊥) → Blocked s.memory c.process → Found n
      unfit : n ≡ by_free → (Blocked s.memory c.process → ⊥) → {e : Entry} {l : List Entry} → waiting s c ≡ e ∷ l → OnFree s.memory (spot_of e.store) → Found n
      lands : n ≡ as_taken → (Blocked s.memory c.process → ⊥) → {e : Entry} {l : List Entry} → waiting s c ≡ e ∷ l → (OnFree s.memory (spot_of e.store) → ⊥) → Found n

    freeing : {n : ℕ} (l : List Entry) → waiting s c ≡ l → (l ≡ [] → ⊥) → n ≡ by_free → (Blocked s.memory c.process → ⊥) → there_of s.memory (spot_of (oldest_of l)) ≡ false → Found n
    freeing [] w h e u t = absurd (h refl)
    freeing (a ∷ l) w h e u t = unfit e u w (on_free s.memory (spot_of a.store) t)

    landing : {n : ℕ} (l : List Entry) → waiting s c ≡ l → (l ≡ [] → ⊥) → n ≡ as_taken → (Blocked s.memory c.process → ⊥) → there_of s.memory (spot_of (oldest_of l)) ≡ true → Found n
    landing [] w h e u t = absurd (h refl)
    landing (a ∷ l) w h e u t = lands e u w (not_free s.memory (spot_of a.store) t)

    found : Found number
    found =
        let t = commit_no s.memory c.process z in
        let w = is_waiting in
        ⊎_elim (λ e. nothing e (sym w ∙ t.first.0 e))
        (λ x. ⊎_elim (λ e. let k = t.second.0 e in withheld e (λ h. k.0 (w ∙ h)) (is_blocked s.memory c.process k.1))
        (λ y. ⊎_elim (λ e. let k = t.third.0 e in landing (pending_for s.memory c.process) (sym w) k.0 e (un_blocked s.memory c.process k.1) k.2)
        (λ e. let k = t.fourth.0 e in freeing (pending_for s.memory c.process) (sym w) k.0 e (un_blocked s.memory c.process k.1) k.2) y) x)
        t.only

    -- a commit is refused for the first reason that holds
    first_of : (n : ℕ) → Reason s c n → Bare c → ((k : ℕ) → k < n → Cause k → ⊥) → OwnFirst s c n
    first_of n r b h = (r, λ k l u g. h k u (because b k l g))

    apart_cons : {e : Entry} {l : List Entry} → waiting s c ≡ e ∷ l → waiting s c ≡ [] → ⊥
    apart_cons p q = let z : ◌≡◌ {A = ℕ} 0 1 = cc in omega arith

    refused_view : Bare c → {n : ℕ} → Found n → (n ≡ as_taken → ⊥) → (by_no_kind < n) × OwnFirst s c n
    refused_view b {n} (nothing e w) h = (omega arith, first_of n (reason.none_pending e kind w) b (λ k l u. under k l u))
      where
        under : (k : ℕ) → k < n → Cause k → ⊥
        under k l (none q v) = omega arith
        under k l (held q v) = omega arith
        under k l (free q v o) = omega arith
    refused_view b {n} (withheld e w t) h = (omega arith, first_of n (reason.blocked e (reason.committing kind t)) b (λ k l u. under k l u))
      where
        under : (k : ℕ) → k < n → Cause k → ⊥
        under k l (none q v) = w v
        under k l (held q v) = omega arith
        under k l (free q v o) = omega arith
    refused_view b {n} (unfit e u w o) h = (omega arith, first_of n (reason.free e (reason.committing kind w o)) b (λ k l u. under k l u))
      where
        under : (k : ℕ) → k < n → Cause k → ⊥
        under k l (none q v) = apart_cons w v
        under k l (held q v) = u v
        under k l (free q v p) = omega arith
    refused_view b (lands e u w o) h = absurd (h e)

    -- the oldest store is one
    same_oldest : {e f : Entry} {l k : List Entry} → waiting s c ≡ e ∷ l → waiting s c ≡ f ∷ k → e ≡ f
    same_oldest p q = cc

    taken_clear : Bare c → {n : ℕ} → Found n → n ≡ as_taken → OwnClear s c
    taken_clear b (nothing e w) h = absurd (omega arith)
    taken_clear b (withheld e w t) h = absurd (omega arith)
    taken_clear b (unfit e u w o) h = absurd (omega arith)
    taken_clear b (lands e u w o) h = λ k l g. clear (because b k l g)
      where
        clear : {k : ℕ} → Cause k → ⊥
        clear (none q v) = apart_cons w v
        clear (held q v) = u v
        clear (free q v p) = o (subst (λ (a : Entry). OnFree s.memory (spot_of a.store)) (same_oldest v w) p)

    not_offered_lem : (Bare c → ⊥) → OwnFirst s c by_not_offered
    not_offered_lem h = (reason.not_offered refl (reason.commit kind h), λ k l u g. absurd (omega arith))

    pub commit_view : c.process ≤ mutators_of s → View (Row s c) s c (committed_of s c)
    commit_view h =
        subst (View (Row s c) s c) (sym (committed s c))
        (pick_ind (View (Row s c) s c) (is_blank c)
        (λ t. let b = blank_bare c t in
        pick_no (View (Row s c) s c) number 0
        (λ e. goes (taken_clear b found e) (row.commits kind refl h b (is_taken (commit_of s.memory c.process) e)))
        (λ n. let r = refused_view b found n in stops number r.0 r.1))
        (λ t. stops by_not_offered (omega arith) (not_offered_lem (λ b. false≢true (sym t ∙ bare_blank c b)))))

-- the row of a commit is its answer
pub commit_row : (s : State) (c : Choice) → Bare c → {m : Memory} → commit_of s.memory c.process ≡ taken m → committed_of s c ≡ taken_of (with_memory s m)
commit_row s c b e = committed s c ∙ simp (bare_blank c b, e)
