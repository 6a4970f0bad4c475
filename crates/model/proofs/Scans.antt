-- Row 7's fields. Assumes nothing.
--     first_offers, first_leaves, mark_leaves, next_offers      the four statements of specs/Scans
use mathlib.Core.Path.{◌≡◌, refl, sym, ap, subst}
use mathlib.Core.Logic.{◌↔◌, ⊎_elim}
use Prim.Native.Nat.{ℕ, ◌+◌, ◌<◌}
use native.Mathlib.Omega.{arith}
use native.Mathlib.Decide.{dec_lt}
use borrow.Author.Tests.{lt-ltb, le-ltb}
use Rattle.cells.specs.Sets.{Member, remove_of}
use Rattle.cells.proofs.Bools.{not_both}
use Rattle.cells.proofs.Members.{member_null, in_remove, remove_keeps, full_has}
use Rattle.buffers.specs.Fits.{max_fields}
use Rattle.state.specs.declared.RoundType.{RoundType}
use Rattle.state.specs.declared.Process.{Process}
use Rattle.state.specs.declared.State.{State}
use Rattle.state.specs.declared.Choice.{Choice}
use Rattle.state.specs.Codes.{row6_take, row7_first, row8_take, no_stage}
use Rattle.state.specs.States.{process_of, with_process_of}
use Rattle.state.specs.Choices.{all_fields, field_left_of}
use Rattle.formed.proofs.Keeps.{process_same}
use Rattle.model.specs.Offers.{AmongOffered, offer_of}
use Rattle.model.specs.Offers as offer
use Rattle.model.specs.Rows.{At, Marks, Next, Mark, Round, Collector, Row, unnoted}
use Rattle.model.specs.Scans.{FirstOffers, FirstLeaves, MarkLeaves, NextOffers}
use Rattle.model.proofs.Standing.{placed}

-- ---- what is offered
pub first_offers : FirstOffers
unfolding offer_of
first_offers n c q e o y m =
    let k : offer_of q ≡ offer.scan q.work = placed offer_of q e in
    (λ h. (subst (AmongOffered n c q) k h).field, λ l. subst (AmongOffered n c q) (sym k) (record { op = o; y = y; field = l; cell = m }))

pub next_offers : NextOffers
unfolding offer_of
next_offers n c q e o x y =
    let k : offer_of q ≡ offer.field q.left = placed offer_of q e in
    (λ h. (subst (AmongOffered n c q) k h).field, λ m. subst (AmongOffered n c q) (sym k) (record { op = o; x = x; y = y; field = m }))

-- ---- a mark
next_leaves : {q t : Process} → Next q t → t.left ≡ q.left
next_leaves (Next.write e z) = refl
next_leaves (Next.new e z) = refl
next_leaves (Next.marked e) = refl
next_leaves (Next.roots e z) = refl
next_leaves (Next.root e z) = refl
next_leaves (Next.fields e z) = refl
next_leaves (Next.field e z) = refl

pub mark_leaves : MarkLeaves
unfolding unnoted
mark_leaves m n p r q t (Mark.looks e g) = refl
mark_leaves m n p r q t (Mark.equal e g h) = next_leaves h
mark_leaves m n p r q t (Mark.unequal e g) = refl
mark_leaves m n p r q t (Mark.idle e g h) = next_leaves h
mark_leaves m n p r q t (Mark.busy e g h) = refl
mark_leaves m n p r q t (Mark.locks e g) = refl
mark_leaves m n p r q t (Mark.agrees e g) = refl
mark_leaves m n p r q t (Mark.differs e g) = refl
mark_leaves m n p r q t (Mark.writes e g) = refl
mark_leaves m n p r q t (Mark.wins e g h i) = next_leaves i
mark_leaves m n p r q t (Mark.loses e g h i) = next_leaves i

-- ---- the fields but one
field_is : {f : ℕ} → f < max_fields → field_left_of f ≡ f + 1
field_is {f} l = rw (lt-ltb f max_fields l) refl

no_field : {f : ℕ} → (f < max_fields → ⊥) → field_left_of f ≡ 0
no_field {f} n = rw (le-ltb f max_fields (omega arith)) refl

others : (f g : ℕ) → f < max_fields → Member (remove_of all_fields (field_left_of f)) (field_left_of g) ↔ ((g < max_fields) × (g ≡ f → ⊥))
others f g l = (λ m. (is (dec_lt g max_fields) m, λ e. (in_remove all_fields (field_left_of f) (field_left_of g) m).1 (ap field_left_of (sym e))), λ k. rw (field_is l, field_is k.0) (remove_keeps all_fields (f + 1) (g + 1) (full_has max_fields (g + 1) (omega arith) (omega (arith, k.0)) (omega (arith, k.0))) (λ e. k.1 (omega arith))))
  where
    is : Dec (g < max_fields) → Member (remove_of all_fields (field_left_of f)) (field_left_of g) → g < max_fields
    is (yes h) m = h
    is (no n) m = absurd (not_both m (rw (no_field n) (member_null _)))

-- ---- the first read: the state after it
data FirstRead (s : State) (c : Choice) : State → Type 0 where
  read : c.f < max_fields → (o : Process) → o.left ≡ remove_of all_fields (field_left_of c.f) → FirstRead s c (with_process_of s 0 o)

module _ (s : State) (c : Choice) (q : Process) (e : q.place ≡ row7_first) where
  no_round : {k i j l : ℕ} {t : RoundType} → Round k t j l → At k i q → ⊥
  no_round Round.row1 a = omega (arith, a.place)
  no_round Round.row3 a = omega (arith, a.place)
  no_round Round.row4 a = omega (arith, a.place)
  no_round Round.row5 a = omega (arith, a.place)
  no_round Round.row6 a = omega (arith, a.place)
  no_round Round.row8 a = omega (arith, a.place)

  no_mark_lem : {r : ℕ} → Marks q r → ⊥
  no_mark_lem (Marks.old i) = omega arith
  no_mark_lem (Marks.new i) = omega arith
  no_mark_lem (Marks.root i) = omega arith
  no_mark_lem (Marks.field i) = omega arith

  first_read : {t : State} → Collector s c 0 q t → FirstRead s c t
  first_read (Collector.fences a b d g) = absurd (no_round a b)
  first_read (Collector.types a b d g) = absurd (no_round a b)
  first_read (Collector.raises a b d g h) = absurd (no_round a b)
  first_read (Collector.raises_last a b d g h) = absurd (no_round a b)
  first_read (Collector.polls_up a b d g h) = absurd (no_round a b)
  first_read (Collector.polls a b d g h i) = absurd (no_round a b)
  first_read (Collector.polls_last a b d g h i) = absurd (no_round a b)
  first_read (Collector.reads_sense a b d) = absurd (omega (arith, a.place))
  first_read (Collector.writes_sense a b d) = absurd (omega (arith, a.place))
  first_read (Collector.writes_init a b d) = absurd (omega (arith, a.place))
  first_read (Collector.writes_mark a b d) = absurd (omega (arith, a.place))
  first_read (Collector.writes_alloc a b d) = absurd (omega (arith, a.place))
  first_read (Collector.takes a b d) = absurd (⊎_elim (λ (i : At row6_take no_stage q). omega (arith, i.place)) (λ (i : At row8_take no_stage q). omega (arith, i.place)) a)
  first_read (Collector.takes_none a b d) = absurd (⊎_elim (λ (i : At row6_take no_stage q). omega (arith, i.place)) (λ (i : At row8_take no_stage q). omega (arith, i.place)) a)
  first_read (Collector.reads_first a b g h) = FirstRead.read b.field _ refl
  first_read (Collector.reads_first_null a b g) = FirstRead.read b.field _ refl
  first_read (Collector.marks a b d) = absurd (no_mark_lem b)
  first_read (Collector.reads_next a b d g) = absurd (omega (arith, a.place))
  first_read (Collector.reads_next_null a b d g) = absurd (omega (arith, a.place))
  first_read (Collector.reads_last_null a b d g) = absurd (omega (arith, a.place))
  first_read (Collector.drops a b d) = absurd (omega (arith, a.place))
  first_read (Collector.drops_last a b d) = absurd (omega (arith, a.place))
  first_read (Collector.writes_sweep a b d) = absurd (omega (arith, a.place))
  first_read (Collector.spares a b d g h) = absurd (omega (arith, a.place))
  first_read (Collector.spares_last a b d g h) = absurd (omega (arith, a.place))
  first_read (Collector.condemns a b d g) = absurd (omega (arith, a.place))
  first_read (Collector.frees a b d g) = absurd (omega (arith, a.place))
  first_read (Collector.frees_last a b d g) = absurd (omega (arith, a.place))
  first_read (Collector.writes_idle a b d) = absurd (omega (arith, a.place))

pub first_leaves : FirstLeaves
first_leaves s c t w k z e (Row.collector i j r) g = go (first_read s c (process_of s 0) e r)
  where
    go : {t : State} → FirstRead s c t → Member (process_of t 0).left (field_left_of g) ↔ ((g < max_fields) × (g ≡ c.f → ⊥))
    go (FirstRead.read l o h) = rw (process_same s 0 o w.sized (omega arith), h) (others c.f g l)
first_leaves s c t w k z e (Row.mutator i {p = p} j pos m r) g = absurd (omega arith)
first_leaves s c t w k z e (Row.commits i j m b r) g = absurd (omega arith)
