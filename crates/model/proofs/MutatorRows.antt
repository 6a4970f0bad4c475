-- A mutator's step, at top and past it: each answer is a refusal for the first reason or a row, and each row is an
-- answer. Assumes nothing.
--     mutator_view          the view of its step
--     mutator_complete      a row leads where the step goes
use mathlib.Core.Path.{◌≡◌, refl, ap, ◌∙◌}
use mathlib.Core.Logic.{inl, inr, by_cases}
use Prim.Native.Nat.{ℕ}
use native.Mathlib.Omega.{arith}
use native.Mathlib.Decide.{ℕ_discrete}
use borrow.Author.Tests.{eq-eqb, ne_eqb}
use Rattle.cells.proofs.Members.{add_null, member_pos}
use Rattle.memory.proofs.Tellings.{mark_told}
use Rattle.state.specs.declared.Process.{Process}
use Rattle.state.specs.declared.State.{State}
use Rattle.state.specs.declared.Choice.{Choice}
use Rattle.state.specs.Codes.{top, store_mark_old, store_mark_y, store_write, no_stage, look_stage}
use Rattle.state.specs.States.{at, noting, listing, with_process_of, taken_of}
use Rattle.marking.specs.Marks.{is_site_of, names_root_of, mark_offers, marked_cell, stage_ask_of, mark_ask, named_root_of, look_go, stage_go_of, past_of, past_over_of, mark_go}
use Rattle.mutator.specs.Mutators.{storing, mutator_offers, mutator_ask, mutator_go, written, past_fence_of, stepping, handing}
use Rattle.model.specs.Reasons.{mover}
use Rattle.model.specs.Rows as row
use Rattle.model.specs.Views.{View}
use Rattle.model.proofs.Offering.{bare_blank, one_naming}
use Rattle.own.specs.Owns.{own_offers, own_ask, own_go}
use Rattle.model.proofs.Road.{own_of}
use Rattle.model.proofs.Places.{place_row}
use Rattle.model.proofs.Mutators.{Mutating, Own, past_view, marks_row, told_fence}
use Rattle.model.proofs.Tops.{top_view, allocates_row, drops_row, reads_row, stores_row, fences_row, answers_row}

pub mutator_view : (s : State) (c : Choice) → Mutating s c → View (Own s c) s c (own_of s c)
mutator_view s c z = by_cases (ℕ_discrete (mover s c).place top) (λ e. top_view s c e z) (λ n. past_view s c z (omega arith))

-- ---- where a store goes on, by its old value and y
module _ (c : Choice) (q : Process) where
  storing_old : {v : ℕ} → (v ≡ 0 → ⊥) → storing c v q ≡ at store_mark_old look_stage (noting c.x c.f c.y v q)
  unfolding storing
  storing_old {v} n = rw (ne_eqb v 0 n)

  storing_new : (c.y ≡ 0 → ⊥) → storing c 0 q ≡ at store_mark_y look_stage (noting c.x c.f c.y 0 q)
  unfolding storing past_of
  storing_new n = rw (ne_eqb c.y 0 n)

  storing_null : c.y ≡ 0 → q.stage ≡ no_stage → storing c 0 q ≡ at store_write no_stage (noting c.x c.f 0 0 q)
  unfolding storing past_of
  storing_null y i = rw (eq-eqb c.y 0 y) (ap (λ (v : ℕ). at store_write q.stage (noting c.x c.f v 0 q)) y ∙ ap (λ (j : ℕ). at store_write j (noting c.x c.f 0 0 q)) i)

module _ (s : State) (c : Choice) (z : Mutating s c) where
  abbrev becomes : Process → State
  becomes = with_process_of s c.process

  abbrev q : Process
  q = mover s c

  pub mutator_complete : {t : State} → Own s c t → own_of s c ≡ taken_of t
  unfolding is_site_of own_offers own_ask own_go names_root_of mark_offers mark_ask stage_ask_of marked_cell mark_go named_root_of stage_go_of look_go past_over_of mutator_offers mutator_ask mutator_go written past_fence_of stepping handing
  mutator_complete (row.allocates a o x n f y e) = allocates_row s c a.place z o (x, n, f, y) e
  mutator_complete (row.drops a o m f y) = drops_row s c a.place z o (m, f, y)
  mutator_complete (row.reads a o m f y e n) = reads_row s c a.place z o (m, f, y) e
  mutator_complete (row.reads_null a o m f y e) = reads_row s c a.place z o (m, f, y) e ∙ ap (λ (r : ℕ). taken_of (becomes (listing q.work r q))) (add_null q.roots)
  mutator_complete (row.stores a o m f y e n) = stores_row s c a.place z o (m, f, y) e ∙ ap (λ (u : Process). taken_of (becomes u)) (storing_old c q n)
  mutator_complete (row.stores_new a o m f y e) =
      stores_row s c a.place z o (m, f, inr y) e ∙ ap (λ (u : Process). taken_of (becomes u)) (storing_new c q (λ i. omega (arith, member_pos q.roots c.y y)))
  mutator_complete (row.stores_null a o m f y e) = stores_row s c a.place z o (m, f, inl y) e ∙ ap (λ (u : Process). taken_of (becomes u)) (storing_null c q y a.stage)
  mutator_complete (row.fences a o x f y e) = fences_row s c a.place z o (x, f, y) e
  mutator_complete (row.answers a o x f y r b) = answers_row s c a.place z o (x, f, y) r b
  mutator_complete (row.marks b k h r) = marks_row s c z b h k r
  mutator_complete (row.looks_root a o m e) =
      let k = mark_told s.memory c.process c.x e in
      place_row s c a (omega arith) (one_naming c q.left o m) refl k.no (rw k.bit refl)
  mutator_complete (row.writes a b e) = place_row s c a (omega arith) (bare_blank c b) refl (rw e refl) (rw e refl)
  mutator_complete (row.fences_noop a b e) = place_row s c a (omega arith) (bare_blank c b) refl (told_fence s c z e) refl
  mutator_complete (row.fences_work a b e) = place_row s c a (omega arith) (bare_blank c b) refl (told_fence s c z e) refl
  mutator_complete (row.fences_roots a b e n) = place_row s c a (omega arith) (bare_blank c b) refl (told_fence s c z e) (rw (ne_eqb q.roots 0 n) refl)
  mutator_complete (row.fences_none a b e n) = place_row s c a (omega arith) (bare_blank c b) refl (told_fence s c z e) (rw (eq-eqb q.roots 0 n) refl)
  mutator_complete (row.finishes_noop a b) = place_row s c a (omega arith) (bare_blank c b) refl refl refl
  mutator_complete (row.finishes_roots a b) = place_row s c a (omega arith) (bare_blank c b) refl refl refl
  mutator_complete (row.finishes_work a b) = place_row s c a (omega arith) (bare_blank c b) refl refl refl
