-- A mutator past top: each answer is a refusal for the first reason or a row, and each row is an answer. Assumes
-- nothing.
--     Mutating, Own             what is taken for granted of the mover; a row of it
--     past_view                 the view of a step past top
--     marks_row                 each row of a mark is an answer
--     told_fence                a fence that memory takes is told so
use mathlib.Core.Path.{◌≡◌, refl, sym, ap, ◌∙◌, subst}
use mathlib.Core.Bool.{false}
use mathlib.Core.Logic.{by_cases}
use Prim.Native.Nat.{ℕ, ◌≤◌, ◌<◌}
use native.Mathlib.Omega.{arith}
use native.Mathlib.Decide.{ℕ_discrete}
use borrow.Author.Tests.{eq-eqb, ne_eqb}
use Rattle.base.proofs.Picking.{pick_no}
use Rattle.memory.specs.declared.Memory.{Memory}
use Rattle.memory.specs.declared.asks.Ask.TheVariants as ask
use Rattle.memory.specs.Answers.{Done}
use Rattle.memory.specs.Memories.{taken}
use Rattle.memory.specs.Looks.{look_mark_of}
use Rattle.memory.specs.Steps.{fence_of}
use Rattle.memory.specs.Asks.{looked_of}
use Rattle.memory.proofs.Effects.{is_taken}
use Rattle.state.specs.declared.Process.{Process}
use Rattle.state.specs.declared.State.{State}
use Rattle.state.specs.declared.Choice.{Choice}
use Rattle.state.specs.Codes.{store_mark_old, store_mark_y, store_write, noop_fence, noop_finish, roots_fence, roots_mark, roots_finish, work_fence, work_finish, no_stage, look_stage}
use Rattle.state.specs.States.{with_memory, with_process_of, taken_of}
use Rattle.marking.specs.Marks.{is_site_of, names_root_of, mark_offers, marked_cell, stage_ask_of, mark_ask, named_root_of, look_go, stage_go_of, past_over_of, mark_go}
use Rattle.mutator.specs.Mutators.{mutator_offers, mutator_ask, mutator_go, written, past_fence_of, stepping, handing}
use Rattle.model.specs.Offers as offer
use Rattle.model.specs.Offers.{Bare, offer_of, mark_place, round_place}
use Rattle.model.specs.Deeds.{cell_of, mark_deed, row_deed, deed_of}
use Rattle.model.specs.Reasons.{mover}
use Rattle.model.specs.Rows as row
use Rattle.model.specs.Rows.{At, Marks, Mark, Mutator}
use Rattle.model.specs.Views.{View}
use Rattle.model.proofs.Numbers.{Buffered}
use Rattle.model.proofs.Seeing.{bit_seen, fence_taken}
use Rattle.model.proofs.Standing.{Standing, placed}
use Rattle.own.specs.Owns.{own_offers, own_ask, own_go}
use Rattle.model.proofs.Road.{told_by, own_of}
use Rattle.model.proofs.Places.{place_view, blank, naming}
use Rattle.model.proofs.Marks.{Site, site, mark_view, mark_row}

pub record Mutating (s : State) (c : Choice) : Type 0 where
  pub kind : c.kind ≡ 0
  pub place : (mover s c).place ≤ work_finish
  pub standing : Standing (mover s c)
  pub buffered : Buffered s.memory c.process

-- a row of the mover
abbrev pub Own : State → Choice → State → Type 0
Own s c = Mutator s c c.process (mover s c)

module _ (s : State) (c : Choice) (z : Mutating s c) where
  -- a place with no stage
  still : {k : ℕ} → (mover s c).place ≡ k → mark_place k ≡ false → round_place k ≡ false → At k no_stage (mover s c)
  still e a b = record { place = e; stage = z.standing.unstaged (rw e a) (rw e b) }

  -- "write the field, clearing the honorary root"
  write_view : (mover s c).place ≡ store_write → View (Own s c) s c (own_of s c)
  unfolding is_site_of offer_of deed_of row_deed own_offers own_ask own_go mutator_offers mutator_ask mutator_go written
  write_view e = let a = still e refl refl in place_view s c a (omega arith) (Own s c) z.kind z.buffered blank refl refl refl refl refl (λ b n. row.writes a b (is_taken _ n))

  -- "Answer: read the type; fence; .."
  fenced : (told_by s c ask.Fence).no ≡ 0 → fence_of s.memory c.process ≡ taken s.memory
  fenced n = fence_taken s.memory c.process n

  noop_fence_view : (mover s c).place ≡ noop_fence → View (Own s c) s c (own_of s c)
  unfolding is_site_of offer_of deed_of row_deed own_offers own_ask own_go mutator_offers mutator_ask mutator_go
  noop_fence_view e = let a = still e refl refl in place_view s c a (omega arith) (Own s c) z.kind z.buffered blank refl refl refl refl refl (λ b n. row.fences_noop a b (fenced n))

  work_fence_view : (mover s c).place ≡ work_fence → View (Own s c) s c (own_of s c)
  unfolding is_site_of offer_of deed_of row_deed own_offers own_ask own_go mutator_offers mutator_ask mutator_go
  work_fence_view e = let a = still e refl refl in place_view s c a (omega arith) (Own s c) z.kind z.buffered blank refl refl refl refl refl (λ b n. row.fences_work a b (fenced n))

  roots_fence_view : (mover s c).place ≡ roots_fence → View (Own s c) s c (own_of s c)
  unfolding is_site_of offer_of deed_of row_deed own_offers own_ask own_go mutator_offers mutator_ask mutator_go past_fence_of
  roots_fence_view e =
      let a = still e refl refl in
      place_view s c a (omega arith) (Own s c) z.kind z.buffered blank refl refl refl refl refl
      (λ b n. pick_no (λ (q : Process). Own s c (with_process_of s c.process q)) (mover s c).roots 0 (λ i. row.fences_none a b (fenced n) i) (λ i. row.fences_roots a b (fenced n) i))

  -- "then one step lowers the flag, sets in step, .."
  noop_finish_view : (mover s c).place ≡ noop_finish → View (Own s c) s c (own_of s c)
  unfolding is_site_of offer_of deed_of row_deed own_offers own_ask own_go mutator_offers mutator_ask mutator_go stepping
  noop_finish_view e = let a = still e refl refl in place_view s c a (omega arith) (Own s c) z.kind z.buffered blank refl refl refl refl refl (λ b n. row.finishes_noop a b)

  roots_finish_view : (mover s c).place ≡ roots_finish → View (Own s c) s c (own_of s c)
  unfolding is_site_of offer_of deed_of row_deed own_offers own_ask own_go mutator_offers mutator_ask mutator_go handing stepping
  roots_finish_view e = let a = still e refl refl in place_view s c a (omega arith) (Own s c) z.kind z.buffered blank refl refl refl refl refl (λ b n. row.finishes_roots a b)

  work_finish_view : (mover s c).place ≡ work_finish → View (Own s c) s c (own_of s c)
  unfolding is_site_of offer_of deed_of row_deed own_offers own_ask own_go mutator_offers mutator_ask mutator_go handing stepping
  work_finish_view e = let a = still e refl refl in place_view s c a (omega arith) (Own s c) z.kind z.buffered blank refl refl refl refl refl (λ b n. row.finishes_work a b)

  -- ---- "mark the old; mark y"; from the second step also "mark each root"
  abbrev Past : Type 0
  Past = (mover s c).place ≡ roots_mark → (mover s c).stage ≡ look_stage → ⊥

  known : {k : ℕ} → (mover s c).place ≡ k → (k ≡ roots_mark → ⊥) → names_root_of (mover s c) ≡ false
  unfolding names_root_of
  known e n = rw (ne_eqb (mover s c).place roots_mark (λ h. n (sym e ∙ h))) refl

  known_root : (mover s c).place ≡ roots_mark → ((mover s c).stage ≡ look_stage → ⊥) → names_root_of (mover s c) ≡ false
  unfolding names_root_of
  known_root e n = rw (eq-eqb (mover s c).place roots_mark e, ne_eqb (mover s c).stage look_stage n) refl

  roots_offer : (mover s c).place ≡ roots_mark → ((mover s c).stage ≡ look_stage → ⊥) → offer_of (mover s c) ≡ offer.nothing
  unfolding offer_of
  roots_offer e n = simp (e, ne_eqb (mover s c).stage look_stage n)

  old_site : (mover s c).place ≡ store_mark_old → Site s c
  unfolding is_site_of offer_of
  old_site e = site s c z.kind z.standing z.buffered (rw e refl) (rw e refl) (known e (λ h. omega arith)) (placed offer_of (mover s c) e)

  y_site : (mover s c).place ≡ store_mark_y → Site s c
  unfolding is_site_of offer_of
  y_site e = site s c z.kind z.standing z.buffered (rw e refl) (rw e refl) (known e (λ h. omega arith)) (placed offer_of (mover s c) e)

  root_site : (mover s c).place ≡ roots_mark → ((mover s c).stage ≡ look_stage → ⊥) → Site s c
  unfolding is_site_of
  root_site e n = site s c z.kind z.standing z.buffered (rw e refl) (rw e refl) (known_root e n) (roots_offer e n)

  -- the cell of each site, and its row
  marks_view : Site s c → Marks (mover s c) (marked_cell c (mover s c)) → Past → View (Own s c) s c (own_of s c)
  marks_view i m h = mark_view s c i (Own s c) (λ n t b r. row.marks b m h r)

  old_cell : (mover s c).place ≡ store_mark_old → marked_cell c (mover s c) ≡ (mover s c).old
  unfolding marked_cell
  old_cell e = simp e

  y_cell : (mover s c).place ≡ store_mark_y → marked_cell c (mover s c) ≡ (mover s c).y
  unfolding marked_cell
  y_cell e = simp e

  root_cell : (mover s c).place ≡ roots_mark → ((mover s c).stage ≡ look_stage → ⊥) → marked_cell c (mover s c) ≡ (mover s c).cell
  unfolding marked_cell
  root_cell e n = rw (known_root e n) (simp e)

  old_view : (mover s c).place ≡ store_mark_old → View (Own s c) s c (own_of s c)
  old_view e = marks_view (old_site e) (rw (old_cell e) (row.old e)) (λ i _. omega arith)

  y_view : (mover s c).place ≡ store_mark_y → View (Own s c) s c (own_of s c)
  y_view e = marks_view (y_site e) (rw (y_cell e) (row.new e)) (λ i _. omega arith)

  rest_view : (mover s c).place ≡ roots_mark → ((mover s c).stage ≡ look_stage → ⊥) → View (Own s c) s c (own_of s c)
  rest_view e n = marks_view (root_site e n) (rw (root_cell e n) (row.root e)) (λ _ i. n i)

  -- ---- "for roots, mark each root, the choice x naming which remaining one at its first look"
  first_view : At roots_mark look_stage (mover s c) → View (Own s c) s c (own_of s c)
  unfolding is_site_of offer_of deed_of mark_deed cell_of own_offers own_ask own_go names_root_of mark_offers mark_ask stage_ask_of marked_cell mark_go named_root_of stage_go_of look_go past_over_of looked_of look_mark_of
  first_view a =
      place_view s c a (omega arith) (Own s c) z.kind z.buffered (naming (mover s c).left) refl refl refl refl refl
      (λ o n. row.looks_root a o.0 o.1 (bit_seen (look_mark_of s.memory c.process c.x) n))

  roots_view : (mover s c).place ≡ roots_mark → View (Own s c) s c (own_of s c)
  roots_view e = by_cases (ℕ_discrete (mover s c).stage look_stage) (λ i. first_view (record { place = e; stage = i })) (λ n. rest_view e n)

  -- ---- past top, the place decides
  pub past_view : 0 < (mover s c).place → View (Own s c) s c (own_of s c)
  past_view l =
      from store_mark_old l old_view
      (λ l. from store_mark_y l y_view
      (λ l. from store_write l write_view
      (λ l. from noop_fence l noop_fence_view
      (λ l. from noop_finish l noop_finish_view
      (λ l. from roots_fence l roots_fence_view
      (λ l. from roots_mark l roots_view
      (λ l. from roots_finish l roots_finish_view
      (λ l. from work_fence l work_fence_view
      (λ l. from work_finish l work_finish_view
      (λ l. absurd (omega (arith, z.place))))))))))))
    where
      from : (k : ℕ) → k ≤ (mover s c).place → ((mover s c).place ≡ k → View (Own s c) s c (own_of s c)) → (k < (mover s c).place → View (Own s c) s c (own_of s c)) → View (Own s c) s c (own_of s c)
      from k l f g = by_cases (ℕ_discrete (mover s c).place k) f (λ h. g (omega arith))

  -- ---- and back
  pub marks_row : Bare c → Past → {r : ℕ} → Marks (mover s c) r → {n : Memory} {t : Process} → Mark s.memory c.process r (mover s c) n t → own_of s c ≡ taken_of (with_process_of (with_memory s n) c.process t)
  marks_row b h (row.old e) {n} {t} m = mark_row s c (old_site e) b (subst (λ (r : ℕ). Mark s.memory c.process r (mover s c) n t) (sym (old_cell e)) m)
  marks_row b h (row.new e) {n} {t} m = mark_row s c (y_site e) b (subst (λ (r : ℕ). Mark s.memory c.process r (mover s c) n t) (sym (y_cell e)) m)
  marks_row b h (row.root e) {n} {t} m = mark_row s c (root_site e (h e)) b (subst (λ (r : ℕ). Mark s.memory c.process r (mover s c) n t) (sym (root_cell e (h e))) m)
  marks_row b h (row.field e) m = absurd (omega (arith, z.place))

  pub told_fence : fence_of s.memory c.process ≡ taken s.memory → (told_by s c ask.Fence).no ≡ 0
  told_fence e = ap (λ (d : Done). d.no) e
