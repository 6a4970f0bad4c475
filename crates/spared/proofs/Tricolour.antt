-- B13: no field of a black cell names a white one. Assumes nothing.
--     step_tricolour      after each row
use mathlib.Core.Path.{◌≡◌, refl, ap, subst, ◌∙◌}
use mathlib.Core.Bool.{true, false, false≢true}
use mathlib.Core.Logic.{◌⊎◌, inl, inr, ⊎_elim}
use Prim.Native.Nat.{ℕ, ◌<◌}
use native.Mathlib.Omega.{arith}
use lib.Dec.{leb}
use Rattle.cells.proofs.Members.{member_empty}
use Rattle.memory.specs.Memories.{used_of, field_of}
use Rattle.state.specs.declared.State.{State}
use Rattle.state.specs.declared.Choice.{Choice}
use Rattle.state.specs.Codes.{row5_round, row7_drop, no_stage}
use Rattle.state.specs.States.{process_of}
use Rattle.state.specs.Choices.{field_left_of}
use Rattle.formed.proofs.Gives.{drop_at}
use Rattle.model.specs.Rows.{At, Marks, Row}
use Rattle.model.specs.Reasons.{mover}
use Rattle.reach.specs.Reach.{Names}
use Rattle.verdict.specs.Colours.{White, Black}
use Rattle.claims.specs.Pending.{waiting_of}
use Rattle.spared.specs.Shades.{NullOrMarked, Covered}
use Rattle.spared.specs.Holds.{FieldIn}
use Rattle.spared.specs.Tricolour.{Tricolour}
use Rattle.spared.specs.Inv.{Spared}
use Rattle.spared.specs.Lemmas.{Flip, RowsKeep}
use Rattle.spared.proofs.Effects.{row_effect}
use Rattle.spared.proofs.Shades.{marked_not_white, black_marked}
use Rattle.spared.proofs.Flips.{row_sense}
use Rattle.spared.proofs.Stays.{marked_stays, white_was}
use Rattle.spared.proofs.Greys.{black_was}
use Rattle.spared.proofs.Overs.{value_safe}
use Rattle.spared.proofs.Names.{names_at, Named, names_were}

-- ---- where fM stays
module _ (s t : State) (c : Choice) (v : Spared s) (r : Row s c t) (e : t.memory.fm ≡ s.memory.fm) (x d : ℕ) (black : Black t x) (white : White t.memory d) (pos : 0 < d) where
  -- d was not safe
  unsafe : NullOrMarked s.memory d → ⊥
  unsafe (inl z) = omega arith
  unsafe (inr k) = marked_not_white (marked_stays s t c v r e d k) white

  -- a store is of a safe value, or fA is still to follow and the collector before row 6
  stored : (y f : ℕ) → FieldIn (waiting_of s c.process) y f d → (s.memory.fa ≡ s.memory.fm → ⊥) × (leb (process_of s 0).place row5_round ≡ true)
  stored y f i = ⊎_elim (λ k. absurd (unsafe k)) (λ k. (k.0, k.1.0)) (value_safe s v c.process y f d i)

  -- a cell that was black: its field was so, and d was white or is new
  stayed : Black s x → Named (waiting_of s c.process) s.memory x d → (White s.memory d) ⊎ ((used_of s.memory d ≡ false) × (s.memory.fa ≡ s.memory.fm → ⊥)) → ⊥
  stayed b (Named.was u n) (inl w) = v.tricolour x (record { black = b; named = d; names = n; white = w })
  stayed b (Named.was u n) (inr k) = v.blank k.1 x b
  stayed b (Named.stored y f i l) k = v.blank (stored y f i).0 x b

  -- the cell that row 7 drops: each of its fields is safe
  dropped : At row7_drop no_stage (process_of s 0) → (process_of s 0).x ≡ x → Named (waiting_of s c.process) s.memory x d → ⊥
  dropped a i (Named.was u n) = let k = names_at n in go (v.scanned.scanned (rw a.place refl) k.0 k.1.0 (rw (drop_at a.place v.inv.formed.collector).left (member_empty (field_left_of k.0))))
    where
      idle : {y : ℕ} → Marks (process_of s 0) y → ⊥
      idle (Marks.old k) = omega (arith, a.place)
      idle (Marks.new k) = omega (arith, a.place)
      idle (Marks.root k) = omega (arith, a.place)
      idle (Marks.field k) = omega (arith, a.place)

      go : Covered s.memory (process_of s 0) (field_of s.memory (process_of s 0).x (names_at n).0) → ⊥
      go (Covered.safe k) = unsafe (subst (NullOrMarked s.memory) (ap (λ y. field_of s.memory y (names_at n).0) i ∙ (names_at n).1.1.0) k)
      go (Covered.now k) = idle k
  dropped a i (Named.stored y f h l) = false≢true (rw a.place at (stored y f h).1)

  -- by what the black cell was; a new one has null fields
  none : (Black s x) ⊎ ((At row7_drop no_stage (mover s c) × (((mover s c).x ≡ x) × (c.process ≡ 0))) ⊎ ((used_of s.memory x ≡ false) × ((f : ℕ) → field_of t.memory x f ≡ 0))) → Names t.memory x d → ⊥
  none (inl b) n = stayed b (names_were x d (row_effect s t c v.inv.formed r) black.occupied n) (white_was s t c v r e d white)
  none (inr (inl (a, k))) n =
      dropped (subst (λ i. At row7_drop no_stage (process_of s i)) k.1 a) (subst (λ i. (process_of s i).x ≡ x) k.1 k.0) (names_were x d (row_effect s t c v.inv.formed r) black.occupied n)
  none (inr (inr k)) n = let h = names_at n in omega (arith, k.1 h.0, h.1.1.0, pos)

pub step_tricolour : RowsKeep Tricolour
step_tricolour s t c v r x k = go (row_sense s t c v r)
  where
    go : (t.memory.fm ≡ s.memory.fm) ⊎ Flip s t → ⊥
    go (inl e) = none s t c v r e x k.named k.black k.white (names_at k.names).1.1.1 (black_was s t c v r x k.black) k.names
    go (inr f) = f.none_marked x (black_marked t x k.black)
