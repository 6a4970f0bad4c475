-- B7: from the flip until fA follows, what is marked is grey. Assumes nothing.
--     step_blank      after each row
use mathlib.Core.Path.{◌≡◌, refl, sym, subst, ◌∙◌}
use mathlib.Core.Bool.{true, false}
use mathlib.Core.List.{List}
use mathlib.Core.Logic.{◌⊎◌, inl, inr, by_cases}
use Prim.Native.Nat.{ℕ}
use native.Mathlib.Decide.{ℕ_discrete}
use Rattle.cells.proofs.Bools.{not_both}
use Rattle.buffers.specs.declared.Entry.{Entry}
use Rattle.memory.specs.declared.Memory.{Memory}
use Rattle.memory.specs.Memories.{used_of, mark_of, field_of}
use Rattle.state.specs.declared.Process.{Process}
use Rattle.state.specs.declared.State.{State}
use Rattle.state.specs.declared.Choice.{Choice}
use Rattle.state.specs.Codes.{row7_drop, no_stage}
use Rattle.state.specs.States.{process_of}
use Rattle.model.specs.Rows.{At, Row}
use Rattle.model.specs.Reasons.{mover}
use Rattle.verdict.specs.Colours.{Black}
use Rattle.claims.specs.Pending.{waiting_of}
use Rattle.spared.specs.Rested.{Blank}
use Rattle.spared.specs.Views.{Effect}
use Rattle.spared.specs.Inv.{Spared}
use Rattle.spared.specs.Lemmas.{Flip, RowsKeep}
use Rattle.spared.proofs.Effects.{row_effect}
use Rattle.spared.proofs.Eras.{alloc_follows, alloc_waits}
use Rattle.spared.proofs.Shades.{black_marked}
use Rattle.spared.proofs.Flips.{row_sense}
use Rattle.spared.proofs.Greys.{black_was}

-- a new cell has fA for its mark
new_mark : {c : Choice} {q : Process} {l : List Entry} {m n : Memory} (d : ℕ) → Effect c q l m n → used_of m d ≡ false → used_of n d ≡ true → mark_of n d ≡ m.fa
new_mark d (Effect.calm u a f s) h g = absurd (not_both g (u d ∙ h))
new_mark d (Effect.marks i o e a u f s) h g = absurd (not_both g (u d ∙ h))
new_mark d (Effect.stores i o b e a u v s) h g = absurd (not_both g (u d ∙ h))
new_mark d (Effect.flips i e f u a v) h g = absurd (not_both g (u d ∙ h))
new_mark d (Effect.follows i e f u a v) h g = absurd (not_both g (u d ∙ h))
new_mark {c} d (Effect.allocates a o i f u e v b j w s) h g = by_cases (ℕ_discrete d c.x) (λ z. rw z e) (λ z. absurd (not_both g (b d z ∙ h)))
new_mark {q = q} d (Effect.frees a u b j w s) h g = by_cases (ℕ_discrete d q.x) (λ z. absurd (not_both g (rw z u))) (λ z. absurd (not_both g (b d z ∙ h)))

module _ (s t : State) (c : Choice) (v : Spared s) (r : Row s c t) (e : t.memory.fm ≡ s.memory.fm) (n : t.memory.fa ≡ t.memory.fm → ⊥) where
  -- where fM stays and fA does not follow, fA stays
  before : Effect c (mover s c) (waiting_of s c.process) s.memory t.memory → s.memory.fa ≡ s.memory.fm → ⊥
  before (Effect.calm u a f k) z = n (k.fa ∙ z ∙ sym e)
  before (Effect.marks i o g a u f k) z = n (k.fa ∙ z ∙ sym e)
  before (Effect.stores i o b g a u f k) z = n (k.fa ∙ z ∙ sym e)
  before (Effect.flips i g f u a w) z = n (f ∙ z ∙ sym e)
  before (Effect.follows {b} i g f u a w) z = n (g ∙ (alloc_waits s v.inv c.process b i).1 ∙ sym e)
  before (Effect.allocates a o i f u g w b j h k) z = n (k.fa ∙ z ∙ sym e)
  before (Effect.frees a u b j w k) z = n (k.fa ∙ z ∙ sym e)

  none : (d : ℕ) → Black t d → (Black s d) ⊎ ((At row7_drop no_stage (mover s c) × (((mover s c).x ≡ d) × (c.process ≡ 0))) ⊎ ((used_of s.memory d ≡ false) × ((f : ℕ) → field_of t.memory d f ≡ 0))) → ⊥
  none d b (inl k) = v.blank (before (row_effect s t c v.inv.formed r)) d k
  none d b (inr (inl (a, k))) =
      let o = subst (λ i. At row7_drop no_stage (process_of s i)) k.1 a in
      before (row_effect s t c v.inv.formed r) (alloc_follows s v.inv (inl (rw o.place refl)))
  none d b (inr (inr k)) =
      let g = row_effect s t c v.inv.formed r in
      before g (sym (new_mark d g k.0 b.occupied) ∙ (black_marked t d b).equal ∙ e)

pub step_blank : RowsKeep Blank
step_blank s t c v r n d b = go (row_sense s t c v r)
  where
    go : (t.memory.fm ≡ s.memory.fm) ⊎ Flip s t → ⊥
    go (inl e) = none s t c v r e n d b (black_was s t c v r d b)
    go (inr f) = f.none_marked d (black_marked t d b)
