-- What a step keeps of marked and white cells. Assumes nothing.
--     far_collector     at a place past the mutators' there is only the collector
--     freed_white       the cell that a step frees is white
--     marked_stays      a marked cell stays marked while memory's fM stays (L1)
--     used_or_freed     an occupied cell stays occupied, but for the one that is freed (L2)
--     white_was         a white cell was white, or is new and fA was not fM (L4)
use mathlib.Core.Path.{◌≡◌, sym, ◌∙◌}
use mathlib.Core.Bool.{Bool, true, false}
use mathlib.Core.Logic.{◌⊎◌, inl, inr, by_cases}
use mathlib.Core.List.{List}
use Prim.Native.Nat.{ℕ, ◌<◌}
use native.Mathlib.Omega.{arith}
use native.Mathlib.Decide.{ℕ_discrete, dec_lt}
use Rattle.cells.proofs.Bools.{not_both}
use Rattle.buffers.specs.declared.Store.TheVariants as store
use Rattle.buffers.specs.declared.Entry.{Entry}
use Rattle.memory.specs.declared.Memory.{Memory}
use Rattle.memory.specs.Memories.{used_of, mark_of}
use Rattle.state.specs.declared.Process.{Process}
use Rattle.state.specs.declared.State.{State}
use Rattle.state.specs.declared.Choice.{Choice}
use Rattle.state.specs.Codes.{work_finish, row10_free, no_stage}
use Rattle.state.specs.States.{mutators_of, process_of}
use Rattle.formed.specs.Fits.{WellFormed}
use Rattle.formed.proofs.Gives.{mutator_within}
use Rattle.model.specs.Rows.{At}
use Rattle.model.specs.Reasons.{mover}
use Rattle.verdict.specs.Colours.{White}
use Rattle.claims.specs.Pending.{waiting_of}
use Rattle.spared.specs.Shades.{Marked}
use Rattle.spared.specs.Holds.{StoreIn}
use Rattle.spared.specs.Views.{Effect}
use Rattle.spared.specs.Inv.{Spared}
use Rattle.spared.specs.Lemmas.{MarkedStays, UsedOrFreed, WhiteWas}
use Rattle.spared.proofs.Effects.{row_effect}
use Rattle.spared.proofs.Marks.{mark_store}
use Rattle.spared.proofs.Shades.{marked_not_white}

-- what the invariant says of the marks that are committed and of the cell that is freed
record Told (q : Process) (l : List Entry) (m : Memory) : Type 0 where
  pub mark : (x : ℕ) (b : Bool) → StoreIn l (store.Mark x b) → b ≡ m.fm
  pub free : At row10_free no_stage q → White m q.x

like : {m n : Memory} {d : ℕ} → used_of n d ≡ used_of m d → mark_of n d ≡ mark_of m d → n.fm ≡ m.fm → Marked m d → Marked n d
like e f g h = record { occupied = e ∙ h.occupied; equal = f ∙ h.equal ∙ sym g }

-- what is white was so
was : {m n : Memory} {d : ℕ} → used_of n d ≡ used_of m d → mark_of n d ≡ mark_of m d → n.fm ≡ m.fm → White n d → White m d
was e f g h = record { occupied = sym e ∙ h.occupied; unequal = λ i. h.unequal (f ∙ i ∙ sym g) }

module _ {c : Choice} {q : Process} {l : List Entry} {m n : Memory} where
  effect_marked : Told q l m → Effect c q l m n → n.fm ≡ m.fm → (d : ℕ) → Marked m d → Marked n d
  effect_marked k (Effect.calm u a f s) g d h = like (u d) (a d) g h
  effect_marked k (Effect.marks {x} {b} i o e a u f s) g d h = by_cases (ℕ_discrete d x) (λ z. record { occupied = u d ∙ h.occupied; equal = rw z (e ∙ k.mark x b i ∙ sym g) }) (λ z. like (u d) (a d z) g h)
  effect_marked k (Effect.stores i o b e a u v s) g d h = like (u d) (v d) g h
  effect_marked k (Effect.flips i e f u a v) g d h = like (u d) (a d) g h
  effect_marked k (Effect.follows i e f u a v) g d h = like (u d) (a d) g h
  effect_marked k (Effect.allocates a o i f u e v b j w s) g d h = by_cases (ℕ_discrete d c.x) (λ z. absurd (not_both h.occupied (rw z f))) (λ z. like (b d z) (j d z) g h)
  effect_marked k (Effect.frees a u b j w s) g d h = by_cases (ℕ_discrete d q.x) (λ z. absurd (marked_not_white h (rw z (k.free a)))) (λ z. like (b d z) (j d z) g h)

  effect_used : Effect c q l m n → (d : ℕ) → used_of m d ≡ true → (used_of n d ≡ true) ⊎ (At row10_free no_stage q × (q.x ≡ d))
  effect_used (Effect.calm u a f s) d h = inl (u d ∙ h)
  effect_used (Effect.marks i o e a u f s) d h = inl (u d ∙ h)
  effect_used (Effect.stores i o b e a u v s) d h = inl (u d ∙ h)
  effect_used (Effect.flips i e f u a v) d h = inl (u d ∙ h)
  effect_used (Effect.follows i e f u a v) d h = inl (u d ∙ h)
  effect_used (Effect.allocates a o i f u e v b j w s) d h = by_cases (ℕ_discrete d c.x) (λ z. inl (rw z u)) (λ z. inl (b d z ∙ h))
  effect_used (Effect.frees a u b j w s) d h = by_cases (ℕ_discrete d q.x) (λ z. inr (a, sym z)) (λ z. inl (b d z ∙ h))

  effect_white : Told q l m → Effect c q l m n → n.fm ≡ m.fm → (d : ℕ) → White n d → (White m d) ⊎ ((used_of m d ≡ false) × (m.fa ≡ m.fm → ⊥))
  effect_white k (Effect.calm u a f s) g d h = inl (was (u d) (a d) g h)
  effect_white k (Effect.marks {x} {b} i o e a u f s) g d h = by_cases (ℕ_discrete d x) (λ z. absurd (h.unequal (rw z (e ∙ k.mark x b i ∙ sym g)))) (λ z. inl (was (u d) (a d z) g h))
  effect_white k (Effect.stores i o b e a u v s) g d h = inl (was (u d) (v d) g h)
  effect_white k (Effect.flips i e f u a v) g d h = inl (was (u d) (a d) g h)
  effect_white k (Effect.follows i e f u a v) g d h = inl (was (u d) (a d) g h)
  effect_white k (Effect.allocates a o i f u e v b j w s) g d h = by_cases (ℕ_discrete d c.x) (λ z. inr (rw z f, λ y. h.unequal (rw z (e ∙ y ∙ sym g)))) (λ z. inl (was (b d z) (j d z) g h))
  effect_white k (Effect.frees a u b j w s) g d h = by_cases (ℕ_discrete d q.x) (λ z. absurd (not_both h.occupied (rw z u))) (λ z. inl (was (b d z) (j d z) g h))

-- ---- of a row
pub far_collector : (s : State) → WellFormed s → (p : ℕ) → work_finish < (process_of s p).place → p ≡ 0
far_collector s w p a = go (ℕ_discrete p 0) (dec_lt (mutators_of s) p)
  where
    go : Dec (p ≡ 0) → Dec (mutators_of s < p) → p ≡ 0
    go (yes z) d = z
    go (no z) (yes d) = absurd (let e = rw (w.nobody p d) at a in omega arith)
    go (no z) (no d) = absurd (omega (arith, mutator_within (w.mutators p (omega arith) (omega arith)), a))

frees_collector : (s : State) → WellFormed s → (p : ℕ) → At row10_free no_stage (process_of s p) → p ≡ 0
frees_collector s w p a = far_collector s w p (omega (arith, a.place))

pub freed_white : (s : State) → Spared s → (p : ℕ) → At row10_free no_stage (process_of s p) → White s.memory (process_of s p).x
freed_white s v p a = let z = frees_collector s v.inv.formed p a in rw z (v.swept.white (rw z at a.place))

told : (s : State) (c : Choice) → Spared s → Told (mover s c) (waiting_of s c.process) s.memory
told s c v = record { mark = λ x b i. (mark_store s v c.process x b i).sense; free = freed_white s v c.process }

pub marked_stays : MarkedStays
marked_stays s t c v r = effect_marked (told s c v) (row_effect s t c v.inv.formed r)

pub used_or_freed : UsedOrFreed
used_or_freed s t c v r d h = go (effect_used (row_effect s t c v.inv.formed r) d h)
  where
    go : (used_of t.memory d ≡ true) ⊎ (At row10_free no_stage (mover s c) × ((mover s c).x ≡ d)) → (used_of t.memory d ≡ true) ⊎ (At row10_free no_stage (mover s c) × (((mover s c).x ≡ d) × (c.process ≡ 0)))
    go (inl e) = inl e
    go (inr e) = inr (e.0, (e.1, frees_collector s v.inv.formed c.process e.0))

pub white_was : WhiteWas
white_was s t c v r = effect_white (told s c v) (row_effect s t c v.inv.formed r)
