-- What the fields of an occupied cell name, before and after a step. Assumes nothing.
--     names_at, names_by      a name by the number of its field, and back
--     Stayed, names_stay      what is named stays so, but for the field that a committed store overwrites
--     Named, names_were       what is named was so, or is the value of the store that is committed
use mathlib.Core.Path.{◌≡◌, sym, ◌∙◌}
use mathlib.Core.Bool.{true}
use mathlib.Core.List.{List}
use mathlib.Core.Logic.{by_cases}
use Prim.Native.Nat.{ℕ, zero, suc, ◌<◌}
use native.Mathlib.Omega.{arith}
use native.Mathlib.Decide.{ℕ_discrete}
use Rattle.cells.proofs.Bools.{not_both}
use Rattle.buffers.specs.declared.Entry.{Entry}
use Rattle.buffers.specs.Fits.{max_fields}
use Rattle.memory.specs.declared.Memory.{Memory}
use Rattle.memory.specs.Memories.{used_of, field_of}
use Rattle.state.specs.declared.Process.{Process}
use Rattle.state.specs.declared.Choice.{Choice}
use Rattle.reach.specs.Reach.{Names}
use Rattle.spared.specs.Holds.{FieldIn}
use Rattle.spared.specs.Views.{Effect}

-- ---- by the field's number
pub names_by : (m : Memory) (a d g : ℕ) → g < max_fields → field_of m a g ≡ d → 0 < d → Names m a d
names_by m a d zero l e n = Names.first e n
names_by m a d (suc zero) l e n = Names.second e n
names_by m a d (suc (suc g)) l e n = absurd (omega arith)

pub names_at : {m : Memory} {a d : ℕ} → Names m a d → (g : ℕ) × ((g < max_fields) × ((field_of m a g ≡ d) × (0 < d)))
names_at (Names.first e n) = (0, (omega arith, (e, n)))
names_at (Names.second e n) = (1, (omega arith, (e, n)))

same : {m n : Memory} {a d : ℕ} → ((g : ℕ) → field_of n a g ≡ field_of m a g) → Names m a d → Names n a d
same f (Names.first e z) = Names.first (f 0 ∙ e) z
same f (Names.second e z) = Names.second (f 1 ∙ e) z

-- ---- after the step
pub data Stayed (l : List Entry) (m n : Memory) (a d : ℕ) : Type 0 where
  still : Names n a d → Stayed l m n a d
  overwritten : (x f v : ℕ) → FieldIn l x f v → field_of m x f ≡ d → 0 < d → Stayed l m n a d

-- ---- before it
pub data Named (l : List Entry) (m : Memory) (a d : ℕ) : Type 0 where
  was : used_of m a ≡ true → Names m a d → Named l m a d
  stored : (x f : ℕ) → FieldIn l x f d → 0 < d → Named l m a d

module _ {c : Choice} {q : Process} {l : List Entry} {m n : Memory} (a d : ℕ) where
  pub names_stay : Effect c q l m n → used_of m a ≡ true → used_of n a ≡ true → Names m a d → Stayed l m n a d
  names_stay (Effect.calm u b f s) i j k = Stayed.still (same (f a) k)
  names_stay (Effect.marks p o e b u f s) i j k = Stayed.still (same (f a) k)
  names_stay (Effect.stores {x} {f} {v} p o z e b u w s) i j k = let h = names_at k in go h.0 h.1.0 h.1.1.0 h.1.1.1 (ℕ_discrete a x) (ℕ_discrete h.0 f)
    where
      go : (g : ℕ) → g < max_fields → field_of m a g ≡ d → 0 < d → Dec (a ≡ x) → Dec (g ≡ f) → Stayed l m n a d
      go g y t r (yes i) (yes j) = Stayed.overwritten x f v p (rw (← i, ← j) t) r
      go g y t r (yes i) (no j) = Stayed.still (names_by n a d g y (b a g y (λ k. j k.1) ∙ t) r)
      go g y t r (no i) j = Stayed.still (names_by n a d g y (b a g y (λ k. i k.0) ∙ t) r)
  names_stay (Effect.flips p e f u b w) i j k = Stayed.still (same (w a) k)
  names_stay (Effect.follows p e f u b w) i j k = Stayed.still (same (w a) k)
  names_stay (Effect.allocates p o y f u e v b w g s) i j k = by_cases (ℕ_discrete a c.x) (λ z. absurd (not_both i (rw z f))) (λ z. Stayed.still (same (λ h. g a h z) k))
  names_stay (Effect.frees p u b w g s) i j k = by_cases (ℕ_discrete a q.x) (λ z. absurd (not_both j (rw z u))) (λ z. Stayed.still (same (λ h. g a h z) k))

  pub names_were : Effect c q l m n → used_of n a ≡ true → Names n a d → Named l m a d
  names_were (Effect.calm u b f s) j k = Named.was (sym (u a) ∙ j) (same (λ g. sym (f a g)) k)
  names_were (Effect.marks p o e b u f s) j k = Named.was (sym (u a) ∙ j) (same (λ g. sym (f a g)) k)
  names_were (Effect.stores {x} {f} {v} p o z e b u w s) j k = let h = names_at k in go h.0 h.1.0 h.1.1.0 h.1.1.1 (ℕ_discrete a x) (ℕ_discrete h.0 f)
    where
      go : (g : ℕ) → g < max_fields → field_of n a g ≡ d → 0 < d → Dec (a ≡ x) → Dec (g ≡ f) → Named l m a d
      go g y t r (yes i) (yes h) = let k : v ≡ d = sym e ∙ (rw (← i, ← h) t) in Named.stored x f (rw (← k) p) r
      go g y t r (yes i) (no h) = Named.was (sym (u a) ∙ j) (names_by m a d g y (sym (b a g y (λ k. h k.1)) ∙ t) r)
      go g y t r (no i) h = Named.was (sym (u a) ∙ j) (names_by m a d g y (sym (b a g y (λ k. i k.0)) ∙ t) r)
  names_were (Effect.flips p e f u b w) j k = Named.was (sym (u a) ∙ j) (same (λ g. sym (w a g)) k)
  names_were (Effect.follows p e f u b w) j k = Named.was (sym (u a) ∙ j) (same (λ g. sym (w a g)) k)
  names_were (Effect.allocates p o y f u e v b w g s) j k = by_cases (ℕ_discrete a c.x) (λ z. absurd (null z (names_at k))) (λ z. Named.was (sym (b a z) ∙ j) (same (λ h. sym (g a h z)) k))
    where
      null : a ≡ c.x → (h : ℕ) × ((h < max_fields) × ((field_of n a h ≡ d) × (0 < d))) → ⊥
      null z h = let y : field_of n a h.0 ≡ 0 = rw z (v h.0) in omega (arith, h.1.1.0, h.1.1.1)
  names_were (Effect.frees p u b w g s) j k = by_cases (ℕ_discrete a q.x) (λ z. absurd (not_both j (rw z u))) (λ z. Named.was (sym (b a z) ∙ j) (same (λ h. sym (g a h z)) k))
