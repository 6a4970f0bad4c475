-- The counts of cells and processes stay, and the values of fields, in memory and pending, stay within 0 to N. Said
-- over memory's laws: of a step that is taken they give what it changed. The memory before is well formed, so the
-- laws hold of it; the memory after is too, so its unused entries are zero. Assumes nothing.
--     write_ranged           after a write of a store whose value is in range
--     commit_ranged, lock_ranged, unlock_ranged
--     allocate_ranged, free_ranged     after the allocation or freeing of a cell of 1 to N
--     seen_value_lem             the value that a look of a field sees is in range
use mathlib.Core.Path.{◌≡◌, refl, sym, ap, ◌∙◌}
use mathlib.Core.Bool.{Bool}
use mathlib.Core.List.Memᴰ
use mathlib.Core.List.{Memᴰ}
use mathlib.Core.Logic.{⊎_elim, by_cases}
use Prim.Native.Nat.{ℕ, ◌≤◌}
use native.Mathlib.Decide.{ℕ_discrete}
use native.Mathlib.Omega.{arith}
use Rattle.buffers.specs.declared.Store.{Store}
use Rattle.buffers.specs.declared.Spot.TheVariants as spot
use Rattle.buffers.specs.declared.Entry.{Entry}
use Rattle.buffers.specs.Stores.{value_of}
use Rattle.buffers.specs.Fits.{IsCell}
use Rattle.memory.specs.declared.Memory.{Memory}
use Rattle.memory.specs.Answers.{SeenValue}
use Rattle.memory.specs.Memories.{taken, field_of}
use Rattle.memory.specs.Looks.{look_field_of}
use Rattle.memory.specs.Steps.{write_of, commit_of, lock_of, unlock_of, allocate_of, free_of}
use Rattle.memory.specs.Views.{pending_for}
use Rattle.memory.proofs.Shapes.{view_from}
use Rattle.memory.proofs.Spots.{Alike, field_same, held_field}
use Rattle.memory.proofs.Effects.{Written, Committed, Relocked, Reset, write_taken, commit_taken, lock_taken, unlock_taken, allocate_taken, free_taken}
use Rattle.memory.proofs.Commits.{committed_field}
use Rattle.memory.proofs.Sights.{look_field_taken}
use Rattle.memory_formed.specs.WellFormed.{MemoryFormed}
use Rattle.memory_formed.proofs.Shapes.{shaped, pending_entries, entries_pending}
use Rattle.model.specs.Rows.{sees_value}
use Rattle.stays_formed.specs.Kept.{Ranged}

-- the entry's value is in range
abbrev Holds : ℕ → Entry → Type 0
Holds k e = value_of e.store ≤ k

-- ---- what a memory in range has
module _ {k j : ℕ} {m : Memory} (r : Ranged k j m) where
  pending_in : (q : ℕ) (e : Entry) → Memᴰ e (pending_for m q) → Holds k e
  pending_in q = pending_entries (Holds k) m q (r.pending q)

  pub seen_value_lem : (p c f v : ℕ) → look_field_of m p c f ≡ sees_value v → v ≤ k
  seen_value_lem p c f v e =
      let g = ap (λ (s : SeenValue). s.value) (sym e ∙ look_field_taken m p c f (ap (λ (s : SeenValue). s.no) e)) in
      rw g (view_from (λ (s : Store). value_of s ≤ k) m p (spot.Field c f) (pending_in p) (rw (held_field m c f) (r.fields c f)))

-- ---- what changed, by the records of memory's laws
module _ {k j : ℕ} {m n : Memory} (r : Ranged k j m) (w : MemoryFormed n) where
  after : n.cells ≡ m.cells → n.processes ≡ m.processes → ((c f : ℕ) → field_of n c f ≤ k) → ((q : ℕ) (e : Entry) → Memᴰ e (pending_for n q) → Holds k e) → Ranged k j n
  after a b f g = record { cells = a ∙ r.cells; processes = b ∙ r.processes; fields = f; pending = λ q. entries_pending (Holds k) n w q (omega arith) (g q) }

  alike_in : Alike m n → (c f : ℕ) → field_of n c f ≤ k
  alike_in a c f = rw (field_same m n c f a) (r.fields c f)

  -- the lists of the others are as before
  others_in : (p : ℕ) → ((q : ℕ) → (q ≡ p → ⊥) → pending_for n q ≡ pending_for m q) → ((e : Entry) → Memᴰ e (pending_for n p) → Holds k e) → (q : ℕ) (e : Entry) → Memᴰ e (pending_for n q) → Holds k e
  others_in p same own q e i = by_cases (ℕ_discrete q p) (λ (h : q ≡ p). own e (rw h at i)) (λ h. pending_in r q e (rw (same q h) at i))

  written : {p : ℕ} {e : Entry} → Holds k e → Written m p e n → Ranged k j n
  written {p} {e} h a =
      after a.settled.cells a.settled.processes (alike_in a.alike)
      (others_in p a.others (λ x i. ⊎_elim (pending_in r p x) (λ l. let q : x ≡ e = Memᴰ.eq_of_singleton l in rw q h) (Memᴰ.append_cases (pending_for m p) (rw a.own at i))))

  committed : {p : ℕ} → Committed m p n → Ranged k j n
  committed {p} a =
      let oldest : Holds k a.oldest = pending_in r p a.oldest (rw a.before (Memᴰ.head refl)) in
      after a.settled.cells a.settled.processes
      (λ c f. ⊎_elim (λ (e : field_of n c f ≡ field_of m c f). rw e (r.fields c f)) (λ (e : field_of n c f ≡ value_of a.oldest.store). rw e oldest) (committed_field a c f))
      (others_in p a.others (λ x i. pending_in r p x (rw a.before (Memᴰ.tail (rw a.own at i)))))

  relocked : {l : ℕ} → Relocked m l n → Ranged k j n
  relocked a = after a.settled.cells a.settled.processes (alike_in a.alike) (λ q e i. pending_in r q e (rw (a.pending q) at i))

  reset : {c : ℕ} {u b : Bool} → Reset m c u b n → Ranged k j n
  reset {c} a =
      after a.cells a.processes
      (λ d f. by_cases (ℕ_discrete d c) (λ (e : d ≡ c). rw (e, a.fields f) (omega arith)) (λ h. rw (a.fields_others d f h) (r.fields d f)))
      (λ q e i. pending_in r q e (rw (a.pending q) at i))

-- ---- the steps that are taken
module _ {k j : ℕ} {m n : Memory} (p : ℕ) (z : MemoryFormed m) (w : MemoryFormed n) (r : Ranged k j m) where
  pub write_ranged : (e : Entry) → Holds k e → write_of m p e ≡ taken n → Ranged k j n
  write_ranged e h g = written r w h (write_taken p e (shaped m z) g)

  pub commit_ranged : commit_of m p ≡ taken n → Ranged k j n
  commit_ranged g = committed r w (commit_taken p (shaped m z) g)

  pub lock_ranged : lock_of m p ≡ taken n → Ranged k j n
  lock_ranged g = relocked r w (lock_taken p g).after

  pub unlock_ranged : unlock_of m p ≡ taken n → Ranged k j n
  unlock_ranged g = relocked r w (unlock_taken p (shaped m z) g).after

  pub allocate_ranged : (c : ℕ) → IsCell m.cells c → allocate_of m p c ≡ taken n → Ranged k j n
  allocate_ranged c i g = reset r w (allocate_taken p c (shaped m z) i.0 (omega (arith, i.1, z.few_cells)) g).after

  pub free_ranged : (c : ℕ) → IsCell m.cells c → free_of m p c ≡ taken n → Ranged k j n
  free_ranged c i g = reset r w (free_taken p c (shaped m z) i.0 (omega (arith, i.1, z.few_cells)) g).after
