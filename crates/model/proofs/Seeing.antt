-- Memory's answer where it takes the step, as the rows write it. Assumes nothing.
--     bit_seen, value_seen, phase_seen      a look that is taken sees its own value
--     swept_free, swept_mark                the sweep's look that is taken finds a free cell, or a mark
--     fence_taken                           a fence that is taken changes nothing
use mathlib.Core.Path.{◌≡◌, refl, sym, ap, ◌∙◌, subst}
use mathlib.Core.Bool.{true, false, false≢true}
use Prim.Native.Nat.{ℕ}
use lib.Dec.{eqb}
use Rattle.base.proofs.Picking.{pick_ind}
use Rattle.base.specs.Refusals.{as_taken, by_free}
use Rattle.memory.specs.declared.Memory.{Memory}
use Rattle.memory.specs.Answers.{SeenBit, SeenValue, SeenPhase, Swept}
use Rattle.memory.specs.Memories.{taken}
use Rattle.memory.specs.Looks.{swept_of, look_mark_of, look_swept_of}
use Rattle.memory.specs.Steps.{fence_of}
use Rattle.memory.proofs.Effects.{is_taken}
use Rattle.memory.proofs.Refusals.{fence_same}
use Rattle.memory.proofs.Sights.{look_swept_is}
use Rattle.model.specs.Rows.{sees_bit, sees_value, sees_phase, finds_free, finds_mark}

pub bit_seen : (l : SeenBit) → l.no ≡ as_taken → l ≡ sees_bit l.bit
bit_seen l e = ap (λ (n : ℕ). record { no = n; bit = l.bit }) e

pub value_seen : (l : SeenValue) → l.no ≡ as_taken → l ≡ sees_value l.value
value_seen l e = ap (λ (n : ℕ). record { no = n; value = l.value }) e

pub phase_seen : (l : SeenPhase) → l.no ≡ as_taken → l ≡ sees_phase l.phase
phase_seen l e = ap (λ (n : ℕ). record { no = n; phase = l.phase }) e

pub fence_taken : (m : Memory) (p : ℕ) → (fence_of m p).no ≡ as_taken → fence_of m p ≡ taken m
fence_taken m p e = is_taken (fence_of m p) e ∙ ap taken (fence_same m p)

-- ---- the sweep's look
swept_is : (l : SeenBit) → (swept_of l).no ≡ as_taken → ((swept_of l).used ≡ false → swept_of l ≡ finds_free) × ((swept_of l).used ≡ true → swept_of l ≡ finds_mark (swept_of l).bit)
swept_is l =
    pick_ind (λ (a : Swept). a.no ≡ as_taken → (a.used ≡ false → a ≡ finds_free) × (a.used ≡ true → a ≡ finds_mark a.bit)) (eqb l.no by_free)
    (λ t e. (λ u. refl, λ u. absurd (false≢true u)))
    (λ t e. (λ u. absurd (false≢true (sym u ∙ rw e refl)), λ u. rw e refl))

module _ (m : Memory) (p r : ℕ) (e : (look_swept_of m p r).no ≡ as_taken) where
  swept_finds : ((look_swept_of m p r).used ≡ false → look_swept_of m p r ≡ finds_free) × ((look_swept_of m p r).used ≡ true → look_swept_of m p r ≡ finds_mark (look_swept_of m p r).bit)
  swept_finds =
      subst (λ (l : Swept). l.no ≡ as_taken → (l.used ≡ false → l ≡ finds_free) × (l.used ≡ true → l ≡ finds_mark l.bit)) (sym (look_swept_is m p r)) (swept_is (look_mark_of m p r)) e

  pub swept_free : (look_swept_of m p r).used ≡ false → look_swept_of m p r ≡ finds_free
  swept_free u = swept_finds.0 u

  pub swept_mark : (look_swept_of m p r).used ≡ true → look_swept_of m p r ≡ finds_mark (look_swept_of m p r).bit
  swept_mark u = swept_finds.1 u
