-- What is told to an ask, by memory's own steps and looks. Assumes nothing.
--     told_refused, told_made           the answer to an ask is what it saw, then what it made of memory
--     unchanged                         an ask that changes nothing leaves memory as it is
--     field_told, mark_told, sense_told, phase_told     a look that sees a value, a bit or a phase is told it
use mathlib.Core.Path.{◌≡◌, refl, sym, ap}
use mathlib.Core.Bool.{Bool, false, false≢true}
use Prim.Native.Nat.{ℕ}
use Rattle.base.specs.Refusals.{as_taken}
use Rattle.buffers.specs.declared.Phase.{Phase}
use Rattle.buffers.specs.declared.Spot.TheVariants as spot
use Rattle.buffers.specs.Stores.{bit_of, value_of, phase_of}
use Rattle.memory.specs.declared.Memory.{Memory}
use Rattle.memory.specs.Answers.{SeenBit, SeenValue, SeenPhase, Sight}
use Rattle.memory.specs.declared.asks.Ask.{Ask}
use Rattle.memory.specs.declared.asks.Ask.TheVariants as ask
use Rattle.memory.specs.Memories.{taken}
use Rattle.memory.specs.Looks.{look_mark_of, look_field_of, look_sense_of, look_phase_of}
use Rattle.memory.specs.Asks.{Told, looked_of, sight_of, changes, made_of, told_of}

module _ (m : Memory) (p : ℕ) where
  pub told_refused : (a : Ask) → ((sight_of m p a).no ≡ 0 → ⊥) → (told_of m p a).no ≡ (sight_of m p a).no
  told_refused ask.Nothing h = refl
  told_refused (ask.Look at) h = refl
  told_refused (ask.Sweep x) h = refl
  told_refused ask.Fence h = refl
  told_refused (ask.Make d) h = absurd (h refl)

  numbered : {k : Sight} → k.no ≡ 0 → ◌≡◌ {A = Told} (record { no = k.no; sight = k; memory = m }) (record { no = 0; sight = k; memory = m })
  numbered {k} e = ap (λ (n : ℕ). record { no = n; sight = k; memory = m }) e

  pub told_made : (a : Ask) → (sight_of m p a).no ≡ 0 → told_of m p a ≡ record { no = (made_of m p a).no; sight = sight_of m p a; memory = (made_of m p a).memory }
  told_made ask.Nothing e = refl
  told_made (ask.Look at) e = numbered e
  told_made (ask.Sweep x) e = numbered e
  told_made ask.Fence e = numbered e
  told_made (ask.Make d) e = refl

  pub unchanged : (a : Ask) → changes a ≡ false → made_of m p a ≡ taken m
  unchanged ask.Nothing e = refl
  unchanged (ask.Look at) e = refl
  unchanged (ask.Sweep x) e = refl
  unchanged ask.Fence e = refl
  unchanged (ask.Make d) e = absurd (false≢true (sym e))

-- ---- a look
pub record ToldBit (k : Sight) (b : Bool) : Type 0 where
  pub no : k.no ≡ as_taken
  pub bit : bit_of k.store ≡ b

pub record ToldValue (k : Sight) (v : ℕ) : Type 0 where
  pub no : k.no ≡ as_taken
  pub value : value_of k.store ≡ v

pub record ToldPhase (k : Sight) (h : Phase) : Type 0 where
  pub no : k.no ≡ as_taken
  pub phase : phase_of k.store ≡ h

module _ (m : Memory) (p : ℕ) where
  pub mark_told : (x : ℕ) {b : Bool} → look_mark_of m p x ≡ record { no = as_taken; bit = b } → ToldBit (looked_of m p (spot.Mark x)) b
  unfolding look_mark_of looked_of
  mark_told x e = record { no = ap (λ (l : SeenBit). l.no) e; bit = ap (λ (l : SeenBit). l.bit) e }

  pub sense_told : {b : Bool} → look_sense_of m p ≡ record { no = as_taken; bit = b } → ToldBit (looked_of m p spot.Sense) b
  unfolding look_sense_of looked_of
  sense_told e = record { no = ap (λ (l : SeenBit). l.no) e; bit = ap (λ (l : SeenBit). l.bit) e }

  pub field_told : (x f : ℕ) {v : ℕ} → look_field_of m p x f ≡ record { no = as_taken; value = v } → ToldValue (looked_of m p (spot.Field x f)) v
  unfolding look_field_of looked_of
  field_told x f e = record { no = ap (λ (l : SeenValue). l.no) e; value = ap (λ (l : SeenValue). l.value) e }

  pub phase_told : {h : Phase} → look_phase_of m p ≡ record { no = as_taken; phase = h } → ToldPhase (looked_of m p spot.Phase) h
  unfolding look_phase_of looked_of
  phase_told e = record { no = ap (λ (l : SeenPhase). l.no) e; phase = ap (λ (l : SeenPhase). l.phase) e }
