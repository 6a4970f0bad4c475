-- A look's answer, read as a bit, a field's value, a phase. Assumes nothing.
use Rattle.std.proofs.Common.{◌≡◌, ◌∙◌, refl, sym, ap, arith}
use Rattle.base.specs.Refusals.{as_taken, by_free, refusal_number}
use Rattle.buffers.specs.declared.sources.Source.{Source}
use Rattle.buffers.specs.declared.sources.Source.TheVariants as source
use Rattle.memory.proofs.Sights.{swept_from_used, swept_from_free}
use Rattle.std.specs.Prelude.{Bool, false, ℕ, Option, Some, None, Ok, Err, unwrap_or, is_some}
use Rattle.base.specs.declared.Refusal.{Refusal}
use Rattle.base.specs.declared.Refusal.TheVariants as refusal
use Rattle.buffers.specs.declared.Spot.TheVariants as spot
use Rattle.memory.specs.declared.Memory.{Memory}
use Rattle.memory.specs.declared.Look.{Look}
use Rattle.memory.specs.Asks.{sight_as}
use Rattle.buffers.specs.declared.Store.TheVariants as store
use Rattle.memory.specs.Answers.{SeenBit, Swept, Read, ReadBit, ReadValue, ReadPhase, ReadSwept, Sight}
use Rattle.memory.specs.Looks.{seen_bit, seen_value, seen_phase, look_mark_of, look_swept_of, read_mark_of, read_swept_of, source_of, swept_of, swept_from_of, bit_as, swept_as, read_bit_as, read_swept_as}

abbrev pub as_bit : Read → ReadBit
as_bit r = record { seen = seen_bit r.seen; from = r.from }

abbrev pub as_value : Read → ReadValue
as_value r = record { seen = seen_value r.seen; from = r.from }

abbrev pub as_phase : Read → ReadPhase
as_phase r = record { seen = seen_phase r.seen; from = r.from }

-- and as what an ask is told
abbrev pub as_sight : Read → Sight
as_sight r = record { no = r.seen.no; used = false; store = r.seen.store; from = r.from }

abbrev pub as_swept_sight : ℕ → ReadSwept → Sight
as_swept_sight x r = record { no = r.seen.no; used = r.seen.used; store = store.Mark x r.seen.bit; from = r.from }

-- what the sweep saw, by the bit, or by none
pub swept_told : (x : ℕ) (l : Look (Option Bool)) → sight_as (record { used = is_some l.saw; store = store.Mark x (unwrap_or l.saw false); from = l.from }) ≡ as_swept_sight x (read_swept_as (Ok l))
swept_told x l = told l.saw
  where
    told : (b : Option Bool) → sight_as (record { used = is_some b; store = store.Mark x (unwrap_or b false); from = l.from }) ≡ as_swept_sight x (read_swept_as (Ok (record { saw = b; from = l.from })))
    told (Some b) = refl
    told None = refl

-- ---- a refusal that is not 11
zero_ne_free : as_taken ≡ by_free → ⊥
zero_ne_free e = omega arith

numbered_free : (r : Refusal) → refusal_number r ≡ by_free → r ≡ refusal.Free
numbered_free refusal.Malformed e = absurd (omega arith)
numbered_free refusal.NoProcess e = absurd (omega arith)
numbered_free refusal.NoKind e = absurd (omega arith)
numbered_free refusal.NotOffered e = absurd (omega arith)
numbered_free refusal.NonePending e = absurd (omega arith)
numbered_free refusal.FlagDown e = absurd (omega arith)
numbered_free refusal.Blocked e = absurd (omega arith)
numbered_free refusal.Pending e = absurd (omega arith)
numbered_free refusal.Full e = absurd (omega arith)
numbered_free refusal.Occupied e = absurd (omega arith)
numbered_free refusal.Free e = refl

refused_swept : (r : Refusal) → (r ≡ refusal.Free → ⊥) → swept_of (bit_as (Err r)) ≡ swept_as (Err r)
refused_swept refusal.Malformed n = refl
refused_swept refusal.NoProcess n = refl
refused_swept refusal.NoKind n = refl
refused_swept refusal.NotOffered n = refl
refused_swept refusal.NonePending n = refl
refused_swept refusal.FlagDown n = refl
refused_swept refusal.Blocked n = refl
refused_swept refusal.Pending n = refl
refused_swept refusal.Full n = refl
refused_swept refusal.Occupied n = refl
refused_swept refusal.Free n = absurd (n refl)

-- ---- the sweep's look, by the look at the mark
module _ (m : Memory) (p c : ℕ) where
  swept_by : (k : Swept) (v : Source) (b : SeenBit) → b ≡ look_mark_of m p c → swept_of b ≡ k → swept_from_of m p c ≡ v → record { seen = k; from = v } ≡ read_swept_of m p c
  unfolding look_swept_of read_swept_of
  swept_by k v b e f d = rw (← e, f, d) refl

  pub swept_seen : (l : Look Bool) → read_bit_as (Ok l) ≡ read_mark_of m p c → read_swept_as (Ok (record { saw = Some l.saw; from = l.from })) ≡ read_swept_of m p c
  unfolding read_mark_of
  swept_seen l e =
      let b = ap (λ (r : ReadBit). r.seen) e in
      let n = ap (λ (s : SeenBit). s.no) b in
      swept_by _ l.from (bit_as (Ok l)) b refl (swept_from_used m p c (λ f. zero_ne_free (n ∙ f)) ∙ sym (ap (λ (r : ReadBit). r.from) e))

  pub swept_none : read_bit_as (Err refusal.Free) ≡ read_mark_of m p c → read_swept_as (Ok (record { saw = None; from = source_of m p (spot.Mark c) })) ≡ read_swept_of m p c
  unfolding read_mark_of
  swept_none e =
      let b = ap (λ (r : ReadBit). r.seen) e in
      swept_by _ (source_of m p (spot.Mark c)) (bit_as (Err refusal.Free)) b refl (swept_from_free m p c (sym (ap (λ (s : SeenBit). s.no) b)))

  pub swept_refused : (r : Refusal) → (r ≡ refusal.Free → ⊥) → read_bit_as (Err r) ≡ read_mark_of m p c → read_swept_as (Err r) ≡ read_swept_of m p c
  unfolding read_mark_of
  swept_refused r n e =
      let b = ap (λ (k : ReadBit). k.seen) e in
      let z = ap (λ (s : SeenBit). s.no) b in
      swept_by _ source.Nothing (bit_as (Err r)) b (refused_swept r n) (swept_from_used m p c (λ f. n (numbered_free r (z ∙ f))) ∙ sym (ap (λ (k : ReadBit). k.from) e))
