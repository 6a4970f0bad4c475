-- The views of memory's answers tell any two of them apart: by the number, which no refusal shares with another or with
-- a taken step, and by what the answer holds. Assumes nothing.
--     one_seen     the same of `Sees`, which is no view: only one answer is told the sight
use Rattle.std.proofs.Common.{◌≡◌, refl, sym, ◌∙◌, ap}
use Rattle.std.specs.Prelude.{Bool, Option, Some, None, Result, Ok, Err}
use Rattle.base.specs.Pick.{pick}
use Rattle.base.specs.declared.Refusal.{Refusal}
use Rattle.base.specs.Refusals.{as_taken, refusal_number}
use Rattle.base.specs.Answers.{TellsApart}
use Rattle.base.proofs.Errors.{refused_by}
use Rattle.base.proofs.Answers.{one_viewed, undone}
use Rattle.base.proofs.Apart.{refusal_number_apart, viewed_apart}
use Rattle.buffers.specs.declared.sources.Source.{Source}
use Rattle.memory.specs.declared.Memory.{Memory}
use Rattle.memory.specs.declared.Look.{Look}
use Rattle.memory.specs.declared.asks as asks
use Rattle.memory.specs.Answers.{Sight}
use Rattle.memory.specs.Memories.{done_as}
use Rattle.memory.specs.Looks.{read_as, read_bit_as, read_value_as, read_phase_as, read_swept_as, swept_bit_as}
use Rattle.memory.specs.Asks.{sight_as, Sees}

-- ---- a step's, from m
pub done_as_apart : (m : Memory) → TellsApart (done_as m)
done_as_apart m = viewed_apart (done_as m) (λ d. d.no) (λ n. refl) (λ r. refl) (λ d. d.memory) (λ n. refl)

-- ---- a look's
pub read_as_apart : TellsApart read_as
read_as_apart = viewed_apart read_as (λ k. k.seen.no) (λ l. refl) (λ r. refl) (λ k. record { saw = k.seen.store; from = k.from }) (λ l. refl)

pub read_bit_as_apart : TellsApart read_bit_as
read_bit_as_apart = viewed_apart read_bit_as (λ k. k.seen.no) (λ l. refl) (λ r. refl) (λ k. record { saw = k.seen.bit; from = k.from }) (λ l. refl)

pub read_value_as_apart : TellsApart read_value_as
read_value_as_apart = viewed_apart read_value_as (λ k. k.seen.no) (λ l. refl) (λ r. refl) (λ k. record { saw = k.seen.value; from = k.from }) (λ l. refl)

pub read_phase_as_apart : TellsApart read_phase_as
read_phase_as_apart = viewed_apart read_phase_as (λ k. k.seen.no) (λ l. refl) (λ r. refl) (λ k. record { saw = k.seen.phase; from = k.from }) (λ l. refl)

-- the sweep's: a bit, or none where the cell is free
pub read_swept_as_apart : TellsApart read_swept_as
read_swept_as_apart = viewed_apart read_swept_as (λ k. k.seen.no) (λ l. number l.saw) (λ r. refl) (λ k. record { saw = pick k.seen.used (Some k.seen.bit) None; from = k.from }) (λ l. value l.saw l.from)
  where
    number : (b : Option Bool) → (swept_bit_as b).no ≡ as_taken
    number (Some b) = refl
    number None = refl

    saw : Option Bool → Source → Look (Option Bool)
    saw b v = record { saw = b; from = v }

    value : (b : Option Bool) (v : Source) → saw (pick (swept_bit_as b).used (Some (swept_bit_as b).bit) None) v ≡ saw b v
    value (Some b) v = refl
    value None v = refl

-- ---- an ask's
pub sight_as_apart : TellsApart sight_as
sight_as_apart = undone sight_as (λ k. record { used = k.used; store = k.store; from = k.from }) (λ v. refl)

pub one_seen : (k : Sight) (r t : Result asks.Sight.Sight Refusal) → Sees r k → Sees t k → r ≡ t
one_seen k (Ok v) (Ok w) p q = ap Ok (one_viewed sight_as sight_as_apart k v w p q)
one_seen k (Ok v) (Err r) p q = absurd (refused_by r (q ∙ sym (ap (λ (x : Sight). x.no) p)))
one_seen k (Err r) (Ok v) p q = absurd (refused_by r (p ∙ sym (ap (λ (x : Sight). x.no) q)))
one_seen k (Err r) (Err t) p q = ap Err (one_viewed refusal_number refusal_number_apart k.no r t p q)
