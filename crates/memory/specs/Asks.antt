-- What a step asks of memory, and memory's answer in one place: the number, with what was seen or with memory after
-- it. Assumes nothing.
use Rattle.std.specs.Prelude.{◌≡◌, Bool, true, false, ℕ, Result, Ok, Err}
use Rattle.base.specs.declared.Refusal.{Refusal}
use Rattle.base.specs.Refusals.{as_taken, refusal_number}
use Rattle.buffers.specs.declared.Store.TheVariants as store
use Rattle.buffers.specs.declared.Spot.{Spot}
use Rattle.buffers.specs.declared.sources.Source.TheVariants as source
use Rattle.buffers.specs.Stores.{no_store}
use Rattle.memory.specs.declared.Memory.{Memory}
use Rattle.memory.specs.Answers.{Done, Sight}
use Rattle.memory.specs.declared.asks.Change.{Change}
use Rattle.memory.specs.declared.asks.Change.TheVariants as change
use Rattle.memory.specs.declared.asks.Ask.{Ask}
use Rattle.memory.specs.declared.asks.Ask.TheVariants as ask
use Rattle.memory.specs.declared.asks as asks
use Rattle.memory.specs.Memories.{taken}
use Rattle.memory.specs.Looks.{look_of, look_swept_of, from_of, swept_from_of}
use Rattle.memory.specs.Steps.{write_of, commit_of, fence_of, lock_of, unlock_of, allocate_of, free_of}

-- ---- the code's answers
-- what a taken ask saw
abbrev pub sight_as : asks.Sight.Sight → Sight
sight_as v = record { no = as_taken; used = v.used; store = v.store; from = v.from }

-- it is the sight told, or its number
abbrev pub Sees : Result asks.Sight.Sight Refusal → Sight → Type 0
Sees (Ok v) k = sight_as v ≡ k
Sees (Err r) k = refusal_number r ≡ k.no

-- ---- asks that change nothing. Nothing is seen, and nothing was read
abbrev pub blind : ℕ → Sight
blind n = record { no = n; used = false; store = no_store; from = source.Nothing }

-- "A read gives the newest matching store of the reader's own buffer, else memory", and says which; the sweep's look
-- finds a free cell too
unfoldable pub looked_of : Memory → ℕ → Spot → Sight
looked_of m p at = let l = look_of m p at in record { no = l.no; used = false; store = l.store; from = from_of m p at }

unfoldable pub swept_sight : Memory → ℕ → ℕ → Sight
swept_sight m p x = let l = look_swept_of m p x in record { no = l.no; used = l.used; store = store.Mark x l.bit; from = swept_from_of m p x }

abbrev pub sight_of : Memory → ℕ → Ask → Sight
sight_of m p ask.Nothing = blind as_taken
sight_of m p (ask.Look at) = looked_of m p at
sight_of m p (ask.Sweep x) = swept_sight m p x
sight_of m p ask.Fence = blind (fence_of m p).no
sight_of m p (ask.Make d) = blind as_taken

-- ---- changes
abbrev pub done_of : Memory → ℕ → Change → Done
done_of m p (change.Write v) = write_of m p (record { store = v })
done_of m p change.Commit = commit_of m p
done_of m p change.Lock = lock_of m p
done_of m p change.Unlock = unlock_of m p
done_of m p (change.Allocate x) = allocate_of m p x
done_of m p (change.Free x) = free_of m p x

abbrev pub changes : Ask → Bool
changes ask.Nothing = false
changes (ask.Look at) = false
changes (ask.Sweep x) = false
changes ask.Fence = false
changes (ask.Make d) = true

-- memory after an ask: one that changes nothing leaves it as it is
abbrev pub made_of : Memory → ℕ → Ask → Done
made_of m p ask.Nothing = taken m
made_of m p (ask.Look at) = taken m
made_of m p (ask.Sweep x) = taken m
made_of m p ask.Fence = taken m
made_of m p (ask.Make d) = done_of m p d

-- ---- the whole answer: its number, 0 for taken; what was seen; memory after it
pub record Told : Type 0 where
  pub no : ℕ
  pub sight : Sight
  pub memory : Memory

abbrev pub saw : Memory → Sight → Told
saw m k = record { no = k.no; sight = k; memory = m }

abbrev pub did : Done → Told
did d = record { no = d.no; sight = blind as_taken; memory = d.memory }

abbrev pub told_of : Memory → ℕ → Ask → Told
told_of m p ask.Nothing = saw m (sight_of m p ask.Nothing)
told_of m p (ask.Look at) = saw m (sight_of m p (ask.Look at))
told_of m p (ask.Sweep x) = saw m (sight_of m p (ask.Sweep x))
told_of m p ask.Fence = saw m (sight_of m p ask.Fence)
told_of m p (ask.Make d) = did (done_of m p d)
