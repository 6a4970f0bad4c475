-- "a mark waits in a buffer only under that lock, one at most"; a mutator writes marks and fields only. Assumes
-- nothing.
use Rattle.std.specs.Prelude.{◌≡◌, Bool, true, false, ◌&&◌, ℕ, suc, ◌+◌, ◌≤◌, ◌<◌, eqb}
use mathlib.Core.List.{List, [], ◌∷◌, Memᴰ}
use Rattle.base.specs.Pick.{pick}
use Rattle.buffers.specs.declared.Store.{Store}
use Rattle.buffers.specs.declared.Store.TheVariants as store
use Rattle.buffers.specs.declared.Entry.{Entry}
use Rattle.buffers.specs.Buffers.{pending_of}
use Rattle.memory.specs.Memories.{buffer_of}
use Rattle.state.specs.declared.Process.{Process}
use Rattle.state.specs.declared.State.{State}
use Rattle.state.specs.Codes.{unlock_stage}
use Rattle.state.specs.States.{process_of}
use Rattle.model.specs.Offers.{mark_place}
use Rattle.claims.specs.Runs.{Always}

-- the pending stores of process p, "oldest store first"
abbrev pub waiting_of : State → ℕ → List Entry
waiting_of s p = pending_of (buffer_of s.memory p)

-- "A pending store is a mark, a field, fM, fA or phase"
abbrev pub is_mark : Store → Bool
is_mark (store.Mark c b) = true
is_mark (store.Field c f v) = false
is_mark (store.Sense b) = false
is_mark (store.AllocSense b) = false
is_mark (store.Phase h) = false

-- how many of the stores are marks
abbrev pub marks_in : List Entry → ℕ
marks_in [] = 0
marks_in (e ∷ es) = pick (is_mark e.store) (suc (marks_in es)) (marks_in es)

-- ".. one at most"
abbrev pub OneAtMost : List Entry → Type 0
OneAtMost l = marks_in l ≤ 1

-- the process is at the unlock of a mark
unfoldable pub unlock_at : ℕ → ℕ → Bool
unlock_at place stage = mark_place place && eqb stage unlock_stage

abbrev pub Unlocking : Process → Type 0
Unlocking q = unlock_at q.place q.stage ≡ true

-- of every process, the collector too: a mark waits only at its unlock, and it is the only one in its buffer
pub record MarksWait (s : State) : Type 0 where
  pub waits : (p : ℕ) → 0 < marks_in (waiting_of s p) → Unlocking (process_of s p)
  pub one : (p : ℕ) → OneAtMost (waiting_of s p)

-- "a mark waits in a buffer only under that lock, one at most": of all buffers together
pub record MarksLocked (s : State) : Type 0 where
  pub locked : (p : ℕ) → 0 < marks_in (waiting_of s p) → s.memory.lock ≡ p + 1
  pub one : (p : ℕ) → OneAtMost (waiting_of s p)
  pub alone : (p r : ℕ) → 0 < marks_in (waiting_of s p) → 0 < marks_in (waiting_of s r) → p ≡ r

-- every pending store of a mutator is a mark or a field: no sense and no phase
pub data MarkOrField : Store → Type 0 where
  mark : {c : ℕ} {b : Bool} → MarkOrField (store.Mark c b)
  field : {c f v : ℕ} → MarkOrField (store.Field c f v)

abbrev pub MarksAndFields : List Entry → Type 0
MarksAndFields l = (e : Entry) → Memᴰ e l → MarkOrField e.store

abbrev pub MutatorStores : State → Type 0
MutatorStores s = (p : ℕ) → 0 < p → MarksAndFields (waiting_of s p)

-- after any choices
abbrev pub RunMarks : Type 0
RunMarks = Always MarksLocked
