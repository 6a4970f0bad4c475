-- What a step does, seen from marks and fields, from the buffers, the lists, the held references, the handshake phases
-- and the collector's place: views of the rows, each a table of what can happen. q is the process that steps before
-- the step and o after it. Assumes nothing.
use Rattle.std.specs.Prelude.{◌≡◌, Bool, true, false, ◌⊎◌, ℕ, ◌<◌}
use mathlib.Core.List.{List, [], ◌∷◌, ◌++◌, Memᴰ}
use Rattle.cells.specs.Sets.{no_cells, Member, add_of, remove_of, union_of}
use Rattle.buffers.specs.declared.Store.{Store}
use Rattle.buffers.specs.declared.Store.TheVariants as store
use Rattle.buffers.specs.declared.Entry.{Entry}
use Rattle.buffers.specs.Fits.{IsCell, max_fields}
use Rattle.memory.specs.declared.Memory.{Memory}
use Rattle.memory.specs.Memories.{used_of, mark_of, field_of}
use Rattle.memory.specs.Looks.{look_field_of}
use Rattle.state.specs.declared.Process.{Process}
use Rattle.state.specs.declared.State.{State}
use Rattle.state.specs.declared.Choice.{Choice}
use Rattle.state.specs.Codes.{top, store_write, noop_finish, roots_finish, work_finish, row6_take, row7_drop, row8_take, row10_free, no_stage, write_stage, unlock_stage}
use Rattle.state.specs.States.{next_of, shaking}
use Rattle.model.specs.Rows.{sees_value, At, Marks}
use Rattle.stays_formed.specs.Leaves.{Writes}
use Rattle.claims.specs.Pending.{marks_in}
use Rattle.claims.specs.Written.{entry_for}
use Rattle.spared.specs.Holds.{StoreIn, FieldIn}

-- ---- memory m becomes n; l is what the process that steps has pending
-- of each part whether it stays
abbrev pub UsedStays : Memory → Memory → Type 0
UsedStays m n = (c : ℕ) → used_of n c ≡ used_of m c

abbrev pub MarksStay : Memory → Memory → Type 0
MarksStay m n = (c : ℕ) → mark_of n c ≡ mark_of m c

abbrev pub FieldsStay : Memory → Memory → Type 0
FieldsStay m n = (c f : ℕ) → field_of n c f ≡ field_of m c f

pub record SensesStay (m n : Memory) : Type 0 where
  pub fm : n.fm ≡ m.fm
  pub fa : n.fa ≡ m.fa

pub data Effect (c : Choice) (q : Process) (l : List Entry) (m n : Memory) : Type 0 where
  -- nothing of these: reads, writes, fences, the lock, handshakes, lists, a commit of the phase
  calm : UsedStays m n → MarksStay m n → FieldsStay m n → SensesStay m n → Effect c q l m n
  -- "A commit applies one's oldest store"
  marks : {x : ℕ} {b : Bool} → StoreIn l (store.Mark x b) → used_of m x ≡ true → mark_of n x ≡ b → ((d : ℕ) → (d ≡ x → ⊥) → mark_of n d ≡ mark_of m d) →
      UsedStays m n → FieldsStay m n → SensesStay m n → Effect c q l m n
  stores : {x f v : ℕ} → FieldIn l x f v → used_of m x ≡ true → f < max_fields → field_of n x f ≡ v → ((d g : ℕ) → g < max_fields → ((d ≡ x) × (g ≡ f) → ⊥) → field_of n d g ≡ field_of m d g) →
      UsedStays m n → MarksStay m n → SensesStay m n → Effect c q l m n
  flips : {b : Bool} → StoreIn l (store.Sense b) → n.fm ≡ b → n.fa ≡ m.fa → UsedStays m n → MarksStay m n → FieldsStay m n → Effect c q l m n
  follows : {b : Bool} → StoreIn l (store.AllocSense b) → n.fa ≡ b → n.fm ≡ m.fm → UsedStays m n → MarksStay m n → FieldsStay m n → Effect c q l m n
  -- "0 allocate free cell x (mark = memory's fA, null fields ..)"
  allocates : At top no_stage q → c.op ≡ 0 → IsCell m.cells c.x → used_of m c.x ≡ false → used_of n c.x ≡ true → mark_of n c.x ≡ m.fa → ((f : ℕ) → field_of n c.x f ≡ 0) →
      ((d : ℕ) → (d ≡ c.x → ⊥) → used_of n d ≡ used_of m d) → ((d : ℕ) → (d ≡ c.x → ⊥) → mark_of n d ≡ mark_of m d) → ((d f : ℕ) → (d ≡ c.x → ⊥) → field_of n d f ≡ field_of m d f) → SensesStay m n → Effect c q l m n
  -- "free it, as a further step"
  frees : At row10_free no_stage q → used_of n q.x ≡ false → ((d : ℕ) → (d ≡ q.x → ⊥) → used_of n d ≡ used_of m d) → ((d : ℕ) → (d ≡ q.x → ⊥) → mark_of n d ≡ mark_of m d) →
      ((d f : ℕ) → (d ≡ q.x → ⊥) → field_of n d f ≡ field_of m d f) → SensesStay m n → Effect c q l m n

-- ---- the pending stores of the process that steps: l becomes k, and memory n
pub data Fills (c : Choice) (q : Process) (n : Memory) (l k : List Entry) : Type 0 where
  keeps : k ≡ l → Fills c q n l k
  -- "A write appends."
  appends : c.kind ≡ 0 → {v : Store} → Writes q v → k ≡ l ++ (entry_for v ∷ []) → Fills c q n l k
  -- "A commit applies one's oldest store": it leaves, and nothing comes
  leaves : c.kind ≡ 1 → (e : Entry) → Memᴰ e l → ((d : Entry) → Memᴰ d k → Memᴰ d l) → marks_in l ≡ marks_in (e ∷ k) → ((x : ℕ) (b : Bool) → e.store ≡ store.Mark x b → mark_of n x ≡ b) → Fills c q n l k

-- ---- the list of the process that steps, and the cell that it greys: q, whose pending stores are l, becomes o; the
-- system's list w becomes u
pub data Turns (w u : ℕ) (l : List Entry) (q o : Process) : Type 0 where
  keeps : o.work ≡ q.work → o.grey ≡ q.grey → u ≡ w → Turns w u l q o
  -- "write mark := noted fM (r is now being greyed)"
  greys : {r : ℕ} → Marks q r → q.stage ≡ write_stage → o.work ≡ q.work → q.grey ≡ 0 → o.grey ≡ r → u ≡ w → Turns w u l q o
  -- "The unlock also puts a winner's r on its list and ends its greying."
  wins : {r : ℕ} → Marks q r → q.stage ≡ unlock_stage → l ≡ [] → (q.grey ≡ 0 → ⊥) → o.work ≡ add_of q.work r → o.grey ≡ 0 → u ≡ w → Turns w u l q o
  -- "for roots or work, moves its list to the system's"
  gives : (At roots_finish no_stage q) ⊎ (At work_finish no_stage q) → o.work ≡ no_cells → o.grey ≡ q.grey → u ≡ union_of w q.work → Turns w u l q o
  -- "take the system's list (one step, emptying it; it replaces the collector's own)"
  takes : (At row6_take no_stage q) ⊎ (At row8_take no_stage q) → o.work ≡ w → o.grey ≡ q.grey → u ≡ no_cells → Turns w u l q o
  -- "drop x (one step)"
  drops : At row7_drop no_stage q → o.work ≡ remove_of q.work q.x → o.grey ≡ q.grey → u ≡ w → Turns w u l q o

-- ---- the roots of the process that steps, and its old value; the state s becomes t
pub data Grips (s t : State) (c : Choice) (p : ℕ) (q o : Process) : Type 0 where
  keeps : o.roots ≡ q.roots → o.old ≡ q.old → Grips s t c p q o
  allocates : At top no_stage q → c.op ≡ 0 → used_of s.memory c.x ≡ false → used_of t.memory c.x ≡ true → mark_of t.memory c.x ≡ s.memory.fa → o.roots ≡ add_of q.roots c.x → o.old ≡ q.old → Grips s t c p q o
  drops : At top no_stage q → o.roots ≡ remove_of q.roots c.x → o.old ≡ q.old → Grips s t c p q o
  reads : At top no_stage q → Member q.roots c.x → c.f < max_fields → {v : ℕ} → look_field_of s.memory p c.x c.f ≡ sees_value v → o.roots ≡ add_of q.roots v → o.old ≡ q.old → Grips s t c p q o
  stores : At top no_stage q → Member q.roots c.x → c.f < max_fields → {v : ℕ} → look_field_of s.memory p c.x c.f ≡ sees_value v → o.roots ≡ q.roots → o.old ≡ v → Grips s t c p q o
  -- "write the field, clearing the honorary root"
  writes : At store_write no_stage q → o.roots ≡ q.roots → o.old ≡ 0 → Grips s t c p q o

-- ---- the handshake phase of the process that steps
pub data Paces (q o : Process) : Type 0 where
  keeps : o.part.phase ≡ q.part.phase → Paces q o
  -- "That step advances the mutator's handshake phase for no-op and roots."
  advances : (At noop_finish no_stage q) ⊎ (At roots_finish no_stage q) → At top no_stage o → o.part.phase ≡ next_of q.part.phase → Paces q o

-- ---- another process: at most its flag and its in-step bit change
pub data Aside (o u : Process) : Type 0 where
  aside : (r i : Bool) → u ≡ shaking r i o.part.phase o → Aside o u
