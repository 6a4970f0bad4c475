-- What each setter of a process and of the state sets, and that it leaves all else alone. Assumes nothing.
use Rattle.std.specs.Prelude.{◌≡◌, Bool, ℕ, ◌≤◌, ◌<◌, length}
use Rattle.memory.specs.declared.Memory.{Memory}
use Rattle.state.specs.declared.Handshake.{Handshake}
use Rattle.state.specs.declared.Process.{Process}
use Rattle.state.specs.declared.System.{System}
use Rattle.state.specs.declared.State.{State}
use Rattle.state.specs.States.{at, noting, leaving, marking, listing, shaking, process_of, with_process_of, with_memory, with_system}

-- ---- a process's fields, in the groups that are set together
-- "place in its program"
abbrev pub SamePlace : Process → Process → Type 0
SamePlace q r = (r.place ≡ q.place) × (r.stage ≡ q.stage)

-- "noted values": of an operation or a row; what is left; of a mark, with "the one cell it is greying"
abbrev pub SameNotes : Process → Process → Type 0
SameNotes q r = (r.x ≡ q.x) × (r.f ≡ q.f) × (r.y ≡ q.y) × (r.old ≡ q.old)

abbrev pub SameLeft : Process → Process → Type 0
SameLeft q r = r.left ≡ q.left

abbrev pub SameMark : Process → Process → Type 0
SameMark q r = (r.cell ≡ q.cell) × (r.look ≡ q.look) × (r.sense ≡ q.sense) × (r.grey ≡ q.grey)

-- "a work list"; "a root set"
abbrev pub SameLists : Process → Process → Type 0
SameLists q r = (r.work ≡ q.work) × (r.roots ≡ q.roots)

-- "a raised flag and an in-step bit per mutator, a handshake phase .. for each mutator"
abbrev pub SamePart : Process → Process → Type 0
SamePart q r = r.part ≡ q.part

-- ---- one group set, the others left
abbrev pub AtLaw : Type 0
AtLaw =
    (k j : ℕ) (q : Process) →
    let r = at k j q in
    (r.place ≡ k) × (r.stage ≡ j) × SameNotes q r × SameLeft q r × SameMark q r × SameLists q r × SamePart q r

abbrev pub NotingLaw : Type 0
NotingLaw =
    (x f y old : ℕ) (q : Process) →
    let r = noting x f y old q in
    SamePlace q r × (r.x ≡ x) × (r.f ≡ f) × (r.y ≡ y) × (r.old ≡ old) × SameLeft q r × SameMark q r × SameLists q r × SamePart q r

abbrev pub LeavingLaw : Type 0
LeavingLaw =
    (l : ℕ) (q : Process) →
    let r = leaving l q in
    SamePlace q r × SameNotes q r × (r.left ≡ l) × SameMark q r × SameLists q r × SamePart q r

abbrev pub MarkingLaw : Type 0
MarkingLaw =
    (c : ℕ) (l b : Bool) (g : ℕ) (q : Process) →
    let r = marking c l b g q in
    SamePlace q r × SameNotes q r × SameLeft q r × (r.cell ≡ c) × (r.look ≡ l) × (r.sense ≡ b) × (r.grey ≡ g) × SameLists q r × SamePart q r

abbrev pub ListingLaw : Type 0
ListingLaw =
    (w o : ℕ) (q : Process) →
    let r = listing w o q in
    SamePlace q r × SameNotes q r × SameLeft q r × SameMark q r × (r.work ≡ w) × (r.roots ≡ o) × SamePart q r

abbrev pub ShakingLaw : Type 0
ShakingLaw =
    (a i : Bool) (h : Handshake) (q : Process) →
    let r = shaking a i h q in
    SamePlace q r × SameNotes q r × SameLeft q r × SameMark q r × SameLists q r × (r.part.raised ≡ a) × (r.part.in_step ≡ i) × (r.part.phase ≡ h)

-- ---- the state: memory, the handshakes
abbrev pub WithMemoryLaw : Type 0
WithMemoryLaw =
    (s : State) (m : Memory) →
    let t = with_memory s m in
    (t.memory ≡ m) × (t.procs ≡ s.procs) × (t.system ≡ s.system)

abbrev pub WithHandsLaw : Type 0
WithHandsLaw =
    (s : State) (h : System) →
    let t = with_system s h in
    (t.memory ≡ s.memory) × (t.procs ≡ s.procs) × (t.system ≡ h)

-- ---- the state: one process. It is there now, the others are as before, and so is all else
abbrev pub WithProcessHere : Type 0
WithProcessHere = (s : State) (p : ℕ) (q : Process) → p < length s.procs → process_of (with_process_of s p q) p ≡ q

abbrev pub WithProcessThere : Type 0
WithProcessThere = (s : State) (p o : ℕ) (q : Process) → (o ≡ p → ⊥) → process_of (with_process_of s p q) o ≡ process_of s o

abbrev pub WithProcessLeaves : Type 0
WithProcessLeaves =
    (s : State) (p : ℕ) (q : Process) →
    let t = with_process_of s p q in
    (t.memory ≡ s.memory) × (t.system ≡ s.system) × (length t.procs ≡ length s.procs)

-- past the last process nothing changes
abbrev pub WithProcessPast : Type 0
WithProcessPast = (s : State) (p : ℕ) (q : Process) → length s.procs ≤ p → with_process_of s p q ≡ s
