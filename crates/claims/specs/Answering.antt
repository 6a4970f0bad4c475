-- A mutator that answers a handshake answers the one that is asked. Assumes nothing.
use Rattle.std.specs.Prelude.{◌≡◌, true, List, [], ◌∷◌, ℕ, ◌≤◌, ◌<◌}
use Rattle.state.specs.declared.RoundType.{RoundType}
use Rattle.state.specs.declared.RoundType.TheVariants as round
use Rattle.state.specs.declared.Process.{Process}
use Rattle.state.specs.declared.State.{State}
use Rattle.state.specs.Codes.{noop_fence, noop_finish, roots_fence, roots_mark, roots_finish, work_fence, work_finish}
use Rattle.state.specs.States.{mutators_of, process_of}
use Rattle.formed.specs.Fits.{Among}

-- "Answer: read the type; fence; for roots, mark each root ..; then one step lowers the flag": the places of an
-- answer to a handshake of the type
abbrev pub answer_places : RoundType → List ℕ
answer_places round.Noop = noop_fence ∷ noop_finish ∷ []
answer_places round.Roots = roots_fence ∷ roots_mark ∷ roots_finish ∷ []
answer_places round.Work = work_fence ∷ work_finish ∷ []

-- while q answers a handshake of a type, its flag is up and the type, k, is that one
abbrev pub Answers : RoundType → Process → Type 0
Answers k q = (t : RoundType) → Among q.place (answer_places t) → (q.part.raised ≡ true) × (k ≡ t)

-- so it is of every mutator
abbrev pub Answering : State → Type 0
Answering s = (m : ℕ) → 0 < m → m ≤ mutators_of s → Answers s.system.kind (process_of s m)
