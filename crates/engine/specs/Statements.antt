-- The theorems of demands 1 and 2, as statements. Their proofs stand in proofs/. Assumes nothing.
use Rattle.std.specs.Prelude.{◌≡◌, ◌↔◌, ◌⊎◌, ℕ, ◌≤◌, ◌<◌, Result, IfOk, OnErr}
use Rattle.base.specs.declared.Refusal.{Refusal}
use Rattle.base.specs.Refusals.{by_malformed, by_free}
use Rattle.buffers.specs.declared.sources.Source.{Source}
use Rattle.state.specs.declared as code
use Rattle.state.specs.declared.State.{State}
use Rattle.state.specs.declared.Choice.{Choice}
use Rattle.state.specs.States.{Answer, taken_of, refused_of, answered}
use Rattle.formed.specs.Fits.{WellFormed}
use Rattle.model.specs.Reasons.{Reason}
use Rattle.model.specs.Rows.{Row}
use Rattle.engine.specs.Steps.{turned_as, inner_of, step_of}
use Rattle.engine.specs.Readings.{read_by}

-- "Checks run in number order": the first reason that holds is n
pub record First (s : State) (c : Choice) (n : ℕ) : Type 0 where
  pub holds : Reason s c n
  pub none_before : (k : ℕ) → k < n → Reason s c k → ⊥

-- demand 1: "A refused choice returns its number from the table and the state exactly as it came."
abbrev pub Refused : Type 0
Refused = (s : State) (c : Choice) (n : ℕ) → (0 < n) → (step_of s c ≡ refused_of n s) ↔ First s c n

-- an answer is a taken step or such a refusal, and nothing else
abbrev pub Answered : Type 0
Answered = (s : State) (c : Choice) → (step_of s c ≡ taken_of (step_of s c).state) ⊎ ((0 < (step_of s c).no) × (step_of s c ≡ refused_of (step_of s c).no s))

-- no other number is given than those of the table, of which this is the last
abbrev pub last_no : ℕ
last_no = by_free

abbrev pub Numbered : Type 0
Numbered = (s : State) (c : Choice) → (step_of s c).no ≤ last_no

-- demand 2: "A choice is taken exactly when the published model, as condensed in document 01, has that step enabled,
-- and the state after it is that step's."
abbrev pub Exact : Type 0
Exact = (s : State) (c : Choice) (t : State) → (step_of s c ≡ taken_of t) ↔ (WellFormed s × Row s c t)

-- "A step zeroes what it stops using": a step from a well-formed state is well formed
abbrev pub Kept : Type 0
Kept = (s : State) (c : Choice) → WellFormed s → WellFormed (step_of s c).state

-- 1: "the state is malformed", exactly then
abbrev pub MalformedExactly : Type 0
MalformedExactly = (s : State) (c : Choice) → ((step_of s c).no ≡ by_malformed) ↔ (WellFormed s → ⊥)

-- check 1 finds nothing in a well-formed state: the step is the one without it
abbrev pub InnerFormed : Type 0
InnerFormed = (s : State) (c : Choice) → WellFormed s → step_of s c ≡ inner_of s c

-- only one answer meets the contract `r ≡ step_of s c`
abbrev pub OneAnswer : Type 0
OneAnswer = (s : State) (c : Choice) (a b : Answer) → a ≡ step_of s c → b ≡ step_of s c → a ≡ b

-- and so of the code's answers: only one meets the contract of `step`, and only one that of `inner`
abbrev pub OneResult : Type 0
OneResult = (s : State) (c : Choice) (r t : Result State code.Refused.Refused) → answered r ≡ step_of s c → answered t ≡ step_of s c → r ≡ t

abbrev pub OneInner : Type 0
OneInner = (s : State) (c : Choice) (r t : Result State code.Refused.Refused) → answered r ≡ inner_of s c → answered t ≡ inner_of s c → r ≡ t

-- the contract of `turn`, which is lent the state s, leaves the state n and answers r
pub record TurnMet (s : State) (c : Choice) (n : State) (r : Result Source Refusal) : Type 0 where
  pub answer : turned_as n r ≡ inner_of s c
  pub kept : OnErr r (n ≡ s)
  pub read : IfOk r (λ v. v ≡ read_by s c)

-- only one state left and one answer meet it
abbrev pub OneTurn : Type 0
OneTurn = (s : State) (c : Choice) (n m : State) (r t : Result Source Refusal) → TurnMet s c n r → TurnMet s c m t → (n ≡ m) × (r ≡ t)
