-- R-14, the published claim: "On x86-TSO, from every opening heap and after any sequence of choices, with no restore:
-- the verdict is 0, and refusal 11 is never given." Assumes nothing.
use Rattle.std.specs.Prelude.{◌≡◌, true, false, ℕ}
use Rattle.base.specs.Refusals.{by_free}
use Rattle.memory.specs.Memories.{used_of}
use Rattle.state.specs.declared.State.{State}
use Rattle.state.specs.declared.Choice.{Choice}
use Rattle.state.specs.States.{taken_of}
use Rattle.engine.specs.Steps.{step_of}
use Rattle.reach.specs.Reach.{Reach}
use Rattle.reach.specs.Held.{Held}
use Rattle.verdict.specs.Judged.{is_sound, found}
use Rattle.verdict.specs.Findings.{finding_of}
use Rattle.claims.specs.Runs.{Always}

-- "the verdict is 0", with the number 0
abbrev pub Safe : Type 0
Safe = Always (λ (s : State). finding_of s ≡ found is_sound 0)

-- "refusal 11 is never given"
abbrev pub NeverFree : Type 0
NeverFree = Always (λ (s : State). (c : Choice) → (step_of s c).no ≡ by_free → ⊥)

-- the choice c is taken in the state s and frees the cell x
pub record Frees (s : State) (c : Choice) (x : ℕ) : Type 0 where
  pub after : State
  pub taken : step_of s c ≡ taken_of after
  pub occupied : used_of s.memory x ≡ true
  pub freed : used_of after.memory x ≡ false

-- "no live counter is handed back": a cell that is freed is not reachable from held references in the state before
abbrev pub NeverHandedBack : Type 0
NeverHandedBack = Always (λ (s : State). (c : Choice) (x : ℕ) → Frees s c x → Reach s.memory (Held s) x → ⊥)

pub record Published : Type 0 where
  pub safe : Safe
  pub never_free : NeverFree
  pub never_handed_back : NeverHandedBack
