-- What the two views take for granted of the process that steps: refusal 1 sees to it in a well-formed state. Assumes
-- nothing.
--     Standing         the stage is one of its place's
--     placed, staged   a table over places and stages, read at a known place, or at a known stage of it
--     place_same, stage_same, operation_same      two tables that agree there are the same there
use mathlib.Core.Path.{◌≡◌, refl, sym, ap, ◌∙◌}
use mathlib.Core.Bool.{true, false}
use Prim.Native.Nat.{ℕ, ◌≤◌, ◌<◌}
use Rattle.state.specs.declared.Process.{Process}
use Rattle.state.specs.declared.Choice.{Choice}
use Rattle.state.specs.Codes.{no_stage, unlock_stage, poll_stage}
use Rattle.state.specs.States.{at}
use Rattle.model.specs.Offers.{mark_place, round_place}

-- one of the seven of a mark, one of the four of a round, and none at any other place
pub record Standing (q : Process) : Type 0 where
  pub unstaged : mark_place q.place ≡ false → round_place q.place ≡ false → q.stage ≡ no_stage
  pub mark_begun : mark_place q.place ≡ true → 0 < q.stage
  pub mark_running : mark_place q.place ≡ true → q.stage ≤ unlock_stage
  pub round_begun : round_place q.place ≡ true → 0 < q.stage
  pub round_running : round_place q.place ≡ true → q.stage ≤ poll_stage

-- a table over places and stages, read at a known place, and at a known stage of it
module _ {A : Type 0} (f : Process → A) (q : Process) where
  pub placed : {k : ℕ} → q.place ≡ k → f q ≡ f (at k q.stage q)
  placed e = ap (λ (k : ℕ). f (at k q.stage q)) e

  pub staged : {k j : ℕ} → q.place ≡ k → q.stage ≡ j → f q ≡ f (at k j q)
  staged {k} e i = placed e ∙ ap (λ (j : ℕ). f (at k j q)) i

-- two tables that agree at a known place, at a known stage, for a known operation
module _ {A : Type 0} (f g : Process → A) (q : Process) where
  pub place_same : {k : ℕ} → q.place ≡ k → f (at k q.stage q) ≡ g (at k q.stage q) → f q ≡ g q
  place_same e h = placed f q e ∙ h ∙ sym (placed g q e)

  pub stage_same : {j : ℕ} → q.stage ≡ j → f (at q.place j q) ≡ g (at q.place j q) → f q ≡ g q
  stage_same e h = staged f q refl e ∙ h ∙ sym (staged g q refl e)

-- the choice with another operation
abbrev pub operating : ℕ → Choice → Choice
operating k c = record { process = c.process; kind = c.kind; op = k; x = c.x; f = c.f; y = c.y }

pub operation_same : {A : Type 0} (f g : Choice → A) (c : Choice) {k : ℕ} → c.op ≡ k → f (operating k c) ≡ g (operating k c) → f c ≡ g c
operation_same f g c e h = ap (λ (k : ℕ). f (operating k c)) e ∙ h ∙ sym (ap (λ (k : ℕ). g (operating k c)) e)
