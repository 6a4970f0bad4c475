-- Only one answer meets a contract, whatever the type of the answer. Assumes nothing.
--     one_answer   of the form `r ≡ d`: two answers that a definition allows are the same
--     one_viewed   of the form `view r ≡ d`: so they are, where the view tells any two answers apart
--     undone       a view does so that can be undone. The lemmas named for a view, with `_apart` behind, say it of each
use mathlib.Core.Path.{◌≡◌, sym, ◌∙◌, ap}
use Rattle.base.specs.Answers.{TellsApart}

pub one_answer : {A : Type 0} (d r t : A) → r ≡ d → t ≡ d → r ≡ t
one_answer d r t p q = p ∙ sym q

pub one_viewed : {A B : Type 0} (view : A → B) → TellsApart view → (d : B) (r t : A) → view r ≡ d → view t ≡ d → r ≡ t
one_viewed view apart d r t p q = apart r t (one_answer d (view r) (view t) p q)

pub undone : {A B : Type 0} (view : A → B) (back : B → A) → ((x : A) → back (view x) ≡ x) → TellsApart view
undone view back law r t e = sym (law r) ∙ (ap back e ∙ law t)
