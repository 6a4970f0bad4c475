-- Refusals and stops have a number each, so the views of answers that can be refused tell any two apart. Assumes nothing.
--     refusal_number_apart, stop_number_apart     no two refusals have the same number, and no two stops
--     viewed_apart         a view of such an answer, by its number, 0 where it is taken, and by its value
--     number_of_apart      `number_of`, which has no value to tell
use Rattle.std.proofs.Common.{◌≡◌, refl, sym, ◌∙◌, ap}
use Rattle.std.specs.Prelude.{ℕ, ◌-◌, [], ◌∷◌, get_or, Result, Ok, Err}
use Rattle.base.specs.declared.Refusal.{Refusal}
use Rattle.base.specs.declared.Refusal.TheVariants as refusal
use Rattle.base.specs.declared.Stop.{Stop}
use Rattle.base.specs.declared.Stop.TheVariants as stop
use Rattle.base.specs.Refusals.{as_taken, refusal_number, stop_number, number_of}
use Rattle.base.specs.Answers.{TellsApart}
use Rattle.base.proofs.Answers.{undone}
use Rattle.base.proofs.Errors.{refused_by}

-- ---- back from the number: the refusals stand in the order of theirs, from 1 on, and the stops from 0 on
abbrev refusal_at : ℕ → Refusal
refusal_at n =
    get_or
    (refusal.Malformed ∷ refusal.NoProcess ∷ refusal.NoKind ∷ refusal.NotOffered ∷ refusal.NonePending ∷ refusal.FlagDown ∷ refusal.Blocked ∷ refusal.Pending ∷ refusal.Full ∷ refusal.Occupied ∷ refusal.Free ∷ [])
    (n - 1) refusal.Malformed

abbrev refused_at : ℕ → Stop
refused_at n = stop.Refused (refusal_at n)

abbrev stop_at : ℕ → Stop
stop_at n =
    get_or
    (stop.Ended ∷ refused_at 1 ∷ refused_at 2 ∷ refused_at 3 ∷ refused_at 4 ∷ refused_at 5 ∷ refused_at 6 ∷ refused_at 7 ∷ refused_at 8 ∷ refused_at 9 ∷ refused_at 10 ∷ refused_at 11 ∷ stop.NotAdmitted ∷ stop.WrongCheck ∷ stop.FewLeft ∷ [])
    n stop.Ended

refusal_back : (r : Refusal) → refusal_at (refusal_number r) ≡ r
refusal_back refusal.Malformed = refl
refusal_back refusal.NoProcess = refl
refusal_back refusal.NoKind = refl
refusal_back refusal.NotOffered = refl
refusal_back refusal.NonePending = refl
refusal_back refusal.FlagDown = refl
refusal_back refusal.Blocked = refl
refusal_back refusal.Pending = refl
refusal_back refusal.Full = refl
refusal_back refusal.Occupied = refl
refusal_back refusal.Free = refl

stop_back : (s : Stop) → stop_at (stop_number s) ≡ s
stop_back stop.Ended = refl
stop_back (stop.Refused refusal.Malformed) = refl
stop_back (stop.Refused refusal.NoProcess) = refl
stop_back (stop.Refused refusal.NoKind) = refl
stop_back (stop.Refused refusal.NotOffered) = refl
stop_back (stop.Refused refusal.NonePending) = refl
stop_back (stop.Refused refusal.FlagDown) = refl
stop_back (stop.Refused refusal.Blocked) = refl
stop_back (stop.Refused refusal.Pending) = refl
stop_back (stop.Refused refusal.Full) = refl
stop_back (stop.Refused refusal.Occupied) = refl
stop_back (stop.Refused refusal.Free) = refl
stop_back stop.NotAdmitted = refl
stop_back stop.WrongCheck = refl
stop_back stop.FewLeft = refl

pub refusal_number_apart : TellsApart refusal_number
refusal_number_apart = undone refusal_number refusal_at refusal_back

pub stop_number_apart : TellsApart stop_number
stop_number_apart = undone stop_number stop_at stop_back

-- ---- answers that can be refused
module _ {A B : Type 0} (view : Result A Refusal → B) (no : B → ℕ) (taken : (x : A) → no (view (Ok x)) ≡ as_taken) (refused : (r : Refusal) → no (view (Err r)) ≡ refusal_number r) (value : B → A) (told : (x : A) → value (view (Ok x)) ≡ x) where
  -- a taken answer is viewed as no refusal is
  mixed : (x : A) (r : Refusal) → view (Ok x) ≡ view (Err r) → ⊥
  mixed x r e = refused_by r (sym (refused r) ∙ (sym (ap no e) ∙ taken x))

  pub viewed_apart : TellsApart view
  viewed_apart (Ok x) (Ok y) e = ap Ok (sym (told x) ∙ (ap value e ∙ told y))
  viewed_apart (Ok x) (Err r) e = absurd (mixed x r e)
  viewed_apart (Err r) (Ok x) e = absurd (mixed x r (sym e))
  viewed_apart (Err r) (Err t) e = ap Err (refusal_number_apart r t (sym (refused r) ∙ (ap no e ∙ refused t)))

pub number_of_apart : TellsApart (number_of {A = Unit {0}})
number_of_apart = viewed_apart number_of (λ n. n) (λ x. refl) (λ r. refl) (λ n. tt) (λ x. refl)
