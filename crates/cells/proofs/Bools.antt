-- Tests that are true or false. Assumes nothing.
--     split       a test is true or it is false
--     not_both    no test is both
--     same_test   two tests that follow from each other are one
--     or_left, or_right, or_cases       what makes `a || b` true, and what follows from it
--     and_parts                         what follows from `a && b`
use mathlib.Core.Path.{◌≡◌, refl, sym, ◌∙◌}
use mathlib.Core.Bool.{Bool, true, false, ◌&&◌, ◌||◌, false≢true}
use mathlib.Core.Logic.{◌⊎◌, inl, inr}

pub split : (b : Bool) → (b ≡ true) ⊎ (b ≡ false)
split true = inl refl
split false = inr refl

pub not_both : {b : Bool} → b ≡ true → b ≡ false → ⊥
not_both p q = false≢true (sym q ∙ p)

pub same_test : (a b : Bool) → (a ≡ true → b ≡ true) → (b ≡ true → a ≡ true) → a ≡ b
same_test true b f g = sym (f refl)
same_test false true f g = g refl
same_test false false f g = refl

pub or_left : {a : Bool} (b : Bool) → a ≡ true → (a || b) ≡ true
or_left b p = rw p

pub or_right : (a : Bool) {b : Bool} → b ≡ true → (a || b) ≡ true
or_right true p = refl
or_right false p = p

pub or_cases : (a b : Bool) → (a || b) ≡ true → (a ≡ true) ⊎ (b ≡ true)
or_cases true b p = inl refl
or_cases false b p = inr p

pub and_parts : (a b : Bool) → (a && b) ≡ true → (a ≡ true) × (b ≡ true)
and_parts true b p = (refl, p)
and_parts false b p = absurd (false≢true p)
