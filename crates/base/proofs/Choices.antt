-- A choice by its test, both ways, for `grind`: with it the check splits what a contract picks, and needs no answer.
-- Assumes nothing.
--     choices      the set, for `#[tactic(auto, using(base::proofs::Choices::choices), unfolding(..))]`
use mathlib.Core.Bool.{Bool, true, false}
use mathlib.Core.Path.{◌≡◌, refl}
use mathlib.Core.Logic.{◌⊎◌, inl, inr}
use Rattle.std.proofs.lemmas.Bool.Decides.{leb_tells, eqb_tells}
use Rattle.base.specs.Pick.{pick}

pub pick_tells : {A : Type 0} (b : Bool) (x y : A) → ((b ≡ true) × (pick b x y ≡ x)) ⊎ ((b ≡ false) × (pick b x y ≡ y))
pick_tells true x y = inl (refl, refl)
pick_tells false x y = inr (refl, refl)

pub ruleset choices = (pick_tells, leb_tells, eqb_tells)
