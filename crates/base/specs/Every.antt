-- Tests joined: both, and one for each number below n. Assumes nothing.
use Rattle.std.specs.Prelude.{Bool, true, false, ℕ, zero, suc}
use Rattle.base.specs.Pick.{pick}

-- the second where the first holds
abbrev pub ◌and◌ : Bool → Bool → Bool
a and b = pick a b false

infixr 30 ◌and◌
-- the test holds of each number below n
abbrev pub every : ℕ → (ℕ → Bool) → Bool
every zero t = true
every (suc n) t = every n t and t n
