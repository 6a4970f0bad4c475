-- "Checks run in number order": the numbers that a chain of tests gives, each with what it is given for, exactly
-- then, and no other number. Assumes nothing.
use Rattle.std.specs.Prelude.{◌≡◌, ◌↔◌, ◌⊎◌, ℕ}

-- n is a where P, and b where P'
pub record One (n a b : ℕ) (P P' : Type 0) : Type 0 where
  pub first : n ≡ a ↔ P
  pub second : n ≡ b ↔ P'
  pub only : (n ≡ a) ⊎ (n ≡ b)

-- n is a where P, b where P' and Q, c where P' and Q'
pub record Two (n a b c : ℕ) (P P' Q Q' : Type 0) : Type 0 where
  pub first : n ≡ a ↔ P
  pub second : n ≡ b ↔ (P' × Q)
  pub third : n ≡ c ↔ (P' × Q')
  pub only : (n ≡ a) ⊎ ((n ≡ b) ⊎ (n ≡ c))

-- n is a where P, b where P' and Q, c where P', Q' and R, d where P', Q' and R'
pub record Three (n a b c d : ℕ) (P P' Q Q' R R' : Type 0) : Type 0 where
  pub first : n ≡ a ↔ P
  pub second : n ≡ b ↔ (P' × Q)
  pub third : n ≡ c ↔ (P' × Q' × R)
  pub fourth : n ≡ d ↔ (P' × Q' × R')
  pub only : (n ≡ a) ⊎ ((n ≡ b) ⊎ ((n ≡ c) ⊎ (n ≡ d)))
