-- Choosing between two answers, going through a list, and comparing bits. Assumes nothing.
use Rattle.std.specs.Prelude.{Bool, true, false, List, [], ◌∷◌, ◌++◌, ℕ, zero, suc}
use Rattle.std.specs.Bool.{beq}

-- the first where the test holds, else the second
abbrev pub pick : {A : Type 0} → Bool → A → A → A
pick true a b = a
pick false a b = b

-- a step for each element, from the first to the last
abbrev pub through : {A B : Type 0} → (A → B → A) → A → List B → A
through f a [] = a
through f a (b ∷ bs) = through f (f a b) bs

-- what f gives for 0, 1, .. n - 1
abbrev pub listed : {A : Type 0} → ℕ → (ℕ → A) → List A
listed zero f = []
listed (suc n) f = listed n f ++ (f n ∷ [])

-- the two bits are the same
unfoldable pub same_bit : Bool → Bool → Bool
same_bit a b = beq a b
