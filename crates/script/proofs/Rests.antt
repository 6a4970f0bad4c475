-- How far a line goes on, as std says it: the place of the first end of a line, else the length. Assumes nothing.
--     rest_is
use mathlib.Core.Bool.{Bool, true, false, cond}
use mathlib.Core.List.{List, [], ◌∷◌}
use mathlib.Core.Path.{◌≡◌, refl}
use Prim.Native.Nat.{ℕ, ◌+◌, ◌≤◌}
use native.Mathlib.Omega.{arith}
use lib.Dec.{eqb}
use lib.ListN.{length}
use Rattle.std.proofs.lemmas.Bool.Decides.{nat_tests}
use Rattle.std.proofs.lemmas.List.Recursion.{is_position_or_len}
use Rattle.std.specs.List.{position, position_or_len}
use Rattle.std.specs.Option.{unwrap_or}
use Rattle.std.specs.Prelude.{nat_lt, Some, None}
use Rattle.base.specs.Pick.{pick}
use Rattle.script.specs.Script.{line_end, rest_of}

abbrev pub ends : ℕ → Bool
ends b = eqb b line_end

place : (s : List ℕ) → rest_of s ≡ position_or_len ends s
unfolding rest_of
place = is_position_or_len rest_of ends refl (λ b bs. chosen (ends b) (1 + rest_of bs))
  where
    chosen : (t : Bool) (n : ℕ) → pick t 0 n ≡ cond t 0 n
    chosen true n = refl
    chosen false n = refl

within : (s : List ℕ) → rest_of s ≤ length s
unfolding rest_of
within [] = omega arith
within (b ∷ bs) = go (ends b) (within bs)
  where
    go : (t : Bool) → rest_of bs ≤ length bs → pick t 0 (1 + rest_of bs) ≤ length (b ∷ bs)
    go true e = omega arith
    go false e = omega arith

found : (n m : ℕ) → n ≤ m → unwrap_or (cond (nat_lt n m) (Some n) None) m ≡ n
found n m h = grind (arith, nat_tests)

pub rest_is : (s : List ℕ) → unwrap_or (position ends s) (length s) ≡ rest_of s
rest_is s = let e = place s in rw (← e) (found (rest_of s) (length s) (within s))
