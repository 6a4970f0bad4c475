-- Two bits compared. Assumes nothing.
--     same_bit_lem, other_bit     two bits that are the same, and that are not
--     bit_same, bit_other     and the test of them
use mathlib.Core.Path.{◌≡◌, refl, sym}
use mathlib.Core.Bool.{Bool, true, false, not, false≢true}
use Rattle.base.specs.Pick.{same_bit}

pub same_bit_lem : (a b : Bool) → same_bit a b ≡ true → a ≡ b
unfolding same_bit
same_bit_lem true true e = refl
same_bit_lem true false e = absurd (false≢true e)
same_bit_lem false true e = absurd (false≢true e)
same_bit_lem false false e = refl

pub other_bit : (a b : Bool) → same_bit a b ≡ false → not a ≡ b
unfolding same_bit
other_bit true true e = absurd (false≢true (sym e))
other_bit true false e = refl
other_bit false true e = refl
other_bit false false e = absurd (false≢true (sym e))

pub bit_same : (a : Bool) → same_bit a a ≡ true
unfolding same_bit
bit_same true = refl
bit_same false = refl

pub bit_other : (a : Bool) → same_bit a (not a) ≡ false
unfolding same_bit
bit_other true = refl
bit_other false = refl
