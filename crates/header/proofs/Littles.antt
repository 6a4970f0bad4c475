-- Numbers written as bytes, the lowest first, and lists written one after the other: what is read of them again.
-- Assumes nothing.
--     little_read                   a number that fits its bytes
--     pair_little                   the number of two bytes is read so
--     length_little, -turns         how long they are
--     turn_at, turn_past            what stands at a place of lists of one length, and past them
--     bytes_join, -each, -little, -turns   each is a byte
use mathlib.Core.Path.{◌≡◌, refl, ap, ◌∙◌}
use mathlib.Core.List.{List, [], ◌∷◌, ◌++◌, append_assoc}
use Prim.Native.Nat.{ℕ, zero, suc, ◌+◌, ◌*◌, ◌/◌, ◌%◌, ◌^◌, ◌<◌}
use native.Mathlib.Decide.{ℕ_discrete}
use native.Mathlib.Nat.{mul-suc, pow-suc, div-lt_iff_lt-mul}
use native.Mathlib.Omega.{arith}
use lib.ListN.{length, get_or, length-append, get_or-append}
use lib.Seq.{get_or-append-add}
use Rattle.header.specs.Bytes.{per_byte, byte_at, pair_at, little_at}
use Rattle.header.specs.Written.{little_of, in_turn, Bytes, version_size}

-- ---- a number of w bytes, from the place on
pub little_read : (w v at : ℕ) (log : List ℕ) → v < per_byte ^ w → ((j : ℕ) → j < w → byte_at log (at + j) ≡ get_or (little_of w v) j 0) → little_at w log at ≡ v
little_read zero v at log b e = omega arith
little_read (suc w) v at log b e =
    let here : at + 0 ≡ at = omega arith in
    let low : byte_at log at ≡ v % per_byte = rw here at (e 0 (omega arith)) in
    let high : little_at w log (at + 1) ≡ v / per_byte = little_read w (v / per_byte) (at + 1) log ((div-lt_iff_lt-mul {k = per_byte} (omega arith)).1 (rw pow-suc at b)) (λ j l. ap (byte_at log) (shift j) ∙ e (suc j) (omega arith)) in
    rw (low, high) (omega arith)
  where
    shift : (j : ℕ) → at + 1 + j ≡ at + suc j
    shift j = omega arith

pub pair_little : (log : List ℕ) (at : ℕ) → pair_at log at ≡ little_at version_size log at
unfolding pair_at
pair_little log at = omega arith

pub length_little : (w v : ℕ) → length (little_of w v) ≡ w
length_little zero v = refl
length_little (suc w) v = ap suc (length_little w (v / per_byte))

-- ---- lists of one length, one after the other
module _ (f : ℕ → List ℕ) (s : ℕ) (sized : (i : ℕ) → length (f i) ≡ s) where
  pub length_turns : (n : ℕ) → length (in_turn n f) ≡ s * n
  length_turns zero = omega arith
  length_turns (suc n) = rw (length-append, length_turns n, sized n, mul-suc) refl

  pub turn_past : (n j : ℕ) (r : List ℕ) → get_or (in_turn n f ++ r) (s * n + j) 0 ≡ get_or r j 0
  turn_past n j r = rw (← length_turns n) (get_or-append-add (in_turn n f) r j 0)

  pub turn_at : (n i j : ℕ) (r : List ℕ) → i < n → j < s → get_or (in_turn n f ++ r) (s * i + j) 0 ≡ get_or (f i) j 0
  turn_at zero i j r h b = absurd (omega arith)
  turn_at (suc n) i j r h b = rw append_assoc (go (turn_at n i j (f n ++ r)) (ℕ_discrete i n))
    where
      go : (i < n → j < s → get_or (in_turn n f ++ (f n ++ r)) (s * i + j) 0 ≡ get_or (f i) j 0) → Dec (i ≡ n) → get_or (in_turn n f ++ (f n ++ r)) (s * i + j) 0 ≡ get_or (f i) j 0
      go t (yes q) = rw q (turn_past n j (f n ++ r) ∙ get_or-append (f n) r 0 j (omega (arith, sized n)))
      go t (no q) = t (omega arith) b

-- ---- each is a byte
pub bytes_join : (l r : List ℕ) → Bytes l → Bytes r → Bytes (l ++ r)
bytes_join [] r b c i = c i
bytes_join (x ∷ l) r b c zero = b 0
bytes_join (x ∷ l) r b c (suc i) = bytes_join l r (λ j. b (suc j)) c i

-- one by one
abbrev pub Each : List ℕ → Type 0
Each [] = Unit {0}
Each (v ∷ l) = (v < per_byte) × Each l

pub bytes_each : (l : List ℕ) → Each l → Bytes l
bytes_each [] e i = omega arith
bytes_each (v ∷ l) e zero = e.0
bytes_each (v ∷ l) e (suc i) = bytes_each l e.1 i

pub bytes_little : (w v : ℕ) → Bytes (little_of w v)
bytes_little w v = bytes_each (little_of w v) (each w v)
  where
    each : (w v : ℕ) → Each (little_of w v)
    each zero v = omega arith
    each (suc w) v = (omega arith, each w (v / per_byte))

pub bytes_turns : (f : ℕ → List ℕ) (n : ℕ) → ((i : ℕ) → i < n → Bytes (f i)) → Bytes (in_turn n f)
bytes_turns f zero b = bytes_each [] (omega arith)
bytes_turns f (suc n) b = bytes_join (in_turn n f) (f n) (bytes_turns f n (λ i h. b i (omega arith))) (b n (omega arith))
