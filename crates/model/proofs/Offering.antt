-- Check 4 but for operations: the code's test of what a place offers, and whether the choice is among it. Assumes
-- nothing.
--     blank_bare, bare_blank           the code's test is that every argument is zero
--     naming_one, one_naming           the code's test is that x is of the set, and the rest zero
--     scanning_first, first_scanning, scanning_next, next_scanning       the tests of row 7's reads are `Scans` and
--     `ScansOn`
--     among, amid                      the offer rewritten
--     no_flag                          check 6 is for top alone
use mathlib.Core.Path.{◌≡◌, sym, subst}
use mathlib.Core.Bool.{Bool, true}
use Prim.Native.Nat.{ℕ, ◌<◌}
use native.Mathlib.Omega.{arith}
use lib.Dec.{eqb, ltb}
use borrow.Author.Tests.{eqb-true, eq-eqb, ltb-true, lt-ltb}
use Rattle.base.specs.Every.{◌and◌}
use Rattle.base.proofs.Everies.{and_both}
use Rattle.cells.specs.Sets.{member_of, Member}
use Rattle.buffers.specs.Fits.{max_fields}
use Rattle.state.specs.declared.State.{State}
use Rattle.state.specs.declared.Choice.{Choice}
use Rattle.state.specs.Choices.{field_left_of, is_blank, is_bare, is_of_x, is_naming, is_scanning, is_scanning_on}
use Rattle.model.specs.Offers as offer
use Rattle.model.specs.Offers.{Bare, OnlyX, Scans, ScansOn, AmongOffered, offer_of}
use Rattle.model.specs.Reasons.{mover, FlagDown}
use Rattle.model.proofs.Deeds.{Offered}

pub and-true : {a b : Bool} → a ≡ true → b ≡ true → a and b ≡ true
and-true e f = rw e f

module _ (c : Choice) where
  pub of_x_lem : is_of_x c ≡ true → (c.f ≡ 0) × (c.y ≡ 0)
  unfolding is_of_x
  of_x_lem h = let k = and_both (eqb c.f 0) (eqb c.y 0) h in (eqb-true c.f 0 k.0, eqb-true c.y 0 k.1)

  pub is_of_x_lem : c.f ≡ 0 → c.y ≡ 0 → is_of_x c ≡ true
  unfolding is_of_x
  is_of_x_lem e f = and-true (eq-eqb c.f 0 e) (eq-eqb c.y 0 f)

  pub of_nothing : is_bare c ≡ true → (c.x ≡ 0) × (c.f ≡ 0) × (c.y ≡ 0)
  unfolding is_bare
  of_nothing h = let k = and_both (eqb c.x 0) (is_of_x c) h in let l = of_x_lem k.1 in (eqb-true c.x 0 k.0, l.0, l.1)

  pub is_of_nothing : c.x ≡ 0 → c.f ≡ 0 → c.y ≡ 0 → is_bare c ≡ true
  unfolding is_bare
  is_of_nothing e f g = and-true (eq-eqb c.x 0 e) (is_of_x_lem f g)

  pub blank_bare : is_blank c ≡ true → Bare c
  unfolding is_blank
  blank_bare h = let k = and_both (eqb c.op 0) (is_bare c) h in let l = of_nothing k.1 in record { op = eqb-true c.op 0 k.0; x = l.0; f = l.1; y = l.2 }

  pub bare_blank : Bare c → is_blank c ≡ true
  unfolding is_blank
  bare_blank b = and-true (eq-eqb c.op 0 b.op) (is_of_nothing b.x b.f b.y)

  pub naming_one : (l : ℕ) → is_naming c l ≡ true → OnlyX c × Member l c.x
  unfolding is_naming
  naming_one l h =
      let k = and_both (eqb c.op 0) (is_of_x c and member_of l c.x) h in
      let j = and_both (is_of_x c) (member_of l c.x) k.1 in
      let i = of_x_lem j.0 in
      (record { op = eqb-true c.op 0 k.0; f = i.0; y = i.1 }, j.1)

  pub one_naming : (l : ℕ) → OnlyX c → Member l c.x → is_naming c l ≡ true
  unfolding is_naming
  one_naming l o m = and-true (eq-eqb c.op 0 o.op) (and-true (is_of_x_lem o.f o.y) m)

  pub scanning_first : (l : ℕ) → is_scanning c l ≡ true → Scans c l
  unfolding is_scanning
  scanning_first l h =
      let k = and_both (eqb c.op 0) (eqb c.y 0 and ltb c.f max_fields and member_of l c.x) h in
      let j = and_both (eqb c.y 0) (ltb c.f max_fields and member_of l c.x) k.1 in
      let i = and_both (ltb c.f max_fields) (member_of l c.x) j.1 in
      record { op = eqb-true c.op 0 k.0; y = eqb-true c.y 0 j.0; field = ltb-true c.f max_fields i.0; cell = i.1 }

  pub first_scanning : (l : ℕ) → Scans c l → is_scanning c l ≡ true
  unfolding is_scanning
  first_scanning l b = and-true (eq-eqb c.op 0 b.op) (and-true (eq-eqb c.y 0 b.y) (and-true (lt-ltb c.f max_fields b.field) b.cell))

  pub scanning_next : (l : ℕ) → is_scanning_on c l ≡ true → ScansOn c l
  unfolding is_scanning_on
  scanning_next l h =
      let k = and_both (eqb c.op 0) (eqb c.x 0 and eqb c.y 0 and member_of l (field_left_of c.f)) h in
      let j = and_both (eqb c.x 0) (eqb c.y 0 and member_of l (field_left_of c.f)) k.1 in
      let i = and_both (eqb c.y 0) (member_of l (field_left_of c.f)) j.1 in
      record { op = eqb-true c.op 0 k.0; x = eqb-true c.x 0 j.0; y = eqb-true c.y 0 i.0; field = i.1 }

  pub next_scanning : (l : ℕ) → ScansOn c l → is_scanning_on c l ≡ true
  unfolding is_scanning_on
  next_scanning l b = and-true (eq-eqb c.op 0 b.op) (and-true (eq-eqb c.x 0 b.x) (and-true (eq-eqb c.y 0 b.y) b.field))

module _ (s : State) (c : Choice) where
  -- what is offered, where the offer is known
  pub among : {o : offer.Offer} → offer_of (mover s c) ≡ o → AmongOffered s.memory.cells c (mover s c) o → Offered s c
  among e h = subst (AmongOffered s.memory.cells c (mover s c)) (sym e) h

  pub amid : {o : offer.Offer} → offer_of (mover s c) ≡ o → Offered s c → AmongOffered s.memory.cells c (mover s c) o
  amid e h = subst (AmongOffered s.memory.cells c (mover s c)) e h

pub no_flag : (s : State) (c : Choice) {k : ℕ} → (mover s c).place ≡ k → 0 < k → FlagDown s c → ⊥
no_flag s c e l f = omega (arith, f.place)
