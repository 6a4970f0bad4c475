-- The numbers that a chain of tests gives, each with what it is given for (specs/Numbers). Assumes nothing.
--     Decides           what a test says where it holds, and where not
--     itself            a test that stands for itself
--     one, two, three   One, Two, Three hold of a number picked by tests
use mathlib.Core.Path.{◌≡◌, refl, sym, ◌∙◌}
use mathlib.Core.Bool.{Bool, true, false, false≢true}
use mathlib.Core.Logic.Iff
use mathlib.Core.Logic.{◌↔◌, inl, inr, ⊎_elim}
use Prim.Native.Nat.{ℕ}
use Rattle.base.specs.Pick.{pick}
pub use Rattle.memory.specs.Numbers.{One, Two, Three}

pub record Decides (t : Bool) (P Q : Type 0) : Type 0 where
  pub holds : t ≡ true ↔ P
  pub fails : t ≡ false ↔ Q

pub itself : (t : Bool) → Decides t (t ≡ true) (t ≡ false)
itself t = record { holds = Iff.rfl; fails = Iff.rfl }

-- a fact that is there, and one that is not
here : {A B : Type 0} → A → B → A ↔ B
here a b = (λ x. b, λ x. a)

gone : {A B : Type 0} → (A → ⊥) → (B → ⊥) → A ↔ B
gone f g = (λ a. absurd (f a), λ b. absurd (g b))

never : {n a b : ℕ} → n ≡ a → (a ≡ b → ⊥) → n ≡ b → ⊥
never e f h = f (sym e ∙ h)

pub one : {n : ℕ} (a b : ℕ) {P P' : Type 0} (t : Bool) → (a ≡ b → ⊥) → n ≡ pick t a b → Decides t P P' → One n a b P P'
one a b true ab e d = record { first = here e (d.holds.0 refl); second = gone (never e ab) (λ x. false≢true (sym (d.fails.1 x))); only = inl e }
one a b false ab e d = record { first = gone (λ h. ab (sym h ∙ e)) (λ x. false≢true (d.holds.1 x)); second = here e (d.fails.0 refl); only = inr e }

pub two : {n : ℕ} (a b c : ℕ) {P P' Q Q' : Type 0} (t u : Bool) → (a ≡ b → ⊥) → (a ≡ c → ⊥) → (b ≡ c → ⊥) → n ≡ pick t a (pick u b c) → Decides t P P' → (P' → Decides u Q Q') → Two n a b c P P' Q Q'
two a b c {P} {P'} true u ab ac bc e d f =
    let no : P' → ⊥ = λ x. false≢true (sym (d.fails.1 x)) in
    record { first = here e (d.holds.0 refl); second = gone (never e ab) (λ x. no x.0); third = gone (never e ac) (λ x. no x.0); only = inl e }
two {n} a b c false u ab ac bc e d f =
    let k = d.fails.0 refl in
    let w = one b c u bc e (f k) in
    let na : n ≡ a → ⊥ = λ h. ⊎_elim (λ x. ab (sym h ∙ x)) (λ x. ac (sym h ∙ x)) w.only in
    record {
      first = gone na (λ x. false≢true (d.holds.1 x));
      second = (λ h. (k, w.first.0 h), λ x. w.first.1 x.1);
      third = (λ h. (k, w.second.0 h), λ x. w.second.1 x.1);
      only = inr w.only;
    }

pub three : {n : ℕ} (a b c d : ℕ) {P P' Q Q' R R' : Type 0} (t u v : Bool) → (a ≡ b → ⊥) → (a ≡ c → ⊥) → (a ≡ d → ⊥) → (b ≡ c → ⊥) → (b ≡ d → ⊥) → (c ≡ d → ⊥) → n ≡ pick t a (pick u b (pick v c d)) → Decides t P P' → Decides u Q Q' → (P' → Decides v R R') → Three n a b c d P P' Q Q' R R'
three a b c d {P} {P'} true u v ab ac ad bc bd cd e f g h =
    let no : P' → ⊥ = λ x. false≢true (sym (f.fails.1 x)) in
    record { first = here e (f.holds.0 refl); second = gone (never e ab) (λ x. no x.0); third = gone (never e ac) (λ x. no x.0); fourth = gone (never e ad) (λ x. no x.0); only = inl e }
three {n} a b c d false u v ab ac ad bc bd cd e f g h =
    let k = f.fails.0 refl in
    let w = two b c d u v bc bd cd e g (λ x. h k) in
    let na : n ≡ a → ⊥ = λ i. ⊎_elim (λ x. ab (sym i ∙ x)) (λ y. ⊎_elim (λ x. ac (sym i ∙ x)) (λ x. ad (sym i ∙ x)) y) w.only in
    record {
      first = gone na (λ x. false≢true (f.holds.1 x));
      second = (λ i. (k, w.first.0 i), λ x. w.first.1 x.1);
      third = (λ i. (k, (w.second.0 i).0, (w.second.0 i).1), λ x. w.second.1 (x.1, x.2));
      fourth = (λ i. (k, (w.third.0 i).0, (w.third.0 i).1), λ x. w.third.1 (x.1, x.2));
      only = inr w.only;
    }
