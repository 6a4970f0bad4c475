-- A step at a known place and stage, but for top: its view and its row, from the tables read there. Assumes nothing.
--     Test                the code's test of such an offer
--     stands              a process that is at a place and stage, put there, is itself
--     told_at, gone_at      what a process there is told by memory, and the state that it goes on to
--     place_view          the view of a step: left is the row that it goes to
--     place_row           and back: where it goes, offered and taken
use mathlib.Core.Path.{◌≡◌, refl, sym, ap, ◌∙◌}
use mathlib.Core.Bool.{Bool, true, false, false≢true}
use Prim.Native.Nat.{ℕ, ◌<◌}
use native.Mathlib.Omega.{arith}
use borrow.Author.Tests.{ne_eqb}
use Rattle.memory.specs.declared.asks.Ask.{Ask}
use Rattle.memory.specs.Asks.{Told}
use Rattle.state.specs.declared.Process.{Process}
use Rattle.state.specs.declared.State.{State}
use Rattle.state.specs.declared.Choice.{Choice}
use Rattle.state.specs.Codes.{top}
use Rattle.state.specs.States.{at, with_memory, taken_of}
use Rattle.state.specs.Choices.{is_blank, is_naming, is_scanning, is_scanning_on}
use Rattle.state.specs.Acts.{setting_of, went_of}
use Rattle.mutator.specs.Mutators.{flag_waits}
use Rattle.model.specs.Offers as offer
use Rattle.model.specs.Offers.{Offer, AmongOffered, offer_of}
use Rattle.model.specs.Deeds.{deed_of}
use Rattle.model.specs.Reasons.{mover}
use Rattle.model.specs.Rows.{At}
use Rattle.model.specs.Views.{View}
use Rattle.model.proofs.Numbers.{Buffered}
use Rattle.model.proofs.Offering.{blank_bare, bare_blank, naming_one, one_naming, scanning_first, first_scanning, scanning_next, next_scanning, among, amid, no_flag}
use Rattle.model.proofs.Standing.{staged}
use Rattle.own.specs.Owns.{own_offers, own_ask, own_go}
use Rattle.model.proofs.Road.{told_by, own_of, deed_for, is_own, step_view, own_goes}

-- what the code tests where nothing is offered; where x is named from l; at row 7's reads
pub data Test (c : Choice) : Offer → Bool → Type 0 where
  blank : Test c offer.nothing (is_blank c)
  naming : (l : ℕ) → Test c (offer.one_of l) (is_naming c l)
  first_read : (l : ℕ) → Test c (offer.scan l) (is_scanning c l)
  next_read : (l : ℕ) → Test c (offer.field l) (is_scanning_on c l)

pub stands : {k j : ℕ} (q : Process) → At k j q → q ≡ at k j q
stands q h = staged (λ q. q) q h.place h.stage

-- the process q is told, and goes on
abbrev pub told_at : State → Choice → Process → Told
told_at s c q = told_by s c (own_ask c q)

abbrev pub gone_at : State → Choice → Process → Told → State
gone_at s c q t = went_of (with_memory s t.memory) c.process (own_go c (setting_of s c.x) t.sight q)

module _ (s : State) (c : Choice) where
  abbrev Within : Offer → Type 0
  Within o = AmongOffered s.memory.cells c (mover s c) o

  passes : {o : Offer} {t : Bool} → Test c o t → t ≡ true → Within o
  passes blank e = blank_bare c e
  passes (naming l) e = naming_one c l e
  passes (first_read l) e = scanning_first c l e
  passes (next_read l) e = scanning_next c l e

  within : {o : Offer} {t : Bool} → Test c o t → Within o → t ≡ true
  within blank b = bare_blank c b
  within (naming l) i = one_naming c l i.0 i.1
  within (first_read l) i = first_scanning c l i
  within (next_read l) i = next_scanning c l i

  module _ {k j : ℕ} (h : At k j (mover s c)) (l : 0 < k) where
    abbrev here : Process
    here = at k j (mover s c)

    there : {A : Type 0} (f : Process → A) → f (mover s c) ≡ f here
    there f = ap f (stands (mover s c) h)

    up_is : flag_waits c (mover s c) ≡ false
    unfolding flag_waits
    up_is = rw (ne_eqb (mover s c).place top (λ e. omega (arith, h.place))) refl

    pub place_view : (R : State → Type 0) → c.kind ≡ 0 → Buffered s.memory c.process → {o : Offer} {t : Bool} {a : Ask} → Test c o t → offer_of here ≡ o → own_offers s.memory.cells c here ≡ t
        → own_ask c here ≡ a → deed_of c here ≡ deed_for a → is_own a ≡ true → (Within o → (told_by s c a).no ≡ 0 → R (gone_at s c here (told_by s c a))) → View R s c (own_of s c)
    place_view R k b w p o e d u f =
        step_view s c b (record {
          kind = k;
          offers = λ t. among s c (there offer_of ∙ p) (passes w (sym (there (own_offers s.memory.cells c) ∙ o) ∙ t));
          refuses = λ t i. false≢true (sym t ∙ there (own_offers s.memory.cells c) ∙ o ∙ within w (amid s c (there offer_of ∙ p) i));
          down = λ t. absurd (false≢true (sym up_is ∙ t));
          up = λ _. no_flag s c h.place l;
          asked = there (own_ask c) ∙ e;
          deed = there (deed_of c) ∙ d;
          own = u;
          row = λ i _ n. rw (there (own_go c _ _)) (f (amid s c (there offer_of ∙ p) i) n);
        })

    pub place_row : {a : Ask} {t : State} → own_offers s.memory.cells c here ≡ true → own_ask c here ≡ a → (told_by s c a).no ≡ 0 → gone_at s c here (told_by s c a) ≡ t → own_of s c ≡ taken_of t
    place_row o e n g = own_goes s c (there (own_offers s.memory.cells c) ∙ o) up_is (there (own_ask c) ∙ e) n (rw (there (own_go c _ _)) g)
