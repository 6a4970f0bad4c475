-- The newest store to a spot in a list of entries, oldest first. Assumes nothing.
--     newest_last           of a list with one entry more at the end: that one if it hits, else as before
--     newest_first          of a list with one entry more in front, over what stands below the list: that one stands
--                           below the others
--     newest_behind         an entry in front of a hit is not seen
--     newest_miss           nor is one that does not hit
--     newest_among          of a list with a hit in it and none after: that one
--     newest_none           nothing is found exactly if nothing hits
--     Found, newest_member  what is found is a store of the list that hits the spot
--     newest_spot           so a store found, else one for the spot, is one for the spot
use mathlib.Core.Path.{◌≡◌, refl, sym, ◌∙◌}
use mathlib.Core.Bool.{Bool, true, false, false≢true}
use mathlib.Core.Logic.{◌↔◌, ⊎_elim}
use mathlib.Core.List.Memᴰ
use mathlib.Core.List.{List, [], ◌∷◌, ◌++◌, Memᴰ}
use Rattle.std.specs.Prelude.{Option, None, Some, unwrap_or}
use Rattle.base.specs.Pick.{pick, through}
use Rattle.buffers.specs.declared.Spot.{Spot}
use Rattle.buffers.specs.declared.Store.{Store}
use Rattle.buffers.specs.declared.Entry.{Entry}
use Rattle.buffers.specs.Stores.{spot_of, hits_of}
use Rattle.buffers.specs.Buffers.{newer_of, newest_of}
use Rattle.buffers.proofs.Hits.{hits_spot}

through_last : {A B : Type 0} (f : A → B → A) (a : A) (l : List B) (x : B) → through f a (l ++ (x ∷ [])) ≡ f (through f a l) x
through_last f a [] x = refl
through_last f a (y ∷ l) x = through_last f (f a y) l x

pub newest_last : (at : Spot) (l : List Entry) (e : Entry) → newest_of at (l ++ (e ∷ [])) ≡ pick (hits_of at e.store) (Some e.store) (newest_of at l)
newest_last at l e = through_last (newer_of at) None l e

-- what is found on top of something found before
abbrev over : Option Store → Option Store → Option Store
over None n = n
over (Some s) n = Some s

over_pick : (b : Bool) (s : Store) (n : Option Store) → over (pick b (Some s) None) n ≡ pick b (Some s) n
over_pick true s n = refl
over_pick false s n = refl

over_over : (a b c : Option Store) → over a (over b c) ≡ over (over a b) c
over_over None b c = refl
over_over (Some s) b c = refl

through_over : (at : Spot) (n : Option Store) (l : List Entry) → through (newer_of at) n l ≡ over (newest_of at l) n
through_over at n [] = refl
through_over at n (e ∷ l) =
    through_over at (newer_of at n e) l
    ∙ rw (← over_pick (hits_of at e.store) e.store n, over_over (newest_of at l) (pick (hits_of at e.store) (Some e.store) None) n, ← through_over at (pick (hits_of at e.store) (Some e.store) None) l)

newest_over : (at : Spot) (e : Entry) (l : List Entry) → newest_of at (e ∷ l) ≡ over (newest_of at l) (pick (hits_of at e.store) (Some e.store) None)
newest_over at e l = through_over at (newer_of at None e) l

store_over : (n : Option Store) (b : Bool) (s other : Store) → unwrap_or (over n (pick b (Some s) None)) other ≡ unwrap_or n (pick b s other)
store_over None true s other = refl
store_over None false s other = refl
store_over (Some t) b s other = refl

pub newest_first : (at : Spot) (e : Entry) (l : List Entry) (other : Store) → unwrap_or (newest_of at (e ∷ l)) other ≡ unwrap_or (newest_of at l) (pick (hits_of at e.store) e.store other)
newest_first at e l other = rw (newest_over at e l) (store_over (newest_of at l) (hits_of at e.store) e.store other)

pub newest_behind : (at : Spot) (e : Entry) (l : List Entry) (s : Store) → newest_of at l ≡ Some s → newest_of at (e ∷ l) ≡ Some s
newest_behind at e l s h = newest_over at e l ∙ rw h

pub newest_miss : (at : Spot) (e : Entry) (l : List Entry) → hits_of at e.store ≡ false → newest_of at (e ∷ l) ≡ newest_of at l
newest_miss at e l h = rw h

pub newest_among : (at : Spot) (older newer : List Entry) (e : Entry) (other : Store) → hits_of at e.store ≡ true → newest_of at newer ≡ None → unwrap_or (newest_of at (older ++ (e ∷ newer))) other ≡ e.store
newest_among at [] newer e other h k = newest_first at e newer other ∙ rw (k, h)
newest_among at (x ∷ older) newer e other h k = newest_first at x (older ++ (e ∷ newer)) other ∙ newest_among at older newer e (pick (hits_of at x.store) x.store other) h k

none_over : (a b : Option Store) → over a b ≡ None → (a ≡ None) × (b ≡ None)
none_over None b h = (refl, h)
none_over (Some s) b h = (cc, cc)

pub newest_none : (at : Spot) (l : List Entry) → newest_of at l ≡ None ↔ ((e : Entry) → Memᴰ e l → hits_of at e.store ≡ false)
newest_none at l = (misses l, missed l)
  where
    missed_first : (b : Bool) (s : Store) → pick b (Some s) None ≡ None → b ≡ false
    missed_first true s h = cc
    missed_first false s h = refl

    misses : (l : List Entry) → newest_of at l ≡ None → (e : Entry) → Memᴰ e l → hits_of at e.store ≡ false
    misses [] h e i = absurd (Memᴰ.not-nil i)
    misses (x ∷ l) h e i =
        let both = none_over (newest_of at l) (pick (hits_of at x.store) (Some x.store) None) (sym (newest_over at x l) ∙ h) in
        ⊎_elim (λ (q : e ≡ x). rw q (missed_first (hits_of at x.store) x.store both.1)) (λ j. misses l both.0 e j) (Memᴰ.cases_cons i)

    missed : (l : List Entry) → ((e : Entry) → Memᴰ e l → hits_of at e.store ≡ false) → newest_of at l ≡ None
    missed [] f = refl
    missed (x ∷ l) f = newest_miss at x l (f x (Memᴰ.head refl)) ∙ missed l (λ e i. f e (Memᴰ.tail i))

-- the entry of the list that holds the store found
pub record Found (at : Spot) (l : List Entry) (s : Store) : Type 0 where
  pub entry : Entry
  pub there : Memᴰ entry l
  pub holds : entry.store ≡ s
  pub hit : hits_of at s ≡ true

pub newest_member : (at : Spot) (l : List Entry) (s : Store) → newest_of at l ≡ Some s → Found at l s
newest_member at [] s h = absurd (false≢true (cc))
newest_member at (x ∷ l) s h = go (newest_member at l) (hits_of at x.store) refl (newest_of at l) refl (sym (newest_over at x l) ∙ h)
  where
    go : ((t : Store) → newest_of at l ≡ Some t → Found at l t) → (b : Bool) → hits_of at x.store ≡ b → (n : Option Store) → newest_of at l ≡ n → over n (pick b (Some x.store) None) ≡ Some s → Found at (x ∷ l) s
    go f b q (Some t) e g = let w = f t e in let z : t ≡ s = cc in record { entry = w.entry; there = Memᴰ.tail w.there; holds = w.holds ∙ z; hit = rw z at w.hit }
    go f true q None e g = let z : x.store ≡ s = cc in record { entry = x; there = Memᴰ.head refl; holds = z; hit = rw z at q }
    go f false q None e g = absurd (false≢true (cc))

pub newest_spot : (at : Spot) (l : List Entry) (other : Store) → spot_of other ≡ at → spot_of (unwrap_or (newest_of at l) other) ≡ at
newest_spot at l other h = go (newest_of at l) refl
  where
    go : (n : Option Store) → newest_of at l ≡ n → spot_of (unwrap_or n other) ≡ at
    go None e = h
    go (Some s) e = hits_spot at s (newest_member at l s e).hit
