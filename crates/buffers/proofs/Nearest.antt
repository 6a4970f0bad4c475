-- Where the newest store to a spot stands in a list of entries, oldest first. Assumes nothing.
--     place_found, place_none     a search from the newest on finds the newest, or that none is to the spot
--     own_exactly        it is the own store at place i exactly if entry i is to the spot and no newer one is
--     own_value          and then what is seen is that entry's
--     memory_exactly     it is memory exactly if none is to the spot
--     source_none        so it is memory where no newest one is found
--     source_read        it is one or the other
use mathlib.Core.Path.{◌≡◌, refl, sym, ap, ◌∙◌}
use mathlib.Core.Bool.{Bool, true, false, false≢true}
use mathlib.Core.List.Memᴰ
use mathlib.Core.List.{List, [], ◌∷◌, Memᴰ}
use mathlib.Core.Logic.{⊎_elim}
use Prim.Native.Nat.{ℕ, zero, suc, ◌+◌, ◌<◌}
use native.Mathlib.Nat.{not-suc-le-zero, le_of_suc-le-suc}
use native.Mathlib.Decide.{dec_lt}
use native.Mathlib.Omega.{arith}
use lib.ListN.{length, get_or}
use Rattle.std.specs.Prelude.{Option, None, Some, IfNone, IfSome, unwrap_or}
use Rattle.base.specs.Pick.{pick}
use Rattle.buffers.specs.declared.Spot.{Spot}
use Rattle.buffers.specs.declared.Store.{Store}
use Rattle.buffers.specs.declared.Entry.{Entry}
use Rattle.buffers.specs.declared.sources.Source.{Source}
use Rattle.buffers.specs.declared.sources.Source.TheVariants as source
use Rattle.buffers.specs.Stores.{no_entry, spot_of, hits_of}
use Rattle.buffers.specs.Buffers.{newest_of}
use Rattle.buffers.specs.Sources.{nearer_of, source_from, source_in, Unhit, NewestAt, OwnExactly, OwnValue, MemoryExactly}
use Rattle.buffers.proofs.Hits.{hits_spot, hits_own, hits_other}
use Rattle.buffers.proofs.Newests.{newest_first, newest_none}

-- ---- by position
member_at : (l : List Entry) (i : ℕ) → i < length l → Memᴰ (get_or l i no_entry) l
member_at [] i h = absurd (not-suc-le-zero h)
member_at (e ∷ l) zero h = Memᴰ.head refl
member_at (e ∷ l) (suc i) h = Memᴰ.tail (member_at l i (le_of_suc-le-suc h))

suc_below : {a b : ℕ} → a < b → suc a < suc b
suc_below h = omega arith

-- the cases of where a value came from are apart, and an own place is one
abbrev is_own : Source → Bool
is_own source.Nothing = false
is_own source.Memory = false
is_own (source.Own i) = true

abbrev is_read : Source → Bool
is_read source.Nothing = false
is_read source.Memory = true
is_read (source.Own i) = true

memory_apart : (i : ℕ) → source.Memory ≡ source.Own i → ⊥
memory_apart i e = false≢true (ap is_own e)

abbrev place_in : Source → ℕ
place_in source.Nothing = 0
place_in source.Memory = 0
place_in (source.Own i) = i

hit : (at : Spot) (s : Store) → spot_of s ≡ at → hits_of at s ≡ true
hit at s e = rw (← e) (hits_own s)

module _ (at : Spot) where
  -- what the search from place k on comes to: nothing new, or a newest one
  data Search (k : ℕ) (f : Source) (es : List Entry) : Source → Type 0 where
    none : Unhit at es → Search k f es f
    some : (i n : ℕ) → k + i ≡ n → NewestAt at es i → Search k f es (source.Own n)

  first : (e : Entry) (es : List Entry) → spot_of e.store ≡ at → Unhit at es → NewestAt at (e ∷ es) 0
  first e es h u = record { there = omega arith; hits = h; last = later }
    where
      later : (j : ℕ) → 0 < j → j < length (e ∷ es) → spot_of (get_or (e ∷ es) j no_entry).store ≡ at → ⊥
      later zero p l q = absurd (omega arith)
      later (suc j) p l q = u (get_or es j no_entry) (member_at es j (le_of_suc-le-suc l)) q

  behind : (e : Entry) (es : List Entry) (i : ℕ) → NewestAt at es i → NewestAt at (e ∷ es) (suc i)
  behind e es i n = record { there = let t = n.there in omega arith; hits = n.hits; last = later }
    where
      later : (j : ℕ) → suc i < j → j < length (e ∷ es) → spot_of (get_or (e ∷ es) j no_entry).store ≡ at → ⊥
      later zero p l q = absurd (omega arith)
      later (suc j) p l q = n.last j (le_of_suc-le-suc p) (le_of_suc-le-suc l) q

  unhit : (e : Entry) (es : List Entry) → hits_of at e.store ≡ false → Unhit at es → Unhit at (e ∷ es)
  unhit e es h u x i q =
      ⊎_elim (λ (s : x ≡ e). false≢true (sym h ∙ hit at e.store (rw s at q))) (λ j. u x j q) (Memᴰ.cases_cons i)

  found : (k : ℕ) (f : Source) (es : List Entry) → Search k f es (source_from at k f es)
  found k f [] = none (λ e i. absurd (Memᴰ.not-nil i))
  found k f (e ∷ es) = go (hits_of at e.store) refl (found (suc k) (nearer_of at k f e) es)
    where
      here : (b : Bool) → hits_of at e.store ≡ b → Unhit at es → Search k f (e ∷ es) (pick b (source.Own k) f)
      here true h u = some 0 k (omega arith) (first e es (hits_spot at e.store h) u)
      here false h u = none (unhit e es h u)

      go : (b : Bool) → hits_of at e.store ≡ b → {r : Source} → Search (suc k) (nearer_of at k f e) es r → Search k f (e ∷ es) r
      go b h (none u) = rw h (here b h u)
      go b h (some i n q m) = some (suc i) n (omega arith) (behind e es i m)

  -- there is one newest
  one_newest : (es : List Entry) (i j : ℕ) → NewestAt at es i → NewestAt at es j → i ≡ j
  one_newest es i j a b = go (dec_lt i j) (dec_lt j i)
    where
      go : Dec (i < j) → Dec (j < i) → i ≡ j
      go (yes l) d = absurd (a.last j l b.there b.hits)
      go (no l) (yes k) = absurd (b.last i k a.there a.hits)
      go (no l) (no k) = omega arith

pub own_exactly : OwnExactly
own_exactly at es i = (λ e. told (source_in at es) (found at 0 source.Memory es) e, λ n. holds (source_in at es) (found at 0 source.Memory es) n)
  where
    told : (r : Source) → Search at 0 source.Memory es r → r ≡ source.Own i → NewestAt at es i
    told r (none u) e = absurd (memory_apart i e)
    told r (some j n q m) e = let y : n ≡ i = ap place_in e in let z : j ≡ i = omega arith in rw z at m

    holds : (r : Source) → Search at 0 source.Memory es r → NewestAt at es i → r ≡ source.Own i
    holds r (none u) n = absurd (u (get_or es i no_entry) (member_at es i n.there) n.hits)
    holds r (some j k q m) n = let y = one_newest at es j i m n in let z : k ≡ i = omega arith in ap source.Own z

pub source_read : (at : Spot) (es : List Entry) → source_in at es ≡ source.Nothing → ⊥
source_read at es e = told (found at 0 source.Memory es) e
  where
    told : {r : Source} → Search at 0 source.Memory es r → r ≡ source.Nothing → ⊥
    told (none u) e = false≢true (sym (ap is_read e))
    told (some j n q m) e = false≢true (sym (ap is_read e))

pub memory_exactly : MemoryExactly
memory_exactly at es = (λ e. told (source_in at es) (found at 0 source.Memory es) e, λ u. holds (source_in at es) (found at 0 source.Memory es) u)
  where
    told : (r : Source) → Search at 0 source.Memory es r → r ≡ source.Memory → Unhit at es
    told r (none u) e = u
    told r (some j n q m) e = absurd (memory_apart n (sym e))

    holds : (r : Source) → Search at 0 source.Memory es r → Unhit at es → r ≡ source.Memory
    holds r (none v) u = refl
    holds r (some j n q m) u = absurd (u (get_or es j no_entry) (member_at es j m.there) m.hits)

-- ---- as a search finds it
none_hit : (at : Spot) (l : List Entry) → ((k : ℕ) → k < length l → hits_of at (get_or l k no_entry).store ≡ false) → Unhit at l
none_hit at [] a = λ e i. absurd (Memᴰ.not-nil i)
none_hit at (x ∷ l) a = unhit at x l (a 0 (omega arith)) (none_hit at l (λ k m. a (suc k) (suc_below m)))

module _ (at : Spot) (es : List Entry) where
  abbrev missed : ℕ → Type 0
  missed k = hits_of at (get_or es k no_entry).store ≡ false

  pub place_found : (r : Option ℕ) → IfSome r (λ i. i < length es) → IfSome r (λ i. hits_of at (get_or es i no_entry).store ≡ true) → IfSome r (λ i. (k : ℕ) → i < k → k < length es → missed k) → IfSome r (NewestAt at es)
  place_found None a b c = tt
  place_found (Some i) a b c =
      record { there = a; hits = hits_spot at (get_or es i no_entry).store b; last = λ k l m q. false≢true (sym (c k l m) ∙ hit at (get_or es k no_entry).store q) }

  pub place_none : (r : Option ℕ) → IfNone r ((k : ℕ) → k < length es → missed k) → IfNone r (Unhit at es)
  place_none (Some i) a = tt
  place_none None a = none_hit at es a

-- ---- what is seen
unseen : (at : Spot) (es : List Entry) (other : Store) → ((j : ℕ) → j < length es → spot_of (get_or es j no_entry).store ≡ at → ⊥) → unwrap_or (newest_of at es) other ≡ other
unseen at [] other u = refl
unseen at (e ∷ es) other u =
    let z : hits_of at e.store ≡ false = hits_other at e.store (u 0 (omega arith)) in
    newest_first at e es other ∙ rw z (unseen at es other (λ j l. u (suc j) (suc_below l)))

newest_at : (at : Spot) (es : List Entry) (i : ℕ) (other : Store) → NewestAt at es i → unwrap_or (newest_of at es) other ≡ (get_or es i no_entry).store
newest_at at [] i other n = absurd (not-suc-le-zero n.there)
newest_at at (e ∷ es) zero other n =
    let z : hits_of at e.store ≡ true = hit at e.store n.hits in
    newest_first at e es other ∙ rw z (unseen at es e.store (λ j l. n.last (suc j) (omega arith) (suc_below l)))
newest_at at (e ∷ es) (suc i) other n =
    newest_first at e es other
    ∙ newest_at at es i (pick (hits_of at e.store) e.store other)
    (record { there = le_of_suc-le-suc n.there; hits = n.hits; last = λ j l k. n.last (suc j) (suc_below l) (suc_below k) })

pub newest_found : (at : Spot) (es : List Entry) (i : ℕ) → NewestAt at es i → newest_of at es ≡ Some (get_or es i no_entry).store
newest_found at es i n = go (newest_of at es) refl (newest_at at es i)
  where
    go : (r : Option Store) → newest_of at es ≡ r → ((other : Store) → NewestAt at es i → unwrap_or r other ≡ (get_or es i no_entry).store) → r ≡ Some (get_or es i no_entry).store
    go None e f = absurd (false≢true (sym ((newest_none at es).0 e (get_or es i no_entry) (member_at es i n.there)) ∙ hit at (get_or es i no_entry).store n.hits))
    go (Some s) e f = ap Some (f s n)

pub newest_missed : (at : Spot) (es : List Entry) → Unhit at es → newest_of at es ≡ None
newest_missed at es u = (newest_none at es).1 (λ e m. hits_other at e.store (u e m))

pub own_value : OwnValue
own_value at es i other e = newest_at at es i other ((own_exactly at es i).0 e)

pub source_none : (at : Spot) (es : List Entry) → newest_of at es ≡ None → source_in at es ≡ source.Memory
source_none at es e = (memory_exactly at es).1 (λ x i q. false≢true (sym ((newest_none at es).0 e x i) ∙ hit at x.store q))
