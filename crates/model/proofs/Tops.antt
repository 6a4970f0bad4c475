-- "At top the choice names an operation": each answer is a refusal for the first reason or a row, and each row is an
-- answer. Assumes nothing.
--     top_view                                the view of a step at top
--     allocates_row, drops_row, reads_row, stores_row, fences_row, answers_row     and back, by the operation
use mathlib.Core.Path.{◌≡◌, refl, sym, ap, ◌∙◌, subst}
use mathlib.Core.Bool.{Bool, true, false, not, false≢true}
use mathlib.Core.Logic.{◌⊎◌, inl, inr, by_cases, ⊎_elim}
use Prim.Native.Nat.{ℕ, zero, suc, ◌≤◌, ◌<◌}
use native.Mathlib.Omega.{arith}
use native.Mathlib.Decide.{ℕ_discrete}
use lib.Dec.{eqb, leb, ltb}
use borrow.Author.Tests.{ltb-true, lt-ltb, leb-true, le-leb, eqb-true, eq-eqb, ne_eqb}
use Rattle.base.specs.Pick.{pick}
use Rattle.base.specs.Every.{◌and◌}
use Rattle.base.proofs.Everies.{and_both}
use Rattle.base.proofs.Picking.{pick_no}
use Rattle.cells.specs.Sets.{member_of, Member, add_of, remove_of}
use Rattle.cells.proofs.Members.{add_null}
use Rattle.buffers.specs.declared.Spot.TheVariants as spot
use Rattle.memory.specs.declared.Memory.{Memory}
use Rattle.memory.specs.declared.asks.Ask.{Ask}
use Rattle.memory.specs.declared.asks.Ask.TheVariants as ask
use Rattle.memory.specs.declared.asks.Change.TheVariants as change
use Rattle.memory.specs.Answers.{Done}
use Rattle.memory.specs.Memories.{taken}
use Rattle.memory.specs.Looks.{look_field_of}
use Rattle.memory.specs.Steps.{fence_of, allocate_of}
use Rattle.memory.specs.Asks.{looked_of}
use Rattle.memory.proofs.Effects.{is_taken}
use Rattle.memory.proofs.Tellings.{field_told}
use Rattle.state.specs.declared.RoundType.{RoundType}
use Rattle.state.specs.declared.RoundType.TheVariants as round
use Rattle.state.specs.declared.Process.{Process}
use Rattle.state.specs.declared.State.{State}
use Rattle.state.specs.declared.Choice.{Choice}
use Rattle.state.specs.Codes.{top, store_write, no_stage}
use Rattle.state.specs.States.{at, noting, listing, with_memory, with_process_of, taken_of}
use Rattle.state.specs.Choices.{is_bare, is_of_x}
use Rattle.marking.specs.Marks.{is_site_of, past_of}
use Rattle.mutator.specs.Mutators.{allocates, drops, reads_field_of, stores_field_of, top_offers_of, mutator_offers, flag_waits, top_ask_of, mutator_ask, storing, answer_place_of, answering, top_go_of, mutator_go}
use Rattle.model.specs.Offers as offer
use Rattle.model.specs.Offers.{Operation, offer_of}
use Rattle.model.specs.Deeds.{top_deed, deed_of}
use Rattle.model.specs.Reasons.{mover, FlagDown}
use Rattle.model.specs.Rows as row
use Rattle.model.specs.Rows.{At, Branch, sees_value}
use Rattle.model.specs.Views.{View}
use Rattle.model.proofs.Offering.{among, amid, and-true, of_x_lem, is_of_x_lem, of_nothing, is_of_nothing}
use Rattle.model.proofs.Seeing.{value_seen, fence_taken}
use Rattle.own.specs.Owns.{own_offers, own_ask, own_go}
use Rattle.model.proofs.Road.{told_by, gone_on, own_of, deed_for, is_own, step_view, own_goes}
use Rattle.model.proofs.Mutators.{Mutating, Own}

-- ---- what is offered at top, by the operation's number
abbrev pub Takes : ℕ → Choice → Process → ℕ → Type 0
Takes n c q zero = (0 < c.x) × (c.x ≤ n) × (c.f ≡ 0) × (c.y ≡ 0)
Takes n c q (suc zero) = (Member q.roots c.x) × (c.f ≡ 0) × (c.y ≡ 0)
Takes n c q (suc (suc zero)) = (Member q.roots c.x) × (c.f ≤ 1) × (c.y ≡ 0)
Takes n c q (suc (suc (suc zero))) = (Member q.roots c.x) × (c.f ≤ 1) × ((c.y ≡ 0) ⊎ (Member q.roots c.y))
Takes n c q (suc (suc (suc (suc k)))) = (c.x ≡ 0) × (c.f ≡ 0) × (c.y ≡ 0)

takes : {n : ℕ} {c : Choice} {q : Process} (k : ℕ) → c.op ≡ k → Operation n c q → Takes n c q k
takes {n} {c} {q} k h (offer.allocates e a b f y) = subst (Takes n c q) (sym e ∙ h) (a, b, f, y)
takes {n} {c} {q} k h (offer.drops e m f y) = subst (Takes n c q) (sym e ∙ h) (m, f, y)
takes {n} {c} {q} k h (offer.reads e m f y) = subst (Takes n c q) (sym e ∙ h) (m, f, y)
takes {n} {c} {q} k h (offer.stores e m f y) = subst (Takes n c q) (sym e ∙ h) (m, f, y)
takes {n} {c} {q} k h (offer.fences e x f y) = subst (Takes n c q) (sym e ∙ h) (x, f, y)
takes {n} {c} {q} k h (offer.answers e x f y) = subst (Takes n c q) (sym e ∙ h) (x, f, y)

-- "operation above 5" is none
known : {n : ℕ} {c : Choice} {q : Process} → Operation n c q → c.op ≤ 5
known (offer.allocates e a b f y) = omega arith
known (offer.drops e m f y) = omega arith
known (offer.reads e m f y) = omega arith
known (offer.stores e m f y) = omega arith
known (offer.fences e x f y) = omega arith
known (offer.answers e x f y) = omega arith

-- ---- the code's tests
module _ (n : ℕ) (c : Choice) (q : Process) where
  allocate_in : allocates n c ≡ true → Takes n c q 0
  unfolding allocates
  allocate_in t =
      let k = and_both (is_of_x c) (ltb 0 c.x and leb c.x n) t in
      let j = and_both (ltb 0 c.x) (leb c.x n) k.1 in
      let i = of_x_lem c k.0 in
      (ltb-true 0 c.x j.0, leb-true c.x n j.1, i.0, i.1)

  in_allocate : Takes n c q 0 → allocates n c ≡ true
  unfolding allocates
  in_allocate i = and-true (is_of_x_lem c i.2 i.3) (and-true (lt-ltb 0 c.x i.0) (le-leb c.x n i.1))

  drop_in : drops c q ≡ true → Takes n c q 1
  unfolding drops
  drop_in t = let k = and_both (is_of_x c) (member_of q.roots c.x) t in let i = of_x_lem c k.0 in (k.1, i.0, i.1)

  in_drop : Takes n c q 1 → drops c q ≡ true
  unfolding drops
  in_drop i = and-true (is_of_x_lem c i.1 i.2) i.0

  read_in : reads_field_of c q ≡ true → Takes n c q 2
  unfolding reads_field_of
  read_in t =
      let k = and_both (leb c.f 1) (eqb c.y 0 and member_of q.roots c.x) t in
      let j = and_both (eqb c.y 0) (member_of q.roots c.x) k.1 in
      (j.1, leb-true c.f 1 k.0, eqb-true c.y 0 j.0)

  in_read : Takes n c q 2 → reads_field_of c q ≡ true
  unfolding reads_field_of
  in_read i = and-true (le-leb c.f 1 i.1) (and-true (eq-eqb c.y 0 i.2) i.0)

  y_in : pick (eqb c.y 0) true (member_of q.roots c.y) ≡ true → (c.y ≡ 0) ⊎ (Member q.roots c.y)
  y_in = pick_no (λ (t : Bool). t ≡ true → (c.y ≡ 0) ⊎ (Member q.roots c.y)) c.y 0 (λ e t. inl e) (λ e t. inr t)

  in_y : (c.y ≡ 0) ⊎ (Member q.roots c.y) → pick (eqb c.y 0) true (member_of q.roots c.y) ≡ true
  in_y w = pick_no (λ (t : Bool). t ≡ true) c.y 0 (λ _. refl) (λ n. ⊎_elim (λ e. absurd (n e)) (λ m. m) w)

  store_in : stores_field_of c q ≡ true → Takes n c q 3
  unfolding stores_field_of
  store_in t =
      let k = and_both (leb c.f 1) (member_of q.roots c.x and (pick (eqb c.y 0) true (member_of q.roots c.y))) t in
      let j = and_both (member_of q.roots c.x) (pick (eqb c.y 0) true (member_of q.roots c.y)) k.1 in
      (j.0, leb-true c.f 1 k.0, y_in j.1)

  in_store : Takes n c q 3 → stores_field_of c q ≡ true
  unfolding stores_field_of
  in_store i = and-true (le-leb c.f 1 i.1) (and-true i.0 (in_y i.2))

  -- the rest offers a choice with no argument but its operation
  in_bare : Takes n c q 4 → is_bare c ≡ true
  in_bare i = is_of_nothing c i.0 i.1 i.2

module _ (s : State) (c : Choice) (h : (mover s c).place ≡ top) where
  offers_is : own_offers s.memory.cells c (mover s c) ≡ top_offers_of s.memory.cells c (mover s c)
  unfolding is_site_of own_offers mutator_offers
  offers_is = simp h

  ask_is : own_ask c (mover s c) ≡ top_ask_of c
  unfolding is_site_of own_ask mutator_ask
  ask_is = simp h

  deed_is : deed_of c (mover s c) ≡ top_deed c
  unfolding deed_of
  deed_is = simp h

  offer_is : offer_of (mover s c) ≡ offer.operation
  unfolding offer_of
  offer_is = simp h

  gone_is : (a : Ask) → gone_on s c (told_by s c a) ≡ with_process_of (with_memory s (told_by s c a).memory) c.process (top_go_of c (told_by s c a).sight.store s.system (mover s c))
  unfolding is_site_of own_go mutator_go
  gone_is a = simp h

  -- "operation 5, flag down"
  waits_not : (c.op ≡ 5 → ⊥) → flag_waits c (mover s c) ≡ false
  unfolding flag_waits
  waits_not n = rw (eq-eqb (mover s c).place top h, ne_eqb c.op 5 n) refl

  waits_is : c.op ≡ 5 → flag_waits c (mover s c) ≡ not (mover s c).part.raised
  unfolding flag_waits
  waits_is e = rw (eq-eqb (mover s c).place top h, eq-eqb c.op 5 e) refl

  -- ---- each operation: the test is o, the ask is a
  module _ (z : Mutating s c) where
    stage : (mover s c).stage ≡ no_stage
    stage = z.standing.unstaged (rw h refl) (rw h refl)

    here : At top no_stage (mover s c)
    here = record { place = h; stage = stage }

    abbrev After : Ask → Type 0
    After a = Own s c (with_process_of (with_memory s (told_by s c a).memory) c.process (top_go_of c (told_by s c a).sight.store s.system (mover s c)))

    operates : (a : Ask) {o : Bool} → top_offers_of s.memory.cells c (mover s c) ≡ o → (o ≡ true → Operation s.memory.cells c (mover s c)) → (Operation s.memory.cells c (mover s c) → o ≡ true)
        → (flag_waits c (mover s c) ≡ true → FlagDown s c) → (flag_waits c (mover s c) ≡ false → FlagDown s c → ⊥) → top_ask_of c ≡ a → top_deed c ≡ deed_for a → is_own a ≡ true
        → (Operation s.memory.cells c (mover s c) → flag_waits c (mover s c) ≡ false → (told_by s c a).no ≡ 0 → After a) → View (Own s c) s c (own_of s c)
    operates a e f g d u i j w k =
        step_view s c z.buffered (record {
          kind = z.kind;
          offers = λ t. among s c offer_is (f (sym e ∙ sym offers_is ∙ t));
          refuses = λ t o. false≢true (sym t ∙ offers_is ∙ e ∙ g (amid s c offer_is o));
          down = d;
          up = u;
          asked = ask_is ∙ i;
          deed = deed_is ∙ j;
          own = w;
          row = λ o v n. rw (gone_is a) (k (amid s c offer_is o) v n);
        })

    -- the other operations ask for no flag
    plain : (a : Ask) {o : Bool} → (c.op ≡ 5 → ⊥) → top_offers_of s.memory.cells c (mover s c) ≡ o → (o ≡ true → Operation s.memory.cells c (mover s c)) → (Operation s.memory.cells c (mover s c) → o ≡ true)
        → top_ask_of c ≡ a → top_deed c ≡ deed_for a → is_own a ≡ true → (Operation s.memory.cells c (mover s c) → (told_by s c a).no ≡ 0 → After a) → View (Own s c) s c (own_of s c)
    plain a v e f g i j w k = operates a e f g (λ t. absurd (false≢true (sym (waits_not v) ∙ t))) (λ _ d. v d.op) i j w (λ o _ n. k o n)

    allocate_view : c.op ≡ 0 → View (Own s c) s c (own_of s c)
    unfolding top_offers_of top_ask_of top_deed top_go_of
    allocate_view e =
        plain (ask.Make (change.Allocate c.x)) (λ f. omega arith) (simp e) (λ t. let i = allocate_in s.memory.cells c (mover s c) t in offer.allocates e i.0 i.1 i.2 i.3)
        (λ o. in_allocate s.memory.cells c (mover s c) (takes 0 e o)) (simp e) (simp e) refl
        (λ o n. let i = takes 0 e o in simp e (row.allocates here e i.0 i.1 i.2 i.3 (is_taken _ n)))

    drop_view : c.op ≡ 1 → View (Own s c) s c (own_of s c)
    unfolding top_offers_of top_ask_of top_deed top_go_of
    drop_view e =
        plain ask.Nothing (λ f. omega arith) (simp e) (λ t. let i = drop_in s.memory.cells c (mover s c) t in offer.drops e i.0 i.1 i.2)
        (λ o. in_drop s.memory.cells c (mover s c) (takes 1 e o)) (simp e) (simp e) refl
        (λ o n. let i = takes 1 e o in simp e (row.drops here e i.0 i.1 i.2))

    -- "a non-null value becomes a root"
    reads : (v : ℕ) → c.op ≡ 2 → Takes s.memory.cells c (mover s c) 2 → look_field_of s.memory c.process c.x c.f ≡ sees_value v
        → Own s c (with_process_of s c.process (listing (mover s c).work (add_of (mover s c).roots v) (mover s c)))
    reads v e i l =
        by_cases (ℕ_discrete v 0)
        (λ n. subst (λ (r : ℕ). Own s c (with_process_of s c.process (listing (mover s c).work r (mover s c)))) (sym (ap (add_of (mover s c).roots) n ∙ add_null (mover s c).roots))
        (row.reads_null here e i.0 i.1 i.2 (l ∙ ap sees_value n)))
        (λ n. row.reads here e i.0 i.1 i.2 l n)

    read_view : c.op ≡ 2 → View (Own s c) s c (own_of s c)
    unfolding top_offers_of top_ask_of top_deed top_go_of looked_of look_field_of
    read_view e =
        let l = look_field_of s.memory c.process c.x c.f in
        plain (ask.Look (spot.Field c.x c.f)) (λ f. omega arith) (simp e) (λ t. let i = read_in s.memory.cells c (mover s c) t in offer.reads e i.0 i.1 i.2)
        (λ o. in_read s.memory.cells c (mover s c) (takes 2 e o)) (simp e) (simp e) refl
        (λ o n. simp e (reads l.value e (takes 2 e o) (value_seen l n)))

    -- "Store: the first step reads the old value; then mark the old; mark y; write the field"
    both_null : {v y j : ℕ} → v ≡ 0 → y ≡ 0 → j ≡ no_stage → Own s c (with_process_of s c.process (at store_write no_stage (noting c.x c.f 0 0 (mover s c)))) → Own s c (with_process_of s c.process (at store_write j (noting c.x c.f y v (mover s c))))
    both_null a b d o = rw (a, b, d) o

    stores : (v : ℕ) → c.op ≡ 3 → Takes s.memory.cells c (mover s c) 3 → look_field_of s.memory c.process c.x c.f ≡ sees_value v → Own s c (with_process_of s c.process (storing c v (mover s c)))
    unfolding storing past_of
    stores v e i l =
        let P : Process → Type 0 = λ q. Own s c (with_process_of s c.process q) in
        pick_no P v 0
        (λ n. pick_no P c.y 0
        (λ y. both_null n y stage (row.stores_null here e i.0 i.1 y (l ∙ ap sees_value n)))
        (λ y. rw n (row.stores_new here e i.0 i.1 (⊎_elim (λ k. absurd (y k)) (λ k. k) i.2) (l ∙ ap sees_value n))))
        (λ n. row.stores here e i.0 i.1 i.2 l n)

    store_view : c.op ≡ 3 → View (Own s c) s c (own_of s c)
    unfolding top_offers_of top_ask_of top_deed top_go_of looked_of look_field_of
    store_view e =
        let l = look_field_of s.memory c.process c.x c.f in
        plain (ask.Look (spot.Field c.x c.f)) (λ f. omega arith) (simp e) (λ t. let i = store_in s.memory.cells c (mover s c) t in offer.stores e i.0 i.1 i.2)
        (λ o. in_store s.memory.cells c (mover s c) (takes 3 e o)) (simp e) (simp e) refl
        (λ o n. simp e (stores l.value e (takes 3 e o) (value_seen l n)))

    fence_view : c.op ≡ 4 → View (Own s c) s c (own_of s c)
    unfolding top_offers_of top_ask_of top_deed top_go_of
    fence_view e =
        plain ask.Fence (λ f. omega arith) (simp e) (λ t. let i = of_nothing c t in offer.fences e i.0 i.1 i.2)
        (λ o. in_bare s.memory.cells c (mover s c) (takes 4 e o)) (simp e) (simp e) refl
        (λ o n. let i = takes 4 e o in simp e (row.fences here e i.0 i.1 i.2 (fence_taken s.memory c.process n)))

    branch : (k : RoundType) → Branch k (answer_place_of k)
    branch round.Noop = row.noop
    branch round.Roots = row.roots
    branch round.Work = row.work

    not_not : (b : Bool) → not b ≡ false → b ≡ true
    not_not true e = refl
    not_not false e = absurd (false≢true (sym e))

    is_down : (b : Bool) → not b ≡ true → b ≡ false
    is_down true e = absurd (false≢true e)
    is_down false e = refl

    answer_view : c.op ≡ 5 → View (Own s c) s c (own_of s c)
    unfolding top_offers_of top_ask_of top_deed top_go_of answering
    answer_view e =
        operates ask.Nothing (simp e) (λ t. let i = of_nothing c t in offer.answers e i.0 i.1 i.2) (λ o. in_bare s.memory.cells c (mover s c) (takes 5 e o))
        (λ t. record { kind = z.kind; place = h; op = e; flag = is_down (mover s c).part.raised (sym (waits_is e) ∙ t) })
        (λ t d. false≢true (sym d.flag ∙ not_not (mover s c).part.raised (sym (waits_is e) ∙ t)))
        (simp e) (simp e) refl
        (λ o v n. let i = takes 5 e o in simp (e, stage) (row.answers here e i.0 i.1 i.2 (not_not (mover s c).part.raised (sym (waits_is e) ∙ v)) (branch s.system.kind)))

    none_view : (c.op ≤ 5 → ⊥) → top_offers_of s.memory.cells c (mover s c) ≡ false → top_ask_of c ≡ ask.Nothing → top_deed c ≡ deed_for ask.Nothing → View (Own s c) s c (own_of s c)
    none_view l f i j = plain ask.Nothing (λ e. l (omega arith)) f (λ t. absurd (false≢true t)) (λ o. absurd (l (known o))) i j refl (λ o. absurd (l (known o)))

    pub top_view : View (Own s c) s c (own_of s c)
    unfolding top_offers_of top_ask_of top_deed
    top_view =
        by_cases (ℕ_discrete c.op 0) allocate_view
        (λ a. by_cases (ℕ_discrete c.op 1) drop_view
        (λ b. by_cases (ℕ_discrete c.op 2) read_view
        (λ d. by_cases (ℕ_discrete c.op 3) store_view
        (λ e. by_cases (ℕ_discrete c.op 4) fence_view
        (λ f. by_cases (ℕ_discrete c.op 5) answer_view
        (λ g. none_view (λ l. above a b d e f g l)
        (rw (ne_eqb c.op 0 a, ne_eqb c.op 1 b, ne_eqb c.op 2 d, ne_eqb c.op 3 e, ne_eqb c.op 4 f, ne_eqb c.op 5 g) refl)
        (rw (ne_eqb c.op 0 a, ne_eqb c.op 2 d, ne_eqb c.op 3 e, ne_eqb c.op 4 f) refl)
        (rw (ne_eqb c.op 0 a, ne_eqb c.op 2 d, ne_eqb c.op 3 e, ne_eqb c.op 4 f) refl)))))))
      where
        above : {k : ℕ} → (k ≡ 0 → ⊥) → (k ≡ 1 → ⊥) → (k ≡ 2 → ⊥) → (k ≡ 3 → ⊥) → (k ≡ 4 → ⊥) → (k ≡ 5 → ⊥) → k ≤ 5 → ⊥
        above a b d e f g l = omega arith

    -- ---- and back
    operated : (a : Ask) {t : State} → top_offers_of s.memory.cells c (mover s c) ≡ true → flag_waits c (mover s c) ≡ false → top_ask_of c ≡ a → (told_by s c a).no ≡ 0
        → with_process_of (with_memory s (told_by s c a).memory) c.process (top_go_of c (told_by s c a).sight.store s.system (mover s c)) ≡ t → own_of s c ≡ taken_of t
    operated a o u i n g = own_goes s c (offers_is ∙ o) u (ask_is ∙ i) n (gone_is a ∙ g)

    pub allocates_row : c.op ≡ 0 → Takes s.memory.cells c (mover s c) 0 → {m : Memory} → allocate_of s.memory c.process c.x ≡ taken m
        → own_of s c ≡ taken_of (with_process_of (with_memory s m) c.process (listing (mover s c).work (add_of (mover s c).roots c.x) (mover s c)))
    unfolding top_offers_of top_ask_of top_go_of
    allocates_row e i k = operated (ask.Make (change.Allocate c.x)) (simp (e, in_allocate s.memory.cells c (mover s c) i)) (waits_not (λ f. omega arith)) (simp e) (simp k) (simp (e, k))

    pub drops_row : c.op ≡ 1 → Takes s.memory.cells c (mover s c) 1 → own_of s c ≡ taken_of (with_process_of s c.process (listing (mover s c).work (remove_of (mover s c).roots c.x) (mover s c)))
    unfolding top_offers_of top_ask_of top_go_of
    drops_row e i = operated ask.Nothing (simp (e, in_drop s.memory.cells c (mover s c) i)) (waits_not (λ f. omega arith)) (simp e) refl (simp e)

    pub reads_row : c.op ≡ 2 → Takes s.memory.cells c (mover s c) 2 → {v : ℕ} → look_field_of s.memory c.process c.x c.f ≡ sees_value v
        → own_of s c ≡ taken_of (with_process_of s c.process (listing (mover s c).work (add_of (mover s c).roots v) (mover s c)))
    unfolding top_offers_of top_ask_of top_go_of
    reads_row e i k =
        let l = field_told s.memory c.process c.x c.f k in
        operated (ask.Look (spot.Field c.x c.f)) (simp (e, in_read s.memory.cells c (mover s c) i)) (waits_not (λ f. omega arith)) (simp e) l.no (simp (e, l.value))

    pub stores_row : c.op ≡ 3 → Takes s.memory.cells c (mover s c) 3 → {v : ℕ} → look_field_of s.memory c.process c.x c.f ≡ sees_value v
        → own_of s c ≡ taken_of (with_process_of s c.process (storing c v (mover s c)))
    unfolding top_offers_of top_ask_of top_go_of
    stores_row e i k =
        let l = field_told s.memory c.process c.x c.f k in
        operated (ask.Look (spot.Field c.x c.f)) (simp (e, in_store s.memory.cells c (mover s c) i)) (waits_not (λ f. omega arith)) (simp e) l.no (simp (e, l.value))

    pub fences_row : c.op ≡ 4 → Takes s.memory.cells c (mover s c) 4 → fence_of s.memory c.process ≡ taken s.memory → own_of s c ≡ taken_of (with_process_of s c.process (mover s c))
    unfolding top_offers_of top_ask_of top_go_of
    fences_row e i k =
        operated ask.Fence (simp (e, in_bare s.memory.cells c (mover s c) i)) (waits_not (λ f. omega arith)) (simp e) (ap (λ (d : Done). d.no) k) (simp e)

    branched : {h : RoundType} {k : ℕ} → Branch h k → answer_place_of h ≡ k
    branched row.noop = refl
    branched row.roots = refl
    branched row.work = refl

    pub answers_row : c.op ≡ 5 → Takes s.memory.cells c (mover s c) 5 → (mover s c).part.raised ≡ true → {k : ℕ} → Branch s.system.kind k → own_of s c ≡ taken_of (with_process_of s c.process (at k no_stage (mover s c)))
    unfolding top_offers_of top_ask_of top_go_of answering
    answers_row e i u b = operated ask.Nothing (simp (e, in_bare s.memory.cells c (mover s c) i)) (waits_is e ∙ ap not u) (simp e) refl (simp (e, stage, branched b))
