-- The collector's rounds: each answer is a refusal for the first reason or a row, and each row of a round is an
-- answer. Assumes nothing.
--     Collecting      what the collector's views and rows take for granted
--     from            a number that is k at least
--     Turn, turn      the tables at a round's place
--     round_row_lem       where a round's step goes, offered and taken
--     round_view      the view of a round's step
use mathlib.Core.Path.{◌≡◌, refl, ap, ◌∙◌, subst}
use mathlib.Core.Bool.{true, ◌||◌}
use mathlib.Core.Logic.{by_cases}
use Prim.Native.Nat.{ℕ, ◌≤◌, ◌<◌}
use native.Mathlib.Omega.{arith}
use native.Mathlib.Decide.{ℕ_discrete}
use lib.Dec.{eqb}
use lib.ListN.{length}
use Rattle.base.specs.Pick.{pick}
use Rattle.base.proofs.Picking.{pick_ind, pick_no}
use Rattle.cells.specs.Sets.{remove_of}
use Rattle.memory.specs.Answers.{Sight}
use Rattle.memory.specs.Memories.{max_processes}
use Rattle.memory.specs.Asks.{Told}
use Rattle.state.specs.declared.Handshake.{Handshake}
use Rattle.state.specs.declared.RoundType.{RoundType}
use Rattle.state.specs.declared.RoundType.TheVariants as round
use Rattle.state.specs.declared.Process.{Process}
use Rattle.state.specs.declared.State.{State}
use Rattle.state.specs.declared.Choice.{Choice}
use Rattle.state.specs.declared.acts.Setting.{Setting}
use Rattle.state.specs.Codes.{row1_round, row10_look, row11_write, fence_stage, type_stage, raise_stage, poll_stage}
use Rattle.state.specs.States.{at, leaving, process_of, with_process_of, with_memory, taken_of}
use Rattle.state.specs.Acts.{advance_of, typed, raised_of, setting_of, went_of}
use Rattle.rounds.specs.Rounds.{round_offers, round_ask, raising, polling, poll_go, round_go}
use Rattle.marking.specs.Marks.{is_site_of}
use Rattle.collector.specs.Collectors.{is_round_of, collector_offers, collector_ask, row_round_of, collector_go}
use Rattle.model.specs.Offers as offer
use Rattle.model.specs.Offers.{Offer, AmongOffered, round_place, offer_of}
use Rattle.model.specs.Deeds as deed
use Rattle.model.specs.Deeds.{deed_of}
use Rattle.model.specs.Reasons.{mover}
use Rattle.model.specs.Rows as row
use Rattle.model.specs.Rows.{At, Round, Advance, Collector, flagged}
use Rattle.model.specs.Views.{View}
use Rattle.model.proofs.Numbers.{Buffered}
use Rattle.model.proofs.Seeing.{fence_taken}
use Rattle.model.proofs.Lists.{all_off_lem}
use Rattle.model.proofs.Standing.{Standing}
use Rattle.own.specs.Owns.{own_offers, own_ask, own_go}
use Rattle.model.proofs.Road.{told_by, own_of, deed_for, is_own}
use Rattle.model.proofs.Places.{Test, blank, naming, stands, place_view, place_row}

-- the mover is the collector: it stands at a place of its program, "a step zeroes what it stops using", and the
-- processes are as many as there can be
pub record Collecting (s : State) (c : Choice) : Type 0 where
  pub kind : c.kind ≡ 0
  pub first : row1_round ≤ (mover s c).place
  pub last : (mover s c).place ≤ row11_write
  pub standing : Standing (mover s c)
  pub swept : (mover s c).place ≡ row10_look → (mover s c).x ≡ 0
  pub processes : length s.procs ≡ max_processes
  pub buffered : Buffered s.memory c.process

-- a number that is k at least: it is k, or more
pub from : {P : Type 0} (n k : ℕ) → k ≤ n → (n ≡ k → P) → (k < n → P) → P
from n k l f g = by_cases (ℕ_discrete n k) f (λ h. g (omega arith))

-- what a round offers at the stage i
abbrev offered : ℕ → Process → Offer
offered i q = pick (eqb i raise_stage || eqb i poll_stage) (offer.one_of q.left) offer.nothing

-- ---- the tables at a round's place k, whatever the stage i
pub record Turn (c : Choice) (q : Process) (k : ℕ) (t : RoundType) (j l i : ℕ) : Type 0 where
  pub low : 0 < k
  pub place : round_place k ≡ true
  pub offer : offer_of (at k i q) ≡ offered i q
  pub offers : (n : ℕ) → own_offers n c (at k i q) ≡ round_offers c (at k i q)
  pub asked : own_ask c (at k i q) ≡ round_ask (at k i q)
  pub deed : deed_of c (at k i q) ≡ pick (eqb i fence_stage) deed.fences deed.apart
  pub go : (z : Setting) (v : Sight) → own_go c z v (at k i q) ≡ round_go c z (at k i q) (record { kind = t; place = j; stage = l })

pub turn : (c : Choice) (q : Process) {k j l : ℕ} {t : RoundType} → Round k t j l → (i : ℕ) → Turn c q k t j l i
unfolding offer_of deed_of own_offers own_ask own_go is_site_of is_round_of collector_offers collector_ask row_round_of collector_go
turn c q row.row1 i = record { low = omega arith; place = refl; offer = refl; offers = λ n. refl; asked = refl; deed = refl; go = λ z v. refl }
turn c q row.row3 i = record { low = omega arith; place = refl; offer = refl; offers = λ n. refl; asked = refl; deed = refl; go = λ z v. refl }
turn c q row.row4 i = record { low = omega arith; place = refl; offer = refl; offers = λ n. refl; asked = refl; deed = refl; go = λ z v. refl }
turn c q row.row5 i = record { low = omega arith; place = refl; offer = refl; offers = λ n. refl; asked = refl; deed = refl; go = λ z v. refl }
turn c q row.row6 i = record { low = omega arith; place = refl; offer = refl; offers = λ n. refl; asked = refl; deed = refl; go = λ z v. refl }
turn c q row.row8 i = record { low = omega arith; place = refl; offer = refl; offers = λ n. refl; asked = refl; deed = refl; go = λ z v. refl }

advance_is : (t : RoundType) (g : Handshake) → Advance t g (advance_of t g)
advance_is round.Noop g = row.noop
advance_is round.Roots g = row.roots
advance_is round.Work g = row.work

module _ (s : State) (c : Choice) {k j l : ℕ} {t : RoundType} (r : Round k t j l) where
  abbrev q : Process
  q = mover s c

  -- the collector at the stage i; what is asked and told there, and the state that it goes on to
  abbrev staying : ℕ → Process
  staying i = at k i q

  abbrev told : ℕ → Told
  told i = told_by s c (round_ask (staying i))

  abbrev onward : ℕ → State
  onward i = went_of (with_memory s (told i).memory) c.process (round_go c (setting_of s c.x) (staying i) (record { kind = t; place = j; stage = l }))

  -- ---- each row is an answer
  pub round_row_lem : {i : ℕ} {u : State} → At k i q → round_offers c (staying i) ≡ true → (told i).no ≡ 0 → onward i ≡ u → own_of s c ≡ taken_of u
  round_row_lem {i} a o n g = let w = turn c q r i in place_row s c a w.low (w.offers _ ∙ o) w.asked n (rw (w.go _ _) g)

  -- ---- each answer is a refusal or a row
  module _ (z : Collecting s c) (e : q.place ≡ k) where
    abbrev Rows : State → Type 0
    Rows = Collector s c c.process q

    -- the collector goes on as u
    abbrev Goes : State → Process → Type 0
    Goes x u = Rows (with_process_of x c.process u)

    here : {i : ℕ} → q.stage ≡ i → At k i q
    here h = record { place = e; stage = h }

    -- at the stage i: left is its row
    at_stage : {i : ℕ} → q.stage ≡ i → Test c (offered i q) (round_offers c (staying i)) → pick (eqb i fence_stage) deed.fences deed.apart ≡ deed_for (round_ask (staying i)) → is_own (round_ask (staying i)) ≡ true
        → (AmongOffered s.memory.cells c q (offered i q) → (told i).no ≡ 0 → Rows (onward i)) → View Rows s c (own_of s c)
    at_stage {i} h x d u f =
        let w = turn c q r i in
        place_view s c (here h) w.low Rows z.kind z.buffered x w.offer (w.offers _) w.asked (w.deed ∙ d) u (λ b n. rw (w.go _ _) (f b n))

    fence_view : q.stage ≡ fence_stage → View Rows s c (own_of s c)
    unfolding round_offers round_ask round_go
    fence_view h = at_stage h blank refl refl (λ b n. row.fences r (here h) b (fence_taken s.memory c.process n))

    type_view : q.stage ≡ type_stage → View Rows s c (own_of s c)
    unfolding round_offers round_ask round_go typed
    type_view h = at_stage h blank refl refl (λ b n. rw (all_off_lem s.procs z.processes) (row.types r (here h) b (advance_is t s.system.phase)))

    raise_view : q.stage ≡ raise_stage → View Rows s c (own_of s c)
    unfolding round_offers round_ask round_go raising raised_of
    raise_view h =
        let x : State = with_process_of s c.x (flagged (process_of s c.x)) in
        at_stage h (naming q.left) refl refl
        (λ i n. pick_no (Goes x) (remove_of q.left c.x) 0
        (λ v. row.raises_last r (here h) i.0 i.1 v)
        (λ v. subst (λ (u : Process). Goes x (leaving (remove_of q.left c.x) u)) (stands q (here h)) (row.raises r (here h) i.0 i.1 v)))

    poll_view : q.stage ≡ poll_stage → View Rows s c (own_of s c)
    unfolding round_offers round_ask round_go poll_go polling
    poll_view h =
        at_stage h (naming q.left) refl refl
        (λ i n. pick_ind (Goes s) (process_of s c.x).part.raised
        (λ u. subst (Goes s) (stands q (here h)) (row.polls_up r (here h) i.0 i.1 u))
        (λ u. pick_no (Goes s) (remove_of q.left c.x) 0
        (λ v. rw v (row.polls_last r (here h) i.0 i.1 u v))
        (λ v. subst (λ (u : Process). Goes s (leaving (remove_of q.left c.x) u)) (stands q (here h)) (row.polls r (here h) i.0 i.1 u v))))

    pub round_view : View Rows s c (own_of s c)
    round_view =
        let a : round_place q.place ≡ true = ap round_place e ∙ (turn c q r 0).place in
        from q.stage fence_stage (z.standing.round_begun a) fence_view
        (λ m. from q.stage type_stage m type_view
        (λ m. from q.stage raise_stage m raise_view
        (λ m. from q.stage poll_stage m poll_view
        (λ m. absurd (omega (arith, z.standing.round_running a))))))
