-- "Marking a cell r", at any site: each answer is a refusal for the first reason or a row of `Mark`, and each such
-- row is an answer. Assumes nothing.
--     past_next, next_past      where the process goes when its mark is over is where the program goes on
--     Site, site                a site of the mover where no root is named, from where it stands
--     mark_view                 the view of a step of its mark
--     mark_row                  each row of `Mark` is such an answer
use mathlib.Core.Path.{◌≡◌, refl, sym, ap, ◌∙◌, subst}
use mathlib.Core.Bool.{Bool, true, false, false≢true}
use mathlib.Core.Logic.{by_cases}
use Prim.Native.Nat.{ℕ, ◌≤◌, ◌<◌}
use native.Mathlib.Omega.{arith}
use native.Mathlib.Decide.{ℕ_discrete}
use lib.Dec.{eqb}
use borrow.Author.Tests.{ne_eqb}
use Rattle.base.specs.Pick.{pick, same_bit}
use Rattle.base.proofs.Picking.{pick_ind, pick_no}
use Rattle.base.proofs.Bits.{same_bit_lem, other_bit, bit_same, bit_other}
use Rattle.cells.specs.Sets.{add_of}
use Rattle.buffers.specs.declared.Phase.{Phase}
use Rattle.buffers.specs.declared.Phase.TheVariants as phase
use Rattle.buffers.specs.declared.Spot.TheVariants as spot
use Rattle.buffers.specs.declared.Store.{Store}
use Rattle.buffers.specs.declared.Store.TheVariants as store
use Rattle.memory.specs.declared.Memory.{Memory}
use Rattle.memory.specs.declared.asks.Ask.{Ask}
use Rattle.memory.specs.declared.asks.Ask.TheVariants as ask
use Rattle.memory.specs.declared.asks.Change.TheVariants as change
use Rattle.memory.specs.Looks.{look_mark_of, look_sense_of, look_phase_of}
use Rattle.memory.specs.Steps.{unlock_of}
use Rattle.memory.specs.Asks.{looked_of}
use Rattle.memory.proofs.Effects.{is_taken}
use Rattle.memory.proofs.Tellings.{mark_told, sense_told, phase_told}
use Rattle.state.specs.declared.Process.{Process}
use Rattle.state.specs.declared.State.{State}
use Rattle.state.specs.declared.Choice.{Choice}
use Rattle.state.specs.Codes.{top, store_mark_old, store_mark_y, roots_mark, row7_mark, no_stage, look_stage, sense_stage, phase_stage, lock_stage, again_stage, write_stage, unlock_stage}
use Rattle.state.specs.States.{at, marking, listing, with_process_of, with_memory, taken_of}
use Rattle.state.specs.Choices.{is_blank}
use Rattle.marking.specs.Marks.{is_site_of, names_root_of, mark_offers, marked_cell, stage_ask_of, mark_ask, named_root_of, over_of, is_idle_of, look_go, sense_go, phase_go, again_go, write_go, unlock_go, stage_go_of, past_of, past_over_of, mark_go}
use Rattle.mutator.specs.Mutators.{flag_waits}
use Rattle.model.specs.Offers as offer
use Rattle.model.specs.Offers.{Bare, mark_place, offer_of}
use Rattle.model.specs.Deeds.{Deed, cell_of, mark_deed, deed_of}
use Rattle.model.specs.Reasons.{mover}
use Rattle.model.specs.Rows as row
use Rattle.model.specs.Rows.{sees_bit, sees_phase, unnoted, Next, Mark}
use Rattle.model.specs.Views.{View}
use Rattle.model.proofs.Numbers.{Buffered}
use Rattle.model.proofs.Offering.{among, amid, blank_bare, bare_blank}
use Rattle.model.proofs.Seeing.{bit_seen, phase_seen}
use Rattle.model.proofs.Standing.{Standing}
use Rattle.own.specs.Owns.{own_offers, own_ask, own_go}
use Rattle.model.proofs.Road.{told_by, gone_on, own_of, deed_for, is_own, step_view, own_goes}

-- ---- past a mark
no_site : {k : ℕ} → (k ≡ store_mark_old → ⊥) → (k ≡ store_mark_y → ⊥) → (k ≡ roots_mark → ⊥) → (k ≡ row7_mark → ⊥) → is_site_of k ≡ false
unfolding is_site_of
no_site {k} a b d e = rw (ne_eqb k store_mark_old a, ne_eqb k store_mark_y b, ne_eqb k roots_mark d, ne_eqb k row7_mark e) refl

pub past_next : (w : Process) → is_site_of w.place ≡ true → Next w (past_of (at w.place no_stage w))
unfolding past_of
past_next w t =
    pick_no (Next w) w.place store_mark_old (λ e. pick_no (Next w) w.y 0 (λ i. row.write e i) (λ i. row.new e i))
    (λ a. pick_no (Next w) w.place store_mark_y (λ e. row.marked e)
    (λ b. pick_no (Next w) w.place roots_mark
    (λ e. pick_no (Next w) w.left 0 (λ i. row.roots e i) (λ i. subst (λ (k : ℕ). Next w (at k look_stage w)) (sym e) (row.root e i)))
    (λ d. pick_no (Next w) w.place row7_mark (λ e. pick_no (Next w) w.left 0 (λ i. row.fields e i) (λ i. row.field e i))
    (λ f. absurd (false≢true (sym (no_site a b d f) ∙ t))))))

pub next_past : {w t : Process} → Next w t → past_of (at w.place no_stage w) ≡ t
unfolding past_of
next_past {w} (row.write e i) = simp (e, i)
next_past {w} (row.new e i) = simp (e, ne_eqb w.y 0 i)
next_past (row.marked e) = simp e
next_past {w} (row.roots e i) = simp (e, i)
next_past {w} (row.root e i) = simp (e, ne_eqb w.left 0 i)
next_past {w} (row.fields e i) = simp (e, i)
next_past {w} (row.field e i) = simp (e, ne_eqb w.left 0 i)

-- ---- what the code's words say
over_is : (p : ℕ) (q : Process) → over_of p q ≡ at q.place no_stage (unnoted p q)
unfolding over_of unnoted
over_is p q = go (eqb p 0)
  where
    go : (t : Bool) → pick t (at q.place no_stage (marking 0 false q.sense 0 q)) (at q.place no_stage (marking 0 false false 0 q)) ≡ at q.place no_stage (marking 0 false (pick t q.sense false) 0 q)
    go true = refl
    go false = refl

-- a mark that is over goes past its site
pub over_past : (p : ℕ) (q : Process) → past_over_of (over_of p q) ≡ past_of (at q.place no_stage (unnoted p q))
unfolding past_over_of
over_past p q = rw (over_is p q) refl

is_idle_lem : (h : Phase) → is_idle_of h ≡ true → h ≡ phase.Idle
is_idle_lem phase.Idle e = refl
is_idle_lem phase.Init e = absurd (false≢true e)
is_idle_lem phase.Mark e = absurd (false≢true e)
is_idle_lem phase.Sweep e = absurd (false≢true e)

not_idle : (h : Phase) → (h ≡ phase.Idle → ⊥) → is_idle_of h ≡ false
not_idle phase.Idle f = absurd (f refl)
not_idle phase.Init f = refl
not_idle phase.Mark f = refl
not_idle phase.Sweep f = refl

is_busy : (h : Phase) → is_idle_of h ≡ false → h ≡ phase.Idle → ⊥
is_busy h e f = false≢true (sym e ∙ rw f refl)

-- ---- a site of the mover where no root is named: the cell is known, and nothing is offered
pub record Site (s : State) (c : Choice) : Type 0 where
  pub kind : c.kind ≡ 0
  pub place : is_site_of (mover s c).place ≡ true
  pub known : names_root_of (mover s c) ≡ false
  pub offered : offer_of (mover s c) ≡ offer.nothing
  pub deed : deed_of c (mover s c) ≡ mark_deed c (mover s c)
  pub cell : cell_of c (mover s c) ≡ marked_cell c (mover s c)
  pub begun : 0 < (mover s c).stage
  pub running : (mover s c).stage ≤ unlock_stage
  pub buffered : Buffered s.memory c.process

module _ (c : Choice) (q : Process) where
  -- the deed is the mark's, and it names that cell
  mark_deed_lem : mark_place q.place ≡ true → deed_of c q ≡ mark_deed c q
  unfolding deed_of
  mark_deed_lem m = pick_no (λ (d : Deed). d ≡ mark_deed c q) q.place top (λ e. absurd (false≢true (sym (ap mark_place e) ∙ m))) (λ _. rw m)

  cell_same : cell_of c q ≡ marked_cell c q
  unfolding marked_cell cell_of names_root_of
  cell_same = go (eqb q.place roots_mark) refl
    where
      go : (b : Bool) → eqb q.place roots_mark ≡ b → cell_of c q ≡ marked_cell c q
      go true h = rw h refl
      go false h = rw h refl

pub site : (s : State) (c : Choice) → c.kind ≡ 0 → Standing (mover s c) → Buffered s.memory c.process → is_site_of (mover s c).place ≡ true → mark_place (mover s c).place ≡ true → names_root_of (mover s c) ≡ false → offer_of (mover s c) ≡ offer.nothing → Site s c
site s c k z b i m n o =
    record {
      kind = k;
      place = i;
      known = n;
      offered = o;
      deed = mark_deed_lem c (mover s c) m;
      cell = cell_same c (mover s c);
      begun = z.mark_begun m;
      running = z.mark_running m;
      buffered = b;
    }

module _ (s : State) (c : Choice) (z : Site s c) where
  -- the process after the step, with what was seen
  abbrev after : Store → Process
  after v = past_over_of (stage_go_of c.process (marked_cell c (mover s c)) v (mover s c))

  blank_is : own_offers s.memory.cells c (mover s c) ≡ is_blank c
  unfolding own_offers mark_offers
  blank_is = rw (z.place, z.known) refl

  ask_is : own_ask c (mover s c) ≡ stage_ask_of (marked_cell c (mover s c)) (mover s c)
  unfolding own_ask mark_ask
  ask_is = rw z.place refl

  not_top : (mover s c).place ≡ top → ⊥
  unfolding is_site_of
  not_top e = false≢true (ap is_site_of (sym e) ∙ z.place)

  up_is : flag_waits c (mover s c) ≡ false
  unfolding flag_waits
  up_is = rw (ne_eqb (mover s c).place top not_top) refl

  gone_is : (a : Ask) → gone_on s c (told_by s c a) ≡ with_process_of (with_memory s (told_by s c a).memory) c.process (after (told_by s c a).sight.store)
  unfolding own_go mark_go named_root_of
  gone_is a = rw (z.place, z.known) refl

  -- ---- each answer is a refusal or a row
  module _ (R : State → Type 0) (row_of : (n : Memory) (t : Process) → Bare c → Mark s.memory c.process (marked_cell c (mover s c)) (mover s c) n t → R (with_process_of (with_memory s n) c.process t)) where
    abbrev OfMark : Memory → Process → Type 0
    OfMark n t = Mark s.memory c.process (marked_cell c (mover s c)) (mover s c) n t

    -- at the stage j, which asks a: left is its row
    at_stage : {j : ℕ} (a : Ask) → is_own a ≡ true → (mover s c).stage ≡ j → stage_ask_of (marked_cell c (mover s c)) (mover s c) ≡ a → mark_deed c (mover s c) ≡ deed_for a
        → ((told_by s c a).no ≡ 0 → OfMark (told_by s c a).memory (after (told_by s c a).sight.store)) → View R s c (own_of s c)
    at_stage a o i e d f =
        step_view s c z.buffered (record {
          kind = z.kind;
          offers = λ t. among s c z.offered (blank_bare c (sym blank_is ∙ t));
          refuses = λ t k. false≢true (sym t ∙ blank_is ∙ bare_blank c (amid s c z.offered k));
          down = λ t. absurd (false≢true (sym up_is ∙ t));
          up = λ _ t. not_top t.place;
          asked = ask_is ∙ e;
          deed = z.deed ∙ d;
          own = o;
          row = λ k _ n. rw (gone_is a) (row_of _ _ (amid s c z.offered k) (f n));
        })

    -- the mark is over, and its process is u
    over : {n : Memory} (u : Process) → u.place ≡ (mover s c).place → ((t : Process) → Next (unnoted c.process u) t → OfMark n t) → OfMark n (past_over_of (over_of c.process u))
    unfolding unnoted
    over u e f = rw (over_past c.process u) (f _ (past_next (unnoted c.process u) (ap is_site_of e ∙ z.place)))

    abbrev r : ℕ
    r = marked_cell c (mover s c)

    look_view : (mover s c).stage ≡ look_stage → View R s c (own_of s c)
    unfolding stage_ask_of mark_deed stage_go_of look_go past_over_of looked_of look_mark_of
    look_view i =
        at_stage (ask.Look (spot.Mark r)) refl i (simp i) (simp (i, z.cell))
        (λ n. simp i (row.looks i (bit_seen (look_mark_of s.memory c.process r) n)))

    sensed : (b : Bool) → (mover s c).stage ≡ sense_stage → look_sense_of s.memory c.process ≡ sees_bit b → OfMark s.memory (past_over_of (sense_go c.process b (mover s c)))
    unfolding sense_go past_over_of
    sensed b i e =
        pick_ind (λ (t : Process). OfMark s.memory (past_over_of t)) (same_bit (mover s c).look b)
        (λ t. let h = same_bit_lem (mover s c).look b t in over (marking (mover s c).cell (mover s c).look b (mover s c).grey (mover s c)) refl
        (λ t n. row.equal i (e ∙ ap sees_bit (sym h)) (subst (λ (d : Bool). Next (unnoted c.process (marking (mover s c).cell (mover s c).look d (mover s c).grey (mover s c))) t) (sym h) n)))
        (λ t. let h = other_bit (mover s c).look b t in rw (← h) (row.unequal i (e ∙ ap sees_bit (sym h))))

    sense_view : (mover s c).stage ≡ sense_stage → View R s c (own_of s c)
    unfolding stage_ask_of mark_deed stage_go_of looked_of look_sense_of
    sense_view i =
        at_stage (ask.Look spot.Sense) refl i (simp i) (simp i)
        (λ n. let l = look_sense_of s.memory c.process in simp i (sensed l.bit i (bit_seen l n)))

    phased : (h : Phase) → (mover s c).stage ≡ phase_stage → look_phase_of s.memory c.process ≡ sees_phase h → OfMark s.memory (past_over_of (phase_go c.process h (mover s c)))
    unfolding phase_go past_over_of
    phased h i e =
        pick_ind (λ (t : Process). OfMark s.memory (past_over_of t)) (is_idle_of h)
        (λ t. over (mover s c) refl (λ u n. row.idle i (e ∙ ap sees_phase (is_idle_lem h t)) n))
        (λ t. row.busy i e (is_busy h t))

    phase_view : (mover s c).stage ≡ phase_stage → View R s c (own_of s c)
    unfolding stage_ask_of mark_deed stage_go_of looked_of look_phase_of
    phase_view i =
        at_stage (ask.Look spot.Phase) refl i (simp i) (simp i)
        (λ n. let l = look_phase_of s.memory c.process in simp i (phased l.phase i (phase_seen l n)))

    lock_view : (mover s c).stage ≡ lock_stage → View R s c (own_of s c)
    unfolding stage_ask_of mark_deed stage_go_of past_over_of
    lock_view i = at_stage (ask.Make change.Lock) refl i (simp i) (simp i) (λ n. simp i (row.locks i (is_taken _ n)))

    agreed : (b : Bool) → (mover s c).stage ≡ again_stage → look_mark_of s.memory c.process r ≡ sees_bit b → OfMark s.memory (past_over_of (again_go b (mover s c)))
    unfolding again_go past_over_of
    agreed b i e =
        pick_ind (λ (t : Process). OfMark s.memory (past_over_of t)) (same_bit (mover s c).look b)
        (λ t. row.agrees i (e ∙ ap sees_bit (sym (same_bit_lem (mover s c).look b t))))
        (λ t. row.differs i (e ∙ ap sees_bit (sym (other_bit (mover s c).look b t))))

    again_view : (mover s c).stage ≡ again_stage → View R s c (own_of s c)
    unfolding stage_ask_of mark_deed stage_go_of looked_of look_mark_of
    again_view i =
        at_stage (ask.Look (spot.Mark r)) refl i (simp i) (simp (i, z.cell))
        (λ n. let l = look_mark_of s.memory c.process r in simp i (agreed l.bit i (bit_seen l n)))

    write_view : (mover s c).stage ≡ write_stage → View R s c (own_of s c)
    unfolding stage_ask_of mark_deed stage_go_of write_go past_over_of
    write_view i =
        at_stage (ask.Make (change.Write (store.Mark r (mover s c).sense))) refl i (simp i) (simp (i, z.cell)) (λ n. simp i (row.writes i (is_taken _ n)))

    unlocked : (mover s c).stage ≡ unlock_stage → (unlock_of s.memory c.process).no ≡ 0 → OfMark (unlock_of s.memory c.process).memory (past_over_of (unlock_go c.process r (mover s c)))
    unfolding unlock_go
    unlocked i n =
        pick_no (λ (t : Process). OfMark (unlock_of s.memory c.process).memory (past_over_of t)) (mover s c).grey 0
        (λ g. over (mover s c) refl (λ t k. row.loses i (is_taken _ n) g k))
        (λ g. over (listing (add_of (mover s c).work r) (mover s c).roots (mover s c)) refl (λ t k. row.wins i (is_taken _ n) g k))

    unlock_view : (mover s c).stage ≡ unlock_stage → View R s c (own_of s c)
    unfolding stage_ask_of mark_deed stage_go_of
    unlock_view i = at_stage (ask.Make change.Unlock) refl i (simp i) (simp i) (λ n. simp i (unlocked i n))

    pub mark_view : View R s c (own_of s c)
    mark_view =
        from look_stage z.begun look_view
        (λ l. from sense_stage l sense_view
        (λ l. from phase_stage l phase_view
        (λ l. from lock_stage l lock_view
        (λ l. from again_stage l again_view
        (λ l. from write_stage l write_view
        (λ l. from unlock_stage l unlock_view
        (λ l. absurd (omega (arith, z.running)))))))))
      where
        from : (k : ℕ) → k ≤ (mover s c).stage → ((mover s c).stage ≡ k → View R s c (own_of s c)) → (k < (mover s c).stage → View R s c (own_of s c)) → View R s c (own_of s c)
        from k l f g = by_cases (ℕ_discrete (mover s c).stage k) f (λ h. g (omega arith))

  -- ---- each row is an answer
  module _ (b : Bare c) where
    abbrev cell : ℕ
    cell = marked_cell c (mover s c)

    answers : (a : Ask) {t : State} → stage_ask_of cell (mover s c) ≡ a → (told_by s c a).no ≡ 0 → with_process_of (with_memory s (told_by s c a).memory) c.process (after (told_by s c a).sight.store) ≡ t → own_of s c ≡ taken_of t
    answers a e n g = own_goes s c (blank_is ∙ bare_blank c b) up_is (ask_is ∙ e) n (gone_is a ∙ g)

    ends : {n : Memory} (u : Process) {t : Process} → Next (unnoted c.process u) t → with_process_of (with_memory s n) c.process (past_over_of (over_of c.process u)) ≡ with_process_of (with_memory s n) c.process t
    unfolding unnoted
    ends {n} u k = ap (with_process_of (with_memory s n) c.process) (over_past c.process u ∙ next_past k)

    pub mark_row : {n : Memory} {t : Process} → Mark s.memory c.process cell (mover s c) n t → own_of s c ≡ taken_of (with_process_of (with_memory s n) c.process t)
    unfolding stage_ask_of stage_go_of past_over_of over_of look_go sense_go phase_go again_go write_go unlock_go
    mark_row (row.looks i e) = let k = mark_told s.memory c.process cell e in answers (ask.Look (spot.Mark cell)) (simp i) k.no (simp (i, k.bit))
    mark_row (row.equal i e w) =
        let k = sense_told s.memory c.process e in
        answers (ask.Look spot.Sense) (simp i) k.no (simp (i, k.bit, bit_same) (ends (marking (mover s c).cell (mover s c).look (mover s c).look (mover s c).grey (mover s c)) w))
    mark_row (row.unequal i e) = let k = sense_told s.memory c.process e in answers (ask.Look spot.Sense) (simp i) k.no (simp (i, k.bit, bit_other))
    mark_row (row.idle i e w) = let k = phase_told s.memory c.process e in answers (ask.Look spot.Phase) (simp i) k.no (simp (i, k.phase) (ends (mover s c) w))
    mark_row (row.busy i {h} e f) = let k = phase_told s.memory c.process e in answers (ask.Look spot.Phase) (simp i) k.no (simp (i, k.phase, not_idle h f))
    mark_row (row.locks i e) = answers (ask.Make change.Lock) (simp i) (simp e) (simp (i, e))
    mark_row (row.agrees i e) = let k = mark_told s.memory c.process cell e in answers (ask.Look (spot.Mark cell)) (simp i) k.no (simp (i, k.bit, bit_same))
    mark_row (row.differs i e) = let k = mark_told s.memory c.process cell e in answers (ask.Look (spot.Mark cell)) (simp i) k.no (simp (i, k.bit, bit_other))
    mark_row (row.writes i e) = answers (ask.Make (change.Write (store.Mark cell (mover s c).sense))) (simp i) (simp e) (simp (i, e))
    mark_row (row.wins i e g w) =
        answers (ask.Make change.Unlock) (simp i) (simp e) (simp (i, e, ne_eqb (mover s c).grey 0 g) (ends (listing (add_of (mover s c).work cell) (mover s c).roots (mover s c)) w))
    mark_row (row.loses i e g w) = answers (ask.Make change.Unlock) (simp i) (simp e) (simp (i, e, g) (ends (mover s c) w))
