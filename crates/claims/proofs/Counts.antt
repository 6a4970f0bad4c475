-- A mutator is at most one round behind: the types set, counted against the answers it has finished. Assumes nothing.
--     Turn, turned          a row of the collector's sets the type, and nobody is in step after it, or is at another
--                           place
--     Own, owned            a row of a mutator's finishes an answer, and it is in step after it, or leaves its part
--                           alone
--     row_behind            one row: the count and how far the mutator is behind
--     step_behind           one choice
--     run_behind            a run
use mathlib.Core.Path.{◌≡◌, refl, sym, ap, subst}
use mathlib.Core.Bool.{Bool, true, false}
use mathlib.Core.List.{List, [], ◌∷◌}
use mathlib.Core.Logic.{◌⊎◌, inl, inr}
use Prim.Native.Nat.{ℕ, ◌+◌, ◌≤◌, ◌<◌}
use native.Mathlib.Decide.{ℕ_discrete}
use native.Mathlib.Omega.{arith}
use lib.Dec.{eqb}
use lib.ListN.{set}
use lib.Seq.{get_or-set_other}
use borrow.Author.Tests.{ne_eqb, eq-eqb}
use Rattle.base.specs.Pick.{pick}
use Rattle.cells.proofs.Bools.{not_both}
use Rattle.state.specs.declared.Process.{Process}
use Rattle.state.specs.declared.State.{State}
use Rattle.state.specs.declared.Choice.{Choice}
use Rattle.state.specs.declared.RoundType.{RoundType}
use Rattle.state.specs.declared.RoundType.TheVariants as round
use Rattle.state.specs.States.{Answer, no_process, mutators_of, process_of, taken_of, refused_of}
use Rattle.state.specs.declared.opening.Heap.{Heap}
use Rattle.state.specs.Codes.{row6_take, row8_take, no_stage, fence_stage, type_stage, raise_stage, poll_stage}
use Rattle.state.specs.Openings.{open_collector, opening_of}
use Rattle.formed.specs.Fits.{among_of, Among, WellFormed}
use Rattle.model.specs.Rows.{At, Marks, Mutator, Round, all_off, Collector, Row}
use Rattle.stays_formed.specs.Leaves.{Beside}
use Rattle.stays_formed.proofs.Frames.{off_process}
use Rattle.claims.proofs.Processes.{replaced}
use Rattle.formed.proofs.Keeps.{process_other}
use Rattle.stays_formed.proofs.Collector.{round_place_lem}
use Rattle.stays_formed.proofs.Leaves.{row_counts, row_others}
use Rattle.engine.specs.Steps.{step_of}
use Rattle.engine.proofs.Theorems.{answered}
use Rattle.claims.specs.Posted.{busy_of}
use Rattle.claims.specs.Answering.{answer_places}
use Rattle.claims.specs.Handshakes.{Handshakes}
use Rattle.claims.specs.Inv.{Inv}
use Rattle.claims.specs.Runs.{run_of}
use Rattle.claims.specs.Counts.{types_at, finish_places, sets_type, finishes_answer, once_of, times_of, behind_by, rounds_behind, RunBehind}
use Rattle.claims.proofs.Posted.{mark_part}
use Rattle.claims.proofs.Flags.{settled}
use Rattle.claims.proofs.Inv.{opening_inv, step_inv}
use Rattle.claims.proofs.Runs.{taken_row, step_keeps}

-- ---- the collector
data Turn (q : Process) (t : State) : Type 0 where
  sets : types_at q.place q.stage ≡ true → busy_of q.place q.stage ≡ false → ((m : ℕ) → 0 < m → (process_of t m).part.in_step ≡ false) → Turn q t
  other : types_at q.place q.stage ≡ false → Turn q t

at_types : {k j : ℕ} {q : Process} → At k j q → types_at k j ≡ false → types_at q.place q.stage ≡ false
at_types a e = rw (a.place, a.stage) e

round_types : {k j l : ℕ} {t : RoundType} {q : Process} (i : ℕ) → Round k t j l → At k i q → eqb i type_stage ≡ false → types_at q.place q.stage ≡ false
round_types i r a e = at_types a (rw (round_place_lem r, e) refl)

take_types : {q : Process} → (At row6_take no_stage q) ⊎ (At row8_take no_stage q) → types_at q.place q.stage ≡ false
take_types (inl a) = at_types a refl
take_types (inr a) = at_types a refl

mark_types : {q : Process} {r : ℕ} → Marks q r → types_at q.place q.stage ≡ false
mark_types (Marks.old e) = rw e refl
mark_types (Marks.new e) = rw e refl
mark_types (Marks.root e) = rw e refl
mark_types (Marks.field e) = rw e refl

module _ (s : State) (c : Choice) where
  turned : {q : Process} {t : State} → Collector s c 0 q t → Turn q t
  turned (Collector.fences r a b e) = Turn.other (round_types fence_stage r a refl)
  turned (Collector.types r a b d) =
      Turn.sets (rw (a.place, a.stage, round_place_lem r) refl) (rw (a.place, a.stage, round_place_lem r) refl)
      (λ m x. rw (get_or-set_other (all_off s.procs) 0 m _ no_process (λ i. omega arith), off_process s m x) refl)
  turned (Collector.raises r a b m e) = Turn.other (round_types raise_stage r a refl)
  turned (Collector.raises_last r a b m e) = Turn.other (round_types raise_stage r a refl)
  turned (Collector.polls_up r a b m e) = Turn.other (round_types poll_stage r a refl)
  turned (Collector.polls r a b m e h) = Turn.other (round_types poll_stage r a refl)
  turned (Collector.polls_last r a b m e h) = Turn.other (round_types poll_stage r a refl)
  turned (Collector.reads_sense a b e) = Turn.other (at_types a refl)
  turned (Collector.writes_sense a b e) = Turn.other (at_types a refl)
  turned (Collector.writes_init a b e) = Turn.other (at_types a refl)
  turned (Collector.writes_mark a b e) = Turn.other (at_types a refl)
  turned (Collector.writes_alloc a b e) = Turn.other (at_types a refl)
  turned (Collector.takes a b h) = Turn.other (take_types a)
  turned (Collector.takes_none a b h) = Turn.other (take_types a)
  turned (Collector.reads_first a b e h) = Turn.other (at_types a refl)
  turned (Collector.reads_first_null a b e) = Turn.other (at_types a refl)
  turned (Collector.marks b i e) = Turn.other (mark_types i)
  turned (Collector.reads_next a b e h) = Turn.other (at_types a refl)
  turned (Collector.reads_next_null a b e n) = Turn.other (at_types a refl)
  turned (Collector.reads_last_null a b e n) = Turn.other (at_types a refl)
  turned (Collector.drops a b h) = Turn.other (at_types a refl)
  turned (Collector.drops_last a b h) = Turn.other (at_types a refl)
  turned (Collector.writes_sweep a b e) = Turn.other (at_types a refl)
  turned (Collector.spares a b m e h) = Turn.other (at_types a refl)
  turned (Collector.spares_last a b m e h) = Turn.other (at_types a refl)
  turned (Collector.condemns a b m e) = Turn.other (at_types a refl)
  turned (Collector.frees a b e h) = Turn.other (at_types a refl)
  turned (Collector.frees_last a b e h) = Turn.other (at_types a refl)
  turned (Collector.writes_idle a b e) = Turn.other (at_types a refl)

-- ---- a mutator
data Own (s : State) (p : ℕ) (q : Process) (t : State) : Type 0 where
  ends : (o : Process) → t.procs ≡ set s.procs p o → (i : RoundType) → Among q.place (answer_places i) → among_of q.place finish_places ≡ true → o.part.in_step ≡ true → Own s p q t
  keeps : (o : Process) → t.procs ≡ set s.procs p o → among_of q.place finish_places ≡ false → o.part ≡ q.part → Own s p q t

mark_place_lem : {q : Process} {r : ℕ} → Marks q r → among_of q.place finish_places ≡ false
mark_place_lem (Marks.old e) = rw e refl
mark_place_lem (Marks.new e) = rw e refl
mark_place_lem (Marks.root e) = rw e refl
mark_place_lem (Marks.field e) = rw e refl

module _ (s : State) (c : Choice) (p : ℕ) where
  owned : {q : Process} {t : State} → Mutator s c p q t → Own s p q t
  owned (Mutator.allocates a o x l g y e) = Own.keeps _ refl (rw a.place refl) refl
  owned (Mutator.drops a o m g y) = Own.keeps _ refl (rw a.place refl) refl
  owned (Mutator.reads a o m g y e h) = Own.keeps _ refl (rw a.place refl) refl
  owned (Mutator.reads_null a o m g y e) = Own.keeps _ refl (rw a.place refl) refl
  owned (Mutator.stores a o m g y e h) = Own.keeps _ refl (rw a.place refl) refl
  owned (Mutator.stores_new a o m g y e) = Own.keeps _ refl (rw a.place refl) refl
  owned (Mutator.stores_null a o m g y e) = Own.keeps _ refl (rw a.place refl) refl
  owned (Mutator.fences a o x g y e) = Own.keeps _ refl (rw a.place refl) refl
  owned (Mutator.answers a o x g y u b) = Own.keeps _ refl (rw a.place refl) refl
  owned (Mutator.marks b i h {t = t} e) = Own.keeps t refl (mark_place_lem i) (mark_part e)
  owned (Mutator.looks_root a o m e) = Own.keeps _ refl (rw a.place refl) refl
  owned (Mutator.writes a b e) = Own.keeps _ refl (rw a.place refl) refl
  owned (Mutator.fences_noop a b e) = Own.keeps _ refl (rw a.place refl) refl
  owned (Mutator.fences_work a b e) = Own.keeps _ refl (rw a.place refl) refl
  owned (Mutator.fences_roots a b e h) = Own.keeps _ refl (rw a.place refl) refl
  owned (Mutator.fences_none a b e h) = Own.keeps _ refl (rw a.place refl) refl
  owned (Mutator.finishes_noop a b) = Own.ends _ refl round.Noop (rw a.place refl) (rw a.place refl) refl
  owned (Mutator.finishes_roots a b) = Own.ends _ refl round.Roots (rw a.place refl) (rw a.place refl) refl
  owned (Mutator.finishes_work a b) = Own.ends _ refl round.Work (rw a.place refl) (rw a.place refl) refl

-- ---- one row: one more type set or one more answer, or neither
abbrev Balance : State → Choice → State → ℕ → Type 0
Balance s c t m = pick (sets_type s c) 1 0 + rounds_behind (process_of s m) ≡ pick (finishes_answer m s c) 1 0 + rounds_behind (process_of t m)

module _ (a b x y : Bool) where
  level : a ≡ false → b ≡ false → y ≡ x → pick a 1 0 + behind_by x ≡ pick b 1 0 + behind_by y
  level e f g = rw (e, f, g) refl

  up_one : a ≡ true → b ≡ false → x ≡ true → y ≡ false → pick a 1 0 + behind_by x ≡ pick b 1 0 + behind_by y
  up_one e f g h = rw (e, f, g, h) refl

  down_one : a ≡ false → b ≡ true → x ≡ false → y ≡ true → pick a 1 0 + behind_by x ≡ pick b 1 0 + behind_by y
  down_one e f g h = rw (e, f, g, h) refl

module _ (s : State) (c : Choice) (t : State) (m : ℕ) where
  neither : sets_type s c ≡ false → finishes_answer m s c ≡ false → (process_of t m).part.in_step ≡ (process_of s m).part.in_step → Balance s c t m
  neither = level (sets_type s c) (finishes_answer m s c) (process_of s m).part.in_step (process_of t m).part.in_step

  one_type : sets_type s c ≡ true → finishes_answer m s c ≡ false → (process_of s m).part.in_step ≡ true → (process_of t m).part.in_step ≡ false → Balance s c t m
  one_type = up_one (sets_type s c) (finishes_answer m s c) (process_of s m).part.in_step (process_of t m).part.in_step

  one_answer : sets_type s c ≡ false → finishes_answer m s c ≡ true → (process_of s m).part.in_step ≡ false → (process_of t m).part.in_step ≡ true → Balance s c t m
  one_answer = down_one (sets_type s c) (finishes_answer m s c) (process_of s m).part.in_step (process_of t m).part.in_step

module _ (s : State) (c : Choice) (t : State) (w : WellFormed s) (v : Handshakes s) where
  -- the other process keeps its in-step bit, unless the type is set
  beside : {m : ℕ} {q o n : Process} → types_at q.place q.stage ≡ false → Beside c q m o n → n.part.in_step ≡ o.part.in_step
  beside e Beside.same = refl
  beside e (Beside.raises r a i) = refl
  beside {q = q} e (Beside.types r a) =
      let u : types_at q.place q.stage ≡ true = rw (a.place, a.stage, round_place_lem r) refl in
      absurd (not_both u e)

  turn_behind : (m : ℕ) → 0 < m → m ≤ mutators_of s → c.kind ≡ 0 → c.process ≡ 0 → Row s c t → Turn (process_of s 0) t → Balance s c t m
  turn_behind m pos mine k z r (Turn.sets e b f) =
      one_type s c t m (rw (k, z) e) (rw (k, ne_eqb c.process m (λ i. omega arith)) refl) (settled (process_of s 0) m b (v.flags m pos mine)).1 (f m pos)
  turn_behind m pos mine k z r (Turn.other e) =
      let same : Beside c (process_of s 0) m (process_of s m) (process_of t m) = subst (λ (i : ℕ). Beside c (process_of s i) m (process_of s m) (process_of t m)) z (row_others w r m (λ i. omega arith)) in
      neither s c t m (rw (k, z) e) (rw (k, ne_eqb c.process m (λ i. omega arith)) refl) (beside e same)

  module _ (p : ℕ) (pos : 0 < p) (mine : p ≤ mutators_of s) (k : c.kind ≡ 0) (z : c.process ≡ p) where
    no_type : sets_type s c ≡ false
    no_type = rw (k, ne_eqb c.process 0 (λ i. omega arith)) refl

    -- the process that steps, and another
    becomes : (o : Process) → t.procs ≡ set s.procs p o → process_of t p ≡ o
    becomes o e = rw e (replaced s w p o mine)

    remains : (o : Process) (m : ℕ) → (m ≡ p → ⊥) → t.procs ≡ set s.procs p o → process_of t m ≡ process_of s m
    remains o m n e = rw e (process_other s p m o n)

    own_here : Own s p (process_of s p) t → Balance s c t p
    own_here (Own.ends o e i a f g) =
        let up = v.answering p pos mine i a in
        one_answer s c t p no_type (rw (k, eq-eqb c.process p z) f) ((v.table p pos mine).flag up.0) (rw (becomes o e) g)
    own_here (Own.keeps o e f g) =
        neither s c t p no_type (rw (k, eq-eqb c.process p z) f) (rw (becomes o e, g) refl)

    own_there : (m : ℕ) → (m ≡ p → ⊥) → Own s p (process_of s p) t → Balance s c t m
    own_there m n (Own.ends o e i a f g) = neither s c t m no_type (rw (k, ne_eqb c.process m (λ i. omega arith)) refl) (rw (remains o m n e) refl)
    own_there m n (Own.keeps o e f g) = neither s c t m no_type (rw (k, ne_eqb c.process m (λ i. omega arith)) refl) (rw (remains o m n e) refl)

    own_behind : (m : ℕ) → Dec (m ≡ p) → Own s p (process_of s p) t → Balance s c t m
    own_behind m (yes e) f = subst (λ (i : ℕ). Balance s c t i) (sym e) (own_here f)
    own_behind m (no e) f = own_there m e f

row_behind : (s : State) (c : Choice) {t : State} (m : ℕ) → WellFormed s → Handshakes s → 0 < m → m ≤ mutators_of s → Row s c t → Balance s c t m
row_behind s c {t} m w v pos mine (Row.collector k z r) = turn_behind s c t w v m pos mine k z (Row.collector k z r) (turned s c r)
row_behind s c {t} m w v pos mine (Row.mutator k {p = p} z a b r) = own_behind s c t w v p a b k z m (ℕ_discrete m p) (owned s c p r)
row_behind s c {t} m w v pos mine (Row.commits k z a b h) = neither s c t m (rw k refl) (rw k refl) refl

-- ---- one choice
module _ (m : ℕ) (pos : 0 < m) where
  step_behind : (s : State) (c : Choice) → Inv s → m ≤ mutators_of s →
      once_of sets_type s c + rounds_behind (process_of s m) ≡ once_of (finishes_answer m) s c + rounds_behind (process_of (step_of s c).state m)
  step_behind s c v mine = go (answered s c)
    where
      go : (step_of s c ≡ taken_of (step_of s c).state) ⊎ ((0 < (step_of s c).no) × (step_of s c ≡ refused_of (step_of s c).no s)) →
          once_of sets_type s c + rounds_behind (process_of s m) ≡ once_of (finishes_answer m) s c + rounds_behind (process_of (step_of s c).state m)
      go (inl e) = rw (eq-eqb (step_of s c).no 0 (ap (λ (a : Answer). a.no) e)) (row_behind s c m v.formed v.handshakes pos mine (taken_row s c e))
      go (inr e) = rw (ne_eqb (step_of s c).no 0 (λ i. omega (arith, e.0)), ap (λ (a : Answer). a.state) e.1) refl

  -- a step leaves the count of mutators
  there : (s : State) (c : Choice) → m ≤ mutators_of s → m ≤ mutators_of (step_of s c).state
  there = step_keeps (λ u. m ≤ mutators_of u) (λ u d x a r. rw (row_counts r).processes a)

  joined : (a b d e x y z : ℕ) → a + x ≡ b + y → d + y ≡ e + z → a + d + x ≡ b + e + z
  joined a b d e x y z f g = omega arith

  -- ---- a run
  run_balance : (s : State) → Inv s → m ≤ mutators_of s → (cs : List Choice) →
      times_of sets_type s cs + rounds_behind (process_of s m) ≡ times_of (finishes_answer m) s cs + rounds_behind (process_of (run_of s cs) m)
  run_balance s v mine [] = refl
  run_balance s v mine (c ∷ cs) =
      joined (once_of sets_type s c) (once_of (finishes_answer m) s c) (times_of sets_type (step_of s c).state cs) (times_of (finishes_answer m) (step_of s c).state cs)
      (rounds_behind (process_of s m)) (rounds_behind (process_of (step_of s c).state m)) (rounds_behind (process_of (run_of (step_of s c).state cs) m)) (step_behind s c v mine)
      (run_balance (step_of s c).state (step_inv s c v) (there s c mine) cs)

-- at the opening no round raises or polls
open_busy : (h : Heap) → busy_of (process_of (opening_of h) 0).place (process_of (opening_of h) 0).stage ≡ false
unfolding opening_of open_collector
open_busy h = refl

none : (a x : ℕ) {b : ℕ} → x ≡ 0 → a + x ≡ b → a ≡ b
none a x e f = omega arith

pub run_behind : RunBehind
run_behind h w cs m pos mine = settle (run_balance m pos (opening_of h) (opening_inv h w) mine cs)
  where
    start : rounds_behind (process_of (opening_of h) m) ≡ 0
    start = rw (settled (process_of (opening_of h) 0) m (open_busy h) ((opening_inv h w).handshakes.flags m pos mine)).1 refl

    settle : times_of sets_type (opening_of h) cs + rounds_behind (process_of (opening_of h) m) ≡ times_of (finishes_answer m) (opening_of h) cs + rounds_behind (process_of (run_of (opening_of h) cs) m) →
        times_of sets_type (opening_of h) cs ≡ times_of (finishes_answer m) (opening_of h) cs + rounds_behind (process_of (run_of (opening_of h) cs) m)
    settle e = none (times_of sets_type (opening_of h) cs) (rounds_behind (process_of (opening_of h) m)) start e
