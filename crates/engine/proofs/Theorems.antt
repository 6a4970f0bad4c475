-- Demands 1 and 2: the statements of specs/Statements.antt, proved. Assumes nothing.
--     refused               the number is that of the first reason that holds, and the state is the one that came
--     answered              every answer is a taken step or such a refusal
--     malformed_exactly     refusal 1 exactly if the state is malformed
--     numbered              no number is above the last of the table
--     exact                 taken to t exactly if a row leads to t
--     kept                  a step from a well-formed state is well formed
--     inner_formed          check 1 finds nothing in a well-formed state
--     one_step              only one answer
use mathlib.Core.Path.{◌≡◌, refl, sym, ap, ◌∙◌, subst}
use mathlib.Core.Bool.{false≢true}
use mathlib.Core.Logic.{◌⊎◌, inl, inr, ⊎_elim, by_cases}
use Prim.Native.Nat.{ℕ, ◌≤◌, ◌<◌}
use native.Mathlib.Omega.{arith}
use native.Mathlib.Decide.{dec_lt, ℕ_discrete}
use Rattle.base.proofs.Picking.{pick_ind}
use Rattle.base.specs.Refusals.{by_malformed, by_no_process, by_no_kind, by_not_offered}
use Rattle.state.specs.declared.State.{State}
use Rattle.state.specs.declared.Choice.{Choice}
use Rattle.state.specs.States.{Answer, mutators_of, process_of, refused_of, taken_of}
use Rattle.memory.specs.Memories.{max_processes, taken}
use Rattle.memory.specs.Steps.{commit_of}
use Rattle.formed.specs.Fits.{WellFormed}
use Rattle.formed.specs.WellFormed.{well_formed_of}
use Rattle.formed.proofs.Whole.{well_formed_lem}
use Rattle.model.specs.Rows.{Row, Collector, Mutator}
use Rattle.model.specs.Rows as row
use Rattle.model.specs.Reasons as reason
use Rattle.model.specs.Reasons.{Reason}
use Rattle.model.specs.Views as view
use Rattle.model.specs.Views.{View}
use Rattle.model.proofs.Road.{own_of}
use Rattle.model.proofs.MutatorRows.{mutator_view, mutator_complete}
use Rattle.model.proofs.Collectors.{collector_view}
use Rattle.model.proofs.CollectorRows.{collector_complete}
use Rattle.model.proofs.Commits.{commit_view, commit_row}
use Rattle.stays_formed.proofs.Kept.{row_kept}
use Rattle.engine.specs.Steps.{inner_of, step_of}
use Rattle.engine.specs.Statements.{First, last_no, Refused, Answered, Numbered, MalformedExactly, Exact, Kept, InnerFormed, OneAnswer}
use Rattle.engine.proofs.ByKind.{inner_absent, inner_own, inner_commit, inner_unknown}
use Rattle.engine.proofs.Located.{buffered, collecting, mutating}

-- ---- every answer, seen once for all theorems
data Whole (s : State) (c : Choice) : Answer → Type 0 where
  stops : (n : ℕ) → 0 < n → First s c n → Whole s c (refused_of n s)
  goes : {t : State} → WellFormed s → ((k : ℕ) → Reason s c k → ⊥) → Row s c t → Whole s c (taken_of t)

-- a reason has its number, which is one of the table's
record Number (k : ℕ) : Type 0 where
  some : 0 < k
  most : k ≤ last_no

number : (s : State) (c : Choice) (k : ℕ) → Reason s c k → Number k
number s c k (reason.malformed e n) = record { some = omega arith; most = omega arith }
number s c k (reason.no_process e n) = record { some = omega arith; most = omega arith }
number s c k (reason.no_kind e n o) = record { some = omega arith; most = omega arith }
number s c k (reason.not_offered e n) = record { some = omega arith; most = omega arith }
number s c k (reason.none_pending e o w) = record { some = omega arith; most = omega arith }
number s c k (reason.flag_down e f) = record { some = omega arith; most = omega arith }
number s c k (reason.blocked e h) = record { some = omega arith; most = omega arith }
number s c k (reason.pending e w) = record { some = omega arith; most = omega arith }
number s c k (reason.full e o w) = record { some = omega arith; most = omega arith }
number s c k (reason.occupied e o w) = record { some = omega arith; most = omega arith }
number s c k (reason.free e o) = record { some = omega arith; most = omega arith }

-- the reasons before 4, which speak of the whole choice: none below b holds where their checks are past
module _ (s : State) (c : Choice) (w : WellFormed s) where
  early : (b : ℕ) → b ≤ by_not_offered → (by_no_process < b → c.process ≤ mutators_of s) → (by_no_kind < b → (c.kind ≡ 0) ⊎ (c.kind ≡ 1)) → (k : ℕ) → k < b → Reason s c k → ⊥
  early b m h d k l (reason.malformed e n) = n w
  early b m h d k l (reason.no_process e n) = omega (arith, h (omega arith))
  early b m h d k l (reason.no_kind e n o) = ⊎_elim n o (d (omega arith))
  early b m h d k l (reason.not_offered e n) = omega arith
  early b m h d k l (reason.none_pending e o v) = omega arith
  early b m h d k l (reason.flag_down e f) = omega arith
  early b m h d k l (reason.blocked e i) = omega arith
  early b m h d k l (reason.pending e v) = omega arith
  early b m h d k l (reason.full e o v) = omega arith
  early b m h d k l (reason.occupied e o v) = omega arith
  early b m h d k l (reason.free e o) = omega arith

  -- the view of an own step or a commit is one of the whole
  module _ (there : c.process ≤ mutators_of s) (d : (c.kind ≡ 0) ⊎ (c.kind ≡ 1)) (R : State → Type 0) (f : (t : State) → R t → Row s c t) where
    past : (k : ℕ) → k ≤ by_no_kind → Reason s c k → ⊥
    past k l = early by_not_offered (omega arith) (λ _. there) (λ _. d) k (omega arith)

    whole_of : {a : Answer} → View R s c a → Whole s c a
    whole_of (view.stops n l r) = stops n (omega arith) (record { holds = r.0; none_before = λ k u g. before k u g (dec_lt by_no_kind k) })
      where
        before : (k : ℕ) → k < n → Reason s c k → Dec (by_no_kind < k) → ⊥
        before k u g (yes h) = r.1 k h u g
        before k u g (no h) = past k (omega arith) g
    whole_of (view.goes {t} q r) = goes w (λ k g. clear k g (dec_lt by_no_kind k)) (f t r)
      where
        clear : (k : ℕ) → Reason s c k → Dec (by_no_kind < k) → ⊥
        clear k g (yes h) = q k h g
        clear k g (no h) = past k (omega arith) g

-- an own step, by its program
own_whole : (s : State) (c : Choice) (w : WellFormed s) → c.process ≤ mutators_of s → c.kind ≡ 0 → Whole s c (own_of s c)
own_whole s c w h k =
    by_cases (ℕ_discrete c.process 0)
    (λ e. whole_of s c w h (inl k) (Collector s c 0 (process_of s 0)) (λ t r. row.collector k e r) (collector_view s c e (collecting s c w k e)))
    (λ n. let z : 0 < c.process = omega arith in
    whole_of s c w h (inl k) (Mutator s c c.process (process_of s c.process)) (λ t r. row.mutator k refl z h r) (mutator_view s c (mutating s c w k z h)))

-- the process is there, and there are at most as many as there can be
small : (s : State) (c : Choice) → WellFormed s → c.process < s.memory.processes → c.process < max_processes
small s c w l = let few = w.memory.few_processes in omega arith

-- checks 2 and 3, and the step
inner_whole : (s : State) (c : Choice) → WellFormed s → Whole s c (inner_of s c)
inner_whole s c w = go (dec_lt c.process s.memory.processes)
  where
    by : {a : Answer} → inner_of s c ≡ a → Whole s c a → Whole s c (inner_of s c)
    by e h = subst (Whole s c) (sym e) h

    go : Dec (c.process < s.memory.processes) → Whole s c (inner_of s c)
    go (no n) =
        let some_processes = w.memory.some_processes in
        by (inner_absent s c (omega arith))
        (stops by_no_process (omega arith) (record { holds = reason.no_process refl (omega arith); none_before = early s c w by_no_process (omega arith) (λ i. absurd (omega arith)) (λ i. absurd (omega arith)) }))
    go (yes l) =
        let h : c.process ≤ mutators_of s = omega arith in
        let m = small s c w l in
        by_cases (ℕ_discrete c.kind 0) (λ k. by (inner_own s c l m k) (own_whole s c w h k))
        (λ n. by_cases (ℕ_discrete c.kind 1)
        (λ k. by (inner_commit s c l m k) (whole_of s c w h (inr k) (Row s c) (λ t r. r) (commit_view s c k (buffered s c w h).shaped h)))
        (λ o. by (inner_unknown s c l m n o)
        (stops by_no_kind (omega arith) (record { holds = reason.no_kind refl n o; none_before = early s c w by_no_kind (omega arith) (λ i. h) (λ i. absurd (omega arith)) }))))

first_malformed : (s : State) (c : Choice) → (WellFormed s → ⊥) → First s c by_malformed
first_malformed s c n = record { holds = reason.malformed refl n; none_before = λ k l g. let z = (number s c k g).some in omega arith }

whole : (s : State) (c : Choice) → Whole s c (step_of s c)
unfolding step_of
whole s c =
    pick_ind (Whole s c) (well_formed_of s)
    (λ t. inner_whole s c ((well_formed_lem s).0 t))
    (λ t. stops by_malformed (omega arith) (first_malformed s c (λ w. false≢true (sym t ∙ (well_formed_lem s).1 w))))

-- ---- demand 1
-- two first reasons are one
same_first : (s : State) (c : Choice) (n m : ℕ) → First s c n → First s c m → n ≡ m
same_first s c n m f g = go (dec_lt n m) (dec_lt m n)
  where
    go : Dec (n < m) → Dec (m < n) → n ≡ m
    go (yes h) b = absurd (g.none_before n h f.holds)
    go (no h) (yes i) = absurd (f.none_before m i g.holds)
    go (no h) (no i) = omega arith

number_of : {n m : ℕ} {s t : State} → refused_of n s ≡ refused_of m t → n ≡ m
number_of e = ap (λ (a : Answer). a.no) e

to_first : {s : State} {c : Choice} {n : ℕ} {a : Answer} → 0 < n → Whole s c a → a ≡ refused_of n s → First s c n
to_first {s} {c} z (stops m p f) e = subst (λ (k : ℕ). First s c k) (number_of e) f
to_first z (goes w q r) e = let h = number_of e in absurd (omega arith)

of_first : {s : State} {c : Choice} {n : ℕ} {a : Answer} → Whole s c a → First s c n → a ≡ refused_of n s
of_first {s} {c} {n} (stops m p f) g = ap (λ (k : ℕ). refused_of k s) (same_first s c m n f g)
of_first {n = n} (goes w q r) g = absurd (q n g.holds)

pub refused : Refused
refused s c n z = (λ e. to_first z (whole s c) e, λ f. of_first (whole s c) f)

either : {s : State} {c : Choice} {a : Answer} → Whole s c a → (a ≡ taken_of a.state) ⊎ ((0 < a.no) × (a ≡ refused_of a.no s))
either (stops n p f) = inr (p, refl)
either (goes w q r) = inl refl

pub answered : Answered
answered s c = either (whole s c)

within : {s : State} {c : Choice} {a : Answer} → Whole s c a → a.no ≤ last_no
within {s} {c} (stops n p f) = (number s c n f.holds).most
within (goes w q r) = omega arith

pub numbered : Numbered
numbered s c = within (whole s c)

not_first : {s : State} {c : Choice} {a : Answer} → WellFormed s → Whole s c a → a.no ≡ by_malformed → ⊥
not_first {s} {c} w (stops n p f) e = early s c w by_no_process (omega arith) (λ i. absurd (omega arith)) (λ i. absurd (omega arith)) n (omega arith) f.holds
not_first w (goes v q r) e = omega arith

pub malformed_exactly : MalformedExactly
malformed_exactly s c = (λ e w. not_first w (whole s c) e, λ n. ap (λ (a : Answer). a.no) (of_first (whole s c) (first_malformed s c n)))

-- ---- demand 2
to_row : {s t : State} {c : Choice} {a : Answer} → Whole s c a → a ≡ taken_of t → WellFormed s × Row s c t
to_row (stops n p f) e = let h = number_of e in absurd (omega arith)
to_row {s} {c = c} (goes w q r) e = (w, subst (Row s c) (ap (λ (a : Answer). a.state) e) r)

-- a row is an answer of the step that is made where the state is known to be well formed
of_row : (s : State) (c : Choice) {t : State} → WellFormed s → Row s c t → inner_of s c ≡ taken_of t
of_row s c w (row.collector k e r) =
    let i = w.memory.some_processes in
    let l : c.process < s.memory.processes = omega arith in
    inner_own s c l (small s c w l) k ∙ collector_complete s c e (collecting s c w k e) r
of_row s c {t} w (row.mutator k {p} e z h r) =
    let i = w.memory.some_processes in
    let y : 0 < c.process = omega arith in
    let g : c.process ≤ mutators_of s = omega arith in
    let l : c.process < s.memory.processes = omega arith in
    inner_own s c l (small s c w l) k ∙ mutator_complete s c (mutating s c w k y g) (subst (λ (j : ℕ). Mutator s c j (process_of s j) t) (sym e) r)
of_row s c w (row.commits k {p} e h b {m} a) =
    let i = w.memory.some_processes in
    let l : c.process < s.memory.processes = omega arith in
    inner_commit s c l (small s c w l) k ∙ commit_row s c b (subst (λ (j : ℕ). commit_of s.memory j ≡ taken m) (sym e) a)

-- ---- check 1 finds nothing in a well-formed state
pub inner_formed : InnerFormed
unfolding step_of
inner_formed s c w = rw ((well_formed_lem s).1 w) refl

pub exact : Exact
exact s c t = (λ e. to_row (whole s c) e, λ h. inner_formed s c h.0 ∙ of_row s c h.0 h.1)

-- ---- a step keeps the state well formed
keeps : {s : State} {c : Choice} {a : Answer} → WellFormed s → Whole s c a → WellFormed a.state
keeps w (stops n p f) = w
keeps {s} {c} w (goes v q r) = row_kept s c w r

pub kept : Kept
kept s c w = keeps w (whole s c)

-- ---- only one answer
pub one_step : OneAnswer
one_step s c a b e f = e ∙ sym f
