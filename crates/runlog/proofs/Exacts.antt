-- The judge and the log's rule, which agree. Assumes nothing.
--     run_keeps                  what every step keeps, every state of a run has
--     taken_run, stops_run       a run of the rule is the run that is computed
--     first_at                   and the run that is computed is one of the rule, record by record
--     judge_admitted, judge_refused    the judge of a log that is admitted, and of one that is not
--     outcome_exactly            both, with the verdict and the last read
use mathlib.Core.Path.{◌≡◌, refl, sym, ap, ap₂, ◌∙◌, subst}
use mathlib.Core.Bool.{Bool, true, false}
use mathlib.Core.List.{List}
use mathlib.Core.Logic.{◌⊎◌, inl, inr}
use Prim.Native.Nat.{ℕ, zero, suc, ◌+◌, ◌≤◌}
use native.Mathlib.Decide.{ℕ_discrete}
use native.Mathlib.Numerals.{add-one}
use native.Mathlib.Omega.{arith}
use borrow.Author.Tests.{eq-eqb, ne_eqb}
use Rattle.base.specs.Refusals.{wrong_check, few_left}
use Rattle.cells.proofs.Bools.{split, not_both}
use Rattle.buffers.specs.declared.sources.Source.{Source}
use Rattle.buffers.specs.Sources.{source_number, read_after}
use Rattle.state.specs.declared.State.{State}
use Rattle.state.specs.declared.Choice.{Choice}
use Rattle.state.specs.States.{Answer, taken_of}
use Rattle.state.specs.Openings.{opening_of}
use Rattle.formed.specs.Fits.{WellFormed}
use Rattle.engine.specs.Steps.{step_of}
use Rattle.engine.specs.Readings.{read_by}
use Rattle.verdict.specs.Judged.{Finding}
use Rattle.verdict.proofs.Formed.{formed_judged}
use Rattle.header.specs.Header.{size_of, heap_of, admitted_of}
use Rattle.header.specs.Admitted.{Admitted}
use Rattle.header.proofs.Agrees.{admitted_clauses, clauses_admitted}
use Rattle.runlog.specs.Answers.{Outcome, Run}
use Rattle.runlog.specs.Records.{check_sum_of}
use Rattle.runlog.specs.Runs.{ended_of, stopped_of, after_answer, turned_of, onward_of, closed_of, whole_of, left_of, played_of, outcome_told_of, not_opened, judge_if, judge_of}
use Rattle.runlog.specs.Rule.{record_of, Whole, RightCheck, Taken, none, more, Stops, ended, short, wrong, refused, LastRead, RunTo, Judges, shut, runs}
use Rattle.runlog.specs.Statements.{RunKeeps, OutcomeExactly, NotAdmitted, NumbersOfRun, after_of, ran_of}
use Rattle.runlog.proofs.Turns.{onward_goes, onward_stays, turn_wrong, turn_right, answered_taken, answered_refused, run_stays}
use Rattle.runlog.proofs.Formed.{turn_whole, after_formed, ran_formed}
use Rattle.runlog.proofs.LastReads.{read_to, last_read, last_one}

module _ (P : State → Type 0) (f : (s t : State) (c : Choice) → P s → step_of s c ≡ taken_of t → P t) (log : List ℕ) (o : P (opening_of (heap_of log))) where
  keeps : {k : ℕ} {s : State} → Taken log k s → P s
  keeps none = o
  keeps (more k s t p w r e) = f s t (record_of log k).choice (keeps p) e

pub run_keeps : RunKeeps
run_keeps P f log k s o p = keeps P f log o p

-- ---- a run's end
pub closed_stays : (run : Run) (l : ℕ) → (run.stop ≡ 0 → ⊥) → closed_of run l ≡ run
unfolding closed_of
closed_stays run l n = rw (ne_eqb run.stop 0 n) refl

pub closed_none : (run : Run) (l : ℕ) → run.stop ≡ 0 → l ≡ 0 → closed_of run l ≡ run
unfolding closed_of
closed_none run l e z = rw (eq-eqb run.stop 0 e, eq-eqb l 0 z) refl

pub closed_few : (run : Run) (l : ℕ) → run.stop ≡ 0 → (l ≡ 0 → ⊥) → closed_of run l ≡ stopped_of few_left run
unfolding closed_of
closed_few run l e n = rw (eq-eqb run.stop 0 e, ne_eqb l 0 n) refl

module _ (log : List ℕ) (adm : Admitted log) where
  -- what the step of a state answers to the record k + 1
  abbrev answer : ℕ → State → Answer
  answer k s = step_of s (record_of log k).choice

  -- ---- what the rule says is what is computed
  next : (k : ℕ) (s : State) (v : Source) → after_of log k ≡ ended_of s k 0 v → after_of log (suc k) ≡ turned_of (ended_of s k 0 v) (record_of log k) (answer k s)
  next k s v e =
      ap (λ (q : Run). onward_of q (record_of log k)) e
      ∙ onward_goes (ended_of s k 0 v) (record_of log k) refl
      ∙ turn_whole (ended_of s k 0 v) (record_of log k) (subst (λ (q : Run). WellFormed q.state) e (after_formed log k adm))

  -- what the record k + 1 reads in the state s
  abbrev reads : ℕ → State → Source
  reads k s = read_by s (record_of log k).choice

  pub taken_run : {k : ℕ} {s : State} (p : Taken log k s) → after_of log k ≡ ended_of s k 0 (read_to log p)
  unfolding read_to
  taken_run none = refl
  taken_run (more k s t p w r a) =
      let n : (answer k s).no ≡ 0 = ap (λ (x : Answer). x.no) a in
      let v = read_to log p in
      next k s v (taken_run p)
      ∙ turn_right (ended_of s k 0 v) (record_of log k) (answer k s) r
      ∙ answered_taken (ended_of s k 0 v) (reads k s) (answer k s) n
      ∙ ap (λ (x : State). ended_of x (k + 1) 0 (read_after v (reads k s))) (ap (λ (x : Answer). x.state) a)
      ∙ ap (λ (x : ℕ). ended_of t x 0 (read_after v (reads k s))) (add-one k)

  same_state : (k : ℕ) (s t : State) → Taken log k s → Taken log k t → s ≡ t
  same_state k s t p q = ap (λ (x : Run). x.state) (sym (taken_run p) ∙ taken_run q)

  -- a stop at the record k + 1, which is whole
  halted : (k n : ℕ) (s : State) (v : Source) → Whole log k → (n ≡ 0 → ⊥) → after_of log (suc k) ≡ ended_of s k n v → ran_of log ≡ ended_of s k n v
  unfolding played_of
  halted k n s v w z e =
      let l : suc k ≤ whole_of log = omega arith in
      ap (λ (q : Run). closed_of q (left_of log)) (sym (run_stays log (size_of log) (opening_of (heap_of log)) (ended_of s k n v) (whole_of log) (suc k) (sym e) z l))
      ∙ closed_stays (ended_of s k n v) (left_of log) z

  pub stops_run : {k : ℕ} {s : State} {n : ℕ} (p : Taken log k s) → Stops log k s n → ran_of log ≡ ended_of s k n (read_to log p)
  unfolding played_of
  stops_run {k} {s} {n} p (ended e) =
      let w : whole_of log ≡ k = omega arith in
      let l : left_of log ≡ 0 = omega arith in
      ap (λ (q : ℕ). closed_of (after_of log q) (left_of log)) w ∙ ap (λ (q : Run). closed_of q (left_of log)) (taken_run p) ∙ closed_none (ended_of s k 0 (read_to log p)) (left_of log) refl l
  stops_run {k} {s} {n} p (short a b) =
      let w : whole_of log ≡ k = omega arith in
      ap (λ (q : ℕ). closed_of (after_of log q) (left_of log)) w
      ∙ ap (λ (q : Run). closed_of q (left_of log)) (taken_run p)
      ∙ closed_few (ended_of s k 0 (read_to log p)) (left_of log) refl (λ z. omega arith)
  stops_run {k} {s} {n} p (wrong w r) =
      let v = read_to log p in
      halted k wrong_check s v w (λ z. omega arith) (next k s v (taken_run p) ∙ turn_wrong (ended_of s k 0 v) (record_of log k) (answer k s) r)
  stops_run {k} {s} {n} p (refused w r a) =
      let v = read_to log p in
      halted k (answer k s).no s v w a
      (next k s v (taken_run p) ∙ turn_right (ended_of s k 0 v) (record_of log k) (answer k s) r ∙ answered_refused (ended_of s k 0 v) (reads k s) (answer k s) a)

  -- ---- what is computed is what the rule says: after the first k records
  data At (k : ℕ) (q : Run) : Type 0 where
    going : q.stop ≡ 0 → q.steps ≡ k → Taken log k q.state → At k q
    stopped : (q.stop ≡ 0 → ⊥) → Taken log q.steps q.state → Stops log q.steps q.state q.stop → At k q

  first_at : (k : ℕ) → k ≤ whole_of log → At k (after_of log k)
  first_at zero h = going refl refl none
  first_at (suc k) h = go (after_of log k) refl (first_at k (omega arith))
    where
      w : Whole log k
      w = omega arith

      answered : (s : State) (v : Source) → Taken log k s → RightCheck (record_of log k) → (a : Answer) → a ≡ answer k s → Dec (a.no ≡ 0) → At (suc k) (after_answer (ended_of s k 0 v) (reads k s) a)
      answered s v p r a e (yes z) = rw (answered_taken (ended_of s k 0 v) (reads k s) a z) (going refl (add-one k) (more k s a.state p w r (sym e ∙ ap (λ (n : ℕ). record { no = n; state = a.state }) z)))
      answered s v p r a e (no n) =
          rw (answered_refused (ended_of s k 0 v) (reads k s) a n) (stopped n p (rw e (refused w r (rw e at n))))

      turned : (s : State) (v : Source) → Taken log k s → Dec (RightCheck (record_of log k)) → At (suc k) (turned_of (ended_of s k 0 v) (record_of log k) (answer k s))
      turned s v p (yes r) = rw (turn_right (ended_of s k 0 v) (record_of log k) (answer k s) r) (answered s v p r (answer k s) refl (ℕ_discrete (answer k s).no 0))
      turned s v p (no r) = rw (turn_wrong (ended_of s k 0 v) (record_of log k) (answer k s) r) (stopped (λ z. omega arith) p (wrong w r))

      go : (q : Run) → after_of log k ≡ q → At k q → At (suc k) (after_of log (suc k))
      go q e (stopped n p t) = rw (e, onward_stays q (record_of log k) n) (stopped n p t)
      go q e (going z y p) =
          let g : after_of log k ≡ ended_of q.state k 0 q.read = e ∙ ap₂ (λ (i n : ℕ). ended_of q.state i n q.read) y z in
          rw (next k q.state q.read g) (turned q.state q.read p (ℕ_discrete (record_of log k).check (check_sum_of (record_of log k).choice)))

  -- and after the last, with what is left
  pub run_to : RunTo log (outcome_told_of (ran_of log))
  unfolding played_of outcome_told_of
  run_to = go (after_of log (whole_of log)) refl (first_at (whole_of log) (omega arith))
    where
      made : (q : Run) → ran_of log ≡ q → Taken log q.steps q.state → Stops log q.steps q.state q.stop → RunTo log (outcome_told_of (ran_of log))
      made q e p t =
          let w = subst (λ (x : Run). WellFormed x.state) e (ran_formed log adm) in
          let v : q.read ≡ read_to log p = ap (λ (x : Run). x.read) (sym e ∙ stops_run p t) in
          rw e
          (record {
            state = q.state;
            taken = p;
            stops = t;
            verdict = ap (λ (f : Finding). f.verdict) (sym (formed_judged q.state w));
            read = subst (λ (x : Source). LastRead log q.steps (source_number x)) (sym v) (last_read log p);
          })

      left : (q : Run) → after_of log (whole_of log) ≡ q → q.stop ≡ 0 → q.steps ≡ whole_of log → Taken log (whole_of log) q.state → Dec (left_of log ≡ 0) → RunTo log (outcome_told_of (ran_of log))
      left q e z y p (yes l) = made q (ap (λ (x : Run). closed_of x (left_of log)) e ∙ closed_none q (left_of log) z l) (rw (← y) at p) (rw (z, y) (ended (omega (arith, adm.not_short))))
      left q e z y p (no l) = made (stopped_of few_left q) (ap (λ (x : Run). closed_of x (left_of log)) e ∙ closed_few q (left_of log) z l) (rw (← y) at p) (rw y (short (omega (arith, adm.not_short)) (omega (arith, adm.not_short))))

      go : (q : Run) → after_of log (whole_of log) ≡ q → At (whole_of log) q → RunTo log (outcome_told_of (ran_of log))
      go q e (stopped n p t) = made q (ap (λ (x : Run). closed_of x (left_of log)) e ∙ closed_stays q (left_of log) n) p t
      go q e (going z y p) = left q e z y p (ℕ_discrete (left_of log) 0)

-- ---- the judge
pub judge_admitted : NumbersOfRun
unfolding judge_of
judge_admitted log a = ap (λ (b : Bool). judge_if b log) (clauses_admitted log a)

pub judge_refused : NotAdmitted
unfolding judge_of
judge_refused log n = go (split (admitted_of log))
  where
    go : (admitted_of log ≡ true) ⊎ (admitted_of log ≡ false) → judge_if (admitted_of log) log ≡ not_opened
    go (inl t) = absurd (n (admitted_clauses log t))
    go (inr f) = ap (λ (b : Bool). judge_if b log) f

judges : (log : List ℕ) → (admitted_of log ≡ true) ⊎ (admitted_of log ≡ false) → Judges log (judge_of log)
judges log (inl t) =
    let a = admitted_clauses log t in
    rw (judge_admitted log a) (runs a (run_to log a))
judges log (inr f) =
    let n : Admitted log → ⊥ = λ a. not_both (clauses_admitted log a) f in
    rw (judge_refused log n) (shut n (record { steps = refl; stop = refl; verdict = refl; read = refl }))

only : (log : List ℕ) (o : Outcome) → Judges log o → o ≡ judge_of log
unfolding outcome_told_of
only log o (shut n u) = out u.steps u.stop u.verdict u.read ∙ sym (judge_refused log n)
  where
    out : {a b c d x y z w : ℕ} → a ≡ x → b ≡ y → c ≡ z → d ≡ w → ◌≡◌ {A = Outcome} (record { steps = a; stop = b; verdict = c; read = d }) (record { steps = x; stop = y; verdict = z; read = w })
    out p q r s = rw (p, q, r, s) refl
only log o (runs a r) =
    let e = stops_run log a r.taken r.stops in
    let w = subst (λ (q : Run). WellFormed q.state) e (ran_formed log a) in
    let v = last_one log (same_state log a) r.read (last_read log r.taken) in
    ap₂ (λ (v n : ℕ). record { steps = o.steps; stop = o.stop; verdict = v; read = n }) (r.verdict ∙ ap (λ (f : Finding). f.verdict) (formed_judged r.state w)) v
    ∙ sym (ap outcome_told_of e)
    ∙ sym (judge_admitted log a)

pub outcome_exactly : OutcomeExactly
outcome_exactly log o = (λ e. rw e (judges log (split (admitted_of log))), only log o)
