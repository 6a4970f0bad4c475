-- A run, record by record: what its loop knows turn by turn. Assumes nothing.
--     onward_goes, onward_stays      a run goes on while it has no stop
--     turn_wrong, turn_right         what a turn comes to, by the check
--     answered_taken, -refused       and by what the step answers
--     run_more                       one record more
--     run_stays                      a run that has stopped stays as it is, however many records follow
--     wrong_turn, refused_turn, taken_turn     a record's turn, by the check and by what the step answers
--     halted, goes                   the loop leaves with such a run, or goes on
use mathlib.Core.Path.{◌≡◌, refl, sym, ap, ◌∙◌}
use mathlib.Core.Bool.{Bool}
use mathlib.Core.List.{List}
use Prim.Native.Nat.{ℕ, zero, suc, ◌+◌, ◌*◌, ◌≤◌, ◌<◌}
use native.Mathlib.Numerals.{add-one}
use native.Mathlib.Decide.{ℕ_discrete}
use native.Mathlib.Omega.{arith}
use borrow.Author.Tests.{eq-eqb, ne_eqb}
use Rattle.base.specs.Refusals.{wrong_check}
use Rattle.buffers.specs.declared.sources.Source.{Source}
use Rattle.buffers.specs.Sources.{read_after}
use Rattle.state.specs.declared.State.{State}
use Rattle.state.specs.States.{Answer, taken_of, refused_of}
use Rattle.engine.specs.Steps.{inner_of}
use Rattle.engine.specs.Readings.{read_by}
use Rattle.runlog.specs.declared.record.Record.{Record}
use Rattle.runlog.specs.Answers.{Run}
use Rattle.runlog.specs.Records.{record_size, record_at, check_sum_of}
use Rattle.runlog.specs.Runs.{ended_of, stopped_of, took_of, after_answer, turned_of, turn_of, onward_if, onward_of, run_through}
use Rattle.runlog.specs.Rule.{RightCheck}

pub onward_goes : (run : Run) (r : Record) → run.stop ≡ 0 → onward_of run r ≡ turn_of run r
unfolding onward_of
onward_goes run r e = ap (λ (b : Bool). onward_if b run r) (eq-eqb run.stop 0 e)

pub onward_stays : (run : Run) (r : Record) → (run.stop ≡ 0 → ⊥) → onward_of run r ≡ run
unfolding onward_of
onward_stays run r n = ap (λ (b : Bool). onward_if b run r) (ne_eqb run.stop 0 n)

-- what its turn comes to, by the check, and by what the step answers
pub turn_wrong : (run : Run) (r : Record) (a : Answer) → (RightCheck r → ⊥) → turned_of run r a ≡ stopped_of wrong_check run
turn_wrong run r a n = rw (ne_eqb r.check (check_sum_of r.choice) n) refl

pub turn_right : (run : Run) (r : Record) (a : Answer) → RightCheck r → turned_of run r a ≡ after_answer run (read_by run.state r.choice) a
turn_right run r a e = rw (eq-eqb r.check (check_sum_of r.choice) e) refl

pub answered_taken : (run : Run) (v : Source) (a : Answer) → a.no ≡ 0 → after_answer run v a ≡ took_of run v a.state
answered_taken run v a e = rw (eq-eqb a.no 0 e) refl

pub answered_refused : (run : Run) (v : Source) (a : Answer) → (a.no ≡ 0 → ⊥) → after_answer run v a ≡ stopped_of a.no run
answered_refused run v a n = rw (ne_eqb a.no 0 n) refl

-- a record's turn from the state s, whatever the count and the last read
module _ (s : State) (r : Record) (k : ℕ) (v : Source) where
  pub wrong_turn : (RightCheck r → ⊥) → ended_of s k wrong_check v ≡ turn_of (ended_of s k 0 v) r
  unfolding turn_of
  wrong_turn h = sym (turn_wrong (ended_of s k 0 v) r (inner_of s r.choice) h)

  module _ (right : RightCheck r) where
    pub refused_turn : (n : ℕ) → (n ≡ 0 → ⊥) → inner_of s r.choice ≡ refused_of n s → ended_of s k n v ≡ turn_of (ended_of s k 0 v) r
    unfolding turn_of
    refused_turn n z e =
        let run : Run = ended_of s k 0 v in
        sym (turn_right run r (inner_of s r.choice) right ∙ rw e (answered_refused run (read_by s r.choice) (refused_of n s) z))

    pub taken_turn : (t : State) (w : Source) → w ≡ read_by s r.choice → inner_of s r.choice ≡ taken_of t → ended_of t (k + 1) 0 (read_after v w) ≡ turn_of (ended_of s k 0 v) r
    unfolding turn_of
    taken_turn t w d e =
        let run : Run = ended_of s k 0 v in
        ap (λ (x : Source). ended_of t (k + 1) 0 (read_after v x)) d ∙ sym (turn_right run r (inner_of s r.choice) right ∙ rw e (answered_taken run (read_by s r.choice) (taken_of t) refl))

module _ (log : List ℕ) (at : ℕ) (s : State) where
  pub run_more : (run q : Run) (k : ℕ) → run ≡ run_through log at s k → run.stop ≡ 0 → q ≡ turn_of run (record_at log (at + record_size * k)) → q ≡ run_through log at s (k + 1)
  run_more run q k e z t =
      let r = record_at log (at + record_size * k) in
      t ∙ sym (onward_goes run r z) ∙ ap (λ (x : Run). onward_of x r) e ∙ sym (ap (run_through log at s) (add-one k))

  pub run_stays : (run : Run) (n k : ℕ) → run ≡ run_through log at s k → (run.stop ≡ 0 → ⊥) → k ≤ n → run ≡ run_through log at s n
  run_stays run zero k e z l = let q : k ≡ 0 = omega arith in e ∙ ap (run_through log at s) q
  run_stays run (suc n) k e z l = go (ℕ_discrete k (suc n)) (run_stays run n k e z)
    where
      go : Dec (k ≡ suc n) → (k ≤ n → run ≡ run_through log at s n) → run ≡ run_through log at s (suc n)
      go (yes q) f = e ∙ ap (run_through log at s) q
      go (no q) f =
          let r = record_at log (at + record_size * n) in
          sym (onward_stays run r z) ∙ ap (λ (x : Run). onward_of x r) (f (omega arith))

  -- the run goes on, in the state t after k records, the last value read from v
  abbrev pub Ongoing : State → ℕ → Source → Type 0
  Ongoing t k v = ended_of t k 0 v ≡ run_through log at s k

  module _ (t : State) (k n : ℕ) (v : Source) (r : Record) (o : Ongoing t k v) (e : r ≡ record_at log (at + record_size * k)) (l : k < n) where
    -- the record stops the run in the state u, and those after it change nothing
    pub halted : (u : State) (m : ℕ) → (m ≡ 0 → ⊥) → ended_of u k m v ≡ turn_of (ended_of t k 0 v) r → ended_of u k m v ≡ run_through log at s n
    halted u m z h =
        let run : Run = ended_of t k 0 v in
        let q : Run = ended_of u k m v in
        run_stays q n (k + 1) (run_more run q k o refl (h ∙ ap (turn_of run) e)) z (omega arith)

    pub goes : (u : State) (w : Source) → ended_of u (k + 1) 0 w ≡ turn_of (ended_of t k 0 v) r → Ongoing u (k + 1) w
    goes u w h = run_more (ended_of t k 0 v) (ended_of u (k + 1) 0 w) k o refl (h ∙ ap (turn_of (ended_of t k 0 v)) e)
