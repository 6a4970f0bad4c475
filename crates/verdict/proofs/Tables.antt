-- The test of a mutator's part is the handshake table of document 01. Assumes nothing.
--     same_phase_lem        two phases of one number are one
--     in-step-exactly, behind-exactly        the lines of a mutator that is in step, and of one that is not
--     right_exactly     the whole table, with the flag
--     broken_exactly    the mutators whose part is not right
use mathlib.Core.Path.{◌≡◌, refl, sym, ap, ◌∙◌}
use mathlib.Core.Bool.{Bool, true, false, false≢true}
use mathlib.Core.Logic.{◌⊎◌, inl, inr, ◌↔◌}
use Prim.Native.Nat.{ℕ}
use native.Mathlib.Omega.{arith}
use borrow.Author.Tests.{eqb-true, not-true}
use lib.Dec.{eqb}
use Rattle.base.specs.Pick.{pick}
use Rattle.base.proofs.Everies.{and_both}
use Rattle.cells.specs.Sets.{Member}
use Rattle.cells.proofs.Bools.{split, not_both}
use Rattle.cells.proofs.Members.{member_pos}
use Rattle.state.specs.declared.Handshake.{Handshake}
use Rattle.state.specs.declared.Handshake.TheVariants.{Idle, IdleInit, InitMark, Mark, IdleMarkSweep}
use Rattle.state.specs.declared.RoundType.{RoundType}
use Rattle.state.specs.declared.RoundType.TheVariants.{Noop, Roots, Work}
use Rattle.state.specs.declared.Part.{Part}
use Rattle.state.specs.declared.System.{System}
use Rattle.state.specs.States.{phase_number, process_of, mutators_of}
use Rattle.state.specs.Acts.{advance_of}
use Rattle.verdict.specs.Table.{InTable, idle, idle_init, init_mark, mark, roots, work, to_idle, to_idle_init, to_init_mark, to_mark, to_roots, to_work, Right, Broken, offered_of, same_phase, in_step_of, behind_of, right_of, wrong_of, broken_of}
use Rattle.verdict.specs.Statements.{RightExactly, BrokenExactly}
use Rattle.verdict.proofs.Such.{such_from, such_has}

-- ---- phases by their numbers
numbered : ℕ → Handshake
numbered n = pick (eqb n 0) Idle (pick (eqb n 1) IdleInit (pick (eqb n 2) InitMark (pick (eqb n 3) Mark IdleMarkSweep)))

number_back : (h : Handshake) → numbered (phase_number h) ≡ h
unfolding numbered
number_back Idle = refl
number_back IdleInit = refl
number_back InitMark = refl
number_back Mark = refl
number_back IdleMarkSweep = refl

same_phase_lem : (a b : Handshake) → same_phase a b ≡ true → a ≡ b
same_phase_lem a b e = sym (number_back a) ∙ ap numbered (eqb-true (phase_number a) (phase_number b) e) ∙ number_back b

-- ---- in step: both phases are h
in_step_line : (k : RoundType) (h : Handshake) → offered_of k h ≡ true → InTable true k h h
in_step_line Noop Idle e = idle
in_step_line Noop IdleInit e = idle_init
in_step_line Noop InitMark e = init_mark
in_step_line Noop Mark e = mark
in_step_line Noop IdleMarkSweep e = absurd (false≢true e)
in_step_line Roots Idle e = absurd (false≢true e)
in_step_line Roots IdleInit e = absurd (false≢true e)
in_step_line Roots InitMark e = absurd (false≢true e)
in_step_line Roots Mark e = absurd (false≢true e)
in_step_line Roots IdleMarkSweep e = roots
in_step_line Work Idle e = absurd (false≢true e)
in_step_line Work IdleInit e = absurd (false≢true e)
in_step_line Work InitMark e = absurd (false≢true e)
in_step_line Work Mark e = absurd (false≢true e)
in_step_line Work IdleMarkSweep e = work

-- ---- not in step: the mutator's phase is h, and the system's the one that its answer leads to
behind_line : (k : RoundType) (h : Handshake) → offered_of k (advance_of k h) ≡ true → InTable false k (advance_of k h) h
behind_line Noop Idle e = to_idle_init
behind_line Noop IdleInit e = to_init_mark
behind_line Noop InitMark e = to_mark
behind_line Noop Mark e = absurd (false≢true e)
behind_line Noop IdleMarkSweep e = to_idle
behind_line Roots Idle e = absurd (false≢true e)
behind_line Roots IdleInit e = absurd (false≢true e)
behind_line Roots InitMark e = absurd (false≢true e)
behind_line Roots Mark e = to_roots
behind_line Roots IdleMarkSweep e = absurd (false≢true e)
behind_line Work Idle e = absurd (false≢true e)
behind_line Work IdleInit e = absurd (false≢true e)
behind_line Work InitMark e = absurd (false≢true e)
behind_line Work Mark e = absurd (false≢true e)
behind_line Work IdleMarkSweep e = to_work

-- ---- a line of the table passes the test
line_of : Bool → RoundType → Handshake → Handshake → Bool
line_of b k system mutator = pick b (in_step_of k system mutator) (behind_of k system mutator)

line_test : {b : Bool} {k : RoundType} {a h : Handshake} → InTable b k a h → line_of b k a h ≡ true
unfolding line_of in_step_of behind_of
line_test idle = refl
line_test idle_init = refl
line_test init_mark = refl
line_test mark = refl
line_test roots = refl
line_test work = refl
line_test to_idle = refl
line_test to_idle_init = refl
line_test to_init_mark = refl
line_test to_mark = refl
line_test to_roots = refl
line_test to_work = refl

test_line : (b : Bool) (k : RoundType) (a h : Handshake) → line_of b k a h ≡ true → InTable b k a h
unfolding line_of in_step_of behind_of
test_line true k a h p =
    let r = and_both (same_phase a h) (offered_of k a) p in
    rw (← same_phase_lem a h r.0) (in_step_line k a r.1)
test_line false k a h p =
    let r = and_both (same_phase a (advance_of k h)) (offered_of k a) p in
    let e = same_phase_lem a (advance_of k h) r.0 in
    rw e (behind_line k h (rw e at r.1))

-- ---- the whole table
flagged : (h : System) (q : Part) (raised in_step : Bool) → q.raised ≡ raised → q.in_step ≡ in_step → (right_of h q ≡ true) ↔ Right h q
unfolding right_of line_of
flagged h q true true er ei = (λ p. absurd (false≢true (rw (ei, er) at p)), λ r. absurd (not_both ei (r.flag er)))
flagged h q false true er ei = (
  λ p. record { line = test_line q.in_step h.kind h.phase q.phase (rw ei (rw (ei, er) at p)); flag = λ f. absurd (not_both f er) },
  λ r. rw (ei, er) (rw ei at (line_test r.line)),
)
flagged h q raised false er ei = (
  λ p. record { line = test_line q.in_step h.kind h.phase q.phase (rw ei (rw ei at p)); flag = λ f. ei },
  λ r. rw ei (rw ei at (line_test r.line)),
)

pub right_exactly : RightExactly
right_exactly h q = flagged h q q.raised q.in_step refl refl

-- ---- the mutators whose part is not right
pub broken_exactly : BrokenExactly
unfolding broken_of wrong_of
broken_exactly s w p = (into, out)
  where
    part : Part
    part = (process_of s p).part

    into : Member (broken_of s) p → Broken s p
    into m =
        let r = such_from (wrong_of s) (mutators_of s) p m in
        record { above = member_pos (broken_of s) p m; mutator = r.0; wrong = λ k. not_both ((right_exactly s.system part).1 k) (not-true (right_of s.system part) r.1) }

    out : Broken s p → Member (broken_of s) p
    out b = go (split (right_of s.system part))
      where
        go : (right_of s.system part ≡ true) ⊎ (right_of s.system part ≡ false) → Member (broken_of s) p
        go (inl e) = absurd (b.wrong ((right_exactly s.system part).0 e))
        go (inr e) = such_has (wrong_of s) (mutators_of s) p b.above b.mutator (omega (arith, b.mutator, w.mutators)) (rw e)
