-- A record's step by its process and its kind. Assumes nothing.
--     inner_absent      it names no process of the state
--     inner_own         an own step
--     inner_commit      a commit
--     inner_unknown     a kind that is neither
use mathlib.Core.Path.{◌≡◌, refl}
use mathlib.Core.Bool.{Bool, true, false}
use Prim.Native.Nat.{◌≤◌, ◌<◌}
use native.Mathlib.Omega.{arith}
use lib.Dec.{eqb}
use borrow.Author.Tests.{le-leb, lt-leb, eq-eqb, ne_eqb}
use Rattle.base.specs.Pick.{pick}
use Rattle.base.specs.Refusals.{as_taken, by_no_process, by_no_kind, by_not_offered}
use Rattle.memory.specs.Memories.{max_processes}
use Rattle.state.specs.declared.State.{State}
use Rattle.state.specs.declared.Choice.{Choice}
use Rattle.state.specs.States.{Answer, refused_of}
use Rattle.state.specs.Choices.{is_blank}
use Rattle.model.proofs.Road.{own_of}
use Rattle.engine.specs.Steps.{commit_refuses_of, refuses_of, ask_of, go_of, inner_of}
use Rattle.model.proofs.Commits.{commits, committed_of}

-- refused where the number is not 0
offered : (b : Bool) (a : Answer) (s : State) → pick (eqb (pick b as_taken by_not_offered) 0) a (refused_of (pick b as_taken by_not_offered) s) ≡ pick b a (refused_of by_not_offered s)
offered true a s = refl
offered false a s = refl

pub inner_absent : (s : State) (c : Choice) → s.memory.processes ≤ c.process → inner_of s c ≡ refused_of by_no_process s
unfolding refuses_of inner_of
inner_absent s c l = rw (le-leb s.memory.processes c.process l) refl

module _ (s : State) (c : Choice) (there : c.process < s.memory.processes) (small : c.process < max_processes) where
  pub inner_own : c.kind ≡ 0 → inner_of s c ≡ own_of s c
  unfolding refuses_of ask_of go_of inner_of own_of
  inner_own e = rw (lt-leb s.memory.processes c.process there, lt-leb max_processes c.process small, e) refl

  pub inner_commit : c.kind ≡ 1 → inner_of s c ≡ committed_of s c
  unfolding commit_refuses_of refuses_of ask_of go_of inner_of committed_of
  inner_commit e = rw (lt-leb s.memory.processes c.process there, lt-leb max_processes c.process small, ne_eqb c.kind 0 (λ h. omega arith), eq-eqb c.kind 1 e) (offered (is_blank c) (commits s c) s)

  pub inner_unknown : (c.kind ≡ 0 → ⊥) → (c.kind ≡ 1 → ⊥) → inner_of s c ≡ refused_of by_no_kind s
  unfolding refuses_of inner_of
  inner_unknown n o = rw (lt-leb s.memory.processes c.process there, lt-leb max_processes c.process small, ne_eqb c.kind 0 n, ne_eqb c.kind 1 o) refl
