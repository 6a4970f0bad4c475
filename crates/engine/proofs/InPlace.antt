-- One record's step, by the parts that its code has in hand: so that a run can change its state in place. Assumes
-- nothing.
--     step_refused, -unseen, -unmade, -taken     by the numbers: of the checks before memory, of what was seen, of
--                                                what was made of memory
--     step_read                                  and where the value came from that it was told
--     let_in                                     a record that is let in names one of the state's processes
use mathlib.Core.Path.{◌≡◌, refl, sym, ap, ◌∙◌}
use mathlib.Core.Bool.{Bool, true, false}
use Prim.Native.Nat.{ℕ, ◌<◌}
use native.Mathlib.Omega.{arith}
use native.Mathlib.Decide.{dec_lt}
use lib.Dec.{leb}
use borrow.Author.Tests.{ne_eqb, le-leb}
use Rattle.base.specs.Pick.{pick}
use Rattle.base.specs.Refusals.{by_no_process}
use Rattle.memory.specs.declared.Memory.{Memory}
use Rattle.memory.specs.Answers.{Done, Sight}
use Rattle.memory.specs.declared.asks.Ask.{Ask}
use Rattle.memory.specs.Memories.{max_processes, taken}
use Rattle.memory.specs.Asks.{Told, sight_of, made_of, told_of}
use Rattle.memory.proofs.Tellings.{told_refused, told_made}
use Rattle.state.specs.declared.Process.{Process}
use Rattle.state.specs.declared.State.{State}
use Rattle.state.specs.declared.Choice.{Choice}
use Rattle.state.specs.States.{process_of, with_memory, refused_of, taken_of}
use Rattle.state.specs.declared.acts.Going.{Going}
use Rattle.state.specs.Acts.{setting_of, went_of}
use Rattle.own.specs.Owns.{answered_of}
use Rattle.engine.specs.Steps.{refuses_of, ask_of, go_of, inner_of}
use Rattle.engine.specs.Readings.{read_by}

-- the number of the checks before memory, where the process is q
abbrev pub number_of : State → Choice → Process → ℕ
number_of s c q = refuses_of s.memory.processes s.memory.cells c q

module _ (s : State) (c : Choice) where
  pub step_refused : (q : Process) → q ≡ process_of s c.process → (n : ℕ) → n ≡ number_of s c q → (n ≡ 0 → ⊥) → inner_of s c ≡ refused_of n s
  unfolding inner_of
  step_refused q here n e z = rw (← here, ← e, ne_eqb n 0 z) refl

  -- the process is q, it asks for a, and sees v
  module _ (q : Process) (here : q ≡ process_of s c.process) (zero : number_of s c q ≡ 0) (a : Ask) (asks : a ≡ ask_of c q) (v : Sight) (sees : v ≡ sight_of s.memory c.process a) where
    abbrev goes : Sight → Going
    goes k = go_of c (setting_of s c.x) k q

    told : inner_of s c ≡ answered_of s c.process goes (told_of s.memory c.process a)
    unfolding inner_of
    told = rw (asks, ← here, zero) refl

    answered : (t : Told) → told_of s.memory c.process a ≡ t → inner_of s c ≡ answered_of s c.process goes t
    answered t e = told ∙ ap (answered_of s c.process goes) e

    stopped : (n : ℕ) → (told_of s.memory c.process a).no ≡ n → (n ≡ 0 → ⊥) → inner_of s c ≡ refused_of n s
    unfolding answered_of
    stopped n e z = told ∙ rw (e, ne_eqb n 0 z) refl

    pub step_read : v.from ≡ read_by s c
    unfolding read_by
    step_read = rw (sees, asks, here) refl

    pub step_unseen : (v.no ≡ 0 → ⊥) → inner_of s c ≡ refused_of v.no s
    step_unseen z =
        let e = ap (λ (k : Sight). k.no) sees in
        stopped v.no (told_refused s.memory c.process a (λ h. z (e ∙ h)) ∙ sym e) z

    module _ (clear : v.no ≡ 0) where
      made : told_of s.memory c.process a ≡ record { no = (made_of s.memory c.process a).no; sight = v; memory = (made_of s.memory c.process a).memory }
      made = rw sees (told_made s.memory c.process a (sym (ap (λ (k : Sight). k.no) sees) ∙ clear))

      pub step_unmade : (d : Done) → d ≡ made_of s.memory c.process a → (d.no ≡ 0 → ⊥) → inner_of s c ≡ refused_of d.no s
      step_unmade d e z = stopped d.no (ap (λ (t : Told). t.no) made ∙ sym (ap (λ (k : Done). k.no) e)) z

      pub step_taken : (m : Memory) (g : Going) → made_of s.memory c.process a ≡ taken m → g ≡ go_of c (setting_of s c.x) v q → inner_of s c ≡ taken_of (went_of (with_memory s m) c.process g)
      unfolding answered_of
      step_taken m g e k = answered (record { no = 0; sight = v; memory = m }) (made ∙ rw e refl) ∙ rw k refl

pub let_in : (m n : ℕ) (c : Choice) (q : Process) → refuses_of m n c q ≡ 0 → c.process < max_processes
unfolding refuses_of
let_in m n c q e = go (dec_lt c.process max_processes)
  where
    go : Dec (c.process < max_processes) → c.process < max_processes
    go (yes h) = h
    go (no h) = absurd (out (leb m c.process) (rw (le-leb max_processes c.process (omega (arith, h))) at e))
      where
        out : (b : Bool) → pick b by_no_process by_no_process ≡ 0 → ⊥
        out true z = omega arith
        out false z = omega arith
