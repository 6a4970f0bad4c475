-- `engine::turn` meets its contract: what it has in hand at each step is what the step's definition speaks of.
use mathlib.Core.Path.{◌≡◌, refl, sym, ap, ◌∙◌}
use Rattle.base.specs.Refusals.{refusal_number}
use Rattle.base.proofs.Errors.{passed, refused_by}
use Rattle.memory.specs.Memories.{taken, refused}
use Rattle.memory.specs.Asks.{sight_as, sight_of, made_of}
use Rattle.memory.proofs.Tellings.{unchanged}
use Rattle.state.specs.declared.State.{State}
use Rattle.state.specs.States.{with_memory, refused_of}
use Rattle.engine.proofs.InPlace.{step_refused, step_read, step_unseen, step_unmade, step_taken}
use Rattle.engine.proofs.turn.Goals as goal
use Rattle.engine.proofs.turn.Goals.{then-changes+in_ok-s, else-changes}

pub returns-in_err-refuses-clause-answer : goal.returns-in_err-refuses-clause-answer
returns-in_err-refuses-clause-answer c =
    let q = c.process-q in
    let e = c.in_err-refuses in
    let r = e.field-0.0 in
    rw (passed c.from_residual.result r c.from_residual.ensures.1) (sym (step_refused c.args.s.now c.args.c q.result q.ensures (refusal_number r) e.ensures (refused_by r)))

pub returns-in_err-seen-clause-answer : goal.returns-in_err-seen-clause-answer
returns-in_err-seen-clause-answer c =
    let s = c.args.s.now in
    let q = c.process-q in
    let k = c.ask-asked in
    let e = c.in_err-seen in
    let r = e.field-0.0 in
    let v = sight_of s.memory c.args.c.process k.result in
    rw (passed c.from_residual-in_err-seen.result r c.from_residual-in_err-seen.ensures.1)
    (sym (step_unseen s c.args.c q.result q.ensures (sym c.in_ok-refuses.ensures) k.result k.ensures v refl (λ h. refused_by r (e.ensures ∙ h)) ∙ ap (λ (n : _). refused_of n s) (sym e.ensures)))

pub returns-in_err-s-clause-answer : goal.returns-in_err-s-clause-answer
returns-in_err-s-clause-answer c =
    let s = c.args.s.now in
    let q = c.process-q in
    let k = c.ask-asked in
    let v = c.in_ok-seen in
    let e = c.in_err-s in
    let r = e.field-0.0 in
    rw (passed c.from_residual-in_err-s.result r c.from_residual-in_err-s.ensures.1)
    (sym (step_unmade s c.args.c q.result q.ensures (sym c.in_ok-refuses.ensures) k.result k.ensures (sight_as v.seen) v.ensures refl (refused (refusal_number r) s.memory) e.ensures (refused_by r)))

pub returns-clause-answer : goal.returns-clause-answer
returns-clause-answer c =
    let s = c.args.s.now in
    let q = c.process-q in
    let k = c.ask-asked in
    let v = c.in_ok-seen in
    let t = c.if-changes in
    let made : made_of s.memory c.args.c.process k.result ≡ taken t.s.memory =
    elim t.branch [
      | then-changes+in_ok-s w ↦ sym w.in_ok-s.ensures ∙ ap (λ (x : State). taken x.memory) (sym w.s-is)
      | else-changes w ↦ unchanged s.memory c.args.c.process k.result (sym c.changes.ensures ∙ w.if-changes.false) ∙ ap (λ (x : State). taken x.memory) (sym w.s-is)
    ] in
    let rest : t.s ≡ with_memory s t.s.memory =
    elim t.branch [
      | then-changes+in_ok-s w ↦ w.s-is ∙ ap (λ (x : State). with_memory s x.memory) (sym w.s-is)
      | else-changes w ↦ w.s-is ∙ ap (λ (x : State). with_memory s x.memory) (sym w.s-is)
    ] in
    rw (c.goes.ensures, rest) (sym (step_taken s c.args.c q.result q.ensures (sym c.in_ok-refuses.ensures) k.result k.ensures (sight_as v.seen) v.ensures refl t.s.memory c.go.result made (rw c.setting-set.ensures at c.go.ensures)))

pub returns-clause-read : goal.returns-clause-read
returns-clause-read c =
    let q = c.process-q in
    let k = c.ask-asked in
    let v = c.in_ok-seen in
    step_read c.args.s.now c.args.c q.result q.ensures (sym c.in_ok-refuses.ensures) k.result k.ensures (sight_as v.seen) v.ensures
