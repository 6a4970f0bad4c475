-- `formed::processes::is_nobody` meets its contract.
use Rattle.std.proofs.Common.{rules, Decides, ◌≡◌}
use Rattle.std.proofs.lemmas.Bool.Decides.{same_from_decides}
use Rattle.state.specs.States.{no_process}
use Rattle.formed.specs.WellFormed.{nobody_of}
use Rattle.formed.proofs.Agrees.{nobody_told, nobody_test}
use Rattle.formed.proofs.processes.is_nobody.Goals as goal

pub returns : goal.returns
returns c =
    let q = c.args.q in
    let d : Decides c.eq.result (q ≡ no_process) = (λ h. search rules, λ h. search rules) in
    same_from_decides c.eq.result (nobody_of q) d (nobody_told q, nobody_test q)
