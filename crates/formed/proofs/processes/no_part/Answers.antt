-- `formed::processes::no_part` meets its contract.
use Rattle.std.proofs.Common.{rules, Decides, ◌≡◌}
use Rattle.std.proofs.lemmas.Bool.Decides.{same_from_decides}
use Rattle.state.specs.States.{no_part}
use Rattle.formed.specs.WellFormed.{no_part_of}
use Rattle.formed.proofs.Agrees.{part_told, part_test}
use Rattle.formed.proofs.processes.no_part.Goals as goal

pub returns : goal.returns
returns c =
    let p = c.args.part in
    let d : Decides c.eq.result (p ≡ no_part) = (λ h. search rules, λ h. search rules) in
    same_from_decides c.eq.result (no_part_of p) d (part_told p, part_test p)
