-- `header::tests::cells_fit` meets its contract: the chain tests each number below N.
use Rattle.std.proofs.Common.{refl, ◌∙◌, arith, rules, tests}
use Rattle.std.proofs.lemmas.Iterator.{YieldsList-from_range}
use Rattle.std.proofs.lemmas.Iterator.Search.{all_from_yields_List}
use Rattle.header.specs.Header.{cells_said, cell_said_at_of, cells_said_fit_of}
use Rattle.header.proofs.Listed.{every_range}
use Rattle.header.proofs.tests.cells_fit.Goals as goal

pub returns : goal.returns
unfolding cells_said_fit_of
returns c =
    let log = c.args.log.now in
    let t = cell_said_at_of log c.args.used in
    all_from_yields_List t _ _ _ c.all.ensures.ran (YieldsList-from_range 0 c.cells_in.result (cells_said log) refl (omega arith)) (λ x b q k. search (rules, tests))
    ∙ every_range t (cells_said log)
