-- `header::tests::all_roots_fit` meets its contract: the chain tests each number below M.
use Rattle.std.proofs.Common.{refl, ◌∙◌, arith, rules, tests}
use Rattle.std.proofs.lemmas.Iterator.{YieldsList-from_range}
use Rattle.std.proofs.lemmas.Iterator.Search.{all_from_yields_List}
use Rattle.header.specs.Header.{cells_said, mutators_said, roots_at_of, all_roots_fit_of}
use Rattle.header.proofs.Listed.{every_range}
use Rattle.header.proofs.tests.all_roots_fit.Goals as goal

pub returns : goal.returns
unfolding all_roots_fit_of
returns c =
    let log = c.args.log.now in
    let t = roots_at_of log (cells_said log) c.args.used in
    all_from_yields_List t _ _ _ c.all.ensures.ran (YieldsList-from_range 0 c.mutators_in.result (mutators_said log) refl (omega arith)) (λ x b q k. search (rules, tests))
    ∙ every_range t (mutators_said log)
