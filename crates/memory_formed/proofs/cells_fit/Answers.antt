-- `memory_formed::cells_fit` meets its contract. Assumes nothing.
use Rattle.std.proofs.Common.{rules, tests, refl, arith, ap, ◌∙◌}
use Rattle.std.proofs.lemmas.Iterator.Search.{all_from_yields_List}
use Rattle.base.proofs.Alls.{every_ranged, YieldsList-from_inclusive}
use Rattle.memory.specs.Memories.{max_cells}
use Rattle.memory_formed.specs.WellFormed.{cell_at_of, cells_fit_of, cell_fits_of}
use Rattle.memory_formed.proofs.cells_fit.Goals as goal

pub returns : goal.returns
unfolding cells_fit_of
returns c =
    let m = c.args.m in
    all_from_yields_List (cell_fits_of m) _ _ _ c.all.ensures.ran (YieldsList-from_inclusive 1 max_cells max_cells (cc) (cc) (cc) refl) (λ x b q k. search (rules, tests))
    ∙ every_ranged (cell_fits_of m) 1 (cell_at_of m) max_cells (λ i h. ap (cell_fits_of m) (omega arith))
