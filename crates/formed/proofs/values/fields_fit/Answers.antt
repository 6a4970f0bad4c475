-- `formed::values::fields_fit` meets its contract.
use Rattle.std.proofs.Common.{rules, tests, refl, leb, ◌∙◌}
use Rattle.std.proofs.lemmas.Iterator.{YieldsList-from_slice}
use Rattle.std.proofs.lemmas.Iterator.Search.{all_from_yields_List}
use Rattle.base.proofs.Alls.{every_listed}
use Rattle.memory.specs.Memories.{max_cells}
use Rattle.formed.specs.WellFormed.{field_fits_at, fields_fit_of}
use Rattle.formed.proofs.values.fields_fit.Goals as goal

pub returns : goal.returns
unfolding fields_fit_of
returns c =
    let a = c.args in
    all_from_yields_List (λ v. leb v a.n) _ _ _ c.all.ensures.ran (YieldsList-from_slice a.fields cc) (λ x b q k. search (rules, tests))
    ∙ every_listed (λ v. leb v a.n) 0 a.fields (field_fits_at a.n a.fields) max_cells (search rules) (λ i h. refl)
