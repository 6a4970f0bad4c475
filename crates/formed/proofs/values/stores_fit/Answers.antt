-- `formed::values::stores_fit` meets its contract.
use Rattle.std.proofs.Common.{rules, tests, refl, leb, ◌∙◌}
use Rattle.std.proofs.lemmas.Iterator.{YieldsList-from_slice}
use Rattle.std.proofs.lemmas.Iterator.Search.{all_from_yields_List}
use Rattle.base.proofs.Alls.{every_listed}
use Rattle.base.proofs.Lists.{carried}
use Rattle.buffers.specs.Buffers.{max_stores}
use Rattle.buffers.specs.Stores.{no_entry, value_of}
use Rattle.formed.specs.WellFormed.{store_fits_at, stores_fit_of}
use Rattle.formed.proofs.values.stores_fit.Goals as goal

pub returns : goal.returns
unfolding stores_fit_of
returns c =
    let a = c.args in
    all_from_yields_List (λ e. leb (value_of e.store) a.n) _ _ _ c.all.ensures.ran (YieldsList-from_slice a.b.entries cc) (λ x b q k. search (rules, tests))
    ∙ every_listed (λ e. leb (value_of e.store) a.n) no_entry a.b.entries (store_fits_at a.n a.b) max_stores (search (rules, carried)) (λ i h. refl)
