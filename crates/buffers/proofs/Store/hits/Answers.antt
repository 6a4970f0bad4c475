-- `buffers::Store::hits` meets its contract. Assumes nothing.
use mathlib.Core.Path.{◌∙◌}
use Rattle.buffers.specs.Stores.{hits_of}
use Rattle.buffers.proofs.Hits.{spots_equal}
use Rattle.buffers.proofs.Store.hits.Goals as goal

pub returns : goal.returns
unfolding hits_of
returns c = c.eq.ensures ∙ spots_equal c.spot.result c.args.at ∙ rw c.spot.ensures
