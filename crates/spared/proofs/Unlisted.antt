-- B9: outside row 7 the collector's list is empty. Assumes nothing.
--     step_unlisted      after each row
use mathlib.Core.Path.{◌∙◌}
use mathlib.Core.Logic.{⊎_elim}
use Rattle.spared.specs.Listed.{Unlisted}
use Rattle.spared.specs.Lemmas.{RowsKeep}
use Rattle.spared.proofs.Begins.{row_begins}

pub step_unlisted : RowsKeep Unlisted
step_unlisted s t c v r h = ⊎_elim (λ e. e) (λ k. k.0 ∙ v.unlisted k.1) ((row_begins s t c v.inv.formed r).listed h)
