-- The published claim of the judge's own run. Assumes nothing.
use Rattle.std.specs.Prelude.{◌≡◌, ◌⊎◌, List, ℕ}
use Rattle.base.specs.Refusals.{by_free, not_admitted}
use Rattle.verdict.specs.Judged.{is_sound, is_malformed}
use Rattle.runlog.specs.Runs.{judge_of}

-- no log stops with 11; every log's verdict is 0, or 4 with stop 12
pub record LoggedSafe : Type 0 where
  pub stop : (log : List ℕ) → (judge_of log).stop ≡ by_free → ⊥
  pub verdict : (log : List ℕ) → ((judge_of log).verdict ≡ is_sound) ⊎ (((judge_of log).verdict ≡ is_malformed) × ((judge_of log).stop ≡ not_admitted))
