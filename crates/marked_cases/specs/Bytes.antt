-- The marked table as bytes, one case after the other. Assumes nothing.
use Rattle.std.specs.Prelude.{List, [], ◌∷◌, ◌++◌, ℕ, length}
use Rattle.claims.specs.Marked.{Case}

-- its number, the three numbers of its outcome, the length of its log, and the log
abbrev pub case_bytes : Case → List ℕ
case_bytes c = c.number ∷ c.outcome.steps ∷ c.outcome.stop ∷ c.outcome.verdict ∷ length c.log ∷ c.log

abbrev pub table_bytes : List Case → List ℕ
table_bytes [] = []
table_bytes (c ∷ cs) = case_bytes c ++ table_bytes cs
