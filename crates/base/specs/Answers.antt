-- When a view of the code's answers leaves no two of them alike. Assumes nothing.
use Rattle.std.specs.Prelude.{◌≡◌}

-- a view tells any two answers apart: only the same answer is viewed the same
abbrev pub TellsApart : {A B : Type 0} → (A → B) → Type 0
TellsApart {A} view = (r t : A) → view r ≡ view t → r ≡ t
