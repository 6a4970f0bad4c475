-- An input cut into pieces, from the front, and a piece read as a choice. Assumes nothing.
use Rattle.std.specs.Prelude.{◌≡◌, ℕ, ◌+◌, ◌<◌, List, [], length, take, drop, Option, MatchOption}
use Rattle.std.specs.Fn.{Shared, FnReturnsAt}
use denote.Ref.{Bor}
use Rattle.state.specs.declared.Choice.{Choice}
use Rattle.script.specs.Script.{digit_at}

-- The first piece of the text, and what is left behind it: one byte and the n that a call of f at the text says belong
-- to it, or what there is of them. Of an empty text there is none.
abbrev pub Cut : {F : Type 0} → Shared F (Bor (List ℕ) × Unit {0}) ℕ → F → List ℕ → Option (Bor (List ℕ)) → List ℕ → Type 0
Cut g f text first rest =
    MatchOption first
    ((text ≡ []) × (rest ≡ []))
    (λ piece. (n : ℕ) × FnReturnsAt g f text n × (0 < length text) × (piece.now ≡ take (n + 1) text) × (rest ≡ drop (n + 1) text))

-- a choice: "process, kind, operation, x, f, y", a digit each
abbrev pub choice_of : List ℕ → Choice
choice_of s =
    record { process = digit_at s 0; kind = digit_at s 1; op = digit_at s 2; x = digit_at s 3; f = digit_at s 4; y = digit_at s 5 }
