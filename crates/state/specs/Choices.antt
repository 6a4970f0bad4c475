-- Which arguments of a choice a place uses: "an argument this place doesn't use isn't zero, or one it uses isn't
-- offered". Assumes nothing.
use Rattle.std.specs.Prelude.{Bool, ℕ, ◌+◌, eqb, ltb}
use Rattle.base.specs.Pick.{pick}
use Rattle.base.specs.Every.{◌and◌}
use Rattle.cells.specs.Sets.{member_of, full_of}
use Rattle.buffers.specs.Fits.{max_fields, is_cell_of}
use Rattle.state.specs.declared.State.{State}
use Rattle.state.specs.declared.Choice.{Choice}

-- at top: an operation that uses x at most; one that uses nothing more
unfoldable pub is_of_x : Choice → Bool
is_of_x c = eqb c.f 0 and eqb c.y 0

unfoldable pub is_bare : Choice → Bool
is_bare c = eqb c.x 0 and is_of_x c

-- elsewhere the operation is unused too: a place that uses nothing; one that uses x alone, and offers the numbers of
-- the set
unfoldable pub is_blank : Choice → Bool
is_blank c = eqb c.op 0 and is_bare c

unfoldable pub is_naming : Choice → ℕ → Bool
is_naming c s = eqb c.op 0 and is_of_x c and member_of s c.x

-- row 7: "the choice's f names a field not yet scanned, and x keeps its use at the first". The fields not yet scanned
-- are a set, field f as the number f + 1; what is no field is in no set
abbrev pub all_fields : ℕ
all_fields = full_of max_fields

abbrev pub field_left_of : ℕ → ℕ
field_left_of f = pick (ltb f max_fields) (f + 1) 0

-- the first read: any field, and x a cell of the set; the next: one of the fields left
unfoldable pub is_scanning : Choice → ℕ → Bool
is_scanning c s = eqb c.op 0 and eqb c.y 0 and ltb c.f max_fields and member_of s c.x

unfoldable pub is_scanning_on : Choice → ℕ → Bool
is_scanning_on c l = eqb c.op 0 and eqb c.x 0 and eqb c.y 0 and member_of l (field_left_of c.f)

-- "cell 0 or above N" is none
unfoldable pub is_cell : State → ℕ → Bool
is_cell s x = is_cell_of s.memory.cells x
