-- `formed::table::Uses::at` meets its contract: at the places that no arm names nothing is in use.
use Rattle.std.proofs.Common.{arith, sym, ◌∙◌}
use Rattle.formed.proofs.Places.{uses_other}
use Rattle.formed.proofs.table.Uses.at.Goals as goal

pub returns-in_default : goal.returns-in_default
returns-in_default c = c.row-in_default.ensures ∙ sym (uses_other c.args.place (grind arith))
