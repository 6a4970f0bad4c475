-- The lines of the handshake table, and what moves a mutator from one to another. Assumes nothing.
--     set_line                             the type is set: from in step to the next round's line
--     same_phase_lem                           in step the two phases are one
--     noop_line, roots_line, work_line     the answer is finished: back in step
use mathlib.Core.Path.{◌≡◌, refl}
use mathlib.Core.Bool.{true, false}
use Prim.Native.Nat.{ℕ}
use Rattle.state.specs.declared.Handshake.{Handshake}
use Rattle.state.specs.declared.RoundType.{RoundType}
use Rattle.state.specs.declared.RoundType.TheVariants as round
use Rattle.state.specs.Codes.{type_stage}
use Rattle.state.specs.States.{next_of}
use Rattle.model.specs.Rows.{Round, Advance}
use Rattle.verdict.specs.Table.{InTable}
use Rattle.claims.specs.Posted.{posted_of}

pub set_line : {k j l : ℕ} {t i : RoundType} {a b : Handshake} → Round k t j l → Advance t (posted_of k type_stage) a → InTable true i (posted_of k type_stage) b → InTable false t a b
set_line Round.row1 Advance.noop InTable.roots = InTable.to_idle
set_line Round.row1 Advance.noop InTable.work = InTable.to_idle
set_line Round.row3 Advance.noop InTable.idle = InTable.to_idle_init
set_line Round.row4 Advance.noop InTable.idle_init = InTable.to_init_mark
set_line Round.row5 Advance.noop InTable.init_mark = InTable.to_mark
set_line Round.row6 Advance.roots InTable.mark = InTable.to_roots
set_line Round.row8 Advance.work InTable.roots = InTable.to_work
set_line Round.row8 Advance.work InTable.work = InTable.to_work

pub same_phase_lem : {k : RoundType} {a b : Handshake} → InTable true k a b → b ≡ a
same_phase_lem InTable.idle = refl
same_phase_lem InTable.idle_init = refl
same_phase_lem InTable.init_mark = refl
same_phase_lem InTable.mark = refl
same_phase_lem InTable.roots = refl
same_phase_lem InTable.work = refl

pub noop_line : {a b : Handshake} → InTable false round.Noop a b → InTable true round.Noop a (next_of b)
noop_line InTable.to_idle = InTable.idle
noop_line InTable.to_idle_init = InTable.idle_init
noop_line InTable.to_init_mark = InTable.init_mark
noop_line InTable.to_mark = InTable.mark

pub roots_line : {a b : Handshake} → InTable false round.Roots a b → InTable true round.Roots a (next_of b)
roots_line InTable.to_roots = InTable.roots

pub work_line : {a b : Handshake} → InTable false round.Work a b → InTable true round.Work a b
work_line InTable.to_work = InTable.work
