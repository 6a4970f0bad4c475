-- B3 and B3a: the mark that is pending, and the cell being greyed. Assumes nothing.
use Rattle.std.specs.Prelude.{◌≡◌, Bool, List, ℕ}
use Rattle.buffers.specs.declared.Store.TheVariants as store
use Rattle.buffers.specs.declared.Entry.{Entry}
use Rattle.state.specs.declared.Process.{Process}
use Rattle.state.specs.declared.State.{State}
use Rattle.state.specs.Codes.{unlock_stage}
use Rattle.state.specs.States.{process_of}
use Rattle.model.specs.Rows.{Marks}
use Rattle.claims.specs.Pending.{waiting_of}
use Rattle.spared.specs.Holds.{StoreIn}

-- B3: "write mark := noted fM (r is now being greyed)": a pending mark is of the cell being greyed, with the noted fM
abbrev pub Pends : List Entry → Process → Type 0
Pends l q = (c : ℕ) (b : Bool) → StoreIn l (store.Mark c b) → (q.grey ≡ c) × (q.sense ≡ b)

abbrev pub Greying : State → Type 0
Greying s = (p : ℕ) → Pends (waiting_of s p) (process_of s p)

-- B3a: the cell being greyed is the one that is marked, and its mark is at the unlock
pub record GreyOfMark (q : Process) : Type 0 where
  pub marks : Marks q q.grey
  pub stage : q.stage ≡ unlock_stage

abbrev pub OfMarks : State → Type 0
OfMarks s = (p : ℕ) → ((process_of s p).grey ≡ 0 → ⊥) → GreyOfMark (process_of s p)
