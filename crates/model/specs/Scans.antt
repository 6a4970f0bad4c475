-- Row 7's fields, as a law of the rows: "at each field read in row 7 the choice's f names a field not yet scanned, and x
-- keeps its use at the first". Assumes nothing.
use Rattle.std.specs.Prelude.{◌≡◌, ◌↔◌, ℕ, ◌<◌}
use Rattle.cells.specs.Sets.{Member}
use Rattle.buffers.specs.Fits.{max_fields}
use Rattle.memory.specs.declared.Memory.{Memory}
use Rattle.state.specs.declared.Process.{Process}
use Rattle.state.specs.declared.State.{State}
use Rattle.state.specs.declared.Choice.{Choice}
use Rattle.state.specs.Codes.{row7_first, row7_next}
use Rattle.state.specs.States.{process_of}
use Rattle.state.specs.Choices.{field_left_of}
use Rattle.formed.specs.Fits.{WellFormed}
use Rattle.model.specs.Offers.{AmongOffered, offer_of}
use Rattle.model.specs.Rows.{Mark, Row}

-- at the first read of a cell on its list every field is offered
abbrev pub FirstOffers : Type 0
FirstOffers = (n : ℕ) (c : Choice) (q : Process) → q.place ≡ row7_first → c.op ≡ 0 → c.y ≡ 0 → Member q.work c.x → AmongOffered n c q (offer_of q) ↔ (c.f < max_fields)

-- after it exactly the others are left
abbrev pub FirstLeaves : Type 0
FirstLeaves = (s : State) (c : Choice) (t : State) → WellFormed s → c.kind ≡ 0 → c.process ≡ 0 → (process_of s 0).place ≡ row7_first → Row s c t
    → (g : ℕ) → Member (process_of t 0).left (field_left_of g) ↔ ((g < max_fields) × (g ≡ c.f → ⊥))

-- a step of a mark leaves them alone
abbrev pub MarkLeaves : Type 0
MarkLeaves = (m n : Memory) (p r : ℕ) (q t : Process) → Mark m p r q n t → t.left ≡ q.left

-- and at the next read those left are offered
abbrev pub NextOffers : Type 0
NextOffers = (n : ℕ) (c : Choice) (q : Process) → q.place ≡ row7_next → c.op ≡ 0 → c.x ≡ 0 → c.y ≡ 0 → AmongOffered n c q (offer_of q) ↔ Member q.left (field_left_of c.f)
