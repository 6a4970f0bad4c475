-- B4: what a process knows in a mark. Assumes nothing.
use Rattle.std.specs.Prelude.{◌≡◌, not, List, ℕ, ◌<◌}
use Rattle.buffers.specs.declared.Entry.{Entry}
use Rattle.memory.specs.declared.Memory.{Memory}
use Rattle.state.specs.declared.Handshake.TheVariants as hand
use Rattle.state.specs.declared.Process.{Process}
use Rattle.state.specs.declared.State.{State}
use Rattle.state.specs.Codes.{sense_stage, phase_stage, write_stage, unlock_stage}
use Rattle.state.specs.States.{process_of}
use Rattle.model.specs.Rows.{Marks}
use Rattle.verdict.specs.Colours.{White}
use Rattle.claims.specs.Pending.{waiting_of, marks_in}
use Rattle.claims.specs.Noted.{Reached}
use Rattle.spared.specs.Shades.{Marked}

-- of process p, which is q and whose pending stores are l
pub record Looks (m : Memory) (p : ℕ) (l : List Entry) (q : Process) : Type 0 where
  -- a look that saw fM is still right, but for a mutator in Idle
  pub seen : {r : ℕ} → Marks q r → q.stage ≡ sense_stage → (0 < p → q.part.phase ≡ hand.Idle → ⊥) → q.look ≡ m.fm → Marked m r
  -- "read fM, stop if equal"
  pub apart : Reached phase_stage q → q.sense ≡ not q.look
  -- "look again; if the two looks agree, write": the cell is white
  pub white : {r : ℕ} → Marks q r → q.stage ≡ write_stage → White m r
  -- at the unlock, once no mark is pending, it is marked, whoever won
  pub done : {r : ℕ} → Marks q r → q.stage ≡ unlock_stage → marks_in l ≡ 0 → Marked m r

abbrev pub Looked : State → Type 0
Looked s = (p : ℕ) → Looks s.memory p (waiting_of s p) (process_of s p)
