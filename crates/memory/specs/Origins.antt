-- R-6, "Where did that value come from?": what each look says of it. Statements, proved in proofs/Origins. Assumes
-- nothing.
use Rattle.std.specs.Prelude.{◌≡◌, true, false, ◌↔◌, ℕ, ◌+◌, get_or}
use Rattle.base.specs.Refusals.{as_taken}
use Rattle.buffers.specs.declared.Spot.{Spot}
use Rattle.buffers.specs.declared.Spot.TheVariants as spot
use Rattle.buffers.specs.declared.sources.Source.TheVariants as source
use Rattle.buffers.specs.Stores.{no_entry}
use Rattle.buffers.specs.Sources.{source_number, NewestAt}
use Rattle.memory.specs.declared.Memory.{Memory}
use Rattle.memory.specs.Memories.{blocked_of, stands_of}
use Rattle.memory.specs.Looks.{look_of, source_of, from_of, swept_from_of}
use Rattle.memory.specs.Views.{pending_for, view_of}
use Rattle.memory.specs.Shapes.{Shaped}
use Rattle.memory.specs.Sights.{Unwritten}

-- "whether it saw the reader's own pending store or memory, with the place in the buffer, oldest counted as 0"
pub record SourceLaw (m : Memory) (p : ℕ) (at : Spot) : Type 0 where
  -- the own store at place i: entry i of the reader's list is to the spot, and no newer one is
  pub own : (i : ℕ) → (source_of m p at ≡ source.Own i) ↔ NewestAt at (pending_for m p) i
  -- and what is seen is that entry's
  pub own_value : (i : ℕ) → source_of m p at ≡ source.Own i → view_of m p at ≡ (get_or (pending_for m p) i no_entry).store
  -- "the place plus 1 for the own buffer"
  pub own_number : (i : ℕ) → Shaped m → source_of m p at ≡ source.Own i → source_number (source_of m p at) ≡ i + 1
  -- memory: no entry is to the spot
  pub memory : (source_of m p at ≡ source.Memory) ↔ Unwritten at (pending_for m p)
  -- and what is seen is what memory holds
  pub memory_value : source_of m p at ≡ source.Memory → view_of m p at ≡ stands_of m at
  -- a look that is taken reads one or the other
  pub something : source_of m p at ≡ source.Nothing → ⊥

abbrev pub SourceLaws : Type 0
SourceLaws = (m : Memory) (p : ℕ) (at : Spot) → SourceLaw m p at

-- a look that is taken says so; one that is refused has read nothing
pub record FromLaw (m : Memory) (p : ℕ) (at : Spot) : Type 0 where
  pub taken : (look_of m p at).no ≡ as_taken → from_of m p at ≡ source_of m p at
  pub refused : ((look_of m p at).no ≡ as_taken → ⊥) → from_of m p at ≡ source.Nothing

abbrev pub FromLaws : Type 0
FromLaws = (m : Memory) (p : ℕ) (at : Spot) → FromLaw m p at

-- the sweep's look, refused by 7 alone, is a read like any other: of a free cell too
pub record SweptFromLaw (m : Memory) (p c : ℕ) : Type 0 where
  pub taken : blocked_of m p ≡ false → swept_from_of m p c ≡ source_of m p (spot.Mark c)
  pub refused : blocked_of m p ≡ true → swept_from_of m p c ≡ source.Nothing

abbrev pub SweptFromLaws : Type 0
SweptFromLaws = (m : Memory) (p c : ℕ) → SweptFromLaw m p c
