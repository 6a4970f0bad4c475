-- R-6: "the look that serves all reads is to say whether it saw the reader's own pending store or memory, with the
-- place in the buffer, oldest counted as 0". Assumes nothing.
use Rattle.std.specs.Prelude.{◌≡◌, ◌↔◌, unwrap_or, ℕ, suc, ◌+◌, ◌<◌, ltb, length, get_or}
use mathlib.Core.List.{List, [], ◌∷◌, Memᴰ}
use Rattle.base.specs.Pick.{pick}
use Rattle.buffers.specs.declared.Spot.{Spot}
use Rattle.buffers.specs.declared.Store.{Store}
use Rattle.buffers.specs.declared.Entry.{Entry}
use Rattle.buffers.specs.declared.sources.Source.{Source}
use Rattle.buffers.specs.declared.sources.Source.TheVariants as source
use Rattle.buffers.specs.Stores.{no_entry, spot_of, hits_of}
use Rattle.buffers.specs.Buffers.{max_stores, newest_of}

-- going from the oldest to the newest, the last that hits the spot counts; i is the place of the entry
abbrev pub nearer_of : Spot → ℕ → Source → Entry → Source
nearer_of at i found e = pick (hits_of at e.store) (source.Own i) found

abbrev pub source_from : Spot → ℕ → Source → List Entry → Source
source_from at i found [] = found
source_from at i found (e ∷ es) = source_from at (suc i) (nearer_of at i found e) es

abbrev pub source_in : Spot → List Entry → Source
source_in at es = source_from at 0 source.Memory es

-- "0 for memory, the place plus 1 for the own buffer, 255 if nothing was read"
abbrev pub nothing_read : ℕ
nothing_read = 255

abbrev pub source_number : Source → ℕ
source_number source.Nothing = nothing_read
source_number source.Memory = 0
source_number (source.Own i) = pick (ltb i max_stores) (i + 1) nothing_read

-- "The last such answer of a run": of one answer after another
abbrev pub read_after : Source → Source → Source
read_after last source.Nothing = last
read_after last source.Memory = source.Memory
read_after last (source.Own i) = source.Own i

-- ---- what is proved of it, by position in the list of pending stores
-- entry i is to the spot, and no newer one is
pub record NewestAt (at : Spot) (es : List Entry) (i : ℕ) : Type 0 where
  pub there : i < length es
  pub hits : spot_of (get_or es i no_entry).store ≡ at
  pub last : (j : ℕ) → i < j → j < length es → spot_of (get_or es j no_entry).store ≡ at → ⊥

-- none is to the spot
abbrev pub Unhit : Spot → List Entry → Type 0
Unhit at es = (e : Entry) → Memᴰ e es → spot_of e.store ≡ at → ⊥

-- "the reader's own pending store .., with the place in the buffer", exactly then, and the value is that entry's
abbrev pub OwnExactly : Type 0
OwnExactly = (at : Spot) (es : List Entry) (i : ℕ) → (source_in at es ≡ source.Own i) ↔ NewestAt at es i

abbrev pub OwnValue : Type 0
OwnValue = (at : Spot) (es : List Entry) (i : ℕ) (other : Store) → source_in at es ≡ source.Own i → unwrap_or (newest_of at es) other ≡ (get_or es i no_entry).store

-- "or memory", exactly if none is to the spot
abbrev pub MemoryExactly : Type 0
MemoryExactly = (at : Spot) (es : List Entry) → (source_in at es ≡ source.Memory) ↔ Unhit at es
