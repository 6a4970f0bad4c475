-- What a buffer's laws take for granted of it. Assumes nothing.
use Rattle.std.specs.Prelude.{◌≡◌, ◌≤◌, length}
use Rattle.buffers.specs.declared.Buffer.{Buffer}
use Rattle.buffers.specs.Buffers.{max_stores}

-- "a FIFO buffer of at most 8 pending stores": the array has its length, and no more is pending than fits
pub record Sized (b : Buffer) : Type 0 where
  pub entries : length b.entries ≡ max_stores
  pub len : b.len ≤ max_stores
