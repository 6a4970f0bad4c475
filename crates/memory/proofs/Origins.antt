-- Where a value came from: the laws of specs/Origins, proved. Assumes nothing.
--     source_laws              own store or memory, by position in the reader's list of pending stores
--     from_laws, swept_from_laws     what a look, and the sweep's, says of it
use mathlib.Core.Path.{◌≡◌, refl, ◌∙◌}
use mathlib.Core.Bool.{Bool, true, false}
use Prim.Native.Nat.{ℕ, ◌<◌}
use native.Mathlib.Omega.{arith}
use borrow.Author.Tests.{lt-ltb}
use Rattle.base.specs.Refusals.{as_taken}
use Rattle.buffers.specs.declared.Spot.{Spot}
use Rattle.buffers.specs.declared.sources.Source.TheVariants as source
use Rattle.buffers.specs.Buffers.{max_stores}
use Rattle.buffers.specs.Sources.{source_in}
use Rattle.buffers.proofs.Nearest.{own_exactly, own_value, memory_exactly, source_read}
use Rattle.memory.specs.declared.Memory.{Memory}
use Rattle.memory.specs.Memories.{blocked_of, there_of, stands_of}
use Rattle.memory.specs.Looks.{look_of, from_of, swept_from_of}
use Rattle.memory.specs.Views.{pending_for}
use Rattle.memory.specs.Origins.{SourceLaws, FromLaws, SweptFromLaws}
use Rattle.memory.proofs.Shapes.{Shaped, view_is, pending_fits}
use Rattle.memory.proofs.Sights.{look_no}
use Rattle.memory.proofs.Laws.{look_laws}

-- no buffer has a place past its last
placed : (m : Memory) (p : ℕ) (at : Spot) (i : ℕ) → Shaped m → source_in at (pending_for m p) ≡ source.Own i → i < max_stores
placed m p at i z e = let t = ((own_exactly at (pending_for m p) i).0 e).there in let f = pending_fits m z p in omega arith

pub source_laws : SourceLaws
unfolding pending_for
source_laws m p at =
    let es = pending_for m p in
    record {
      own = own_exactly at es;
      own_value = λ i e. view_is m p at ∙ own_value at es i (stands_of m at) e;
      own_number = λ i z e. rw (e, lt-ltb i max_stores (placed m p at i z e)) refl;
      memory = memory_exactly at es;
      memory_value = λ e. (look_laws m p at).memory ((memory_exactly at es).0 e);
      something = source_read at es;
    }

pub from_laws : FromLaws
unfolding from_of
from_laws m p at =
    record {
      taken = λ h. let k = (look_no m p at).second.0 h in rw (k.0, k.1);
      refused = λ h. go (blocked_of m p) refl (there_of m at) refl h;
    }
  where
    go : (b : Bool) → blocked_of m p ≡ b → (t : Bool) → there_of m at ≡ t → ((look_of m p at).no ≡ as_taken → ⊥) → from_of m p at ≡ source.Nothing
    go true e t f h = rw e
    go false e true f h = absurd (h ((look_no m p at).second.1 (e, f)))
    go false e false f h = rw (e, f)

pub swept_from_laws : SweptFromLaws
unfolding swept_from_of
swept_from_laws m p c = record { taken = λ e. rw e; refused = λ e. rw e }
