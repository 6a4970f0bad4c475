-- "any opening heap the header rules admit", both ways. Assumes nothing.
--     said_opens         the opening of a heap does not ask for roots above M
--     written_read       a sound heap is read from its own header
--     heaps_exactly      the sound heaps are those of the admitted logs
--     openings_exactly   and the openings of the heaps that fit are those of the admitted logs
use mathlib.Core.Path.{◌≡◌, refl, sym, ap, ◌∙◌, subst}
use mathlib.Core.List.{List, [], ◌++◌}
use Prim.Native.Nat.{ℕ, suc, ◌-◌, ◌≤◌, ◌<◌}
use native.Mathlib.Decide.{dec_lt}
use native.Mathlib.Omega.{arith}
use lib.ListN.{length, length-append}
use lib.Seq.{ext_get_or}
use borrow.Author.Tests.{lt-ltb, le-ltb}
use Rattle.base.specs.Pick.{listed}
use Rattle.base.proofs.Lists.{length_listed, listed_at}
use Rattle.memory.specs.Memories.{max_mutators}
use Rattle.state.specs.declared.opening.Heap.{Heap}
use Rattle.state.specs.Openings.{open_memory, open_process, roots_at, opening_of}
use Rattle.formed.specs.Fits.{HeapFits}
use Rattle.header.specs.Header.{max_log, version2, cell_place_of, roots_place_of, heap_of}
use Rattle.header.specs.Admitted.{Sound}
use Rattle.header.specs.Written.{heap_mutators, bytes_of, roots_said, as_said, SaidOpens, WrittenRead, Opens, HeapsExactly, OpeningsExactly}
use Rattle.header.proofs.Heaps.{heap_sound}
use Rattle.header.proofs.Littles.{bytes_join, bytes_each}
use Rattle.header.proofs.Written.{sized, said_in_two, written_bytes, written_admitted, written_said}

-- ---- what an opening needs of it
module _ (h : Heap) where
  same_memory : open_memory (as_said h) ≡ open_memory h
  unfolding open_memory as_said
  same_memory = refl

  same_process : (p r : ℕ) → open_process (as_said h) p r ≡ open_process h p r
  unfolding open_process as_said
  same_process p r = refl

  same_roots : (k : ℕ) → k < max_mutators → k < heap_mutators h → roots_at (as_said h) k ≡ roots_at h k
  unfolding as_said
  same_roots k b l = listed_at (roots_said h) max_mutators k 0 b ∙ rw (lt-ltb k (heap_mutators h) l) refl

  nobody : (p r t : ℕ) → h.processes ≤ p → open_process h p r ≡ open_process h p t
  unfolding open_process
  nobody p r t l = rw (le-ltb p h.processes l) refl

  mutator : (k : ℕ) → k < max_mutators → open_process (as_said h) (suc k) (roots_at (as_said h) k) ≡ open_process h (suc k) (roots_at h k)
  mutator k b = same_process (suc k) (roots_at (as_said h) k) ∙ go (dec_lt (suc k) h.processes)
    where
      go : Dec (suc k < h.processes) → open_process h (suc k) (roots_at (as_said h) k) ≡ open_process h (suc k) (roots_at h k)
      go (yes l) = ap (open_process h (suc k)) (same_roots k b (omega arith))
      go (no n) = nobody (suc k) (roots_at (as_said h) k) (roots_at h k) (omega arith)

pub said_opens : SaidOpens
unfolding opening_of
said_opens h = rw (same_memory h, mutator h 0 (omega arith), mutator h 1 (omega arith), mutator h 2 (omega arith), mutator h 3 (omega arith)) refl

sound_said : (h : Heap) → Sound h → as_said h ≡ h
unfolding as_said
sound_said h s = rw roots refl
  where
    at : (k : ℕ) → Dec (k < heap_mutators h) → roots_said h k ≡ roots_at h k
    at k (yes l) = rw (lt-ltb k (heap_mutators h) l) refl
    at k (no n) =
        let e : suc k - 1 ≡ k = omega arith in
        rw (le-ltb k (heap_mutators h) (omega arith)) (sym (rw e at (s.no_roots (suc k) (omega arith))))

    roots : listed max_mutators (roots_said h) ≡ h.roots
    roots = ext_get_or 0 (listed max_mutators (roots_said h)) h.roots (length_listed (roots_said h) max_mutators ∙ sym s.sized_roots) (λ k b. listed_at (roots_said h) max_mutators k 0 (omega (arith, length_listed (roots_said h) max_mutators)) ∙ at k (dec_lt k (heap_mutators h)))

pub written_read : WrittenRead
written_read v h records i s = written_said v h records i ∙ sound_said h s

-- ---- both ways: the log of a heap is its header in version 2, with no records
abbrev header_of : Heap → List ℕ
header_of h = bytes_of version2 h ++ []

short : (h : Heap) → HeapFits h → length (header_of h) ≤ max_log
unfolding roots_place_of cell_place_of
short h w = omega (arith, length-append (bytes_of version2 h) [], sized version2 h, w.cells.1, w.most)

log_opens : (h : Heap) → HeapFits h → Opens (header_of h)
log_opens h w =
    let s = said_in_two h w in
    record { bytes = bytes_join (bytes_of version2 h) [] (written_bytes version2 h s) (bytes_each [] (omega arith)); admitted = written_admitted version2 h [] s (short h w) }

pub heaps_exactly : HeapsExactly
heaps_exactly h = (λ s. (header_of h, log_opens h s.fits, written_read version2 h [] (said_in_two h s.fits) s), λ l. subst Sound l.2 (heap_sound l.0 l.1.admitted))

pub openings_exactly : OpeningsExactly
openings_exactly s = (
  λ o. (header_of o.0, log_opens o.0 o.1, ap opening_of (written_said version2 o.0 [] (said_in_two o.0 o.1)) ∙ said_opens o.0 ∙ o.2),
  λ l. (heap_of l.0, (heap_sound l.0 l.1.admitted).fits, l.2),
)
