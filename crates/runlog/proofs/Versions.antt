-- What comes after the header decides the run: logs of one heap and the same records, whatever their versions. Assumes
-- nothing.
--     records_decide      they have the same run
--     versions_alike      the version 1 log and the version 2 log of a heap and records
use mathlib.Core.Path.{◌≡◌, refl, sym, ap, ap₂, ◌∙◌}
use mathlib.Core.List.{List, ◌++◌}
use Prim.Native.Nat.{ℕ, zero, suc, ◌+◌, ◌-◌, ◌*◌, ◌/◌, ◌%◌}
use native.Mathlib.Omega.{arith}
use lib.ListN.{length, length-append}
use lib.Seq.{get_or-append-add}
use Rattle.state.specs.declared.State.{State}
use Rattle.state.specs.declared.opening.Heap.{Heap}
use Rattle.state.specs.Openings.{opening_of}
use Rattle.header.specs.Bytes.{byte_at, pair_at}
use Rattle.header.specs.Header.{version1, version2, size_of, heap_of}
use Rattle.header.specs.Written.{bytes_of, SaidIn}
use Rattle.header.proofs.Written.{written_size, written_admitted, written_said, said_in_two}
use Rattle.runlog.specs.Answers.{Run}
use Rattle.runlog.specs.Records.{record_size, check_place, choice_at, record_at}
use Rattle.runlog.specs.Runs.{run_through, onward_of, closed_of, played_of, outcome_told_of}
use Rattle.runlog.specs.Statements.{after_of, ran_of, SameRecords, RecordsDecide, VersionsAlike}
use Rattle.runlog.proofs.Exacts.{judge_admitted}

module _ (a b : List ℕ) (s : SameRecords a b) where
  byte : (n j : ℕ) → byte_at a (size_of a + n + j) ≡ byte_at b (size_of b + n + j)
  byte n j =
      let x : size_of a + n + j ≡ size_of a + (n + j) = omega arith in
      let y : size_of b + n + j ≡ size_of b + (n + j) = omega arith in
      rw (x, y) (s.bytes (n + j))

  same_record : (n : ℕ) → record_at a (size_of a + n) ≡ record_at b (size_of b + n)
  unfolding record_at choice_at pair_at
  same_record n = rw (s.bytes n, byte n 1, byte n 2, byte n 3, byte n 4, byte n 5, byte n check_place, last) refl
    where
      last : byte_at a (size_of a + n + check_place + 1) ≡ byte_at b (size_of b + n + check_place + 1)
      last =
          let x : size_of a + n + check_place + 1 ≡ size_of a + (n + 7) = omega arith in
          let y : size_of b + n + check_place + 1 ≡ size_of b + (n + 7) = omega arith in
          rw (x, y) (s.bytes (n + 7))

  same_through : (t : State) (k : ℕ) → run_through a (size_of a) t k ≡ run_through b (size_of b) t k
  same_through t zero = refl
  same_through t (suc k) = ap₂ onward_of (same_through t k) (same_record (record_size * k))

  same_after : (k : ℕ) → after_of a k ≡ after_of b k
  same_after k = ap (λ (h : Heap). run_through a (size_of a) (opening_of h) k) s.heap ∙ same_through (opening_of (heap_of b)) k

  same_ran : ran_of a ≡ ran_of b
  unfolding played_of
  same_ran = rw s.long (ap (λ (r : Run). closed_of r ((length b - size_of b) % record_size)) (same_after ((length b - size_of b) / record_size)))

pub records_decide : RecordsDecide
records_decide a b x y s =
    record {
      after = same_after a b s;
      ran = same_ran a b s;
      numbers = judge_admitted a x ∙ ap outcome_told_of (same_ran a b s) ∙ sym (judge_admitted b y);
    }

-- ---- the two logs of a heap and records
module _ (h : Heap) (records : List ℕ) (s : SaidIn version1 h) where
  two : SaidIn version2 h
  two = said_in_two h s.fits

  alike : SameRecords (bytes_of version1 h ++ records) (bytes_of version2 h ++ records)
  alike =
      let a = written_size version1 h records s.version in
      let b = written_size version2 h records two.version in
      record {
        heap = written_said version1 h records s ∙ sym (written_said version2 h records two);
        long = omega (arith, length-append (bytes_of version1 h) records, length-append (bytes_of version2 h) records, a, b);
        bytes = λ i. rw (a, b) (get_or-append-add (bytes_of version1 h) records i 0 ∙ sym (get_or-append-add (bytes_of version2 h) records i 0));
      }

pub versions_alike : VersionsAlike
versions_alike h records s x y =
    records_decide (bytes_of version1 h ++ records) (bytes_of version2 h ++ records) (written_admitted version1 h records s x) (written_admitted version2 h records (two h records s) y) (alike h records s)
