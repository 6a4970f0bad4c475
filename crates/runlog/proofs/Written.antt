-- Records written from choices, and read again. Assumes nothing.
--     written_eight, written_record_bytes     a record is eight bytes
--     written_record_read, written_right      read again at any place it is the choice with its right check
--     log_opens                        a log written whole is admitted
--     log_records, log_choices         and its records are those of the choices
use mathlib.Core.Path.{◌≡◌, refl, ap, ap₂, ◌∙◌}
use mathlib.Core.List.{List, [], ◌∷◌, ◌++◌, append-nil}
use Prim.Native.Nat.{ℕ, zero, suc, ◌+◌, ◌*◌, ◌^◌, ◌≤◌, ◌<◌}
use native.Mathlib.Omega.{arith}
use lib.ListN.{length, get_or, get_or-append}
use lib.Seq.{get_or-append-add, ext_get_or}
use Rattle.base.specs.Pick.{listed}
use Rattle.base.proofs.Lists.{length_listed, listed_at}
use Rattle.state.specs.declared.Choice.{Choice}
use Rattle.header.specs.Bytes.{per_byte, byte_at, pair_at}
use Rattle.header.specs.Written.{little_of, bytes_of}
use Rattle.header.proofs.Littles.{little_read, pair_little, turn_at, bytes_join, bytes_each, bytes_little, bytes_turns}
use Rattle.header.proofs.Written as header
use Rattle.runlog.specs.declared.record.Record.{Record}
use Rattle.runlog.specs.Records.{record_size, check_place, choice_at, record_at, check_sum_of}
use Rattle.runlog.specs.Rule.{place_of}
use Rattle.runlog.specs.Statements.{choices_of}
use Rattle.runlog.specs.Written.{check_size, six_of, record_bytes, ChoiceFits, right_record, no_choice, choice_of, records_of, log_of, WrittenEight, WrittenRecordBytes, WrittenRecordRead, WrittenRight, LogOpens, LogRecords, LogChoices}

pub written_eight : WrittenEight
written_eight c = refl

pub written_record_bytes : WrittenRecordBytes
written_record_bytes c w = bytes_join (six_of c) (little_of check_size (check_sum_of c)) (bytes_each (six_of c) (omega arith)) (bytes_little check_size (check_sum_of c))

-- ---- where its eight bytes stand
module _ (log : List ℕ) (at : ℕ) (c : Choice) (w : ChoiceFits c) (b : (j : ℕ) → j < record_size → byte_at log (at + j) ≡ get_or (record_bytes c) j 0) where
  small : check_sum_of c < per_byte ^ check_size
  unfolding check_sum_of
  small = omega (arith, w.process, w.kind, w.op, w.x, w.f, w.y)

  check : pair_at log (at + check_place) ≡ check_sum_of c
  check = pair_little log (at + check_place) ∙ little_read check_size (check_sum_of c) (at + check_place) log small next
    where
      next : (j : ℕ) → j < check_size → byte_at log (at + check_place + j) ≡ get_or (little_of check_size (check_sum_of c)) j 0
      next j l = let e : at + check_place + j ≡ at + (check_place + j) = omega arith in rw e (b (check_place + j) (omega arith) ∙ get_or-append-add (six_of c) (little_of check_size (check_sum_of c)) j 0)

  choice : choice_at log at ≡ c
  unfolding choice_at
  choice =
      let e : at + 0 ≡ at = omega arith in
      let z : byte_at log at ≡ c.process = rw e at (b 0 (omega arith)) in
      rw (z, b 1 (omega arith), b 2 (omega arith), b 3 (omega arith), b 4 (omega arith), b 5 (omega arith)) refl

  read : record_at log at ≡ right_record c
  unfolding record_at
  read = rw (choice, check) refl

pub written_record_read : WrittenRecordRead
written_record_read before after c w =
    read (before ++ (record_bytes c ++ after)) (length before) c w
    (λ j l. get_or-append-add before (record_bytes c ++ after) j 0 ∙ get_or-append (record_bytes c) after 0 j l)

pub written_right : WrittenRight
written_right before after c w = rw (written_record_read before after c w) refl

-- ---- a whole log
pub log_opens : LogOpens
log_opens v h cs w f b =
    record {
      bytes = bytes_join (bytes_of v h) (records_of cs) (header.written_bytes v h w) (bytes_turns (λ k. record_bytes (choice_of cs k)) (length cs) (λ k l. written_record_bytes (choice_of cs k) (f k l)));
      admitted = header.written_admitted v h (records_of cs) w b;
    }

pub log_records : LogRecords
log_records v h cs i f k l = read (log_of v h cs) (place_of (log_of v h cs) k) (choice_of cs k) (f k l) at
  where
    turn : (j : ℕ) → j < record_size → get_or (records_of cs) (record_size * k + j) 0 ≡ get_or (record_bytes (choice_of cs k)) j 0
    turn j b = rw append-nil at (turn_at (λ n. record_bytes (choice_of cs n)) record_size (λ n. refl) (length cs) k j [] l b)

    at : (j : ℕ) → j < record_size → byte_at (log_of v h cs) (place_of (log_of v h cs) k + j) ≡ get_or (record_bytes (choice_of cs k)) j 0
    at j b =
        let e : place_of (log_of v h cs) k + j ≡ length (bytes_of v h) + (record_size * k + j) = omega (arith, header.written_size v h (records_of cs) i) in
        rw e (get_or-append-add (bytes_of v h) (records_of cs) (record_size * k + j) 0 ∙ turn j b)

pub log_choices : LogChoices
log_choices v h cs i f = up_to (length cs) (omega arith) ∙ whole
  where
    up_to : (n : ℕ) → n ≤ length cs → choices_of (log_of v h cs) n ≡ listed n (choice_of cs)
    up_to zero b = refl
    up_to (suc n) b = ap₂ (λ (l : List Choice) (c : Choice). l ++ (c ∷ [])) (up_to n (omega arith)) (ap (λ (r : Record). r.choice) (log_records v h cs i f n (omega arith)))

    sized : length (listed (length cs) (choice_of cs)) ≡ length cs
    sized = length_listed (choice_of cs) (length cs)

    whole : listed (length cs) (choice_of cs) ≡ cs
    whole = ext_get_or no_choice (listed (length cs) (choice_of cs)) cs sized (λ k b. listed_at (choice_of cs) (length cs) k no_choice (omega (arith, sized)))
