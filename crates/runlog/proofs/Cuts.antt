-- A log that is cut, and a log with more bytes after it. Assumes nothing.
--     cut_anywhere, cut_judged     cut after any byte past its header, it gives the run of its whole records
--     cut_in_header                cut inside its header, it is not runs
--     cut_back, cut_same_run       cut back to its whole records, it differs by a stop for the bytes left at most
--     more_bytes                   stopped by a refusal or a wrong check, it stays so
use mathlib.Core.Path.{◌≡◌, refl, sym, ap, ap₂, ◌∙◌}
use mathlib.Core.List.{List, ◌++◌}
use mathlib.Core.Logic.{inl, inr}
use Prim.Native.Nat.{ℕ, zero, suc, ◌+◌, ◌-◌, ◌*◌, ◌/◌, ◌%◌, ◌≤◌, ◌<◌}
use native.Mathlib.Omega.{arith}
use native.Mathlib.Decide.{ℕ_discrete}
use lib.ListN.{length, take, length-append, get_or-append}
use lib.Seq.{get_or-take, length-take-le}
use Rattle.base.specs.Refusals.{few_left}
use Rattle.buffers.specs.declared.sources.Source.{Source}
use Rattle.state.specs.declared.State.{State}
use Rattle.state.specs.declared.opening.Heap.{Heap}
use Rattle.state.specs.Openings.{opening_of}
use Rattle.header.specs.Bytes.{byte_at, pair_at}
use Rattle.header.specs.Header.{max_log, size_of}
use Rattle.header.specs.Admitted.{Admitted}
use Rattle.header.specs.Statements.{SameOpening}
use Rattle.header.proofs.Same.{header_decides, cut_inside}
use Rattle.runlog.specs.Answers.{Run}
use Rattle.runlog.specs.Records.{record_size, check_place, choice_at, record_at}
use Rattle.runlog.specs.Runs.{start_of, onward_of, closed_of, whole_of, left_of, played_of, outcome_told_of}
use Rattle.runlog.specs.Rule.{place_of, record_of, Whole, Taken, none, more, Stops, ended, short, wrong, refused, ReadAt, LastRead, never, last, RunTo, runs}
use Rattle.runlog.specs.Statements.{after_of, ran_of, CutAnywhere, CutJudged, CutInHeader, CutBack, SameButLeft, CutSame, MoreBytes}
use Rattle.runlog.proofs.Exacts.{closed_none, closed_few, closed_stays, run_to, judge_admitted, judge_refused, outcome_exactly}

-- ---- two logs with the same opening and the same bytes before a place
record_same : (log other : List ℕ) (at : ℕ) → ((i : ℕ) → i < at + record_size → byte_at other i ≡ byte_at log i) → record_at other at ≡ record_at log at
unfolding record_at choice_at pair_at
record_same log other at b =
    rw
    (b at (omega arith), b (at + 1) (omega arith), b (at + 2) (omega arith), b (at + 3) (omega arith), b (at + 4) (omega arith), b (at + 5) (omega arith), b (at + check_place) (omega arith), b (at + check_place + 1) (omega arith))
    refl

module _ (log other : List ℕ) (s : SameOpening log other) where
  same_record : (k : ℕ) → ((i : ℕ) → i < place_of log k + record_size → byte_at other i ≡ byte_at log i) → record_of other k ≡ record_of log k
  same_record k b = ap (λ (x : ℕ). record_at other (x + record_size * k)) s.size ∙ record_same log other (place_of log k) b

  same_first : (k : ℕ) → ((i : ℕ) → i < place_of log k → byte_at other i ≡ byte_at log i) → after_of other k ≡ after_of log k
  same_first zero b = ap (λ (h : Heap). start_of (opening_of h)) s.heap
  same_first (suc k) b = ap₂ onward_of (same_first k (λ i h. b i (omega arith))) (same_record k (λ i h. b i (omega arith)))

-- ---- cut
module _ (log : List ℕ) (j : ℕ) (a : Admitted log) (l : size_of log ≤ j) (m : j ≤ length log) where
  cut_length : length (take j log) ≡ j
  cut_length = length-take-le j log m

  cut_bytes : (i : ℕ) → i < j → byte_at (take j log) i ≡ byte_at log i
  cut_bytes i h = get_or-take j log i 0 h

  cut_same : SameOpening log (take j log)
  cut_same =
      header_decides log (take j log) a
      (record { bytes = λ i h. cut_bytes i (omega arith); not_short = omega (arith, cut_length); not_long = omega (arith, cut_length, a.not_long) })

  cut_run : ran_of (take j log) ≡ closed_of (after_of log ((j - size_of log) / record_size)) ((j - size_of log) % record_size)
  unfolding played_of
  cut_run =
      let e : length (take j log) - size_of (take j log) ≡ j - size_of log = ap₂ (λ (x y : ℕ). x - y) cut_length cut_same.size in
      ap (λ (x : ℕ). closed_of (after_of (take j log) (x / record_size)) (x % record_size)) e
      ∙ ap (λ (q : Run). closed_of q ((j - size_of log) % record_size)) (same_first log (take j log) cut_same ((j - size_of log) / record_size) (λ i h. cut_bytes i (omega arith)))

pub cut_anywhere : CutAnywhere
cut_anywhere log j a l m = cut_run log j a l m

pub cut_judged : CutJudged
cut_judged log j a l m = judge_admitted (take j log) (cut_same log j a l m).admitted ∙ ap outcome_told_of (cut_run log j a l m)

pub cut_in_header : CutInHeader
cut_in_header log j a h = judge_refused (take j log) (cut_inside log j a h)

closed_zero : (q : Run) → closed_of q 0 ≡ q
closed_zero q = go (ℕ_discrete q.stop 0)
  where
    go : Dec (q.stop ≡ 0) → closed_of q 0 ≡ q
    go (yes z) = closed_none q 0 z refl
    go (no n) = closed_stays q 0 n

pub cut_back : CutBack
unfolding played_of
cut_back log a =
    let w : ℕ = place_of log (whole_of log) in
    let c = cut_run log w a (omega arith) (omega (arith, a.not_short)) in
    let e : (w - size_of log) / record_size ≡ whole_of log = omega arith in
    let z : (w - size_of log) % record_size ≡ 0 = omega arith in
    let r : ran_of (take w log) ≡ after_of log (whole_of log) = c ∙ ap₂ (λ (x y : ℕ). closed_of (after_of log x) y) e z ∙ closed_zero (after_of log (whole_of log)) in
    ap (λ (q : Run). closed_of q (left_of log)) (sym r)

closed_same : (q : Run) (l : ℕ) → Dec (q.stop ≡ 0) → Dec (l ≡ 0) → SameButLeft (closed_of q l) q
closed_same q l (yes z) (yes e) = rw (closed_none q l z e) (record { steps = refl; state = refl; read = refl; stop = inl refl })
closed_same q l (yes z) (no n) = rw (closed_few q l z n) (record { steps = refl; state = refl; read = refl; stop = inr (refl, z) })
closed_same q l (no n) e = rw (closed_stays q l n) (record { steps = refl; state = refl; read = refl; stop = inl refl })

pub cut_same_run : CutSame
cut_same_run log a =
    let w = ran_of (take (place_of log (whole_of log)) log) in
    rw (cut_back log a) (closed_same w (left_of log) (ℕ_discrete w.stop 0) (ℕ_discrete (left_of log) 0))

-- ---- more bytes
module _ (log rest : List ℕ) (a : Admitted log) (m : length (log ++ rest) ≤ max_log) where
  longer : length log ≤ length (log ++ rest)
  longer = omega (arith, length-append log rest)

  more_same : SameOpening log (log ++ rest)
  more_same =
      header_decides log (log ++ rest) a
      (record { bytes = λ i h. get_or-append log rest 0 i (omega (arith, a.not_short)); not_short = omega (arith, a.not_short, longer); not_long = m })

  more_record : (k : ℕ) → Whole log k → record_of (log ++ rest) k ≡ record_of log k
  more_record k w = same_record log (log ++ rest) more_same k (λ i h. get_or-append log rest 0 i (omega arith))

  more_whole : (k : ℕ) → Whole log k → Whole (log ++ rest) k
  more_whole k w = omega (arith, longer, more_same.size)

  more_taken : {k : ℕ} {s : State} → Taken log k s → Taken (log ++ rest) k s
  more_taken none = rw (← more_same.heap) none
  more_taken (more k s t p w r e) =
      more k s t (more_taken p) (more_whole k w) (rw (more_record k w) r) (rw (more_record k w) e)

  more_stops : {k : ℕ} {s : State} {n : ℕ} → Stops log k s n → (n ≡ 0 → ⊥) → (n ≡ few_left → ⊥) → Stops (log ++ rest) k s n
  more_stops (ended e) x y = absurd (x refl)
  more_stops (short b e) x y = absurd (y refl)
  more_stops {k} {s} {n} (wrong w r) x y = wrong (more_whole k w) (rw (more_record k w) r)
  more_stops {k} {s} {n} (refused w r e) x y =
      let q = more_record k w in
      rw (← q) (refused (more_whole k w) (rw q r) (rw q e))

  -- a record taken before k is whole
  taken_whole : {k : ℕ} {s : State} (i : ℕ) → Taken log k s → i < k → Whole log i
  taken_whole i none l = absurd (omega arith)
  taken_whole i (more k s t p w r e) l = omega arith

  more_at : {v : Source} (i : ℕ) → Whole log i → ReadAt log i v → ReadAt (log ++ rest) i v
  more_at i w a = record { state = a.state; taken = more_taken a.taken; read = rw (more_record i w) a.read }

  more_read : {k n : ℕ} {s : State} → Taken log k s → LastRead log k n → LastRead (log ++ rest) k n
  more_read p (never e f) = never e (λ i l. more_at i (taken_whole i p l) (f i l))
  more_read p (last i v e n l a f) = last i v e n l (more_at i (taken_whole i p l) a) (λ j h m. more_at j (taken_whole j p m) (f j h m))

pub more_bytes : MoreBytes
unfolding outcome_told_of
more_bytes log rest a m x y =
    let j = judge_admitted log a in
    let r = run_to log a in
    let o = outcome_told_of (ran_of log) in
    let t : RunTo (log ++ rest) (outcome_told_of (ran_of log)) = record { state = r.state; taken = more_taken log rest a m r.taken; stops = more_stops log rest a m r.stops (rw j at x) (rw j at y); verdict = r.verdict; read = more_read log rest a m r.taken r.read } in
    sym ((outcome_exactly (log ++ rest) (outcome_told_of (ran_of log))).1 (runs (more_same log rest a m).admitted t)) ∙ sym j
