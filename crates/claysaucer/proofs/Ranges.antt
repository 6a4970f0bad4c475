-- How great the numbers of an outcome can be. Assumes nothing.
--     judged_ranged
use mathlib.Core.Path.{◌≡◌, refl}
use mathlib.Core.List.{List}
use mathlib.Core.Logic.{◌⊎◌, inl, inr}
use Prim.Native.Nat.{ℕ, ◌/◌, ◌≤◌, ◌<◌}
use native.Mathlib.Decide.{dec_lt}
use native.Mathlib.Omega.{arith}
use lib.ListN.{length}
use borrow.Author.Tests.{lt-ltb, le-ltb}
use Rattle.base.specs.Refusals.{few_left}
use Rattle.buffers.specs.declared.sources.Source.{Source}
use Rattle.buffers.specs.declared.sources.Source.TheVariants as source
use Rattle.buffers.specs.Buffers.{max_stores}
use Rattle.buffers.specs.Sources.{nothing_read, source_number}
use Rattle.state.specs.declared.State.{State}
use Rattle.engine.proofs.Theorems.{numbered}
use Rattle.verdict.specs.Judged.{Finding, is_malformed, Judged, loose, black_over_white, handshake, sound}
use Rattle.verdict.specs.Findings.{Found, malformed, formed, finding_of}
use Rattle.verdict.proofs.Formed.{found_exactly}
use Rattle.header.specs.Header.{max_log}
use Rattle.runlog.specs.Records.{record_size}
use Rattle.runlog.specs.Runs.{judge_of}
use Rattle.runlog.specs.Rule.{record_of, Taken, none, more, Stops, ended, short, wrong, refused, LastRead, never, last, Judges, shut, runs}
use Rattle.runlog.proofs.Exacts.{outcome_exactly}
use Rattle.claysaucer.specs.Statements.{OutcomeRanged, JudgedRanged}

judged_verdict : {s : State} {f : Finding} → Judged s f → f.verdict ≤ is_malformed
judged_verdict (loose l) = omega arith
judged_verdict (black_over_white n l) = omega arith
judged_verdict (handshake n m l) = omega arith
judged_verdict (sound n m l) = omega arith

found_verdict : {s : State} {f : Finding} → Found s f → f.verdict ≤ is_malformed
found_verdict (malformed n) = omega arith
found_verdict (formed w j) = judged_verdict j

module _ {log : List ℕ} {k : ℕ} {s : State} where
  stop_ranged : {n : ℕ} → Stops log k s n → n ≤ few_left
  stop_ranged (ended l) = omega arith
  stop_ranged (short l m) = omega arith
  stop_ranged (wrong l r) = omega arith
  stop_ranged (refused l r x) = omega (arith, numbered s (record_of log k).choice)

taken_ranged : {log : List ℕ} {k : ℕ} {s : State} → length log ≤ max_log → Taken log k s → k ≤ max_log / record_size
taken_ranged l none = omega arith
taken_ranged l (more k s t p w r e) = omega arith

number_ranged : (v : Source) → (source_number v ≤ max_stores) ⊎ (source_number v ≡ nothing_read)
number_ranged source.Nothing = inr refl
number_ranged source.Memory = inl (omega arith)
number_ranged (source.Own i) = go (dec_lt i max_stores)
  where
    go : Dec (i < max_stores) → (source_number (source.Own i) ≤ max_stores) ⊎ (source_number (source.Own i) ≡ nothing_read)
    go (yes l) = inl (rw (lt-ltb i max_stores l) (omega arith))
    go (no l) = inr (rw (le-ltb i max_stores (omega arith)) refl)

read_ranged : {log : List ℕ} {k n : ℕ} → LastRead log k n → (n ≤ max_stores) ⊎ (n ≡ nothing_read)
read_ranged (never e f) = inr e
read_ranged (last i v e n l a f) = rw e (number_ranged v)

pub judged_ranged : JudgedRanged
judged_ranged log = go ((outcome_exactly log (judge_of log)).0 refl)
  where
    go : Judges log (judge_of log) → OutcomeRanged (judge_of log)
    go (shut n u) = record { verdict = omega (arith, u.verdict); stop = omega (arith, u.stop); read = inr u.read; steps = omega (arith, u.steps) }
    go (runs a r) =
        let v = found_verdict ((found_exactly r.state (finding_of r.state)).0 refl) in
        record { verdict = omega (arith, r.verdict, v); stop = stop_ranged r.stops; read = read_ranged r.read; steps = taken_ranged a.not_long r.taken }
