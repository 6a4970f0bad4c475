-- The flags through each step of the collector's rounds. o is the collector before the step, t after it. Assumes
-- nothing.
--     not_due, not_awaited           where no round raises or polls no flag is due and none awaited
--     settled                        there a mutator is in step with its flag down
--     rests_flags                    a step between two such places
--     set_flags                      the type is set: all are due
--     up_flags, shaken_flags         a flag is up; a flag is down, and the mutator in step
--     raise_flags, raised_flags      a flag is raised: the others, and the one raised
--     last_flags, last_raised        the last one
--     poll_flags, over_flags         a poll that finds the flag down: one awaited less, and the last
use mathlib.Core.Path.{◌≡◌, sym}
use mathlib.Core.Bool.{true, false, false≢true}
use mathlib.Core.Logic.{◌⊎◌, inl, inr}
use Prim.Native.Nat.{ℕ}
use native.Mathlib.Omega.{arith}
use Rattle.cells.specs.Sets.{no_cells, member_of, Member, remove_of}
use Rattle.cells.proofs.Bools.{split, not_both}
use Rattle.cells.proofs.Members.{not_empty, in_remove, remove_keeps, remove_gone}
use Rattle.state.specs.declared.Part.{Part}
use Rattle.state.specs.declared.Process.{Process}
use Rattle.state.specs.Codes.{raise_stage, poll_stage}
use Rattle.formed.specs.Fits.{Among, round_places}
use Rattle.claims.specs.Posted.{busy_of}
use Rattle.claims.specs.Flags.{Due, Awaited, Flagged}
use Rattle.claims.proofs.Posted.{Rests}

-- ---- no round raises or polls
module _ (o : Process) (m : ℕ) (e : busy_of o.place o.stage ≡ false) where
  pub not_due : Due o m → ⊥
  not_due d = false≢true (sym (rw (d.round, d.stage) at e))

  pub not_awaited : Awaited o m → ⊥
  not_awaited (Awaited.raised r i l) = false≢true (sym (rw (r, i) at e))
  not_awaited (Awaited.polled r i l) = false≢true (sym (rw (r, i) at e))

  pub settled : {p : Part} → Flagged o m p → (p.raised ≡ false) × (p.in_step ≡ true)
  settled {p} f = go (split p.raised) (split p.in_step)
    where
      go : (p.raised ≡ true) ⊎ (p.raised ≡ false) → (p.in_step ≡ true) ⊎ (p.in_step ≡ false) → (p.raised ≡ false) × (p.in_step ≡ true)
      go (inl a) b = absurd (not_awaited (f.up a))
      go (inr a) (inl b) = (a, b)
      go (inr a) (inr b) = absurd (not_due (f.down.0 (a, b)))

pub rests_flags : {o t : Process} {m : ℕ} {p : Part} → Rests o t → Flagged o m p → Flagged t m p
rests_flags {o} {t} {m} r f =
    record {
      down = (λ e. absurd (not_due o m r.before (f.down.0 e)), λ d. absurd (not_due t m r.after d));
      up = λ e. absurd (not_awaited o m r.before (f.up e));
    }

-- ---- a round: the stage of t, and who is left
-- the type is set
pub set_flags : {t : Process} {m : ℕ} {p : Part} → Among t.place round_places → t.stage ≡ raise_stage → Member t.left m → p.raised ≡ false → p.in_step ≡ false → Flagged t m p
set_flags r s l a b = record { down = (λ e. record { round = r; stage = s; left = l }, λ d. (a, b)); up = λ e. absurd (not_both e a) }

-- while m awaits no raise and its flag is up, the flag is awaited
pub up_flags : {t : Process} {m : ℕ} {p : Part} → p.raised ≡ true → (Due t m → ⊥) → Awaited t m → Flagged t m p
up_flags a d w = record { down = (λ e. absurd (not_both a e.0), λ i. absurd (d i)); up = λ e. w }

-- a flag is down, and m in step
pub shaken_flags : {t : Process} {m : ℕ} {p : Part} → p.raised ≡ false → p.in_step ≡ true → (Due t m → ⊥) → Flagged t m p
shaken_flags a b d = record { down = (λ e. absurd (not_both b e.1), λ i. absurd (d i)); up = λ e. absurd (not_both e a) }

-- x alone is left, and m is another
only_left : (l x m : ℕ) → remove_of l x ≡ no_cells → Member l m → (m ≡ x → ⊥) → ⊥
only_left l x m z i n = not_empty (remove_of l x) m (remove_keeps l x m i (λ e. n (sym e))) z

module _ (o t : Process) (m x : ℕ) {p : Part} (r : Among t.place round_places) where
  -- a raise of x, and another m
  pub raise_flags : Among o.place round_places → o.stage ≡ raise_stage → t.stage ≡ raise_stage → t.left ≡ remove_of o.left x → (m ≡ x → ⊥) → Flagged o m p → Flagged t m p
  raise_flags q s i l n f =
      record {
        down = (
          λ e. record { round = r; stage = i; left = rw l (remove_keeps o.left x m (f.down.0 e).left (λ k. n (sym k))) },
          λ d. f.down.1 (record { round = q; stage = s; left = (in_remove o.left x m (rw l at d).left).0 }),
        );
        up = λ e. go (f.up e);
      }
    where
      gone : member_of o.left m ≡ false → (member_of t.left m ≡ true) ⊎ (member_of t.left m ≡ false) → member_of t.left m ≡ false
      gone c (inl k) = absurd (not_both (in_remove o.left x m (rw l at k)).0 c)
      gone c (inr k) = k

      go : Awaited o m → Awaited t m
      go (Awaited.raised a b c) = Awaited.raised r i (gone c (split (member_of t.left m)))
      go (Awaited.polled a b c) = absurd (omega arith)

  -- the last raise: nobody else was left, and all are awaited
  pub last_flags : remove_of o.left x ≡ no_cells → t.stage ≡ poll_stage → Member t.left m → (m ≡ x → ⊥) → Flagged o m p → Flagged t m p
  last_flags z s l n f = record { down = (λ e. absurd (only_left o.left x m z (f.down.0 e).left n), λ d. absurd (omega (arith, d.stage))); up = λ e. Awaited.polled r s l }

-- the one whose flag is raised
pub raised_flags : (o t : Process) (m : ℕ) {p : Part} → Among t.place round_places → t.stage ≡ raise_stage → t.left ≡ remove_of o.left m → p.raised ≡ true → Flagged t m p
raised_flags o t m r s l a = up_flags a (λ d. not_both (rw l at d).left (remove_gone o.left m)) (Awaited.raised r s (rw l (remove_gone o.left m)))

pub last_raised : (t : Process) (m : ℕ) {p : Part} → Among t.place round_places → t.stage ≡ poll_stage → Member t.left m → p.raised ≡ true → Flagged t m p
last_raised t m r s l a = up_flags a (λ d. omega (arith, d.stage)) (Awaited.polled r s l)

-- a poll: who is awaited, by a poll that found the flag of x down
module _ (o : Process) (m : ℕ) {p : Part} (s : o.stage ≡ poll_stage) (f : Flagged o m p) where
  waits : p.raised ≡ true → Member o.left m
  waits e = go (f.up e)
    where
      go : Awaited o m → Member o.left m
      go (Awaited.raised a b c) = absurd (omega arith)
      go (Awaited.polled a b c) = c

  -- no flag is due
  none_due : (p.raised ≡ false) × (p.in_step ≡ false) → ⊥
  none_due e = omega (arith, (f.down.0 e).stage)

  module _ (t : Process) (x : ℕ) (n : m ≡ x → p.raised ≡ false) where
    pub poll_flags : Among t.place round_places → t.stage ≡ poll_stage → t.left ≡ remove_of o.left x → Flagged t m p
    poll_flags r i l =
        record {
          down = (λ e. absurd (none_due e), λ d. absurd (omega (arith, d.stage)));
          up = λ e. Awaited.polled r i (rw l (remove_keeps o.left x m (waits e) (λ k. not_both e (n (sym k)))));
        }

    pub over_flags : busy_of t.place t.stage ≡ false → remove_of o.left x ≡ no_cells → Flagged t m p
    over_flags b z =
        record {
          down = (λ e. absurd (none_due e), λ d. absurd (not_due t m b d));
          up = λ e. absurd (only_left o.left x m z (waits e) (λ k. not_both e (n k)));
        }
