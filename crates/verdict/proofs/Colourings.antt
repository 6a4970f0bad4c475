-- The tests and sets of the colours are document 01's colours. Assumes nothing.
--     white_exactly, grey_exactly, black_exactly        each colour
--     black_to_white_exactly                            the black cells that have a field naming a white one
use mathlib.Core.Path.{◌≡◌, refl}
use mathlib.Core.Bool.{Bool, true, false, not, false≢true}
use mathlib.Core.Logic.{◌⊎◌, inl, inr}
use Prim.Native.Nat.{ℕ, ◌≤◌}
use native.Mathlib.Omega.{arith}
use borrow.Author.Tests.{not-true}
use Rattle.base.specs.Pick.{same_bit}
use Rattle.base.proofs.Picking.{picked}
use Rattle.base.proofs.Bits.{same_bit_lem, bit_same}
use Rattle.base.proofs.Everies.{and_both}
use Rattle.cells.specs.Sets.{max_set, member_of, Member}
use Rattle.cells.proofs.Bools.{split, not_both}
use Rattle.cells.proofs.Members.{member_pos}
use Rattle.cells.proofs.Belows.{below_range}
use Rattle.memory.specs.declared.Memory.{Memory}
use Rattle.memory.specs.Memories.{used_of, mark_of, field_of}
use Rattle.state.specs.declared.Process.{Process}
use Rattle.state.specs.States.{no_process, process_of}
use Rattle.reach.specs.Reach.{Names, first, second}
use Rattle.reach.proofs.Folds.{fold_from, fold_keeps, fold_has, Joined, inside, alone, joined_from, joined_keeps, joined_has, joined_none}
use Rattle.verdict.specs.Colours.{White, Grey, listed, gathered, greying, Black, BlackToWhite, white_of, with_greys_of, greys_of, black_of, names_white_of, black_names_white_of, black_to_white_of}
use Rattle.verdict.specs.Statements.{WhiteExactly, GreyExactly, BlackExactly, BlackToWhiteExactly}
use Rattle.verdict.proofs.Such.{such_from, such_has}

-- ---- bits
not_of : (b : Bool) → (b ≡ true → ⊥) → not b ≡ true
not_of true n = absurd (n refl)
not_of false n = refl

-- ---- white
pub white_exactly : WhiteExactly
unfolding white_of
white_exactly m c = (into, out)
  where
    into : white_of m c ≡ true → White m c
    into p =
        let r = and_both (used_of m c) (not (same_bit (mark_of m c) m.fm)) p in
        record { occupied = r.0; unequal = λ e. not_both (rw e (bit_same m.fm)) (not-true (same_bit (mark_of m c) m.fm) r.1) }

    out : White m c → white_of m c ≡ true
    out w = rw w.occupied (not_of (same_bit (mark_of m c) m.fm) (λ e. w.unequal (same_bit_lem (mark_of m c) m.fm e)))

-- ---- grey
abbrev Greyed : Process → ℕ → Type 0
Greyed q c = Joined q.work q.grey c

pub grey_exactly : GreyExactly
unfolding greys_of
grey_exactly s c l = (λ p. into (fold_from with_greys_of Greyed no_process c (λ h q. joined_from c h q.work q.grey) s.system.work s.procs p), out)
  where
    of : (p : ℕ) → Greyed (process_of s p) c → Grey s c
    of p (inside q) = listed p q
    of p (alone e q) = greying p e q

    into : (Member s.system.work c) ⊎ ((p : ℕ) × Greyed (process_of s p) c) → Grey s c
    into (inl q) = gathered q
    into (inr q) = of q.0 q.1

    by : (p : ℕ) → Greyed (process_of s p) c → Member (greys_of s) c
    by p q = fold_has with_greys_of Greyed no_process c (λ h r. joined_keeps c h r.work r.grey) (λ h r. joined_has c l h r.work r.grey) (joined_none c) s.system.work s.procs p q

    out : Grey s c → Member (greys_of s) c
    out (listed p q) = by p (inside q)
    out (gathered q) = fold_keeps with_greys_of Greyed no_process c (λ h r. joined_keeps c h r.work r.grey) s.system.work s.procs q
    out (greying p e q) = by p (alone e q)

-- ---- black
pub black_exactly : BlackExactly
unfolding black_of
black_exactly s c l = (λ p. go p (split (used_of m c)) (split (white_of m c)), out)
  where
    m : Memory
    m = s.memory

    go : black_of m (greys_of s) c ≡ true → (used_of m c ≡ true) ⊎ (used_of m c ≡ false) → (white_of m c ≡ true) ⊎ (white_of m c ≡ false) → Black s c
    go p (inr u) w = absurd (false≢true (rw u at p))
    go p (inl u) (inl w) = absurd (false≢true (rw (u, w) at p))
    go p (inl u) (inr w) = record {
      occupied = u;
      not_white = λ k. not_both ((white_exactly m c).1 k) w;
      not_grey = λ k. not_both ((grey_exactly s c l).1 k) (not-true (member_of (greys_of s) c) (rw (u, w) at p));
    }

    out : Black s c → black_of m (greys_of s) c ≡ true
    out b = last (split (white_of m c))
      where
        last : (white_of m c ≡ true) ⊎ (white_of m c ≡ false) → black_of m (greys_of s) c ≡ true
        last (inl w) = absurd (b.not_white ((white_exactly m c).0 w))
        last (inr w) = rw (b.occupied, w) (not_of (member_of (greys_of s) c) (λ e. b.not_grey ((grey_exactly s c l).0 e)))

-- ---- a black cell that has a field naming a white one
names_white_lem : (m : Memory) (c : ℕ) → names_white_of m c ≡ true → (d : ℕ) × Names m c d × White m d
unfolding names_white_of
names_white_lem m c p = go (split (white_of m (field_of m c 0)))
  where
    go : (white_of m (field_of m c 0) ≡ true) ⊎ (white_of m (field_of m c 0) ≡ false) → (d : ℕ) × Names m c d × White m d
    go (inl w) = let k = (white_exactly m (field_of m c 0)).0 w in (field_of m c 0, first refl (member_pos m.used (field_of m c 0) k.occupied), k)
    go (inr w) = let k = (white_exactly m (field_of m c 1)).0 (rw w at p) in (field_of m c 1, second refl (member_pos m.used (field_of m c 1) k.occupied), k)

white_named : (m : Memory) (c d : ℕ) → Names m c d → White m d → names_white_of m c ≡ true
unfolding names_white_of
white_named m c d (first e z) w = rw (e, (white_exactly m d).1 w)
white_named m c d (second e z) w = rw (e, (white_exactly m d).1 w) (picked (λ t. t ≡ true) (white_of m (field_of m c 0)) refl refl)

pub black_to_white_exactly : BlackToWhiteExactly
unfolding black_to_white_of black_names_white_of
black_to_white_exactly s w c = (into, out)
  where
    m : Memory
    m = s.memory

    into : Member (black_to_white_of s) c → BlackToWhite s c
    into p =
        let r = such_from (black_names_white_of m (greys_of s)) m.cells c p in
        let t = and_both (black_of m (greys_of s) c) (names_white_of m c) r.1 in
        let n = names_white_lem m c t.1 in
        record { black = (black_exactly s c (omega (arith, r.0, w.within.memory.cells))).0 t.0; named = n.0; names = n.1; white = n.2 }

    out : BlackToWhite s c → Member (black_to_white_of s) c
    out b =
        let l = below_range m.used m.cells c w.within.memory.used b.black.occupied in
        let k : c ≤ max_set = omega (arith, l.1, w.within.memory.cells) in
        such_has (black_names_white_of m (greys_of s)) m.cells c l.0 l.1 k
        (rw ((black_exactly s c k).1 b.black) (white_named m c b.named b.names b.white))
