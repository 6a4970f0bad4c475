-- The finding that is computed is document 01's, and the only one. Assumes nothing.
--     loose_exactly                                the set of the loose cells
--     judged_holds, judged_only, judged_exactly    the finding
--     verdicts_exactly                             each verdict exactly if it applies and no lesser one does
use mathlib.Core.Path.{◌≡◌, refl}
use mathlib.Core.Bool.{true, false}
use mathlib.Core.Logic.{◌⊎◌, inl, inr, ◌↔◌}
use Prim.Native.Nat.{ℕ, ◌^◌, ◌≤◌, ◌<◌}
use native.Mathlib.Nat.{lt_of_lt_of_le}
use native.Mathlib.Omega.{arith}
use lib.Pow.{pow_mono}
use Rattle.base.specs.Pick.{pick}
use Rattle.cells.specs.Sets.{max_set, is_none, member_of, Member, first_of}
use Rattle.cells.proofs.Bools.{split, not_both}
use Rattle.cells.proofs.Members.{is_none_none, is_none_false, is_none_of, is_none_member, in_minus, minus_both}
use Rattle.cells.proofs.Belows.{below_of_lem, below_lt, below_member}
use Rattle.cells.proofs.Firsts.{first_member, first_le, first_unique}
use Rattle.state.specs.declared.State.{State}
use Rattle.state.specs.States.{mutators_of}
use Rattle.reach.specs.Held.{held_of}
use Rattle.reach.specs.Reach.{reached_of}
use Rattle.reach.proofs.Reaches.{held_reached_exactly, reached_below}
use Rattle.verdict.specs.Colours.{BlackToWhite, black_to_white_of}
use Rattle.verdict.specs.Table.{Broken, broken_of}
use Rattle.verdict.specs.Judged.{Finding, is_sound, is_black_to_white, is_handshake, found, Loose, None, Least, Judged, loose, black_over_white, handshake, sound, loose_of, least_of, judged_of}
use Rattle.verdict.specs.Statements.{Bounded, LooseExactly, JudgedExactly, Verdicts, VerdictsExactly}
use Rattle.verdict.proofs.Colourings.{black_to_white_exactly}
use Rattle.verdict.proofs.Tables.{broken_exactly}

-- ---- a set that holds exactly the numbers that are such: empty, or with a least
record Holds (set : ℕ) (P : ℕ → Type 0) : Type 0 where
  fits : set < 2 ^ max_set
  exact : (c : ℕ) → Member set c ↔ P c

holds : (set : ℕ) (P : ℕ → Type 0) (n : ℕ) → n ≤ max_set → ((c : ℕ) → P c → c ≤ n) → ((c : ℕ) → Member set c ↔ P c) → Holds set P
holds set P n l within exact = record { fits = lt_of_lt_of_le (below_lt set n (below_of_lem set n (λ c p. within c ((exact c).0 p)))) (pow_mono l); exact = exact }

module _ (set : ℕ) (P : ℕ → Type 0) (h : Holds set P) where
  empty_none : is_none set ≡ true → None P
  empty_none e c p = not_both ((h.exact c).1 p) (is_none_none set c e)

  none_empty : None P → is_none set ≡ true
  none_empty none = is_none_of set (λ c. go c (split (member_of set c)))
    where
      go : (c : ℕ) → (member_of set c ≡ true) ⊎ (member_of set c ≡ false) → member_of set c ≡ false
      go c (inl p) = absurd (none c ((h.exact c).0 p))
      go c (inr p) = p

  first_least : is_none set ≡ false → Least P (first_of set)
  first_least e = record { such = (h.exact (first_of set)).0 (first_member set h.fits (is_none_false set e)); least = λ c p. first_le set c ((h.exact c).1 p) }

  least_some : (c : ℕ) → Least P c → is_none set ≡ false
  least_some c l = is_none_member set c ((h.exact c).1 l.such)

  least_first : (c : ℕ) → Least P c → first_of set ≡ c
  least_first c l = first_unique set c h.fits ((h.exact c).1 l.such) (λ d k. lower d k (split (member_of set d)))
    where
      lower : (d : ℕ) → d < c → (member_of set d ≡ true) ⊎ (member_of set d ≡ false) → member_of set d ≡ false
      lower d k (inl p) = absurd (omega (arith, l.least d ((h.exact d).0 p)))
      lower d k (inr p) = p

-- ---- the loose cells
pub loose_exactly : LooseExactly
unfolding loose_of
loose_exactly s w c = (into, out)
  where
    into : Member (loose_of s) c → Loose s c
    into p = let r = in_minus (reached_of s.memory (held_of s)) s.memory.used c p in record { reached = (held_reached_exactly s w.within c).0 r.0; free = r.1 }

    out : Loose s c → Member (loose_of s) c
    out l = minus_both (reached_of s.memory (held_of s)) s.memory.used c ((held_reached_exactly s w.within c).1 l.reached) l.free

module _ (s : State) (w : Bounded s) where
  cells_fit : s.memory.cells ≤ max_set
  cells_fit = omega (arith, w.within.memory.cells)

  loose_set : Holds (loose_of s) (Loose s)
  loose_set = holds (loose_of s) (Loose s) s.memory.cells cells_fit within (loose_exactly s w)
    where
      within : (c : ℕ) → Loose s c → c ≤ s.memory.cells
      within c l = below_member (reached_of s.memory (held_of s)) s.memory.cells c (reached_below s w.within) ((held_reached_exactly s w.within c).1 l.reached)

  black_set : Holds (black_to_white_of s) (BlackToWhite s)
  black_set = holds (black_to_white_of s) (BlackToWhite s) s.memory.cells cells_fit within (black_to_white_exactly s w)
    where
      within : (c : ℕ) → BlackToWhite s c → c ≤ s.memory.cells
      within c b = below_member s.memory.used s.memory.cells c w.within.memory.used b.black.occupied

  broken_set : Holds (broken_of s) (Broken s)
  broken_set = holds (broken_of s) (Broken s) (mutators_of s) (omega (arith, w.mutators)) (λ p b. b.mutator) (broken_exactly s w)

  -- ---- what is computed is a finding
  pub judged_holds : Judged s (judged_of s)
  unfolding judged_of
  judged_holds = one (split (is_none (loose_of s)))
    where
      three : None (Loose s) → None (BlackToWhite s) → (is_none (broken_of s) ≡ true) ⊎ (is_none (broken_of s) ≡ false)
          → Judged s (pick (is_none (broken_of s)) (found is_sound 0) (least_of is_handshake (broken_of s)))
      three l b (inl e) = rw e (sound l b (empty_none (broken_of s) (Broken s) broken_set e))
      three l b (inr e) = rw e (handshake l b (first_least (broken_of s) (Broken s) broken_set e))

      two : None (Loose s) → (is_none (black_to_white_of s) ≡ true) ⊎ (is_none (black_to_white_of s) ≡ false)
          → Judged s (pick (is_none (black_to_white_of s)) (pick (is_none (broken_of s)) (found is_sound 0) (least_of is_handshake (broken_of s))) (least_of is_black_to_white (black_to_white_of s)))
      two l (inl e) = rw e (three l (empty_none (black_to_white_of s) (BlackToWhite s) black_set e) (split (is_none (broken_of s))))
      two l (inr e) = rw e (black_over_white l (first_least (black_to_white_of s) (BlackToWhite s) black_set e))

      one : (is_none (loose_of s) ≡ true) ⊎ (is_none (loose_of s) ≡ false) → Judged s (judged_of s)
      one (inl e) = rw e (two (empty_none (loose_of s) (Loose s) loose_set e) (split (is_none (black_to_white_of s))))
      one (inr e) = rw e (loose (first_least (loose_of s) (Loose s) loose_set e))

  -- ---- and any finding is what is computed
  pub judged_only : {f : Finding} → Judged s f → f ≡ judged_of s
  unfolding judged_of
  judged_only (loose {c = c} l) =
      rw (least_some (loose_of s) (Loose s) loose_set c l, least_first (loose_of s) (Loose s) loose_set c l)
  judged_only (black_over_white {c = c} n l) =
      rw (
        none_empty (loose_of s) (Loose s) loose_set n,
        least_some (black_to_white_of s) (BlackToWhite s) black_set c l,
        least_first (black_to_white_of s) (BlackToWhite s) black_set c l,
      )
  judged_only (handshake {p = p} n b l) =
      rw (
        none_empty (loose_of s) (Loose s) loose_set n,
        none_empty (black_to_white_of s) (BlackToWhite s) black_set b,
        least_some (broken_of s) (Broken s) broken_set p l,
        least_first (broken_of s) (Broken s) broken_set p l,
      )
  judged_only (sound n b t) =
      rw (
        none_empty (loose_of s) (Loose s) loose_set n,
        none_empty (black_to_white_of s) (BlackToWhite s) black_set b,
        none_empty (broken_of s) (Broken s) broken_set t,
      )

pub judged_exactly : JudgedExactly
judged_exactly s w f = (λ e. rw e (judged_holds s w), judged_only s w)

-- ---- verdict by verdict
verdicts_of : {s : State} {f : Finding} → Judged s f → Verdicts s f
verdicts_of (loose {c = c} l) = record {
  loose = (λ e. (c, l.such), λ x. refl);
  loose_least = λ e. l;
  black_over_white = (λ e. absurd (omega arith), λ x. absurd (x.0 c l.such));
  black_to_white_least = λ e. absurd (omega arith);
  handshake = (λ e. absurd (omega arith), λ x. absurd (x.0 c l.such));
  handshake_least = λ e. absurd (omega arith);
  sound = (λ e. absurd (omega arith), λ x. absurd (x.0 c l.such));
  sound_number = λ e. absurd (omega arith);
}
verdicts_of (black_over_white {c = c} n l) = record {
  loose = (λ e. absurd (omega arith), λ x. absurd (n x.0 x.1));
  loose_least = λ e. absurd (omega arith);
  black_over_white = (λ e. (n, (c, l.such)), λ x. refl);
  black_to_white_least = λ e. l;
  handshake = (λ e. absurd (omega arith), λ x. absurd (x.1 c l.such));
  handshake_least = λ e. absurd (omega arith);
  sound = (λ e. absurd (omega arith), λ x. absurd (x.1 c l.such));
  sound_number = λ e. absurd (omega arith);
}
verdicts_of (handshake {p = p} n b l) = record {
  loose = (λ e. absurd (omega arith), λ x. absurd (n x.0 x.1));
  loose_least = λ e. absurd (omega arith);
  black_over_white = (λ e. absurd (omega arith), λ x. absurd (b x.1.0 x.1.1));
  black_to_white_least = λ e. absurd (omega arith);
  handshake = (λ e. (n, b, (p, l.such)), λ x. refl);
  handshake_least = λ e. l;
  sound = (λ e. absurd (omega arith), λ x. absurd (x.2 p l.such));
  sound_number = λ e. absurd (omega arith);
}
verdicts_of (sound n b t) = record {
  loose = (λ e. absurd (omega arith), λ x. absurd (n x.0 x.1));
  loose_least = λ e. absurd (omega arith);
  black_over_white = (λ e. absurd (omega arith), λ x. absurd (b x.1.0 x.1.1));
  black_to_white_least = λ e. absurd (omega arith);
  handshake = (λ e. absurd (omega arith), λ x. absurd (t x.2.0 x.2.1));
  handshake_least = λ e. absurd (omega arith);
  sound = (λ e. (n, b, t), λ x. refl);
  sound_number = λ e. refl;
}

pub verdicts_exactly : VerdictsExactly
verdicts_exactly s w = verdicts_of (judged_holds s w)
