-- The walk that the program makes: what its loop knows, turn by turn. Assumes nothing.
--     walked_of                       the cells that reach goes through
--     Walking                        of what is seen, left and pending
--     walking_start, walking_next, walking_less, walking_end       before the first turn, after a turn, after the last
use mathlib.Core.Path.{◌≡◌, sym, ap, ◌∙◌}
use mathlib.Core.Bool.{true, false}
use mathlib.Core.Logic.{◌⊎◌, inl, inr, ◌↔◌}
use Prim.Native.Nat.{ℕ, ◌^◌, ◌≤◌, ◌<◌}
use native.Mathlib.Omega.{arith}
use native.Mathlib.Decide.{ℕ_discrete}
use Rattle.cells.specs.Sets.{max_set, is_none, member_of, Member, Sub, add_of, remove_of, inter_of, full_of, first_of}
use Rattle.cells.proofs.Bools.{split, not_both}
use Rattle.cells.proofs.Members.{member_pos, in_inter, inter_both, is_none_false, is_none_none, remove_keeps, full_has, in_full}
use Rattle.cells.proofs.Subsets.{sub_self, remove_sub}
use Rattle.cells.proofs.Belows.{lt_below, below_member, inter_le}
use Rattle.cells.proofs.Counts.{remove_less}
use Rattle.cells.proofs.Firsts.{first_member}
use Rattle.memory.specs.declared.Memory.{Memory}
use Rattle.memory.specs.Memories.{used_of, field_of}
use Rattle.reach.specs.Reach.{Names, follow_of}
use Rattle.reach.proofs.Closures.{Met, begun, led, follow_on, follow_grows, follow_has, follow_met, follow_lt}

-- "occupied cells", 1 to N
abbrev pub walked_of : Memory → ℕ
walked_of m = inter_of m.used (full_of m.cells)

module _ (m : Memory) (start : ℕ) where
  -- what is seen holds start and is all met; what a cell gone through names, one walked and no longer left, is seen
  pub record Walking (seen left pending : ℕ) : Type 0 where
    pub fits : seen < 2 ^ max_set
    pub is : pending ≡ inter_of seen left
    pub from : Sub start seen
    pub met : (x : ℕ) → Member seen x → Met m start x
    pub inside : Sub left (walked_of m)
    pub gone : (c d : ℕ) → Member (walked_of m) c → member_of left c ≡ false → Names m c d → d ≤ max_set → Member seen d

  pub walking_start : (left pending : ℕ) → start < 2 ^ max_set → left ≡ walked_of m → pending ≡ inter_of start left → Walking start left pending
  walking_start left pending h e is = record {
    fits = h;
    is = is;
    from = sub_self start;
    met = λ x p. begun p;
    inside = rw e (sub_self (walked_of m));
    gone = λ c d p q. absurd (not_both p (rw e at q));
  }

  module _ (seen left pending : ℕ) (w : Walking seen left pending) where
    -- the cell taken: the lowest one pending
    module _ (c : ℕ) (n : is_none pending ≡ false) (e : c ≡ first_of pending) where
      both : (Member seen c) × (Member left c)
      both =
          in_inter seen left c
          (rw (e, ← w.is) (first_member pending (omega (arith, ap (λ (x : ℕ). x) w.is, inter_le seen left, w.fits)) (is_none_false pending n)))

      walks : (Member m.used c) × (Member (full_of m.cells) c)
      walks = in_inter m.used (full_of m.cells) c (w.inside c both.1)

      still : (b d : ℕ) → Member (walked_of m) b → member_of (remove_of left c) b ≡ false → Names m b d → d ≤ max_set → Member (follow_of m seen c) d
      still b d p q k f = go (ℕ_discrete c b) (split (member_of left b))
        where
          go : Dec (c ≡ b) → (member_of left b ≡ true) ⊎ (member_of left b ≡ false) → Member (follow_of m seen c) d
          go (yes i) o = follow_has m seen c d both.0 walks.0 (rw (← i) at k) f
          go (no i) (inl o) = absurd (not_both (remove_keeps left c b o i) q)
          go (no i) (inr o) = follow_grows m seen c d (w.gone b d p o k f)

      pub walking_next : (seen' left' pending' : ℕ)
          → left' ≡ remove_of left c → seen' ≡ add_of (add_of seen (field_of m c 0)) (field_of m c 1) → pending' ≡ inter_of seen' left' → Walking seen' left' pending'
      walking_next seen' left' pending' l s is =
          let f = s ∙ sym (follow_on m seen c both.0 walks.0) in
          record {
            fits = rw f (follow_lt m seen c w.fits);
            is = is;
            from = λ x p. rw f (follow_grows m seen c x (w.from x p));
            met = λ x p. follow_met m start seen c (in_full m.cells c walks.1).1 w.met x (rw f at p);
            inside = λ x p. w.inside x (remove_sub left c x (rw l at p));
            gone = λ b d p q k g. rw f (still b d p (rw l at q) k g);
          }

      pub walking_less : (left' : ℕ) → left' ≡ remove_of left c → left' < left
      walking_less left' l = rw l (remove_less left c both.1)

    pub walking_end : is_none pending ≡ true → (x : ℕ) → Member seen x ↔ Met m start x
    walking_end e x = (w.met x, back)
      where
        through : (c : ℕ) → Member seen c → c ≤ m.cells → used_of m c ≡ true → Member (walked_of m) c
        through c p b u =
            inter_both m.used (full_of m.cells) c u
            (full_has m.cells c (member_pos seen c p) b (below_member seen max_set c (lt_below seen max_set w.fits) p))

        out : (c : ℕ) → Member seen c → member_of left c ≡ false
        out c p = go (split (member_of left c))
          where
            go : (member_of left c ≡ true) ⊎ (member_of left c ≡ false) → member_of left c ≡ false
            go (inl o) = absurd (not_both (rw w.is (inter_both seen left c p o)) (is_none_none pending c e))
            go (inr o) = o

        back : {y : ℕ} → Met m start y → Member seen y
        back (begun p) = w.from _ p
        back (led {c = c} {d = d} r b u k l) = w.gone c d (through c (back r) b u) (out c (back r)) k l
