-- Marked, white and black cells of one state. Assumes nothing.
--     marked_or_white, marked_not_white     an occupied cell is one or the other
--     marked_good                           a marked cell is good
--     marked_black                          and black, if not grey
--     black_marked                          a black cell is marked
--     snap_marked                           where nothing is grey, what is reached from marked cells is marked (S4)
use mathlib.Core.Path.{◌≡◌}
use mathlib.Core.Bool.{true, false}
use mathlib.Core.Logic.{◌⊎◌, inl, inr, ⊎_elim}
use Prim.Native.Nat.{ℕ}
use Rattle.base.specs.Pick.{same_bit}
use Rattle.base.proofs.Bits.{same_bit_lem, bit_same}
use Rattle.cells.proofs.Bools.{split, not_both}
use Rattle.memory.specs.declared.Memory.{Memory}
use Rattle.memory.specs.Memories.{used_of, mark_of}
use Rattle.state.specs.declared.State.{State}
use Rattle.reach.specs.Reach.{here, via, Names}
use Rattle.verdict.specs.Colours.{White, Grey, Black}
use Rattle.spared.specs.Shades.{Marked, NoGrey, Snap}
use Rattle.spared.specs.Good.{Good}
use Rattle.spared.specs.Inv.{Spared}
use Rattle.spared.specs.Lemmas.{SnapMarked}

pub marked_or_white : (m : Memory) (c : ℕ) → used_of m c ≡ true → (Marked m c) ⊎ (White m c)
marked_or_white m c u = go (split (same_bit (mark_of m c) m.fm))
  where
    go : (same_bit (mark_of m c) m.fm ≡ true) ⊎ (same_bit (mark_of m c) m.fm ≡ false) → (Marked m c) ⊎ (White m c)
    go (inl e) = inl (record { occupied = u; equal = same_bit_lem (mark_of m c) m.fm e })
    go (inr e) = inr (record { occupied = u; unequal = λ h. not_both (rw h (bit_same m.fm)) e })

pub marked_not_white : {m : Memory} {c : ℕ} → Marked m c → White m c → ⊥
marked_not_white k w = w.unequal k.equal

pub marked_good : {s : State} {c : ℕ} → Marked s.memory c → Good s c
marked_good h = record { occupied = h.occupied; marked = λ _. h }

pub marked_black : {s : State} {c : ℕ} → Marked s.memory c → (Grey s c → ⊥) → Black s c
marked_black k n = record { occupied = k.occupied; not_white = marked_not_white k; not_grey = n }

pub black_marked : (s : State) (c : ℕ) → Black s c → Marked s.memory c
black_marked s c b = ⊎_elim (λ k. k) (λ w. absurd (b.not_white w)) (marked_or_white s.memory c b.occupied)

-- where nothing is grey marked cells lead to marked cells
leads : (s : State) → Spared s → NoGrey s → (c d : ℕ) → Marked s.memory c → Names s.memory c d → Marked s.memory d
leads s v n c d h e = go (marked_or_white s.memory d (v.closed c d (marked_good h) e).occupied)
  where
    go : (Marked s.memory d) ⊎ (White s.memory d) → Marked s.memory d
    go (inl i) = i
    go (inr i) = absurd (v.tricolour c (record { black = marked_black h (n c); named = d; names = e; white = i }))

pub snap_marked : SnapMarked
snap_marked s v n x k = go k
  where
    go : {d : ℕ} → Snap s.memory d → Marked s.memory d
    go (here h) = h
    go (via {c} {d} h u e) = leads s v n c d (go h) e
