-- The set of the cells reached: `ReachedExactly`, `HeldReachedExactly`. Assumes nothing.
--     met_reach, reach_met        what a set can tell is all of reach, where memory keeps its bounds
--     reached_exactly             the computed set holds exactly the cells reached from a set
--     reach_by                    reach from the same cells, said otherwise
--     held_reached_exactly        the computed set holds exactly the cells reached from those held
--     held_below, reached_below   both sets stay within 1 to N
use mathlib.Core.Path.{◌≡◌}
use mathlib.Core.Bool.{true}
use Prim.Native.Nat.{ℕ, ◌^◌, ◌≤◌, ◌<◌}
use native.Mathlib.Nat.{lt_of_lt_of_le}
use native.Mathlib.Omega.{arith}
use lib.Pow.{pow_mono}
use Rattle.cells.specs.Sets.{max_set, Member, below_of}
use Rattle.cells.proofs.Belows.{below_of_lem, below_lt, below_member}
use Rattle.memory.specs.declared.Memory.{Memory}
use Rattle.memory.specs.Memories.{used_of}
use Rattle.state.specs.declared.State.{State}
use Rattle.reach.specs.Held.{Held, held_of}
use Rattle.reach.specs.Reach.{Names, first, second, Reach, here, via, reached_of}
use Rattle.reach.specs.Statements.{Bounds, ReachedExactly, Within, HeldReachedExactly}
use Rattle.reach.proofs.Closures.{Met, begun, led, reached_met}
use Rattle.reach.proofs.Helds.{held_from, held_has, held_within}

module _ (m : Memory) where
  met_reach : (start : ℕ) {c : ℕ} → Met m start c → Reach m (Member start) c
  met_reach start (begun p) = here p
  met_reach start (led r b u k l) = via (met_reach start r) u k

  module _ (w : Bounds m) where
    -- a field of an occupied cell names no cell above N
    names_within : (c d : ℕ) → used_of m c ≡ true → Names m c d → d ≤ m.cells
    names_within c d u (first e p) = omega (arith, w.fields c 0 u)
    names_within c d u (second e p) = omega (arith, w.fields c 1 u)

    reach_met : (start : ℕ) {c : ℕ} → Reach m (Member start) c → Met m start c
    reach_met start (here p) = begun p
    reach_met start (via {c = c} {d = d} r u k) =
        led (reach_met start r) (below_member m.used m.cells c w.used u) u k (omega (arith, names_within c d u k, w.cells))

    reach_within : (H : ℕ → Type 0) → ((c : ℕ) → H c → c ≤ m.cells) → (c : ℕ) → Reach m H c → c ≤ m.cells
    reach_within H h c (here p) = h c p
    reach_within H h c (via {c = b} r u k) = names_within b c u k

  reach_by : (H K : ℕ → Type 0) → ((c : ℕ) → H c → K c) → (c : ℕ) → Reach m H c → Reach m K c
  reach_by H K h c (here p) = here (h c p)
  reach_by H K h c (via {c = b} r u k) = via (reach_by H K h b r) u k

pub reached_exactly : ReachedExactly
reached_exactly m start w h c = (λ p. met_reach m start ((reached_met m start h c).0 p), λ r. (reached_met m start h c).1 (reach_met m w start r))

module _ (s : State) (w : Within s) where
  pub held_below : below_of (held_of s) s.memory.cells ≡ true
  held_below = below_of_lem (held_of s) s.memory.cells (λ c p. held_within s w c (held_from s c p))

  held_lt : held_of s < 2 ^ max_set
  held_lt = let h : s.memory.cells ≤ max_set = omega (arith, w.memory.cells) in lt_of_lt_of_le (below_lt (held_of s) s.memory.cells held_below) (pow_mono h)

  reached_from : (c : ℕ) → Member (reached_of s.memory (held_of s)) c → Reach s.memory (Held s) c
  reached_from c p = reach_by s.memory (Member (held_of s)) (Held s) (held_from s) c ((reached_exactly s.memory (held_of s) w.memory held_lt c).0 p)

  reached_has : (c : ℕ) → Reach s.memory (Held s) c → Member (reached_of s.memory (held_of s)) c
  reached_has c r =
      (reached_exactly s.memory (held_of s) w.memory held_lt c).1
      (reach_by s.memory (Held s) (Member (held_of s)) (λ d p. held_has s d (omega (arith, held_within s w d p, w.memory.cells)) p) c r)

  pub reached_below : below_of (reached_of s.memory (held_of s)) s.memory.cells ≡ true
  reached_below = below_of_lem (reached_of s.memory (held_of s)) s.memory.cells (λ c p. reach_within s.memory w.memory (Held s) (held_within s w) c (reached_from c p))

pub held_reached_exactly : HeldReachedExactly
held_reached_exactly s w c = (reached_from s w c, reached_has s w c)
