-- Grey and black cells through a step. Assumes nothing.
--     grey_stays                   a grey cell stays grey, but for the one that is dropped (L5)
--     grey_was                     a grey cell was grey, or its mark has just been written
--     aside_work                   another process keeps its list and the cell that it greys
--     black_was                    a black cell was black, is the one dropped, or is new (L8)
use mathlib.Core.Path.{◌≡◌, refl, sym, subst, ◌∙◌}
use mathlib.Core.Bool.{Bool, true, false}
use mathlib.Core.List.{List}
use mathlib.Core.Logic.{◌⊎◌, inl, inr, ⊎_elim, by_cases}
use Prim.Native.Nat.{ℕ, ◌≤◌, ◌<◌}
use native.Mathlib.Omega.{arith}
use native.Mathlib.Decide.{ℕ_discrete}
use Rattle.cells.specs.Sets.{no_cells, Member}
use Rattle.cells.proofs.Bools.{split, not_both}
use Rattle.cells.proofs.Members.{member_empty, in_union, union_left, union_right, in_add, add_same, add_keeps, in_remove, remove_keeps, not_empty}
use Rattle.buffers.specs.declared.Store.TheVariants as store
use Rattle.buffers.specs.declared.Entry.{Entry}
use Rattle.memory.specs.declared.Memory.{Memory}
use Rattle.memory.specs.Memories.{used_of, mark_of, field_of}
use Rattle.state.specs.declared.Process.{Process}
use Rattle.state.specs.declared.State.{State}
use Rattle.state.specs.declared.Choice.{Choice}
use Rattle.state.specs.Codes.{row6_take, row7_drop, row8_take, no_stage}
use Rattle.state.specs.States.{mutators_of, process_of}
use Rattle.model.specs.Rows.{At, Marks, Row}
use Rattle.model.specs.Reasons.{mover}
use Rattle.claims.specs.Pending.{waiting_of}
use Rattle.verdict.specs.Colours.{White, Grey, Black}
use Rattle.spared.specs.Holds.{StoreIn}
use Rattle.spared.specs.Views.{Effect, Turns, Aside}
use Rattle.spared.specs.Inv.{Spared}
use Rattle.spared.specs.Lemmas.{Flip, Greyed, GreyStays, BlackWas, GreyWas}
use Rattle.spared.proofs.Effects.{row_effect}
use Rattle.spared.proofs.Turns.{row_turns}
use Rattle.spared.proofs.Paces.{row_aside}
use Rattle.spared.proofs.Marks.{marks_same, marked_cell_lem, mark_store}
use Rattle.spared.proofs.Shades.{black_marked}
use Rattle.spared.proofs.Flips.{row_sense}
use Rattle.spared.proofs.Stays.{far_collector}

-- ---- of a row
abbrev Dropped : State → Choice → ℕ → Type 0
Dropped s c d = At row7_drop no_stage (mover s c) × (((mover s c).x ≡ d) × (c.process ≡ 0))

-- another process keeps its list and the cell that it greys
pub aside_work : {o u : Process} → Aside o u → (u.work ≡ o.work) × (u.grey ≡ o.grey)
aside_work (Aside.aside r i e) = (rw e refl, rw e refl)

row_bound : {s t : State} {c : Choice} → Row s c t → c.process ≤ mutators_of s
row_bound (Row.collector k e r) = omega arith
row_bound (Row.mutator k e a b r) = omega arith
row_bound (Row.commits k e a b h) = omega arith

-- the cell being greyed is the one being marked
won : (s : State) (c : Choice) → Spared s → {r : ℕ} → Marks (mover s c) r → ((mover s c).grey ≡ 0 → ⊥) → (mover s c).grey ≡ r
won s c v i n = marks_same (v.of_marks c.process n).marks i

-- at a take the collector's list is empty
take_empty : (s : State) (c : Choice) → Spared s → (At row6_take no_stage (mover s c)) ⊎ (At row8_take no_stage (mover s c)) → (mover s c).work ≡ no_cells
take_empty s c v (inl a) = let z = far_collector s v.inv.formed c.process (omega (arith, a.place)) in rw z (v.unlisted (rw (rw z at a.place) refl))
take_empty s c v (inr a) = let z = far_collector s v.inv.formed c.process (omega (arith, a.place)) in rw z (v.unlisted (rw (rw z at a.place) refl))

module _ (s : State) (c : Choice) (v : Spared s) (d : ℕ) where
  abbrev Turned : State → Type 0
  Turned t = Turns s.system.work t.system.work (waiting_of s c.process) (mover s c) (process_of t c.process)

  -- the system's list
  gathered_stays : (t : State) → Turned t → Member s.system.work d → Grey t d
  gathered_stays t (Turns.keeps e f z) i = Grey.gathered (rw z i)
  gathered_stays t (Turns.greys k j e f g z) i = Grey.gathered (rw z i)
  gathered_stays t (Turns.wins k j l n e f z) i = Grey.gathered (rw z i)
  gathered_stays t (Turns.gives a e f z) i = Grey.gathered (rw z (union_left s.system.work (mover s c).work d i))
  gathered_stays t (Turns.takes a e f z) i = Grey.listed c.process (rw e i)
  gathered_stays t (Turns.drops a e f z) i = Grey.gathered (rw z i)

  gathered_was : (t : State) → Turned t → Member t.system.work d → Grey s d
  gathered_was t (Turns.keeps e f z) i = Grey.gathered (rw z at i)
  gathered_was t (Turns.greys k j e f g z) i = Grey.gathered (rw z at i)
  gathered_was t (Turns.wins k j l n e f z) i = Grey.gathered (rw z at i)
  gathered_was t (Turns.gives a e f z) i = ⊎_elim (λ g. Grey.gathered g) (λ g. Grey.listed c.process g) (in_union s.system.work (mover s c).work d (rw z at i))
  gathered_was t (Turns.takes a e f z) i = absurd (not_both (rw z at i) (member_empty d))
  gathered_was t (Turns.drops a e f z) i = Grey.gathered (rw z at i)

  -- the list of the process that steps
  list_stays : (t : State) → Turned t → Member (mover s c).work d → (Grey t d) ⊎ Dropped s c d
  list_stays t (Turns.keeps e f y) i = inl (Grey.listed c.process (rw e i))
  list_stays t (Turns.greys k j e f g y) i = inl (Grey.listed c.process (rw e i))
  list_stays t (Turns.wins {r = x} k j l n e f y) i = inl (Grey.listed c.process (rw e (add_keeps (mover s c).work x d i)))
  list_stays t (Turns.gives a e f y) i = inl (Grey.gathered (rw y (union_right s.system.work (mover s c).work d i)))
  list_stays t (Turns.takes a e f y) i = absurd (not_empty (mover s c).work d i (take_empty s c v a))
  list_stays t (Turns.drops a e f y) i =
      by_cases (ℕ_discrete (mover s c).x d) (λ z. inr (a, (z, far_collector s v.inv.formed c.process (omega (arith, a.place)))))
      (λ z. inl (Grey.listed c.process (rw e (remove_keeps (mover s c).work (mover s c).x d i z))))

  list_was : (t : State) → Turned t → Member (process_of t c.process).work d → Grey s d
  list_was t (Turns.keeps e f y) i = Grey.listed c.process (rw e at i)
  list_was t (Turns.greys k j e f g y) i = Grey.listed c.process (rw e at i)
  list_was t (Turns.wins {r = x} k j l n e f y) i =
      ⊎_elim (λ h. Grey.listed c.process h) (λ h. Grey.greying c.process (won s c v k n ∙ h) (let z = won s c v k n in omega (arith, n, z, h))) (in_add (mover s c).work x d (rw e at i))
  list_was t (Turns.gives a e f y) i = absurd (not_both (rw e at i) (member_empty d))
  list_was t (Turns.takes a e f y) i = Grey.gathered (rw e at i)
  list_was t (Turns.drops a e f y) i = Grey.listed c.process (in_remove (mover s c).work (mover s c).x d (rw e at i)).0

  -- the cell that it greys
  greying_stays : (t : State) → Turned t → (mover s c).grey ≡ d → 0 < d → Grey t d
  greying_stays t (Turns.keeps e f y) h p = Grey.greying c.process (f ∙ h) p
  greying_stays t (Turns.greys k j e f g y) h p = absurd (omega (arith, f, h))
  greying_stays t (Turns.wins {r = x} k j l n e f y) h p =
      let z : x ≡ d = sym (won s c v k n) ∙ h in
      let m = (v.looked c.process).done k j (rw l refl) in
      Grey.listed c.process (rw (e, z) (add_same (mover s c).work d p (omega (arith, z, (v.inv.formed.memory.used_cells x m.occupied).1, v.inv.formed.memory.few_cells))))
  greying_stays t (Turns.gives a e f y) h p = Grey.greying c.process (f ∙ h) p
  greying_stays t (Turns.takes a e f y) h p = Grey.greying c.process (f ∙ h) p
  greying_stays t (Turns.drops a e f y) h p = Grey.greying c.process (f ∙ h) p

  greying_was : (t : State) → c.process ≤ mutators_of s → Turned t → (process_of t c.process).grey ≡ d → 0 < d → Greyed s c d
  greying_was t l (Turns.keeps e f y) h p = Greyed.was (Grey.greying c.process (sym f ∙ h) p)
  greying_was t l (Turns.greys {r = x} k j e f g y) h p = let z : x ≡ d = sym g ∙ h in Greyed.now (subst (Marks (mover s c)) z k) j (subst (White s.memory) z ((v.looked c.process).white k j)) l
  greying_was t l (Turns.wins k j m n e f y) h p = absurd (omega (arith, f, h))
  greying_was t l (Turns.gives a e f y) h p = Greyed.was (Grey.greying c.process (sym f ∙ h) p)
  greying_was t l (Turns.takes a e f y) h p = Greyed.was (Grey.greying c.process (sym f ∙ h) p)
  greying_was t l (Turns.drops a e f y) h p = Greyed.was (Grey.greying c.process (sym f ∙ h) p)

pub grey_stays : GreyStays
grey_stays s t c v r d = go
  where
    go : Grey s d → (Grey t d) ⊎ Dropped s c d
    go (Grey.listed p i) =
        by_cases (ℕ_discrete p c.process) (λ z. list_stays s c v d t (row_turns s t c v.inv.formed r) (rw z at i))
        (λ z. inl (Grey.listed p (rw (aside_work (row_aside s t c v.inv.formed r p z)).0 i)))
    go (Grey.gathered i) = inl (gathered_stays s c v d t (row_turns s t c v.inv.formed r) i)
    go (Grey.greying p e l) =
        by_cases (ℕ_discrete p c.process) (λ z. inl (greying_stays s c v d t (row_turns s t c v.inv.formed r) (rw z at e) l))
        (λ z. inl (Grey.greying p ((aside_work (row_aside s t c v.inv.formed r p z)).1 ∙ e) l))

pub grey_was : GreyWas
grey_was s t c v r d = go
  where
    go : Grey t d → Greyed s c d
    go (Grey.listed p i) =
        by_cases (ℕ_discrete p c.process) (λ z. Greyed.was (list_was s c v d t (row_turns s t c v.inv.formed r) (rw z at i)))
        (λ z. Greyed.was (Grey.listed p (rw (aside_work (row_aside s t c v.inv.formed r p z)).0 at i)))
    go (Grey.gathered i) = Greyed.was (gathered_was s c v d t (row_turns s t c v.inv.formed r) i)
    go (Grey.greying p e l) =
        by_cases (ℕ_discrete p c.process) (λ z. greying_was s c v d t (row_bound r) (row_turns s t c v.inv.formed r) (rw z at e) l)
        (λ z. Greyed.was (Grey.greying p (sym (aside_work (row_aside s t c v.inv.formed r p z)).1 ∙ e) l))

-- ---- black cells
-- a new cell has null fields
effect_new : {c : Choice} {q : Process} {l : List Entry} {m n : Memory} → Effect c q l m n → (d : ℕ) → used_of m d ≡ false → used_of n d ≡ true → (f : ℕ) → field_of n d f ≡ 0
effect_new (Effect.calm u a f s) d g h = absurd (not_both h (u d ∙ g))
effect_new (Effect.marks i o e a u f s) d g h = absurd (not_both h (u d ∙ g))
effect_new (Effect.stores i o b e a u v s) d g h = absurd (not_both h (u d ∙ g))
effect_new (Effect.flips i e f u a v) d g h = absurd (not_both h (u d ∙ g))
effect_new (Effect.follows i e f u a v) d g h = absurd (not_both h (u d ∙ g))
effect_new {c = c} (Effect.allocates a o i f u e v b j w s) d g h = by_cases (ℕ_discrete d c.x) (λ z. rw z v) (λ z. absurd (not_both h (b d z ∙ g)))
effect_new {q = q} (Effect.frees a u b j w s) d g h = by_cases (ℕ_discrete d q.x) (λ z. absurd (not_both h (rw z u))) (λ z. absurd (not_both h (b d z ∙ g)))

-- a white cell stays white while fM stays, unless it is freed or its mark is committed
white_on : {m n : Memory} {d : ℕ} → mark_of n d ≡ mark_of m d → n.fm ≡ m.fm → White m d → used_of n d ≡ true → White n d
white_on e g w h = record { occupied = h; unequal = λ i. w.unequal (sym e ∙ i ∙ g) }

effect_whites : {c : Choice} {q : Process} {l : List Entry} {m n : Memory} → Effect c q l m n → n.fm ≡ m.fm → (d : ℕ) → White m d → used_of n d ≡ true → (White n d) ⊎ ((b : Bool) × StoreIn l (store.Mark d b))
effect_whites (Effect.calm u a f s) g d w h = inl (white_on (a d) g w h)
effect_whites {l = l} (Effect.marks {x} {b} i o e a u f s) g d w h = by_cases (ℕ_discrete d x) (λ z. inr (b, subst (λ (y : ℕ). StoreIn l (store.Mark y b)) (sym z) i)) (λ z. inl (white_on (a d z) g w h))
effect_whites (Effect.stores i o b e a u v s) g d w h = inl (white_on (v d) g w h)
effect_whites (Effect.flips i e f u a v) g d w h = inl (white_on (a d) g w h)
effect_whites (Effect.follows i e f u a v) g d w h = inl (white_on (a d) g w h)
effect_whites {c = c} (Effect.allocates a o i f u e v b j k s) g d w h = by_cases (ℕ_discrete d c.x) (λ z. absurd (not_both w.occupied (rw z f))) (λ z. inl (white_on (j d z) g w h))
effect_whites {q = q} (Effect.frees a u b j k s) g d w h = by_cases (ℕ_discrete d q.x) (λ z. absurd (not_both h (rw z u))) (λ z. inl (white_on (j d z) g w h))

dropped : (s : State) (c : Choice) (d : ℕ) → (Dropped s c d) ⊎ (Dropped s c d → ⊥)
dropped s c d = go (ℕ_discrete (mover s c).place row7_drop) (ℕ_discrete (mover s c).stage no_stage) (ℕ_discrete (mover s c).x d) (ℕ_discrete c.process 0)
  where
    go : Dec ((mover s c).place ≡ row7_drop) → Dec ((mover s c).stage ≡ no_stage) → Dec ((mover s c).x ≡ d) → Dec (c.process ≡ 0) → (Dropped s c d) ⊎ (Dropped s c d → ⊥)
    go (yes a) (yes b) (yes e) (yes f) = inl (record { place = a; stage = b }, (e, f))
    go (no a) b e f = inr (λ h. a h.0.place)
    go (yes a) (no b) e f = inr (λ h. b h.0.stage)
    go (yes a) (yes b) (no e) f = inr (λ h. e h.1.0)
    go (yes a) (yes b) (yes e) (no f) = inr (λ h. f h.1.1)

pub black_was : BlackWas
black_was s t c v r d b = sense (row_sense s t c v r)
  where
    -- not the cell that is dropped: a grey one would be grey, a white one white or grey
    was : t.memory.fm ≡ s.memory.fm → (Dropped s c d → ⊥) → used_of s.memory d ≡ true → Black s d
    was g n u =
        let grey : Grey s d → ⊥ = λ i. ⊎_elim b.not_grey n (grey_stays s t c v r d i) in
        record {
          occupied = u;
          not_grey = grey;
          not_white = λ w. ⊎_elim b.not_white (λ i. grey (Grey.greying c.process (mark_store s v c.process d i.0 i.1).grey (marked_cell_lem s v.inv.formed c.process i.1))) (effect_whites (row_effect s t c v.inv.formed r) g d w b.occupied);
        }

    used : t.memory.fm ≡ s.memory.fm → (Dropped s c d → ⊥) → (used_of s.memory d ≡ true) ⊎ (used_of s.memory d ≡ false) → (Black s d) ⊎ ((Dropped s c d) ⊎ ((used_of s.memory d ≡ false) × ((f : ℕ) → field_of t.memory d f ≡ 0)))
    used g n (inl u) = inl (was g n u)
    used g n (inr u) = inr (inr (u, effect_new (row_effect s t c v.inv.formed r) d u b.occupied))

    sense : (t.memory.fm ≡ s.memory.fm) ⊎ (Flip s t) → (Black s d) ⊎ ((Dropped s c d) ⊎ ((used_of s.memory d ≡ false) × ((f : ℕ) → field_of t.memory d f ≡ 0)))
    sense (inl g) = ⊎_elim (λ k. inr (inl k)) (λ n. used g n (split (used_of s.memory d))) (dropped s c d)
    sense (inr f) = absurd (f.none_marked d (black_marked t d b))
