-- B6: from the sweep's end to the flip every occupied cell is marked. Assumes nothing.
--     step_rested      after each row
use mathlib.Core.Path.{◌≡◌, refl, sym, ap, subst, ◌∙◌}
use mathlib.Core.Bool.{Bool, true, false, not, false≢true}
use mathlib.Core.List.{List, [], ◌∷◌, Memᴰ}
use mathlib.Core.Logic.{◌⊎◌, inl, inr, ⊎_elim, by_cases}
use Prim.Native.Nat.{ℕ}
use native.Mathlib.Omega.{arith}
use native.Mathlib.Decide.{ℕ_discrete}
use lib.ListN.{get_or}
use Rattle.base.specs.Pick.{pick}
use Rattle.cells.specs.Sets.{Member, remove_of}
use Rattle.cells.proofs.Bools.{not_both}
use Rattle.cells.proofs.Members.{not_empty, remove_keeps}
use Rattle.buffers.specs.declared.Phase.{Phase}
use Rattle.buffers.specs.declared.Store.{Store}
use Rattle.buffers.specs.declared.Store.TheVariants as store
use Rattle.buffers.specs.declared.Entry.{Entry}
use Rattle.memory.specs.declared.Memory.{Memory}
use Rattle.memory.specs.Memories.{used_of}
use Rattle.memory.specs.Looks.{look_swept_of}
use Rattle.state.specs.declared.Process.{Process}
use Rattle.state.specs.declared.State.{State}
use Rattle.state.specs.declared.Choice.{Choice}
use Rattle.state.specs.Codes.{row2_write, row10_free, no_stage}
use Rattle.state.specs.States.{no_process, process_of}
use Rattle.model.specs.Rows.{At, finds_free, finds_mark, Row}
use Rattle.stays_formed.specs.Leaves.{Writes}
use Rattle.stays_formed.proofs.Frames.{named}
use Rattle.verdict.specs.Colours.{White}
use Rattle.claims.specs.Pending.{waiting_of}
use Rattle.claims.specs.Written.{Stretch, Moment, stretch_of, Wrote}
use Rattle.claims.specs.Inv.{Inv}
use Rattle.claims.proofs.Rules.{Checked, ruled}
use Rattle.claims.proofs.Answering.{implied}
use Rattle.claims.proofs.Inv.{row_inv}
use Rattle.spared.specs.Shades.{Marked, AllMarked}
use Rattle.spared.specs.Holds.{StoreIn}
use Rattle.spared.specs.Zones.{rests}
use Rattle.spared.specs.Rested.{Rested}
use Rattle.spared.specs.Views.{Effect}
use Rattle.spared.specs.Inv.{Spared}
use Rattle.spared.specs.Lemmas.{Flip, RowsKeep}
use Rattle.spared.proofs.Effects.{row_effect}
use Rattle.spared.proofs.Fills.{row_fills, row_waits, came}
use Rattle.spared.proofs.Sights.{sweep_mark, sweep_free}
use Rattle.spared.proofs.Eras.{alloc_follows, scan_noted, flip_waits}
use Rattle.spared.proofs.Shades.{marked_or_white, marked_not_white}
use Rattle.spared.proofs.Flips.{row_sense}
use Rattle.spared.proofs.Stays.{white_was}
use Rattle.spared.proofs.Begins.{Last, row_begins}

-- ---- a store of fM waits: row 3's fence
abbrev is_sense : Store → Bool
is_sense (store.Mark c b) = false
is_sense (store.Field c f v) = false
is_sense (store.Sense b) = true
is_sense (store.AllocSense b) = false
is_sense (store.Phase h) = false

abbrev has_sense_lem : List Entry → Bool
has_sense_lem [] = false
has_sense_lem (e ∷ l) = pick (is_sense e.store) true (has_sense_lem l)

has_sense : {l : List Entry} {b : Bool} → StoreIn l (store.Sense b) → has_sense_lem l ≡ true
has_sense {b = b} (StoreIn.pends e i h) = go i
  where
    more : (a d : Bool) → d ≡ true → pick a true d ≡ true
    more true d f = refl
    more false d f = f

    here : (x : Entry) (l : List Entry) → e ≡ x → has_sense_lem (x ∷ l) ≡ true
    here x l z = rw (← z, h) refl

    go : {l : List Entry} → Memᴰ e l → has_sense_lem l ≡ true
    go (Memᴰ.head {x} {xs} z) = here x xs z
    go (Memᴰ.tail {x} {xs} j) = more (is_sense x.store) (has_sense_lem xs) (go j)

abbrev flipped_of : Stretch → Bool
flipped_of Stretch.rests = false
flipped_of Stretch.flips = false
flipped_of Stretch.flipped = true
flipped_of Stretch.opens = false
flipped_of Stretch.allocates = false
flipped_of Stretch.allocated = false
flipped_of Stretch.marks = false
flipped_of Stretch.sweeps = false

-- n is the collector's noted fM, z its stretch, and b and d are memory's fM and fA
record Waits (n : Bool) (z : Stretch) (b d : Bool) : Type 0 where
  pub flipped : flipped_of z ≡ true
  pub sense : b ≡ not n
  pub same : d ≡ b

waits : {n : Bool} {z : Stretch} {w : Moment} {l : List Entry} {b d : Bool} {h : Phase} → Wrote n z w l b d h → has_sense_lem l ≡ true → Waits n z b d
waits Wrote.both_idle e = absurd (false≢true e)
waits Wrote.idle e = absurd (false≢true e)
waits Wrote.rests e = absurd (false≢true e)
waits Wrote.flips e = absurd (false≢true e)
waits Wrote.sense e = record { flipped = refl; sense = refl; same = refl }
waits Wrote.flipped e = absurd (false≢true e)
waits Wrote.init e = absurd (false≢true e)
waits Wrote.opens e = absurd (false≢true e)
waits Wrote.marking e = absurd (false≢true e)
waits Wrote.marked e = absurd (false≢true e)
waits Wrote.both_alloc e = absurd (false≢true e)
waits Wrote.alloc e = absurd (false≢true e)
waits Wrote.overtaken e = absurd (false≢true e)
waits Wrote.allocated e = absurd (false≢true e)
waits Wrote.marks e = absurd (false≢true e)
waits Wrote.mark e = absurd (false≢true e)
waits Wrote.sweep e = absurd (false≢true e)
waits Wrote.sweeps e = absurd (false≢true e)

abbrev WaitsAt : State → Type 0
WaitsAt s = Waits (process_of s 0).sense (stretch_of (process_of s 0).place) s.memory.fm s.memory.fa

sense_waits : (s : State) → Inv s → {b : Bool} → StoreIn (waiting_of s 0) (store.Sense b) → WaitsAt s
sense_waits s v i = waits v.written (has_sense i)

-- .. which is not at the places of the clause
rest_rule : Checked (λ k j. pick (rests k) (not (flipped_of (stretch_of k))) true)
rest_rule = ((((((((tt, refl), refl), refl), refl), refl), refl), refl), refl)

rests_apart : (s : State) → Inv s → rests (process_of s 0).place ≡ true → flipped_of (stretch_of (process_of s 0).place) ≡ true → ⊥
rests_apart s v h f = false≢true (rw f at (implied (rests (process_of s 0).place) (ruled (λ k j. pick (rests k) (not (flipped_of (stretch_of k))) true) rest_rule s v.formed) h))

-- ---- a row
effect_sense : {c : Choice} {q : Process} {l : List Entry} {m n : Memory} → ((b : Bool) → StoreIn l (store.Sense b) → ⊥) → Effect c q l m n → n.fm ≡ m.fm
effect_sense k (Effect.calm u a f s) = s.fm
effect_sense k (Effect.marks i o e a u f s) = s.fm
effect_sense k (Effect.stores i o b e a u v s) = s.fm
effect_sense k (Effect.flips {b} i e f u a v) = absurd (k b i)
effect_sense k (Effect.follows i e f u a v) = f
effect_sense k (Effect.allocates a o i f u e v b j w s) = s.fm
effect_sense k (Effect.frees a u b j w s) = s.fm

sense_writes : {q : Process} {b : Bool} → Writes q (store.Sense b) → At row2_write no_stage q
sense_writes (Writes.sense a) = a

module _ (s t : State) (c : Choice) (v : Spared s) (r : Row s c t) where
  -- but at row 3's fence fM stays
  sense_stays : (flipped_of (stretch_of (process_of s 0).place) ≡ true → ⊥) → t.memory.fm ≡ s.memory.fm
  sense_stays n = effect_sense (λ b i. n (sense_waits s v.inv (subst (λ p. StoreIn (waiting_of s p) (store.Sense b)) (flip_waits s v.inv c.process b i).0 i)).flipped) (row_effect s t c v.inv.formed r)

  -- where fA is fM a new cell is marked
  all_marked : t.memory.fm ≡ s.memory.fm → s.memory.fa ≡ s.memory.fm → ((d : ℕ) → White s.memory d → used_of t.memory d ≡ true → ⊥) → AllMarked t.memory
  all_marked e f n d u = ⊎_elim (λ k. k) (λ w. absurd (⊎_elim (λ i. n d i u) (λ i. i.1 f) (white_was s t c v r e d w))) (marked_or_white t.memory d u)

  stay_marked : t.memory.fm ≡ s.memory.fm → s.memory.fa ≡ s.memory.fm → AllMarked s.memory → AllMarked t.memory
  stay_marked e f a = all_marked e f (λ d w _. marked_not_white (a d w.occupied) w)

  rest_marked : rests (process_of s 0).place ≡ true → AllMarked t.memory
  rest_marked h = stay_marked (sense_stays (rests_apart s v.inv h)) (alloc_follows s v.inv (inr h)) (v.rested.at h)

  -- the sweep's last look finds its cell free or marked; its last free frees the last white cell
  last_marked : Last s t c (process_of s 0) → AllMarked t.memory
  last_marked (Last.looks a l e) =
      all_marked (sense_stays (λ f. false≢true (rw a.place at f))) (alloc_follows s v.inv (inl (rw a.place refl))) (λ d w _. go d w (v.swept.swept (rw a.place refl) d w.occupied))
    where
      seen : (d : ℕ) → White s.memory d → (look_swept_of s.memory 0 d ≡ finds_free) ⊎ (look_swept_of s.memory 0 d ≡ finds_mark (process_of s 0).sense) → ⊥
      seen d w (inl h) = not_both w.occupied (sweep_free s.memory 0 d h)
      seen d w (inr h) = w.unequal ((sweep_mark s v.inv a.place d (process_of s 0).sense h).1 ∙ scan_noted s v.inv (rw a.place refl))

      go : (d : ℕ) → White s.memory d → (Member (process_of s 0).left d) ⊎ ((Marked s.memory d) ⊎ (((process_of s 0).place ≡ row10_free) × ((process_of s 0).x ≡ d))) → ⊥
      go d w (inl i) = by_cases (ℕ_discrete c.x d) (λ z. seen d w (rw z at l)) (λ z. not_empty (remove_of (process_of s 0).left c.x) d (remove_keeps (process_of s 0).left c.x d i z) e)
      go d w (inr (inl k)) = marked_not_white k w
      go d w (inr (inr k)) = omega (arith, a.place, k.0)
  last_marked (Last.frees a e f) =
      all_marked (sense_stays (λ h. false≢true (rw a.place at h))) (alloc_follows s v.inv (inl (rw a.place refl))) (λ d w u. go d w u (v.swept.swept (rw a.place refl) d w.occupied))
    where
      go : (d : ℕ) → White s.memory d → used_of t.memory d ≡ true → (Member (process_of s 0).left d) ⊎ ((Marked s.memory d) ⊎ (((process_of s 0).place ≡ row10_free) × ((process_of s 0).x ≡ d))) → ⊥
      go d w u (inl i) = not_empty (process_of s 0).left d i e
      go d w u (inr (inl k)) = marked_not_white k w
      go d w u (inr (inr k)) = not_both u (rw k.1 at f)

  -- a store of fM that waits has waited, or is row 2's
  waited : {b : Bool} → StoreIn (waiting_of t 0) (store.Sense b) → (StoreIn (waiting_of s 0) (store.Sense b)) ⊎ At row2_write no_stage (process_of s 0)
  waited {b} i = go (ℕ_discrete 0 c.process)
    where
      go : Dec (0 ≡ c.process) → (StoreIn (waiting_of s 0) (store.Sense b)) ⊎ At row2_write no_stage (process_of s 0)
      go (yes z) = named (λ p. (StoreIn (waiting_of s p) (store.Sense b)) ⊎ At row2_write no_stage (process_of s p)) z (⊎_elim inl (λ w. inr (sense_writes w.1)) (came (row_fills s t c v.inv.formed r) (subst (λ p. StoreIn (waiting_of t p) (store.Sense b)) z i)))
      go (no z) = inl (rw (row_waits s t c v.inv.formed r 0 z) at i)

  flip_marked : {b : Bool} → StoreIn (waiting_of t 0) (store.Sense b) → AllMarked t.memory
  flip_marked {b} i = go (waited i)
    where
      -- in both states fM is the opposite of the noted one
      sensed : StoreIn (waiting_of s 0) (store.Sense b) → (t.memory.fm ≡ s.memory.fm) ⊎ Flip s t → t.memory.fm ≡ s.memory.fm
      sensed j (inl e) = e
      sensed j (inr f) =
          (sense_waits t (row_inv s c t v.inv r) i).sense ∙ ap (λ (q : List Process). not (get_or q 0 no_process).sense) f.procs ∙ sym (sense_waits s v.inv j).sense

      go : (StoreIn (waiting_of s 0) (store.Sense b)) ⊎ At row2_write no_stage (process_of s 0) → AllMarked t.memory
      go (inl j) = stay_marked (sensed j (row_sense s t c v r)) (sense_waits s v.inv j).same (v.rested.flip j)
      go (inr a) = rest_marked (rw a.place refl)

pub step_rested : RowsKeep Rested
step_rested s t c v r =
    record {
      at = λ h. ⊎_elim (rest_marked s t c v r) (last_marked s t c v r) ((row_begins s t c v.inv.formed r).swept h);
      flip = flip_marked s t c v r;
    }
