-- What a taken step has read: the statements of specs/Readings, proved. Assumes nothing.
--     read_told     by the model's table of deeds
--     read_one      which says one thing
use mathlib.Core.Path.{◌≡◌, refl, sym, ap, ◌∙◌}
use mathlib.Core.Bool.{Bool, true, false, false≢true}
use mathlib.Core.List.{List}
use mathlib.Core.Logic.{by_cases}
use Prim.Native.Nat.{ℕ, ◌≤◌}
use native.Mathlib.Decide.{ℕ_discrete}
use native.Mathlib.Omega.{arith}
use lib.Dec.{eqb}
use Rattle.base.specs.Pick.{pick}
use Rattle.buffers.specs.declared.Spot.{Spot}
use Rattle.buffers.specs.declared.Spot.TheVariants as spot
use Rattle.buffers.specs.declared.Entry.{Entry}
use Rattle.buffers.specs.declared.sources.Source.{Source}
use Rattle.buffers.specs.declared.sources.Source.TheVariants as source
use Rattle.buffers.specs.Buffers.{pending_of}
use Rattle.buffers.specs.Sources.{source_in}
use Rattle.memory.specs.declared.Memory.{Memory}
use Rattle.memory.specs.declared.asks.Ask.{Ask}
use Rattle.memory.specs.declared.asks.Ask.TheVariants as ask
use Rattle.memory.specs.Memories.{buffer_of}
use Rattle.memory.specs.Asks.{looked_of, swept_sight, sight_of}
use Rattle.memory.proofs.Sights.{look_swept_no}
use Rattle.memory.proofs.Origins.{from_laws, swept_from_laws}
use Rattle.state.specs.declared.Process.{Process}
use Rattle.state.specs.declared.State.{State}
use Rattle.state.specs.declared.Choice.{Choice}
use Rattle.state.specs.States.{Answer, at, taken_of, refused_of}
use Rattle.state.specs.Codes.{top, store_mark_old, store_mark_y, store_write, noop_fence, noop_finish, roots_fence, roots_mark, roots_finish, work_fence, work_finish, row1_round, row2_read, row2_write, row3_round, row4_write, row4_round, row5_phase, row5_alloc, row5_round, row6_round, row6_take, row7_first, row7_mark, row7_next, row7_drop, row8_round, row8_take, row9_write, row10_look, row10_free, row11_write, look_stage, sense_stage, phase_stage, lock_stage, again_stage, write_stage, unlock_stage, fence_stage}
use Rattle.formed.specs.Fits.{WellFormed}
use Rattle.marking.specs.Marks.{is_site_of, names_root_of, marked_cell, stage_ask_of, mark_ask}
use Rattle.mutator.specs.Mutators.{top_ask_of, mutator_ask}
use Rattle.rounds.specs.Rounds.{round_ask}
use Rattle.collector.specs.Collectors.{is_round_of, row_ask_of, collector_ask}
use Rattle.own.specs.Owns.{own_ask}
use Rattle.model.specs.Deeds.{Deed, reads, sweeps, writes, fences, locks, unlocks, allocates, frees, apart, cell_of, top_deed, mark_deed, row_deed, deed_of}
use Rattle.model.specs.Reasons.{mover, waiting}
use Rattle.model.specs.Rows as row
use Rattle.model.specs.Rows.{Row}
use Rattle.model.proofs.Standing.{place_same}
use Rattle.model.proofs.Rounds.{from}
use Rattle.engine.specs.Steps.{ask_of, inner_of}
use Rattle.engine.specs.Readings.{read_by, ReadFrom, reading, sweeping, nothing, ReadTold, ReadOne}
use Rattle.engine.proofs.InPlace.{number_of, step_refused, step_unseen}
use Rattle.engine.proofs.Located.{collecting, mutating}
use Rattle.engine.proofs.Theorems.{exact, inner_formed}

-- ---- what is read: by an ask, and by a deed
data Look : Type 0 where
  none : Look
  spotted : Spot → Look
  swept : ℕ → Look

abbrev ask_look : Ask → Look
ask_look ask.Nothing = none
ask_look (ask.Look at) = spotted at
ask_look (ask.Sweep x) = swept x
ask_look ask.Fence = none
ask_look (ask.Make d) = none

abbrev deed_look : Deed → Look
deed_look (reads at) = spotted at
deed_look (sweeps x) = swept x
deed_look (writes v) = none
deed_look fences = none
deed_look locks = none
deed_look unlocks = none
deed_look (allocates x) = none
deed_look (frees x) = none
deed_look apart = none

-- ---- each place asks for the look that its deed is
record Agrees (a : Ask) (d : Deed) : Type 0 where
  same : ask_look a ≡ deed_look d

both : (b : Bool) {a k : Ask} {d e : Deed} → Agrees a d → Agrees k e → Agrees (pick b a k) (pick b d e)
both true x y = x
both false x y = y

left : (b : Bool) {a k : Ask} {d : Deed} → Agrees a d → Agrees k d → Agrees (pick b a k) d
left true x y = x
left false x y = y

module _ (c : Choice) (q : Process) where
  abbrev Same : Process → Type 0
  Same o = ask_look (own_ask c o) ≡ deed_look (deed_of c o)

  at_place : {k : ℕ} → q.place ≡ k → Same (at k q.stage q) → Same q
  at_place e h = place_same (λ o. ask_look (own_ask c o)) (λ o. deed_look (deed_of c o)) q e h

  top_same : Agrees (top_ask_of c) (top_deed c)
  unfolding top_ask_of top_deed
  top_same =
      both (eqb c.op 0) (record { same = refl })
      (both (eqb c.op 2) (record { same = refl })
      (both (eqb c.op 3) (record { same = refl })
      (both (eqb c.op 4) (record { same = refl })
      (record { same = refl }))))

  round_same : Agrees (pick (eqb q.stage fence_stage) ask.Fence ask.Nothing) (pick (eqb q.stage fence_stage) fences apart)
  round_same = both (eqb q.stage fence_stage) (record { same = refl }) (record { same = refl })

  -- past the last stage nothing is read either way
  mark_same : (o : Process) → marked_cell c o ≡ cell_of c o → Agrees (stage_ask_of (marked_cell c o) o) (mark_deed c o)
  unfolding stage_ask_of mark_deed
  mark_same o e =
      both (eqb o.stage look_stage) (record { same = ap (λ r. spotted (spot.Mark r)) e })
      (both (eqb o.stage sense_stage) (record { same = refl })
      (both (eqb o.stage phase_stage) (record { same = refl })
      (both (eqb o.stage lock_stage) (record { same = refl })
      (both (eqb o.stage again_stage) (record { same = ap (λ r. spotted (spot.Mark r)) e })
      (both (eqb o.stage write_stage) (record { same = refl })
      (left (eqb o.stage unlock_stage) (record { same = refl }) (record { same = refl })))))))

  same_look : q.place ≤ row11_write → Same q
  unfolding deed_of row_deed cell_of own_ask is_site_of is_round_of mark_ask marked_cell names_root_of mutator_ask collector_ask row_ask_of round_ask
  same_look last =
      from q.place top (omega arith) (λ e. at_place e top_same.same)
      (λ l. from q.place store_mark_old l (λ e. at_place e (mark_same (at store_mark_old q.stage q) refl).same)
      (λ l. from q.place store_mark_y l (λ e. at_place e (mark_same (at store_mark_y q.stage q) refl).same)
      (λ l. from q.place store_write l (λ e. at_place e refl)
      (λ l. from q.place noop_fence l (λ e. at_place e refl)
      (λ l. from q.place noop_finish l (λ e. at_place e refl)
      (λ l. from q.place roots_fence l (λ e. at_place e refl)
      (λ l. from q.place roots_mark l (λ e. at_place e (mark_same (at roots_mark q.stage q) refl).same)
      (λ l. from q.place roots_finish l (λ e. at_place e refl)
      (λ l. from q.place work_fence l (λ e. at_place e refl)
      (λ l. from q.place work_finish l (λ e. at_place e refl)
      (λ l. from q.place row1_round l (λ e. at_place e round_same.same)
      (λ l. from q.place row2_read l (λ e. at_place e refl)
      (λ l. from q.place row2_write l (λ e. at_place e refl)
      (λ l. from q.place row3_round l (λ e. at_place e round_same.same)
      (λ l. from q.place row4_write l (λ e. at_place e refl)
      (λ l. from q.place row4_round l (λ e. at_place e round_same.same)
      (λ l. from q.place row5_phase l (λ e. at_place e refl)
      (λ l. from q.place row5_alloc l (λ e. at_place e refl)
      (λ l. from q.place row5_round l (λ e. at_place e round_same.same)
      (λ l. from q.place row6_round l (λ e. at_place e round_same.same)
      (λ l. from q.place row6_take l (λ e. at_place e refl)
      (λ l. from q.place row7_first l (λ e. at_place e refl)
      (λ l. from q.place row7_mark l (λ e. at_place e (mark_same (at row7_mark q.stage q) refl).same)
      (λ l. from q.place row7_next l (λ e. at_place e refl)
      (λ l. from q.place row7_drop l (λ e. at_place e refl)
      (λ l. from q.place row8_round l (λ e. at_place e round_same.same)
      (λ l. from q.place row8_take l (λ e. at_place e refl)
      (λ l. from q.place row9_write l (λ e. at_place e refl)
      (λ l. from q.place row10_look l (λ e. at_place e refl)
      (λ l. from q.place row10_free l (λ e. at_place e refl)
      (λ l. from q.place row11_write l (λ e. at_place e refl)
      (λ l. absurd (omega (arith, last))))))))))))))))))))))))))))))))))

-- ---- where it came from
abbrev read_at : List Entry → Look → Source
read_at es none = source.Nothing
read_at es (spotted at) = source_in at es
read_at es (swept x) = source_in (spot.Mark x) es

-- a look that is taken
seen_from : (m : Memory) (p : ℕ) (a : Ask) → (sight_of m p a).no ≡ 0 → (sight_of m p a).from ≡ read_at (pending_of (buffer_of m p)) (ask_look a)
unfolding looked_of swept_sight
seen_from m p ask.Nothing e = refl
seen_from m p (ask.Look at) e = (from_laws m p at).taken e
seen_from m p (ask.Sweep x) e = (swept_from_laws m p x).taken ((look_swept_no m p x).second.0 e)
seen_from m p ask.Fence e = refl
seen_from m p (ask.Make d) e = refl

-- a step that is taken was let in, and its look was taken
module _ (s : State) (c : Choice) (t : State) (e : inner_of s c ≡ taken_of t) where
  abbrev asked : Ask
  asked = ask_of c (mover s c)

  taken_no : {n : ℕ} → inner_of s c ≡ refused_of n s → n ≡ 0
  taken_no h = ap (λ (a : Answer). a.no) (sym h ∙ e)

  let_in : number_of s c (mover s c) ≡ 0
  let_in = by_cases (ℕ_discrete (number_of s c (mover s c)) 0) (λ z. z) (λ n. absurd (n (taken_no (step_refused s c (mover s c) refl (number_of s c (mover s c)) refl n))))

  look_taken : (sight_of s.memory c.process asked).no ≡ 0
  look_taken =
      let v = sight_of s.memory c.process asked in
      by_cases (ℕ_discrete v.no 0) (λ z. z) (λ n. absurd (n (taken_no (step_unseen s c (mover s c) refl let_in asked refl v refl n))))

  read_is : read_by s c ≡ read_at (waiting s c) (ask_look asked)
  unfolding read_by
  read_is = seen_from s.memory c.process asked look_taken

-- ---- the deed says so
module _ (s : State) (c : Choice) (k : c.kind ≡ 0) where
  abbrev looks : Deed → Bool
  looks (reads at) = true
  looks (sweeps x) = true
  looks (writes v) = false
  looks fences = false
  looks locks = false
  looks unlocks = false
  looks (allocates x) = false
  looks (frees x) = false
  looks apart = false

  blind : (d : Deed) → looks d ≡ false → deed_of c (mover s c) ≡ d → ReadFrom s c source.Nothing
  blind d n e = nothing (λ at o. seeing (ap looks (sym o.1 ∙ e))) (λ x o. seeing (ap looks (sym o.1 ∙ e)))
    where
      seeing : true ≡ looks d → ⊥
      seeing h = false≢true (sym n ∙ sym h)

  deed_read : (d : Deed) → deed_of c (mover s c) ≡ d → ReadFrom s c (read_at (waiting s c) (deed_look d))
  deed_read (reads at) e = reading at (k, e)
  deed_read (sweeps x) e = sweeping x (k, e)
  deed_read (writes v) e = blind (writes v) refl e
  deed_read fences e = blind fences refl e
  deed_read locks e = blind locks refl e
  deed_read unlocks e = blind unlocks refl e
  deed_read (allocates x) e = blind (allocates x) refl e
  deed_read (frees x) e = blind (frees x) refl e
  deed_read apart e = blind apart refl e

  own_ask_lem : ask_of c (mover s c) ≡ own_ask c (mover s c)
  unfolding ask_of
  own_ask_lem = rw k refl

  own_read : (t : State) → inner_of s c ≡ taken_of t → (mover s c).place ≤ row11_write → ReadFrom s c (read_by s c)
  own_read t e l =
      let h : ask_look (ask_of c (mover s c)) ≡ deed_look (deed_of c (mover s c)) = ap ask_look own_ask_lem ∙ same_look c (mover s c) l in
      rw (read_is s c t e, h) (deed_read (deed_of c (mover s c)) refl)

commit_read : (s : State) (c : Choice) → c.kind ≡ 1 → ReadFrom s c (read_by s c)
unfolding read_by ask_of
commit_read s c k = rw k (nothing (λ at o. omega (arith, o.0)) (λ x o. omega (arith, o.0)))

pub read_told : ReadTold
read_told s c t e = let w = (exact s c t).0 e in go t w.0 w.1 (sym (inner_formed s c w.0) ∙ e)
  where
    go : (u : State) → WellFormed s → Row s c u → inner_of s c ≡ taken_of u → ReadFrom s c (read_by s c)
    go u w (row.collector k z r) i = own_read s c k u i (collecting s c w k z).last
    go u w (row.mutator k {p} z l h r) i = own_read s c k u i (omega (arith, (mutating s c w k (omega arith) (omega arith)).place))
    go u w (row.commits k {p} z h b a) i = commit_read s c k

pub read_one : ReadOne
read_one s c a b (reading at o) (reading x u) = ap (λ (l : Look). read_at (waiting s c) l) (ap deed_look (sym o.1 ∙ u.1))
read_one s c a b (reading at o) (sweeping x u) = ap (λ (l : Look). read_at (waiting s c) l) (ap deed_look (sym o.1 ∙ u.1))
read_one s c a b (reading at o) (nothing f g) = absurd (f at o)
read_one s c a b (sweeping x o) (reading at u) = ap (λ (l : Look). read_at (waiting s c) l) (ap deed_look (sym o.1 ∙ u.1))
read_one s c a b (sweeping x o) (sweeping y u) = ap (λ (l : Look). read_at (waiting s c) l) (ap deed_look (sym o.1 ∙ u.1))
read_one s c a b (sweeping x o) (nothing f g) = absurd (g x o)
read_one s c a b (nothing f g) (reading at o) = absurd (f at o)
read_one s c a b (nothing f g) (sweeping x o) = absurd (g x o)
read_one s c a b (nothing f g) (nothing h i) = refl
