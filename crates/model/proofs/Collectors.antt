-- The collector: each answer is a refusal for the first reason or a row. Assumes nothing.
--     spared                               a look of the sweep that frees nothing
--     scan_cell, scan_site                 row 7's mark as a site
--     other_left                           past the first field read there is another
--     collector_view                       the view of its step
use mathlib.Core.Path.{◌≡◌, refl, sym, ap, ◌∙◌, subst}
use mathlib.Core.Bool.{true, false}
use mathlib.Core.Logic.{◌⊎◌, inl, inr}
use Prim.Native.Nat.{ℕ, zero, suc, ◌<◌}
use native.Mathlib.Omega.{arith}
use Rattle.base.specs.Pick.{same_bit}
use Rattle.base.proofs.Picking.{pick_ind, pick_no}
use Rattle.base.proofs.Bits.{same_bit_lem, other_bit}
use Rattle.base.specs.Refusals.{as_taken}
use Rattle.cells.specs.Sets.{no_cells, Member, remove_of}
use Rattle.cells.proofs.Members.{not_empty, remove_keeps, full_has}
use Rattle.buffers.specs.Fits.{max_fields}
use Rattle.memory.specs.declared.Memory.{Memory}
use Rattle.memory.specs.Memories.{taken}
use Rattle.memory.specs.Looks.{look_sense_of, look_field_of, look_swept_of}
use Rattle.memory.specs.Steps.{free_of}
use Rattle.memory.specs.Asks.{looked_of, swept_sight}
use Rattle.memory.proofs.Effects.{is_taken}
use Rattle.state.specs.declared.Process.{Process}
use Rattle.state.specs.declared.State.{State}
use Rattle.state.specs.declared.Choice.{Choice}
use Rattle.state.specs.Codes.{row1_round, row2_read, row2_write, row3_round, row4_write, row4_round, row5_phase, row5_alloc, row5_round, row6_round, row6_take, row7_first, row7_mark, row7_next, row7_drop, row8_round, row8_take, row9_write, row10_look, row10_free, row11_write, no_stage}
use Rattle.state.specs.States.{at, noting, leaving, listing, process_of, with_process_of, with_memory, with_system}
use Rattle.state.specs.Choices.{all_fields, field_left_of}
use Rattle.marking.specs.Marks.{is_site_of, names_root_of, marked_cell, past_of}
use Rattle.collector.specs.Collectors.{is_round_of, row_offers_of, collector_offers, row_ask_of, collector_ask, sensed, flipped, taking, others_of, scanning, dropping, sweep_from_of, sweeping, swept, row_go_of, list_go_of, collector_go}
use Rattle.model.specs.Offers.{Bare, OnlyX, Scans, ScansOn, AmongOffered, mark_place, round_place, offer_of}
use Rattle.model.specs.Deeds.{row_deed, deed_of}
use Rattle.model.specs.Reasons.{mover}
use Rattle.model.specs.Rows as row
use Rattle.model.specs.Rows.{At, Marks, Collector, sees_value, finds_free, finds_mark, with_list}
use Rattle.model.specs.Views.{View}
use Rattle.model.proofs.Seeing.{bit_seen, value_seen, swept_free, swept_mark}
use Rattle.model.proofs.Standing.{placed}
use Rattle.own.specs.Owns.{own_offers, own_ask, own_go}
use Rattle.model.proofs.Road.{own_of, deed_for, is_own}
use Rattle.model.proofs.Marks.{Site, site, mark_view}
use Rattle.model.proofs.Places.{Test, blank, naming, first_read, next_read, stands, told_at, gone_at, place_view}
use Rattle.model.proofs.Rounds.{Collecting, from, round_view}

-- row 10 has no x noted where it looks: a look that frees nothing changes but what is left
pub spared : (q : Process) → At row10_look no_stage q → q.x ≡ 0 → (l : ℕ) → leaving l q ≡ at row10_look no_stage (noting 0 q.f q.y q.old (leaving l q))
spared q a n l = ap (leaving l) (stands q a) ∙ ap (λ (x : ℕ). at row10_look no_stage (noting x q.f q.y q.old (leaving l q))) n

-- past the first field read there is another
pub other_left : (f : ℕ) → f < max_fields → remove_of all_fields (field_left_of f) ≡ no_cells → ⊥
other_left zero l e = not_empty (remove_of all_fields 1) 2 (remove_keeps all_fields 1 2 (full_has max_fields 2 (omega arith) (omega arith) (omega arith)) (λ h. omega (arith, h))) e
other_left (suc zero) l e = not_empty (remove_of all_fields 2) 1 (remove_keeps all_fields 2 1 (full_has max_fields 1 (omega arith) (omega arith) (omega arith)) (λ h. omega (arith, h))) e
other_left (suc (suc f)) l e = absurd (omega arith)

module _ (s : State) (c : Choice) (z : Collecting s c) where
  abbrev q : Process
  q = mover s c

  abbrev Rows : State → Type 0
  Rows = Collector s c c.process q

  abbrev Out : Type 0
  Out = View Rows s c (own_of s c)

  -- the collector goes on as u
  abbrev Goes : State → Process → Type 0
  Goes x u = Rows (with_process_of x c.process u)

  -- ---- the rows whose end a test chooses
  abbrev emptied : State
  emptied = with_system s (with_list s.system no_cells)

  takes_row : (At row6_take no_stage q) ⊎ (At row8_take no_stage q) → Bare c → (k : ℕ) → Goes emptied (taking s.system.work (at k no_stage q))
  unfolding taking
  takes_row a b k =
      pick_no (Goes emptied) s.system.work 0
      (λ n. subst (λ (l : ℕ). Goes emptied (at row9_write no_stage (listing l q.roots q))) (sym n) (row.takes_none a b n))
      (λ n. row.takes a b n)

  first_row : At row7_first no_stage q → Scans c q.work → (v : ℕ) → look_field_of s.memory c.process c.x c.f ≡ sees_value v → Goes s (scanning c.x (others_of all_fields c) v (at row7_first no_stage q))
  unfolding scanning others_of past_of
  first_row a o v e =
      pick_no (Goes s) v 0
      (λ n. pick_no (Goes s) (remove_of all_fields (field_left_of c.f)) 0 (λ l. absurd (other_left c.f o.field l)) (λ l. row.reads_first_null a o (e ∙ ap sees_value n)))
      (λ n. row.reads_first a o e n)

  next_row : At row7_next no_stage q → ScansOn c q.left → (v : ℕ) → look_field_of s.memory c.process q.x c.f ≡ sees_value v → Goes s (scanning q.x (others_of q.left c) v (at row7_next no_stage q))
  unfolding scanning others_of past_of
  next_row a o v e =
      pick_no (Goes s) v 0
      (λ n. pick_no (Goes s) (remove_of q.left (field_left_of c.f)) 0 (λ l. rw l (row.reads_last_null a o (e ∙ ap sees_value n) l)) (λ l. row.reads_next_null a o (e ∙ ap sees_value n) l))
      (λ n. row.reads_next a o e n)

  drop_row : At row7_drop no_stage q → Bare c → Goes s (dropping (remove_of q.work q.x) (at row7_drop no_stage q))
  unfolding dropping
  drop_row a b = pick_no (Goes s) (remove_of q.work q.x) 0 (λ n. rw n (row.drops_last a b n)) (λ n. row.drops a b n)

  free_row : At row10_free no_stage q → Bare c → (m : Memory) → free_of s.memory c.process q.x ≡ taken m → Goes (with_memory s m) (sweeping (at row10_free no_stage q))
  unfolding sweeping
  free_row a b m e = pick_no (Goes (with_memory s m)) q.left 0 (λ n. row.frees_last a b e n) (λ n. row.frees a b e n)

  module _ (a : At row10_look no_stage q) (o : OnlyX c) (i : Member q.left c.x) where
    spare_row : (look_swept_of s.memory c.process c.x ≡ finds_free) ⊎ (look_swept_of s.memory c.process c.x ≡ finds_mark q.sense) → Goes s (sweeping (leaving (remove_of q.left c.x) (at row10_look no_stage q)))
    unfolding sweeping
    spare_row f =
        pick_no (Goes s) (remove_of q.left c.x) 0
        (λ n. rw n (subst (λ (x : ℕ). Goes s (at row11_write no_stage (noting x q.f q.y q.old (leaving no_cells q)))) (z.swept a.place) (row.spares_last a o i f n)))
        (λ n. subst (Goes s) (spared q a (z.swept a.place) (remove_of q.left c.x)) (row.spares a o i f n))

    sweep_row : (look_swept_of s.memory c.process c.x).no ≡ as_taken
        → Goes s (swept c.x (look_swept_of s.memory c.process c.x).used (look_swept_of s.memory c.process c.x).bit (at row10_look no_stage q))
    unfolding swept
    sweep_row n =
        let l = look_swept_of s.memory c.process c.x in
        pick_ind (Goes s) l.used
        (λ u. let f = swept_mark s.memory c.process c.x n u in
        pick_ind (Goes s) (same_bit q.sense l.bit)
        (λ t. spare_row (inr (f ∙ ap finds_mark (sym (same_bit_lem q.sense l.bit t)))))
        (λ t. row.condemns a o i (f ∙ ap finds_mark (sym (other_bit q.sense l.bit t)))))
        (λ u. spare_row (inl (swept_free s.memory c.process c.x n u)))

  -- ---- row 7's mark
  module _ (e : q.place ≡ row7_mark) where
    pub scan_cell : marked_cell c q ≡ q.cell
    unfolding marked_cell names_root_of
    scan_cell = placed (marked_cell c) q e

    pub scan_site : Site s c
    unfolding is_site_of names_root_of offer_of
    scan_site = site s c z.kind z.standing z.buffered (rw e refl) (rw e refl) (placed names_root_of q e) (placed offer_of q e)

    scan_view : Out
    scan_view = mark_view s c scan_site Rows (λ n t b m. row.marks b (subst (Marks q) (sym scan_cell) (row.field e)) m)

  -- ---- at a place with no stages: left is its row
  plain_view : {k : ℕ} → mark_place k ≡ false → round_place k ≡ false → Test c (offer_of (at k no_stage q)) (own_offers s.memory.cells c (at k no_stage q)) → deed_of c (at k no_stage q) ≡ deed_for (own_ask c (at k no_stage q))
      → is_own (own_ask c (at k no_stage q)) ≡ true → (At k no_stage q → AmongOffered s.memory.cells c q (offer_of (at k no_stage q)) → (told_at s c (at k no_stage q)).no ≡ 0 → Rows (gone_at s c (at k no_stage q) (told_at s c (at k no_stage q)))) → q.place ≡ k → Out
  plain_view {k} m r w d u f e =
      let a : At k no_stage q = record { place = e; stage = z.standing.unstaged (ap mark_place e ∙ m) (ap round_place e ∙ r) } in
      place_view s c a (omega (arith, z.first, e)) Rows z.kind z.buffered w refl refl refl d u (f a)

  -- ---- the place decides
  own_view : Out
  unfolding offer_of deed_of row_deed own_offers own_ask own_go is_site_of is_round_of collector_offers collector_ask collector_go row_offers_of row_ask_of row_go_of list_go_of sensed flipped sweep_from_of looked_of look_sense_of look_field_of swept_sight
  own_view =
      from q.place row1_round z.first (round_view s c row.row1 z)
      (λ l. from q.place row2_read l (plain_view refl refl blank refl refl (λ a b n. row.reads_sense a b (bit_seen (look_sense_of s.memory c.process) n)))
      (λ l. from q.place row2_write l (plain_view refl refl blank refl refl (λ a b n. row.writes_sense a b (is_taken _ n)))
      (λ l. from q.place row3_round l (round_view s c row.row3 z)
      (λ l. from q.place row4_write l (plain_view refl refl blank refl refl (λ a b n. row.writes_init a b (is_taken _ n)))
      (λ l. from q.place row4_round l (round_view s c row.row4 z)
      (λ l. from q.place row5_phase l (plain_view refl refl blank refl refl (λ a b n. row.writes_mark a b (is_taken _ n)))
      (λ l. from q.place row5_alloc l (plain_view refl refl blank refl refl (λ a b n. row.writes_alloc a b (is_taken _ n)))
      (λ l. from q.place row5_round l (round_view s c row.row5 z)
      (λ l. from q.place row6_round l (round_view s c row.row6 z)
      (λ l. from q.place row6_take l (plain_view refl refl blank refl refl (λ a b n. takes_row (inl a) b row6_take))
      (λ l. from q.place row7_first l (plain_view refl refl (first_read q.work) refl refl (λ a i n. first_row a i _ (value_seen (look_field_of s.memory c.process c.x c.f) n)))
      (λ l. from q.place row7_mark l scan_view
      (λ l. from q.place row7_next l (plain_view refl refl (next_read q.left) refl refl (λ a i n. next_row a i _ (value_seen (look_field_of s.memory c.process q.x c.f) n)))
      (λ l. from q.place row7_drop l (plain_view refl refl blank refl refl (λ a b n. drop_row a b))
      (λ l. from q.place row8_round l (round_view s c row.row8 z)
      (λ l. from q.place row8_take l (plain_view refl refl blank refl refl (λ a b n. takes_row (inr a) b row8_take))
      (λ l. from q.place row9_write l (plain_view refl refl blank refl refl (λ a b n. row.writes_sweep a b (is_taken _ n)))
      (λ l. from q.place row10_look l (plain_view refl refl (naming q.left) refl refl (λ a i n. sweep_row a i.0 i.1 n))
      (λ l. from q.place row10_free l (plain_view refl refl blank refl refl (λ a b n. free_row a b _ (is_taken _ n)))
      (λ l. from q.place row11_write l (plain_view refl refl blank refl refl (λ a b n. row.writes_idle a b (is_taken _ n)))
      (λ l. absurd (omega (arith, z.last)))))))))))))))))))))))

pub collector_view : (s : State) (c : Choice) → c.process ≡ 0 → Collecting s c → View (Collector s c 0 (process_of s 0)) s c (own_of s c)
collector_view s c e z = subst (λ (p : ℕ). View (Collector s c p (process_of s p)) s c (own_of s c)) e (own_view s c z)
