-- The collector: each row is an answer. Assumes nothing.
--     collector_complete      a row's state is what the code answers
use mathlib.Core.Path.{◌≡◌, refl, sym, ap, subst}
use mathlib.Core.Bool.{true}
use mathlib.Core.Logic.{◌⊎◌, inl, inr}
use Prim.Native.Nat.{ℕ}
use native.Mathlib.Omega.{arith}
use borrow.Author.Tests.{ne_eqb}
use Rattle.base.proofs.Bits.{bit_same, bit_other}
use Rattle.base.specs.Refusals.{as_taken}
use Rattle.cells.specs.Sets.{no_cells, Member, remove_of}
use Rattle.memory.specs.declared.Memory.{Memory}
use Rattle.memory.specs.Answers.{Done}
use Rattle.memory.specs.declared.asks.Ask.TheVariants as ask
use Rattle.memory.specs.declared.asks.Change.{Change}
use Rattle.memory.specs.Memories.{taken}
use Rattle.memory.specs.Looks.{look_swept_of}
use Rattle.memory.specs.Asks.{blind, done_of, swept_sight}
use Rattle.memory.proofs.Tellings.{sense_told, field_told}
use Rattle.state.specs.declared.Handshake.{Handshake}
use Rattle.state.specs.declared.RoundType.{RoundType}
use Rattle.state.specs.declared.Process.{Process}
use Rattle.state.specs.declared.State.{State}
use Rattle.state.specs.declared.Choice.{Choice}
use Rattle.state.specs.Codes.{row7_mark, row10_look, row11_write, no_stage}
use Rattle.state.specs.States.{at, noting, leaving, process_of, with_process_of, with_memory, taken_of}
use Rattle.state.specs.Choices.{all_fields, field_left_of}
use Rattle.state.specs.Acts.{advance_of, typed, raised_of, setting_of, going_on}
use Rattle.marking.specs.Marks.{is_site_of, marked_cell, past_of}
use Rattle.rounds.specs.Rounds.{round_offers, round_ask, raising, polling, poll_go, round_go}
use Rattle.collector.specs.Collectors.{is_round_of, row_offers_of, collector_offers, row_ask_of, collector_ask, sensed, flipped, taking, others_of, scanning, dropping, sweep_from_of, sweeping, swept, row_go_of, list_go_of, collector_go}
use Rattle.model.specs.Offers.{OnlyX}
use Rattle.model.specs.Reasons.{mover}
use Rattle.model.specs.Rows.{At, finds_free, finds_mark, Marks, old, new, root, field, Advance, noop, roots, work, flagged, Collector, fences, types, raises, raises_last, polls_up, polls, polls_last, reads_sense, writes_sense, writes_init, writes_mark, writes_alloc, takes, takes_none, reads_first, reads_first_null, marks, reads_next, reads_next_null, reads_last_null, drops, drops_last, writes_sweep, spares, spares_last, condemns, frees, frees_last, writes_idle}
use Rattle.model.proofs.Offering.{bare_blank, one_naming, first_scanning, next_scanning}
use Rattle.model.proofs.Lists.{all_off_lem}
use Rattle.own.specs.Owns.{own_offers, own_ask, own_go}
use Rattle.model.proofs.Road.{own_of}
use Rattle.model.proofs.Marks.{mark_row}
use Rattle.model.proofs.Places.{stands, told_at, gone_at, place_row}
use Rattle.model.proofs.Rounds.{Collecting, round_row_lem}
use Rattle.model.proofs.Collectors.{spared, other_left, scan_cell, scan_site}

advances : {t : RoundType} {g h : Handshake} → Advance t g h → advance_of t g ≡ h
advances noop = refl
advances roots = refl
advances work = refl

module _ (s : State) (c : Choice) (z : Collecting s c) where
  abbrev q : Process
  q = mover s c

  -- the collector goes on as u
  abbrev goes : State → Process → State
  goes x u = with_process_of x c.process u

  abbrev left : ℕ
  left = remove_of q.left c.x

  -- ---- at a place with no stages
  plain_row : {k : ℕ} {t : State} → At k no_stage q → own_offers s.memory.cells c (at k no_stage q) ≡ true → (told_at s c (at k no_stage q)).no ≡ 0 → gone_at s c (at k no_stage q) (told_at s c (at k no_stage q)) ≡ t → own_of s c ≡ taken_of t
  plain_row a o n g = place_row s c a (omega (arith, z.first, a.place)) o refl n g

  -- memory changes by d
  make_row : {k : ℕ} {d : Change} {m : Memory} {u : Process} → At k no_stage q → own_offers s.memory.cells c (at k no_stage q) ≡ true → own_ask c (at k no_stage q) ≡ ask.Make d → done_of s.memory c.process d ≡ taken m
      → own_go c (setting_of s c.x) (blind as_taken) (at k no_stage q) ≡ going_on u → own_of s c ≡ taken_of (goes (with_memory s m) u)
  make_row a o h e g = place_row s c a (omega (arith, z.first, a.place)) o h (ap (λ (d : Done). d.no) e) (rw (e, g) refl)

  -- row 10: the cell is free, or its mark is the noted fM
  spare_row : {t : State} → At row10_look no_stage q → OnlyX c → Member q.left c.x → (look_swept_of s.memory c.process c.x ≡ finds_free) ⊎ (look_swept_of s.memory c.process c.x ≡ finds_mark q.sense)
      → goes s (sweeping (leaving left (at row10_look no_stage q))) ≡ t → own_of s c ≡ taken_of t
  unfolding own_offers own_ask own_go is_site_of is_round_of collector_offers collector_ask collector_go row_offers_of row_ask_of row_go_of list_go_of swept swept_sight
  spare_row a o i (inl e) g = plain_row a (one_naming c q.left o i) (rw e refl) (rw e g)
  spare_row a o i (inr e) g = plain_row a (one_naming c q.left o i) (rw e refl) (rw (e, bit_same q.sense) g)

  -- ---- row 7's mark
  scans : {r : ℕ} → Marks q r → (q.place ≡ row7_mark) × (marked_cell c q ≡ r)
  scans (old e) = absurd (omega (arith, z.first))
  scans (new e) = absurd (omega (arith, z.first))
  scans (root e) = absurd (omega (arith, z.first))
  scans (field e) = (e, scan_cell s c z e)

  -- ---- each row
  row_answer : {t : State} → Collector s c c.process q t → own_of s c ≡ taken_of t
  unfolding own_offers own_ask own_go is_site_of is_round_of collector_offers collector_ask collector_go row_offers_of row_ask_of row_go_of list_go_of sensed flipped taking scanning others_of past_of dropping sweep_from_of sweeping swept swept_sight round_offers round_ask round_go typed raising raised_of polling poll_go
  row_answer (fences r a b e) = round_row_lem s c r a (bare_blank c b) (ap (λ (d : Done). d.no) e) refl
  row_answer (types r a b v) = round_row_lem s c r a (bare_blank c b) refl (rw (all_off_lem s.procs z.processes, advances v) refl)
  row_answer (raises r a o i n) = round_row_lem s c r a (one_naming c q.left o i) refl (rw (ne_eqb left no_cells n) (ap (λ (u : Process). goes (with_process_of s c.x (flagged (process_of s c.x))) (leaving left u)) (sym (stands q a))))
  row_answer (raises_last r a o i n) = round_row_lem s c r a (one_naming c q.left o i) refl (rw n refl)
  row_answer (polls_up r a o i u) = round_row_lem s c r a (one_naming c q.left o i) refl (rw u (ap (goes s) (sym (stands q a))))
  row_answer (polls r a o i u n) = round_row_lem s c r a (one_naming c q.left o i) refl (rw (u, ne_eqb left no_cells n) (ap (λ (u : Process). goes s (leaving left u)) (sym (stands q a))))
  row_answer (polls_last r a o i u n) = round_row_lem s c r a (one_naming c q.left o i) refl (rw (u, n) refl)
  row_answer (reads_sense a b e) = let k = sense_told s.memory c.process e in plain_row a (bare_blank c b) k.no (rw k.bit refl)
  row_answer (writes_sense a b e) = make_row a (bare_blank c b) refl e refl
  row_answer (writes_init a b e) = make_row a (bare_blank c b) refl e refl
  row_answer (writes_mark a b e) = make_row a (bare_blank c b) refl e refl
  row_answer (writes_alloc a b e) = make_row a (bare_blank c b) refl e refl
  row_answer (takes (inl a) b n) = plain_row a (bare_blank c b) refl (rw (ne_eqb s.system.work 0 n) refl)
  row_answer (takes (inr a) b n) = plain_row a (bare_blank c b) refl (rw (ne_eqb s.system.work 0 n) refl)
  row_answer (takes_none (inl a) b n) = plain_row a (bare_blank c b) refl (rw n refl)
  row_answer (takes_none (inr a) b n) = plain_row a (bare_blank c b) refl (rw n refl)
  row_answer (reads_first a o {v = v} e n) = let k = field_told s.memory c.process c.x c.f e in plain_row a (first_scanning c q.work o) k.no (rw (k.value, ne_eqb v 0 n) refl)
  row_answer (reads_first_null a o e) =
      let k = field_told s.memory c.process c.x c.f e in
      plain_row a (first_scanning c q.work o) k.no (rw (k.value, ne_eqb (remove_of all_fields (field_left_of c.f)) 0 (other_left c.f o.field)) refl)
  row_answer (marks b k x) = let w = scans k in mark_row s c (scan_site s c z w.0) b (rw w.1 x)
  row_answer (reads_next a o {v = v} e n) = let k = field_told s.memory c.process q.x c.f e in plain_row a (next_scanning c q.left o) k.no (rw (k.value, ne_eqb v 0 n) refl)
  row_answer (reads_next_null a o e n) =
      let k = field_told s.memory c.process q.x c.f e in
      plain_row a (next_scanning c q.left o) k.no (rw (k.value, ne_eqb (remove_of q.left (field_left_of c.f)) 0 n) refl)
  row_answer (reads_last_null a o e n) = let k = field_told s.memory c.process q.x c.f e in plain_row a (next_scanning c q.left o) k.no (rw (k.value, n) refl)
  row_answer (drops a b n) = plain_row a (bare_blank c b) refl (rw (ne_eqb (remove_of q.work q.x) 0 n) refl)
  row_answer (drops_last a b n) = plain_row a (bare_blank c b) refl (rw n refl)
  row_answer (writes_sweep a b e) = make_row a (bare_blank c b) refl e refl
  row_answer (spares a o i f n) = spare_row a o i f (rw (ne_eqb left 0 n) (ap (goes s) (sym (spared q a (z.swept a.place) left))))
  row_answer (spares_last a o i f n) = spare_row a o i f (rw n (ap (λ (x : ℕ). goes s (at row11_write no_stage (noting x q.f q.y q.old (leaving no_cells q)))) (sym (z.swept a.place))))
  row_answer (condemns a o i e) = plain_row a (one_naming c q.left o i) (rw e refl) (rw (e, bit_other q.sense) refl)
  row_answer (frees a b e n) = make_row a (bare_blank c b) refl e (rw (ne_eqb q.left 0 n) refl)
  row_answer (frees_last a b e n) = make_row a (bare_blank c b) refl e (rw n refl)
  row_answer (writes_idle a b e) = make_row a (bare_blank c b) refl e refl

pub collector_complete : (s : State) (c : Choice) → c.process ≡ 0 → Collecting s c → {t : State} → Collector s c 0 (process_of s 0) t → own_of s c ≡ taken_of t
collector_complete s c own z {t} = subst (λ (p : ℕ). Collector s c p (process_of s p) t → own_of s c ≡ taken_of t) own (row_answer s c z)
