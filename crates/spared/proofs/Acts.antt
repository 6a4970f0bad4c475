-- What the process that steps does, seen from its marks: a commit, a step of a mark, the first look at a root, or a
-- step outside of any mark. Assumes nothing.
--     Acts, Outside          the view: q becomes o, and memory m becomes n
--     row_acts               of every row
--     marks_stage            the cell of a mark stays through its stages
--     no_store_lem               where nothing is pending no store is
--     next_early             where a mark is over the process is before the second stage of another
--     next_grey              .. and what is being greyed by it is what the mark ends with
use mathlib.Core.Path.{◌≡◌, refl, ◌∙◌}
use mathlib.Core.Bool.{Bool, false, false≢true}
use mathlib.Core.List.Memᴰ
use mathlib.Core.List.{List, []}
use mathlib.Core.Logic.{◌⊎◌, inl, inr, ⊎_elim}
use Prim.Native.Nat.{ℕ, ◌≤◌, ◌<◌}
use native.Mathlib.Omega.{arith}
use Rattle.cells.specs.Sets.{no_cells, Member, remove_of}
use Rattle.buffers.specs.declared.Store.{Store}
use Rattle.buffers.specs.declared.Entry.{Entry}
use Rattle.memory.specs.declared.Memory.{Memory}
use Rattle.memory.specs.Memories.{taken}
use Rattle.memory.specs.Looks.{look_mark_of}
use Rattle.memory.specs.Steps.{fence_of}
use Rattle.memory.specs.Views.{pending_for}
use Rattle.memory.proofs.Effects.{fence_taken}
use Rattle.memory_formed.proofs.Shapes.{shaped}
use Rattle.state.specs.declared.RoundType.{RoundType}
use Rattle.state.specs.declared.Process.{Process}
use Rattle.state.specs.declared.State.{State}
use Rattle.state.specs.declared.Choice.{Choice}
use Rattle.state.specs.Codes.{top, roots_mark, row1_round, no_stage, look_stage, sense_stage}
use Rattle.state.specs.States.{at, leaving, marking, process_of, with_process_of, with_memory, with_system}
use Rattle.formed.specs.Fits.{Among, WellFormed}
use Rattle.formed.proofs.Gives.{collector_within}
use Rattle.model.specs.Offers.{mark_place}
use Rattle.model.specs.Rows.{At, sees_bit, Marks, Next, Mark, Branch, Mutator, with_list, Round, all_off, with_processes, flagged, Collector, Row}
use Rattle.model.specs.Reasons.{mover}
use Rattle.stays_formed.proofs.Frames.{named}
use Rattle.stays_formed.proofs.Kept.{row_kept}
use Rattle.claims.specs.Noted.{reached_at}
use Rattle.spared.specs.Holds.{StoreIn}
use Rattle.spared.specs.Zones.{fenced_places}
use Rattle.spared.proofs.Arrivals.{After, arrives}

-- ---- the stage of a mark
pub marks_stage : {q : Process} {r : ℕ} (j : ℕ) (l b : Bool) (g : ℕ) → Marks q r → Marks (at q.place j (marking q.cell l b g q)) r
marks_stage j l b g (Marks.old e) = Marks.old e
marks_stage j l b g (Marks.new e) = Marks.new e
marks_stage j l b g (Marks.root e) = Marks.root e
marks_stage j l b g (Marks.field e) = Marks.field e

pub no_store_lem : {l : List Entry} {v : Store} → l ≡ [] → StoreIn l v → ⊥
no_store_lem e (StoreIn.pends x i y) = Memᴰ.not-nil (rw e at i)

-- ---- where a mark is over
abbrev Early : Process → Type 0
Early q = reached_at sense_stage q.place q.stage ≡ false

pub next_early : {q t : Process} → Next q t → reached_at sense_stage t.place t.stage ≡ false
next_early (Next.write e z) = refl
next_early (Next.new e z) = refl
next_early (Next.marked e) = refl
next_early (Next.roots e z) = refl
next_early (Next.root e z) = refl
next_early (Next.fields e z) = refl
next_early (Next.field e z) = refl

pub next_grey : {q t : Process} → Next q t → t.grey ≡ q.grey
next_grey (Next.write e z) = refl
next_grey (Next.new e z) = refl
next_grey (Next.marked e) = refl
next_grey (Next.roots e z) = refl
next_grey (Next.root e z) = refl
next_grey (Next.fields e z) = refl
next_grey (Next.field e z) = refl

-- ---- the view
-- outside of any mark before the step, and before the second stage of one after it; past a fence nothing is pending
pub record Outside (p : ℕ) (q o : Process) (n : Memory) : Type 0 where
  pub from : mark_place q.place ≡ false
  pub to : reached_at sense_stage o.place o.stage ≡ false
  pub grey : o.grey ≡ q.grey
  pub fenced : 0 < p → Among o.place fenced_places → pending_for n p ≡ []

pub data Acts (c : Choice) (p : ℕ) (q o : Process) (m n : Memory) : Type 0 where
  commits : c.kind ≡ 1 → o ≡ q → Acts c p q o m n
  marks : {r : ℕ} → Marks q r → (q.place ≡ roots_mark → q.stage ≡ look_stage → ⊥) → Mark m p r q n o → Acts c p q o m n
  roots : At roots_mark look_stage q → Member q.left c.x → {b : Bool} → look_mark_of m p c.x ≡ sees_bit b → n ≡ m
      → o ≡ at roots_mark sense_stage (leaving (remove_of q.left c.x) (marking c.x b q.sense q.grey q)) → Acts c p q o m n
  outside : Outside p q o n → Acts c p q o m n

-- process p of a state becomes one of which this holds
abbrev Acted : State → Choice → ℕ → Process → State → Type 0
Acted s c p q t = After (λ o. Acts c p q o s.memory t.memory) p t

-- ---- places
branch_out : {k : RoundType} {j : ℕ} → Branch k j → (mark_place j ≡ false) × (Among j fenced_places → ⊥)
branch_out Branch.noop = (refl, λ h. false≢true h)
branch_out Branch.roots = (refl, λ h. false≢true h)
branch_out Branch.work = (refl, λ h. false≢true h)

round_out : {k j l : ℕ} {t : RoundType} → Round k t j l → (mark_place k ≡ false) × (mark_place j ≡ false)
round_out Round.row1 = (refl, refl)
round_out Round.row3 = (refl, refl)
round_out Round.row4 = (refl, refl)
round_out Round.row5 = (refl, refl)
round_out Round.row6 = (refl, refl)
round_out Round.row8 = (refl, refl)

-- elsewhere than at a mark no stage of one is reached
early : (o : Process) {k : ℕ} → o.place ≡ k → mark_place k ≡ false → Early o
early o z e = go o.place o.stage (rw z e)
  where
    go : (k j : ℕ) → mark_place k ≡ false → reached_at sense_stage k j ≡ false
    go k j h = rw h refl

module _ (s : State) (c : Choice) where
  -- a mutator's steps: to a place that is known, to where it was, past its fence
  module _ (p : ℕ) (q : Process) (w : WellFormed s) where
    plain : {k j : ℕ} (x : State) (o : Process) → At k j q → mark_place k ≡ false → Early o → (Among o.place fenced_places → ⊥) → o.grey ≡ q.grey → Acted s c p q (with_process_of x p o)
    plain x o a e f n g = After.after x o (Acts.outside (record { from = rw a.place e; to = f; grey = g; fenced = λ _ h. absurd (n h) }))

    stay : (x : State) (o : Process) → At top no_stage q → o.place ≡ q.place → o.grey ≡ q.grey → Acted s c p q (with_process_of x p o)
    stay x o a e g = plain x o a refl (early o (e ∙ a.place) refl) (λ h. false≢true (rw (e, a.place) at h)) g

    fence : {k j : ℕ} (o : Process) → At k j q → mark_place k ≡ false → Early o → o.grey ≡ q.grey → fence_of s.memory p ≡ taken s.memory → Acted s c p q (with_process_of s p o)
    fence o a e f g h = After.after s o (Acts.outside (record { from = rw a.place e; to = f; grey = g; fenced = λ _ _. (fence_taken p (shaped s.memory w.memory) h).empty }))

    mutator_acts : {t : State} → Mutator s c p q t → Acted s c p q t
    mutator_acts (Mutator.allocates a o x l g y {m = n} e) = stay (with_memory s n) _ a refl refl
    mutator_acts (Mutator.drops a o m g y) = stay s _ a refl refl
    mutator_acts (Mutator.reads a o m g y e h) = stay s _ a refl refl
    mutator_acts (Mutator.reads_null a o m g y e) = stay s _ a refl refl
    mutator_acts (Mutator.stores a o m g y e h) = plain s _ a refl refl (λ i. false≢true i) refl
    mutator_acts (Mutator.stores_new a o m g y e) = plain s _ a refl refl (λ i. false≢true i) refl
    mutator_acts (Mutator.stores_null a o m g y e) = plain s _ a refl refl (λ i. false≢true i) refl
    mutator_acts (Mutator.fences a o x g y e) = stay s _ a refl refl
    mutator_acts (Mutator.answers a o x g y u {k} b) = let i = branch_out b in plain s (at k no_stage q) a refl (early (at k no_stage q) refl i.0) i.1 refl
    mutator_acts (Mutator.marks b i h {m = n} {t = t} e) = After.after (with_memory s n) t (Acts.marks i h e)
    mutator_acts (Mutator.looks_root a o m e) = After.after s _ (Acts.roots a m e refl refl)
    mutator_acts (Mutator.writes a b {m = n} e) = plain (with_memory s n) _ a refl refl (λ i. false≢true i) refl
    mutator_acts (Mutator.fences_noop a b e) = fence _ a refl refl refl e
    mutator_acts (Mutator.fences_work a b e) = fence _ a refl refl refl e
    mutator_acts (Mutator.fences_roots a b e h) = fence _ a refl refl refl e
    mutator_acts (Mutator.fences_none a b e h) = fence _ a refl refl refl e
    mutator_acts (Mutator.finishes_noop a b) = plain s _ a refl refl (λ i. false≢true i) refl
    mutator_acts (Mutator.finishes_roots a b) = plain (with_system s (with_list s.system _)) _ a refl refl (λ i. false≢true i) refl
    mutator_acts (Mutator.finishes_work a b) = plain (with_system s (with_list s.system _)) _ a refl refl (λ i. false≢true i) refl

  -- the collector's
  module _ (q : Process) (far : row1_round ≤ q.place) where
    out : {k j : ℕ} (x : State) (o : Process) → At k j q → mark_place k ≡ false → Early o → o.grey ≡ q.grey → Acted s c 0 q (with_process_of x 0 o)
    out x o a e f g = After.after x o (Acts.outside (record { from = rw a.place e; to = f; grey = g; fenced = λ h _. absurd (omega arith) }))

    -- in a round, from k and to j
    round : {k j l i : ℕ} {t : RoundType} (x : State) (o : Process) → Round k t j l → At k i q → (o.place ≡ k) ⊎ (o.place ≡ j) → o.grey ≡ q.grey → Acted s c 0 q (with_process_of x 0 o)
    round x o r a h g = let k = round_out r in out x o a k.0 (⊎_elim (λ z. early o z k.0) (λ z. early o z k.1) h) g

    collector_acts : {t : State} → Collector s c 0 q t → Acted s c 0 q t
    collector_acts (Collector.fences r a b e) = round s _ r a (inl refl) refl
    collector_acts (Collector.types r a b v) = round (with_processes (with_system s _) (all_off s.procs)) _ r a (inl refl) refl
    collector_acts (Collector.raises r a b m e) = round (with_process_of s c.x (flagged (process_of s c.x))) _ r a (inl a.place) refl
    collector_acts (Collector.raises_last r a b m e) = round (with_process_of s c.x (flagged (process_of s c.x))) _ r a (inl refl) refl
    collector_acts (Collector.polls_up r a b m e) = round s _ r a (inl a.place) refl
    collector_acts (Collector.polls r a b m e h) = round s _ r a (inl a.place) refl
    collector_acts (Collector.polls_last r a b m e h) = round s _ r a (inr refl) refl
    collector_acts (Collector.reads_sense a b e) = out s _ a refl refl refl
    collector_acts (Collector.writes_sense a b {m} e) = out (with_memory s m) _ a refl refl refl
    collector_acts (Collector.writes_init a b {m} e) = out (with_memory s m) _ a refl refl refl
    collector_acts (Collector.writes_mark a b {m} e) = out (with_memory s m) _ a refl refl refl
    collector_acts (Collector.writes_alloc a b {m} e) = out (with_memory s m) _ a refl refl refl
    collector_acts (Collector.takes a b h) = ⊎_elim (λ i. out (with_system s (with_list s.system no_cells)) _ i refl refl refl) (λ i. out (with_system s (with_list s.system no_cells)) _ i refl refl refl) a
    collector_acts (Collector.takes_none a b h) = ⊎_elim (λ i. out (with_system s (with_list s.system no_cells)) _ i refl refl refl) (λ i. out (with_system s (with_list s.system no_cells)) _ i refl refl refl) a
    collector_acts (Collector.reads_first a b e h) = out s _ a refl refl refl
    collector_acts (Collector.reads_first_null a b e) = out s _ a refl refl refl
    collector_acts (Collector.marks b i {m} {t} e) = After.after (with_memory s m) t (Acts.marks i (λ j _. omega arith) e)
    collector_acts (Collector.reads_next a b e h) = out s _ a refl refl refl
    collector_acts (Collector.reads_next_null a b e n) = out s _ a refl refl refl
    collector_acts (Collector.reads_last_null a b e n) = out s _ a refl refl refl
    collector_acts (Collector.drops a b h) = out s _ a refl refl refl
    collector_acts (Collector.drops_last a b h) = out s _ a refl refl refl
    collector_acts (Collector.writes_sweep a b {m} e) = out (with_memory s m) _ a refl refl refl
    collector_acts (Collector.spares a b m e h) = out s (leaving (remove_of q.left c.x) q) a refl (early (leaving (remove_of q.left c.x) q) a.place refl) refl
    collector_acts (Collector.spares_last a b m e h) = out s _ a refl refl refl
    collector_acts (Collector.condemns a b m e) = out s _ a refl refl refl
    collector_acts (Collector.frees a b {m} e h) = out (with_memory s m) _ a refl refl refl
    collector_acts (Collector.frees_last a b {m} e h) = out (with_memory s m) _ a refl refl refl
    collector_acts (Collector.writes_idle a b {m} e) = out (with_memory s m) _ a refl refl refl

pub row_acts : (s t : State) (c : Choice) → WellFormed s → Row s c t → Acts c c.process (mover s c) (process_of t c.process) s.memory t.memory
row_acts s t c w r = go r
  where
    go : {u : State} → Row s c u → Acts c c.process (mover s c) (process_of u c.process) s.memory u.memory
    go {u} (Row.collector k e i) =
        named (λ x. Acts c x (process_of s x) (process_of u x) s.memory u.memory) e
        (arrives (omega arith) (row_kept s c w (Row.collector k e i)) (collector_acts s c (process_of s 0) (collector_within w.collector).0 i))
    go {u} (Row.mutator k {p} e pos mine i) =
        let few = w.memory.few_processes in
        named (λ x. Acts c x (process_of s x) (process_of u x) s.memory u.memory) e
        (arrives (omega arith) (row_kept s c w (Row.mutator k e pos mine i)) (mutator_acts s c p (process_of s p) w i))
    go (Row.commits k e mine b h) = Acts.commits k refl
