-- What every row does to handshake phases and to the other processes. Assumes nothing.
--     row_paces        the handshake phase of the process that steps
--     row_aside        another process: at most its flag and its in-step bit change
--     row_mutators     there are as many mutators as before
use mathlib.Core.Path.{◌≡◌, refl, sym, ap, ◌∙◌}
use mathlib.Core.Bool.{true, false}
use mathlib.Core.Logic.{inl, inr}
use Prim.Native.Nat.{ℕ}
use Rattle.state.specs.declared.Part.{Part}
use Rattle.state.specs.declared.Process.{Process}
use Rattle.state.specs.declared.State.{State}
use Rattle.state.specs.declared.Choice.{Choice}
use Rattle.state.specs.States.{mutators_among, process_of, with_process_of, with_memory, with_system}
use Rattle.model.specs.Rows.{Mutator, with_list}
use Rattle.stays_formed.specs.Leaves.{Beside}
use Rattle.stays_formed.proofs.Leaves.{row_counts, row_others}
use Rattle.claims.proofs.Posted.{mark_part}
use Rattle.spared.specs.Views.{Paces, Aside}
use Rattle.spared.specs.Lemmas.{RowPaces, RowAside, RowMutators}
use Rattle.spared.proofs.Arrivals.{After, row_after}

module _ (s : State) (c : Choice) {p : ℕ} {q : Process} where
  same : (x : State) (o : Process) → o.part ≡ q.part → After (Paces q) p (with_process_of x p o)
  same x o e = After.after x o (Paces.keeps (ap (λ (i : Part). i.phase) e))

  mutator_paces : {t : State} → Mutator s c p q t → After (Paces q) p t
  mutator_paces (Mutator.allocates a o x l g y {m} e) = same (with_memory s m) _ refl
  mutator_paces (Mutator.drops a o m g y) = same s _ refl
  mutator_paces (Mutator.reads a o m g y e h) = same s _ refl
  mutator_paces (Mutator.reads_null a o m g y e) = same s _ refl
  mutator_paces (Mutator.stores a o m g y e h) = same s _ refl
  mutator_paces (Mutator.stores_new a o m g y e) = same s _ refl
  mutator_paces (Mutator.stores_null a o m g y e) = same s _ refl
  mutator_paces (Mutator.fences a o x g y e) = same s _ refl
  mutator_paces (Mutator.answers a o x g y u b) = same s _ refl
  mutator_paces (Mutator.marks b i h {m} {t} e) = same (with_memory s m) t (mark_part e)
  mutator_paces (Mutator.looks_root a o m e) = same s _ refl
  mutator_paces (Mutator.writes a b {m} e) = same (with_memory s m) _ refl
  mutator_paces (Mutator.fences_noop a b e) = same s _ refl
  mutator_paces (Mutator.fences_work a b e) = same s _ refl
  mutator_paces (Mutator.fences_roots a b e h) = same s _ refl
  mutator_paces (Mutator.fences_none a b e h) = same s _ refl
  mutator_paces (Mutator.finishes_noop a b) = After.after s _ (Paces.advances (inl a) (record { place = refl; stage = refl }) refl)
  mutator_paces (Mutator.finishes_roots a b) = After.after (with_system s (with_list s.system _)) _ (Paces.advances (inr a) (record { place = refl; stage = refl }) refl)
  mutator_paces (Mutator.finishes_work a b) = After.after (with_system s (with_list s.system _)) _ (Paces.keeps refl)

-- the collector has no part in the handshakes
pub row_paces : RowPaces
row_paces s t c w r =
    row_after (λ i. Paces (process_of s i)) s c w (λ g _. Paces.keeps (ap (λ (i : Part). i.phase) (g.collector.part_none ∙ sym w.collector.part_none))) (λ p _ _. mutator_paces s c) (λ _. Paces.keeps refl) r

beside_aside : {c : Choice} {q o u : Process} {x : ℕ} → Beside c q x o u → Aside o u
beside_aside {o = o} Beside.same = Aside.aside o.part.raised o.part.in_step refl
beside_aside {o = o} (Beside.raises r a e) = Aside.aside true o.part.in_step refl
beside_aside {o = o} (Beside.types r a) = Aside.aside o.part.raised false refl

pub row_aside : RowAside
row_aside s t c w r p ne = beside_aside (row_others w r p ne)

pub row_mutators : RowMutators
row_mutators s t c r = ap mutators_among (row_counts r).processes
