-- A pending mark, and the process that it is of. Assumes nothing.
--     marks_same       a process marks one cell at a time
--     mark_counts      a mark that is pending counts among the marks
--     marked_cell_lem      it is not of null
--     mark_store       it is under the lock, of the cell being greyed and marked, with memory's fM (S3)
use mathlib.Core.Path.{◌≡◌, refl, sym, subst, ◌∙◌}
use mathlib.Core.Bool.{Bool, true, false}
use mathlib.Core.List.{List, ◌∷◌, Memᴰ}
use Prim.Native.Nat.{ℕ, suc, ◌<◌}
use native.Mathlib.Omega.{arith}
use lib.Dec.{eqb}
use Rattle.base.specs.Pick.{pick}
use Rattle.buffers.specs.declared.Store.TheVariants as store
use Rattle.buffers.specs.declared.Entry.{Entry}
use Rattle.memory.proofs.Shapes.{pending_is}
use Rattle.memory_formed.proofs.Shapes.{pending_stores}
use Rattle.state.specs.declared.Process.{Process}
use Rattle.state.specs.declared.State.{State}
use Rattle.state.specs.Codes.{store_mark_old, store_mark_y}
use Rattle.state.specs.States.{process_of}
use Rattle.formed.specs.Fits.{WellFormed}
use Rattle.model.specs.Rows.{Marks}
use Rattle.claims.specs.Pending.{waiting_of, is_mark, marks_in}
use Rattle.claims.proofs.Pending.{marks_locked}
use Rattle.claims.proofs.Noted.{holder_noted}
use Rattle.spared.specs.Holds.{StoreIn}
use Rattle.spared.specs.Lemmas.{MarkStore}

-- the cell being marked, by the place
abbrev marked_by : Process → ℕ
marked_by q = pick (eqb q.place store_mark_old) q.old (pick (eqb q.place store_mark_y) q.y q.cell)

marks_cell : {q : Process} {r : ℕ} → Marks q r → r ≡ marked_by q
marks_cell (Marks.old e) = rw e refl
marks_cell (Marks.new e) = rw e refl
marks_cell (Marks.root e) = rw e refl
marks_cell (Marks.field e) = rw e refl

pub marks_same : {q : Process} {a b : ℕ} → Marks q a → Marks q b → a ≡ b
marks_same i j = marks_cell i ∙ sym (marks_cell j)

pub mark_counts : (l : List Entry) {c : ℕ} {b : Bool} → StoreIn l (store.Mark c b) → 0 < marks_in l
mark_counts l {c} {b} (StoreIn.pends e i h) = go i
  where
    more : (n : ℕ) (t : Bool) → 0 < n → 0 < pick t (suc n) n
    more n true p = omega arith
    more n false p = p

    here : (x : Entry) (l : List Entry) → e ≡ x → 0 < marks_in (x ∷ l)
    here x l z = rw (← z, h) (omega arith)

    go : {l : List Entry} → Memᴰ e l → 0 < marks_in l
    go (Memᴰ.head {x} {xs} z) = here x xs z
    go (Memᴰ.tail {x} {xs} j) = more (marks_in xs) (is_mark x.store) (go j)

pub marked_cell_lem : (s : State) → WellFormed s → (p : ℕ) {c : ℕ} {b : Bool} → StoreIn (waiting_of s p) (store.Mark c b) → 0 < c
marked_cell_lem s w p (StoreIn.pends e j f) = (rw f at (pending_stores s.memory w.memory p e (rw (pending_is s.memory p) j))).0

pub mark_store : MarkStore
mark_store s v p c b i =
    let n = mark_counts (waiting_of s p) i in
    let l = (marks_locked s v.inv.lock v.inv.marks).locked p n in
    let h = v.greying p c b i in
    let z = marked_cell_lem s v.inv.formed p i in
    record {
      lock = l;
      unlocking = v.inv.marks.waits p n;
      grey = h.0;
      marks = subst (Marks (process_of s p)) h.0 (v.of_marks p (λ e. omega (arith, z, h.0, e))).marks;
      sense = sym h.1 ∙ holder_noted s v.inv.formed v.inv.lock v.inv.written v.inv.noted p l;
    }
