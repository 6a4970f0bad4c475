-- A step of a mark, and what is covered by it: null, marked or being marked. Assumes nothing.
--     safe_stays, covered_stays     what is covered stays so, where what is marked and being marked stays so
--     mark_covers                   .. at each step of a mark, given that at the mark's end its cell is marked
--     shaken, unshaken              a mark goes on while its process is raised or put out of step
--     Onward, Carries               where a step of a mark leads, and what it keeps
--     mark_carries                  every one does
use mathlib.Core.Path.{◌≡◌, refl}
use mathlib.Core.Bool.{Bool, not}
use mathlib.Core.Logic.{inl, inr}
use Prim.Native.Nat.{ℕ}
use Rattle.cells.specs.Sets.{Member}
use Rattle.cells.proofs.Members.{add_keeps}
use Rattle.memory.specs.declared.Memory.{Memory}
use Rattle.state.specs.declared.Handshake.{Handshake}
use Rattle.state.specs.declared.Process.{Process}
use Rattle.state.specs.Codes.{store_mark_old, store_mark_y, store_write, roots_mark, roots_finish, row7_mark, row7_next, row7_drop, sense_stage, phase_stage, lock_stage, again_stage, write_stage, unlock_stage}
use Rattle.state.specs.States.{at, marking, listing, shaking}
use Rattle.model.specs.Rows.{unnoted, Marks, Next, Mark}
use Rattle.spared.specs.Shades.{Marked, NullOrMarked, Covered}
use Rattle.spared.specs.Lemmas.{Over}
use Rattle.spared.proofs.Marks.{marks_same}

-- the mark goes on: the cell is the same
goes_on : {q : Process} {v : ℕ} (j : ℕ) (b d : Bool) (g : ℕ) → Marks q v → Marks (at q.place j (marking q.cell b d g q)) v
goes_on j b d g (Marks.old e) = Marks.old e
goes_on j b d g (Marks.new e) = Marks.new e
goes_on j b d g (Marks.root e) = Marks.root e
goes_on j b d g (Marks.field e) = Marks.field e

went_on : {q : Process} {v : ℕ} (j : ℕ) (b d : Bool) (g : ℕ) → Marks (at q.place j (marking q.cell b d g q)) v → Marks q v
went_on j b d g (Marks.old e) = Marks.old e
went_on j b d g (Marks.new e) = Marks.new e
went_on j b d g (Marks.root e) = Marks.root e
went_on j b d g (Marks.field e) = Marks.field e

-- .. while another steps
pub shaken : {q : Process} {v : ℕ} {h : Handshake} (r i : Bool) → Marks q v → Marks (shaking r i h q) v
shaken r i (Marks.old e) = Marks.old e
shaken r i (Marks.new e) = Marks.new e
shaken r i (Marks.root e) = Marks.root e
shaken r i (Marks.field e) = Marks.field e

pub unshaken : {q : Process} {v : ℕ} {h : Handshake} (r i : Bool) → Marks (shaking r i h q) v → Marks q v
unshaken r i (Marks.old e) = Marks.old e
unshaken r i (Marks.new e) = Marks.new e
unshaken r i (Marks.root e) = Marks.root e
unshaken r i (Marks.field e) = Marks.field e

-- ---- what is covered, where memory goes from m to n
module _ {m n : Memory} (stays : (d : ℕ) → Marked m d → Marked n d) {v : ℕ} where
  pub safe_stays : NullOrMarked m v → NullOrMarked n v
  safe_stays (inl e) = inl e
  safe_stays (inr h) = inr (stays v h)

  pub covered_stays : {q o : Process} → (Marks q v → Marks o v) → Covered m q v → Covered n o v
  covered_stays f (Covered.safe k) = Covered.safe (safe_stays k)
  covered_stays f (Covered.now k) = Covered.now (f k)

  ended : {r : ℕ} {q t : Process} → Marks q r → Marked m r → Covered m q v → Covered n t v
  ended i h (Covered.safe k) = Covered.safe (safe_stays k)
  ended {r} i h (Covered.now k) = Covered.safe (inr (rw (← marks_same i k) (stays r h)))

pub mark_covers : {m n : Memory} {p r : ℕ} {q t : Process} {v : ℕ} → Marks q r → Over m p r q → ((d : ℕ) → Marked m d → Marked n d) → Mark m p r q n t → Covered m q v → Covered n t v
mark_covers {q = q} i o z (Mark.looks e {b} g) k = covered_stays z (goes_on sense_stage b q.sense q.grey) k
mark_covers i o z (Mark.equal e g h) k = ended z i (o.equal e g) k
mark_covers {q = q} i o z (Mark.unequal e g) k = covered_stays z (goes_on phase_stage q.look (not q.look) q.grey) k
mark_covers i o z (Mark.idle e g h) k = ended z i (o.idle e g) k
mark_covers {q = q} i o z (Mark.busy e g h) k = covered_stays z (goes_on lock_stage q.look q.sense q.grey) k
mark_covers {q = q} i o z (Mark.locks e g) k = covered_stays z (goes_on again_stage q.look q.sense q.grey) k
mark_covers {q = q} i o z (Mark.agrees e g) k = covered_stays z (goes_on write_stage q.look q.sense q.grey) k
mark_covers {q = q} i o z (Mark.differs e g) k = covered_stays z (goes_on unlock_stage q.look q.sense q.grey) k
mark_covers {r = r} {q = q} i o z (Mark.writes e g) k = covered_stays z (goes_on unlock_stage q.look q.sense r) k
mark_covers i o z (Mark.wins e g h u) k = ended z i (o.unlocks e g) k
mark_covers i o z (Mark.loses e g h u) k = ended z i (o.unlocks e g) k

-- ---- where a step of a mark leads: q becomes o
pub data Onward (q o : Process) : Type 0 where
  on : o.place ≡ q.place → ((v : ℕ) → Marks o v → Marks q v) → Onward q o
  write : q.place ≡ store_mark_old → o.place ≡ store_write → o.y ≡ 0 → Onward q o
  new : q.place ≡ store_mark_old → o.place ≡ store_mark_y → Onward q o
  marked : q.place ≡ store_mark_y → o.place ≡ store_write → Onward q o
  roots : q.place ≡ roots_mark → o.place ≡ roots_finish → Onward q o
  root : q.place ≡ roots_mark → o.place ≡ roots_mark → Onward q o
  fields : q.place ≡ row7_mark → o.place ≡ row7_drop → Onward q o
  field : q.place ≡ row7_mark → o.place ≡ row7_next → Onward q o

pub record Carries (q o : Process) : Type 0 where
  pub x : o.x ≡ q.x
  pub f : o.f ≡ q.f
  pub y : o.y ≡ q.y
  pub left : o.left ≡ q.left
  pub roots : o.roots ≡ q.roots
  pub part : o.part ≡ q.part
  pub work : (d : ℕ) → Member q.work d → Member o.work d
  pub way : Onward q o

goes : {q : Process} (j : ℕ) (b d : Bool) (g : ℕ) → Carries q (at q.place j (marking q.cell b d g q))
goes j b d g = record { x = refl; f = refl; y = refl; left = refl; roots = refl; part = refl; work = λ d i. i; way = Onward.on refl (λ v. went_on j b d g) }

-- the mark ends: its notes are zeroed, and the list may be longer
next_carries : (q : Process) (l b : Bool) (g c w : ℕ) → ((d : ℕ) → Member q.work d → Member w d) → {o : Process} → Next (marking c l b g (listing w q.roots q)) o → Carries q o
next_carries q l b g c w more (Next.write e z) = record { x = refl; f = refl; y = refl; left = refl; roots = refl; part = refl; work = more; way = Onward.write e refl z }
next_carries q l b g c w more (Next.new e z) = record { x = refl; f = refl; y = refl; left = refl; roots = refl; part = refl; work = more; way = Onward.new e refl }
next_carries q l b g c w more (Next.marked e) = record { x = refl; f = refl; y = refl; left = refl; roots = refl; part = refl; work = more; way = Onward.marked e refl }
next_carries q l b g c w more (Next.roots e z) = record { x = refl; f = refl; y = refl; left = refl; roots = refl; part = refl; work = more; way = Onward.roots e refl }
next_carries q l b g c w more (Next.root e z) = record { x = refl; f = refl; y = refl; left = refl; roots = refl; part = refl; work = more; way = Onward.root e refl }
next_carries q l b g c w more (Next.fields e z) = record { x = refl; f = refl; y = refl; left = refl; roots = refl; part = refl; work = more; way = Onward.fields e refl }
next_carries q l b g c w more (Next.field e z) = record { x = refl; f = refl; y = refl; left = refl; roots = refl; part = refl; work = more; way = Onward.field e refl }

pub mark_carries : {m n : Memory} {p r : ℕ} {q t : Process} → Mark m p r q n t → Carries q t
unfolding unnoted
mark_carries {q = q} (Mark.looks e {b} g) = goes sense_stage b q.sense q.grey
mark_carries {q = q} (Mark.equal e g h) = next_carries q _ _ _ _ _ (λ d i. i) h
mark_carries {q = q} (Mark.unequal e g) = goes phase_stage q.look (not q.look) q.grey
mark_carries {q = q} (Mark.idle e g h) = next_carries q _ _ _ _ _ (λ d i. i) h
mark_carries {q = q} (Mark.busy e g h) = goes lock_stage q.look q.sense q.grey
mark_carries {q = q} (Mark.locks e g) = goes again_stage q.look q.sense q.grey
mark_carries {q = q} (Mark.agrees e g) = goes write_stage q.look q.sense q.grey
mark_carries {q = q} (Mark.differs e g) = goes unlock_stage q.look q.sense q.grey
mark_carries {r = r} {q = q} (Mark.writes e g) = goes unlock_stage q.look q.sense r
mark_carries {r = r} {q = q} (Mark.wins e g h u) = next_carries q _ _ _ _ _ (add_keeps q.work r) u
mark_carries {q = q} (Mark.loses e g h u) = next_carries q _ _ _ _ _ (λ d i. i) u
