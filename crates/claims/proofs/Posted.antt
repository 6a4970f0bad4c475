-- Where the collector's steps lead, and the system's handshake phase and type there. Assumes nothing.
--     told_of, Tells, Told    what a place and stage tell; the type k and the phase h are as told; they are as the
--                            collector's place and stage tell
--     at_told                what is told at a place and stage that are known
--     Rests, rest            a step between two places where no round raises or polls: what the first tells holds at
--                            the second
--     take_rests             a take: the type is row 6's or row 8's
--     round_posts            setting the type posts the next phase and the round's type
--     round_ends             the round over, phase and type are as the next place tells, and no round raises or polls
--     Seat, mark_seat, mark_part      a step of a mark: it stays or leads to the place after the mark, and the part
--                                     in the handshakes is left alone
--     scan_rests             the collector's mark rests
use mathlib.Core.Path.{◌≡◌, refl, sym, subst, ◌∙◌}
use mathlib.Core.Bool.{false}
use mathlib.Core.Logic.{◌⊎◌, inl, inr}
use Prim.Native.Nat.{ℕ}
use native.Mathlib.Omega.{arith}
use Rattle.memory.specs.declared.Memory.{Memory}
use Rattle.state.specs.declared.Handshake.{Handshake}
use Rattle.state.specs.declared.Handshake.TheVariants as hand
use Rattle.state.specs.declared.RoundType.{RoundType}
use Rattle.state.specs.declared.Process.{Process}
use Rattle.state.specs.Codes.{store_mark_old, store_mark_y, store_write, roots_mark, roots_finish, row6_take, row7_mark, row7_next, row7_drop, row8_take, no_stage, type_stage, raise_stage, poll_stage}
use Rattle.model.specs.Rows.{At, unnoted, Next, Mark, Round, Advance}
use Rattle.claims.specs.Posted.{posted_of, Asked, Allows, asked_of, busy_of}

-- ---- places
abbrev pub told_of : ℕ → ℕ → Handshake × Asked
told_of place stage = (posted_of place stage, asked_of place stage)

abbrev pub Tells : RoundType → Handshake → Handshake × Asked → Type 0
Tells k h w = (h ≡ w.0) × Allows w.1 k

abbrev pub Told : RoundType → Handshake → Process → Type 0
Told k h o = Tells k h (told_of o.place o.stage)

pub record Rests (o t : Process) : Type 0 where
  pub told : (k : RoundType) (h : Handshake) → Told k h o → Told k h t
  pub before : busy_of o.place o.stage ≡ false
  pub after : busy_of t.place t.stage ≡ false

pub at_told : {k j : ℕ} {o : Process} → At k j o → told_of o.place o.stage ≡ told_of k j
at_told a = rw (a.place, a.stage) refl

-- from a place and stage that are known
leave : {k j : ℕ} {o : Process} (t : Process) → At k j o → ((i : RoundType) (h : Handshake) → Tells i h (told_of k j) → Told i h t) → busy_of k j ≡ false → busy_of t.place t.stage ≡ false → Rests o t
leave t a e f g = record { told = λ i h v. e i h (subst (Tells i h) (at_told a) v); before = rw (a.place, a.stage) f; after = g }

pub rest : {k j : ℕ} {o : Process} (t : Process) → At k j o → told_of t.place t.stage ≡ told_of k j → busy_of k j ≡ false → busy_of t.place t.stage ≡ false → Rests o t
rest t a e = leave t a (λ i h. subst (Tells i h) (sym e))

pub take_rests : {o : Process} (t : Process) → (At row6_take no_stage o) ⊎ (At row8_take no_stage o) → told_of t.place t.stage ≡ (hand.IdleMarkSweep, Asked.roots_or_work) → busy_of t.place t.stage ≡ false → Rests o t
take_rests t (inl a) e = leave t a (λ i h v. subst (Tells i h) (sym e) (v.0, inl v.1)) refl
take_rests t (inr a) e = leave t a (λ i h v. subst (Tells i h) (sym e) (v.0, inr v.1)) refl

-- ---- rounds
pub round_posts : {k j l : ℕ} {t : RoundType} {a : Handshake} → Round k t j l → Advance t (posted_of k type_stage) a → Tells t a (told_of k raise_stage)
round_posts Round.row1 Advance.noop = (refl, refl)
round_posts Round.row3 Advance.noop = (refl, refl)
round_posts Round.row4 Advance.noop = (refl, refl)
round_posts Round.row5 Advance.noop = (refl, refl)
round_posts Round.row6 Advance.roots = (refl, refl)
round_posts Round.row8 Advance.work = (refl, refl)

pub round_ends : {k j l : ℕ} {t : RoundType} → Round k t j l → (told_of j l ≡ told_of k poll_stage) × (busy_of j l ≡ false)
round_ends Round.row1 = (refl, refl)
round_ends Round.row3 = (refl, refl)
round_ends Round.row4 = (refl, refl)
round_ends Round.row5 = (refl, refl)
round_ends Round.row6 = (refl, refl)
round_ends Round.row8 = (refl, refl)

-- ---- marks
-- from the place of a mark to the place after it
pub data Leads : ℕ → ℕ → Type 0 where
  write : Leads store_mark_old store_write
  new : Leads store_mark_old store_mark_y
  marked : Leads store_mark_y store_write
  roots : Leads roots_mark roots_finish
  fields : Leads row7_mark row7_drop
  field : Leads row7_mark row7_next

pub data Seat (a b : ℕ) : Type 0 where
  stays : b ≡ a → Seat a b
  leads : {x y : ℕ} → Leads x y → a ≡ x → b ≡ y → Seat a b

next_seat : {q t : Process} → Next q t → Seat q.place t.place
next_seat (Next.write e z) = Seat.leads Leads.write e refl
next_seat (Next.new e z) = Seat.leads Leads.new e refl
next_seat (Next.marked e) = Seat.leads Leads.marked e refl
next_seat (Next.roots e z) = Seat.leads Leads.roots e refl
next_seat (Next.root e z) = Seat.stays (rw e refl)
next_seat (Next.fields e z) = Seat.leads Leads.fields e refl
next_seat (Next.field e z) = Seat.leads Leads.field e refl

next_part : {q t : Process} → Next q t → t.part ≡ q.part
next_part (Next.write e z) = refl
next_part (Next.new e z) = refl
next_part (Next.marked e) = refl
next_part (Next.roots e z) = refl
next_part (Next.root e z) = refl
next_part (Next.fields e z) = refl
next_part (Next.field e z) = refl

pub mark_seat : {p r : ℕ} {q t : Process} {m n : Memory} → Mark m p r q n t → Seat q.place t.place
unfolding unnoted
mark_seat (Mark.looks e g) = Seat.stays refl
mark_seat (Mark.equal e g h) = next_seat h
mark_seat (Mark.unequal e g) = Seat.stays refl
mark_seat (Mark.idle e g h) = next_seat h
mark_seat (Mark.busy e g h) = Seat.stays refl
mark_seat (Mark.locks e g) = Seat.stays refl
mark_seat (Mark.agrees e g) = Seat.stays refl
mark_seat (Mark.differs e g) = Seat.stays refl
mark_seat (Mark.writes e g) = Seat.stays refl
mark_seat (Mark.wins e g h i) = next_seat i
mark_seat (Mark.loses e g h i) = next_seat i

pub mark_part : {p r : ℕ} {q t : Process} {m n : Memory} → Mark m p r q n t → t.part ≡ q.part
unfolding unnoted
mark_part (Mark.looks e g) = refl
mark_part (Mark.equal e g h) = next_part h
mark_part (Mark.unequal e g) = refl
mark_part (Mark.idle e g h) = next_part h
mark_part (Mark.busy e g h) = refl
mark_part (Mark.locks e g) = refl
mark_part (Mark.agrees e g) = refl
mark_part (Mark.differs e g) = refl
mark_part (Mark.writes e g) = refl
mark_part (Mark.wins e g h i) = next_part i
mark_part (Mark.loses e g h i) = next_part i

-- in row 7 the phase is IdleMarkSweep, the type roots or work, at every stage
record Quiet (k : ℕ) : Type 0 where
  pub told : (j : ℕ) → told_of k j ≡ (hand.IdleMarkSweep, Asked.roots_or_work)
  pub busy : (j : ℕ) → busy_of k j ≡ false

quiet_mark : Quiet row7_mark
quiet_mark = record { told = λ j. refl; busy = λ j. refl }

quiet_seat : {a b : ℕ} → a ≡ row7_mark → Seat a b → Quiet b
quiet_seat e (Seat.stays f) = rw (f, e) quiet_mark
quiet_seat e (Seat.leads Leads.write f g) = absurd (omega arith)
quiet_seat e (Seat.leads Leads.new f g) = absurd (omega arith)
quiet_seat e (Seat.leads Leads.marked f g) = absurd (omega arith)
quiet_seat e (Seat.leads Leads.roots f g) = absurd (omega arith)
quiet_seat e (Seat.leads Leads.fields f g) = rw g (record { told = λ j. refl; busy = λ j. refl })
quiet_seat e (Seat.leads Leads.field f g) = rw g (record { told = λ j. refl; busy = λ j. refl })

quiet_rests : {o t : Process} → Quiet o.place → Quiet t.place → Rests o t
quiet_rests {o} {t} a b = record { told = λ k h. subst (Tells k h) (a.told o.stage ∙ sym (b.told t.stage)); before = a.busy o.stage; after = b.busy t.stage }

pub scan_rests : {o t : Process} → o.place ≡ row7_mark → Seat o.place t.place → Rests o t
scan_rests e s = quiet_rests (rw e quiet_mark) (quiet_seat e s)
