-- Where a mutator's steps lead among the places of its answers. Assumes nothing.
--     implied             a computed rule of the form "if b then a"
--     Passes, passes      from place a to place b: b is a place of an answer only if a was one of the same answer
--     seat_passes         a step of a mark
--     branch_answers      the branch of an answer is the one of the type
--     top_answers         at top there is no answer
use mathlib.Core.Path.{◌≡◌, refl}
use mathlib.Core.Bool.{Bool, true, false≢true}
use Prim.Native.Nat.{ℕ}
use Rattle.base.specs.Pick.{pick}
use Rattle.state.specs.declared.RoundType.{RoundType}
use Rattle.state.specs.declared.RoundType.TheVariants as round
use Rattle.state.specs.Codes.{top, store_mark_old, store_mark_y, store_write, roots_mark, roots_finish, row7_mark, row7_next, row7_drop}
use Rattle.formed.specs.Fits.{among_of, Among}
use Rattle.model.specs.Rows.{Branch}
use Rattle.claims.specs.Answering.{answer_places}
use Rattle.claims.proofs.Posted.{Leads, Seat}

abbrev pub Passes : ℕ → ℕ → Type 0
Passes a b = (t : RoundType) → Among b (answer_places t) → Among a (answer_places t)

-- the rule, computed: for each type a test
abbrev pub passes_of : ℕ → ℕ → RoundType → Bool
passes_of a b t = pick (among_of b (answer_places t)) (among_of a (answer_places t)) true

pub implied : (b : Bool) {a : Bool} → pick b a true ≡ true → b ≡ true → a ≡ true
implied b e f = rw f at e

pub passes : (a b : ℕ) → passes_of a b round.Noop ≡ true → passes_of a b round.Roots ≡ true → passes_of a b round.Work ≡ true → Passes a b
passes a b n r w round.Noop = implied (among_of b (answer_places round.Noop)) n
passes a b n r w round.Roots = implied (among_of b (answer_places round.Roots)) r
passes a b n r w round.Work = implied (among_of b (answer_places round.Work)) w

leads_passes : {a b : ℕ} → Leads a b → Passes a b
leads_passes Leads.write = passes store_mark_old store_write refl refl refl
leads_passes Leads.new = passes store_mark_old store_mark_y refl refl refl
leads_passes Leads.marked = passes store_mark_y store_write refl refl refl
leads_passes Leads.roots = passes roots_mark roots_finish refl refl refl
leads_passes Leads.fields = passes row7_mark row7_drop refl refl refl
leads_passes Leads.field = passes row7_mark row7_next refl refl refl

pub seat_passes : {a b : ℕ} → Seat a b → Passes a b
seat_passes (Seat.stays e) = rw e (λ t h. h)
seat_passes (Seat.leads l e f) = rw (e, f) (leads_passes l)

pub branch_answers : {i : RoundType} {k : ℕ} → Branch i k → (t : RoundType) → Among k (answer_places t) → i ≡ t
branch_answers Branch.noop round.Noop h = refl
branch_answers Branch.noop round.Roots h = absurd (false≢true h)
branch_answers Branch.noop round.Work h = absurd (false≢true h)
branch_answers Branch.roots round.Noop h = absurd (false≢true h)
branch_answers Branch.roots round.Roots h = refl
branch_answers Branch.roots round.Work h = absurd (false≢true h)
branch_answers Branch.work round.Noop h = absurd (false≢true h)
branch_answers Branch.work round.Roots h = absurd (false≢true h)
branch_answers Branch.work round.Work h = refl

pub top_answers : (t : RoundType) → Among top (answer_places t) → ⊥
top_answers round.Noop h = false≢true h
top_answers round.Roots h = false≢true h
top_answers round.Work h = false≢true h
