-- Where the collector's steps lead: for each place and stage those that come next, so that a rule over its moves is
-- checked by computing. Assumes nothing.
use Rattle.std.specs.Prelude.{◌≡◌, Bool, true, false, ◌&&◌, List, [], ◌∷◌, ℕ, eqb}
use Rattle.base.specs.Pick.{pick}
use Rattle.state.specs.declared.Process.{Process}
use Rattle.state.specs.declared.Choice.{Choice}
use Rattle.state.specs.Codes.{row1_round, row2_read, row2_write, row3_round, row4_write, row4_round, row5_phase, row5_alloc, row5_round, row6_round, row6_take, row7_first, row7_mark, row7_next, row7_drop, row8_round, row8_take, row9_write, row10_look, row10_free, row11_write, no_stage, look_stage, sense_stage, phase_stage, lock_stage, again_stage, write_stage, unlock_stage, fence_stage, type_stage, raise_stage, poll_stage}
use Rattle.formed.specs.Fits.{among_of, round_places}

pub record Station : Type 0 where
  pub place : ℕ
  pub stage : ℕ

abbrev pub station : ℕ → ℕ → Station
station k j = record { place = k; stage = j }

abbrev pub among_stations : ℕ → ℕ → List Station → Bool
among_stations k j [] = false
among_stations k j (a ∷ l) = pick (eqb k a.place && eqb j a.stage) true (among_stations k j l)

abbrev pub all_stations : (Station → Bool) → List Station → Bool
all_stations t [] = true
all_stations t (a ∷ l) = pick (t a) (all_stations t l) false

-- "A round is: fence; set type ..; raise each flag once ..; poll .., until none is.", and what follows it
abbrev pub after_round : ℕ → Station
after_round k =
    pick (eqb k row1_round) (station row2_read no_stage)
    (pick (eqb k row3_round) (station row4_write no_stage)
    (pick (eqb k row4_round) (station row5_phase no_stage)
    (pick (eqb k row5_round) (station row6_round fence_stage)
    (pick (eqb k row6_round) (station row6_take no_stage)
    (station row8_take no_stage)))))

abbrev pub round_leads : ℕ → ℕ → List Station
round_leads k j =
    pick (eqb j fence_stage) (station k type_stage ∷ [])
    (pick (eqb j type_stage) (station k raise_stage ∷ [])
    (pick (eqb j raise_stage) (station k raise_stage ∷ station k poll_stage ∷ [])
    (station k poll_stage ∷ after_round k ∷ [])))

-- "look ..; read fM, stop if equal; read phase, stop if Idle; lock; look again; if the two looks agree, write ..;
-- unlock", then to a field not yet scanned or to the drop
abbrev pub mark_over : List Station
mark_over = station row7_next no_stage ∷ station row7_drop no_stage ∷ []

abbrev pub mark_leads : ℕ → List Station
mark_leads j =
    pick (eqb j look_stage) (station row7_mark sense_stage ∷ [])
    (pick (eqb j sense_stage) (station row7_mark phase_stage ∷ mark_over)
    (pick (eqb j phase_stage) (station row7_mark lock_stage ∷ mark_over)
    (pick (eqb j lock_stage) (station row7_mark again_stage ∷ [])
    (pick (eqb j again_stage) (station row7_mark write_stage ∷ station row7_mark unlock_stage ∷ [])
    (pick (eqb j write_stage) (station row7_mark unlock_stage ∷ [])
    mark_over)))))

abbrev pub plain_leads : ℕ → List Station
plain_leads k =
    pick (eqb k row2_read) (station row2_write no_stage ∷ [])
    (pick (eqb k row2_write) (station row3_round fence_stage ∷ [])
    (pick (eqb k row4_write) (station row4_round fence_stage ∷ [])
    (pick (eqb k row5_phase) (station row5_alloc no_stage ∷ [])
    (pick (eqb k row5_alloc) (station row5_round fence_stage ∷ [])
    (pick (eqb k row6_take) (station row7_first no_stage ∷ station row9_write no_stage ∷ [])
    (pick (eqb k row7_first) (station row7_mark look_stage ∷ station row7_next no_stage ∷ [])
    (pick (eqb k row7_next) (station row7_mark look_stage ∷ station row7_next no_stage ∷ station row7_drop no_stage ∷ [])
    (pick (eqb k row7_drop) (station row7_first no_stage ∷ station row8_round fence_stage ∷ [])
    (pick (eqb k row8_take) (station row7_first no_stage ∷ station row9_write no_stage ∷ [])
    (pick (eqb k row9_write) (station row10_look no_stage ∷ [])
    (pick (eqb k row10_look) (station row10_look no_stage ∷ station row10_free no_stage ∷ station row11_write no_stage ∷ [])
    (pick (eqb k row10_free) (station row10_look no_stage ∷ station row11_write no_stage ∷ [])
    (station row1_round fence_stage ∷ [])))))))))))))

abbrev pub leads_to : ℕ → ℕ → List Station
leads_to k j = pick (among_of k round_places) (round_leads k j) (pick (eqb k row7_mark) (mark_leads j) (plain_leads k))

abbrev pub LeadsOn : ℕ → ℕ → ℕ → ℕ → Type 0
LeadsOn k j h i = among_stations h i (leads_to k j) ≡ true

-- the collector q becomes o: it stays where it is, or its own step leads on
pub data Seated (c : Choice) (q o : Process) : Type 0 where
  stays : o.place ≡ q.place → o.stage ≡ q.stage → Seated c q o
  leads : c.kind ≡ 0 → c.process ≡ 0 → LeadsOn q.place q.stage o.place o.stage → Seated c q o
